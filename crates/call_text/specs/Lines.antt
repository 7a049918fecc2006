-- The lines that answer a call. Assumes nothing.
use Rattle.std.specs.Prelude.{ℕ, ◌-◌, ◌*◌, ◌/◌, ◌^◌, min, Bool, cond, List, [], ◌∷◌, ◌++◌, length, take}
use Rattle.trb.specs.Limits.{record_length}
use Rattle.trb.specs.declared.TrbProcessingResult.{TrbProcessingResult}
use Rattle.trb.specs.declared.TrbProcessingResult.TheVariants as result
use Rattle.numerals.specs.Digits.{decimal_of, hex_of}
use Rattle.log_text.specs.Lines.{space, line_feed, lines_in}
use Rattle.call_text.specs.Words.{refused_word, accepted_word, no_result, no_address, cycle_on, cycle_off, ok_word, stall_word, trb_word, transaction_word, disconnect_word, carried_out_word}

-- a field behind a space
abbrev pub behind : List ℕ → List ℕ
behind vs = (space ∷ []) ++ vs

-- a refused call: `no NUMBER`
unfoldable pub refused_line : ℕ → List ℕ
refused_line n = refused_word ++ decimal_of n ++ (line_feed ∷ [])

-- creation, submission or cancel, accepted: `ok COUNT - - -`
unfoldable pub accepted_line : ℕ → List ℕ
accepted_line n = accepted_word ++ decimal_of n ++ no_result

-- ADDR and CYCLE
unfoldable pub address_fields : ℕ → Bool → List ℕ
address_fields a cycle = behind (hex_of a) ++ cond cycle cycle_on cycle_off

-- RESULT, ADDR and CYCLE; where the result carries no address, `-` for each
unfoldable pub result_fields : TrbProcessingResult → List ℕ
result_fields result.Ok = ok_word ++ no_address
result_fields result.Stall = stall_word ++ no_address
result_fields (result.StallAt a cycle) = stall_word ++ address_fields a cycle
result_fields result.TrbError = trb_word ++ no_address
result_fields result.TransactionError = transaction_word ++ no_address
result_fields (result.TransactionErrorAt a cycle) = transaction_word ++ address_fields a cycle
result_fields result.Disconnect = disconnect_word ++ no_address

-- `ok COUNT RESULT ADDR CYCLE`
unfoldable pub completed_fields : ℕ → TrbProcessingResult → List ℕ
completed_fields n r = accepted_word ++ decimal_of n ++ result_fields r

-- a completion, accepted
unfoldable pub completed_line : ℕ → TrbProcessingResult → List ℕ
completed_line n r = completed_fields n r ++ (line_feed ∷ [])

-- a row, accepted: `ok COUNT RESULT ADDR CYCLE FINISHED`
unfoldable pub row_line : ℕ → TrbProcessingResult → ℕ → List ℕ
row_line n r finished = completed_fields n r ++ behind (decimal_of finished) ++ (line_feed ∷ [])

-- carry-out's answer: `out NUMBER`
unfoldable pub carried_out_line : ℕ → List ℕ
carried_out_line n = carried_out_word ++ decimal_of n ++ (line_feed ∷ [])

-- a count, as far as 32 bits go
abbrev pub count_of : ℕ → ℕ
count_of n = min n (2 ^ 32 - 1)

-- the lines of the first n records of the log l
abbrev pub record_lines : ℕ → List ℕ → List ℕ
record_lines n l = lines_in (length (take (record_length * n) l) / record_length) (take (record_length * n) l)
