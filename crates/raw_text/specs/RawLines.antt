-- 02, R-6: the answers of the program `raw_trbs`, a line each: a decoded TRB as a call script writes it, an encoded one as its bytes.
-- `raw_limits` in src/lib.rt proves that the code's constant is the limit here. Assumes nothing.
use Rattle.std.specs.Prelude.{ℕ, ◌+◌, ◌*◌, List, [], ◌∷◌, ◌++◌, Result, Err, Ok}
use Rattle.trb.specs.Refusals.{refusal_number}
use Rattle.trb.specs.declared.Refusal.{Refusal}
use Rattle.numerals.specs.Digits.{hex_of, bytes_hex}
use Rattle.numerals.specs.Widths.{hex_places}
use Rattle.log_text.specs.Lines.{line_feed}
use Rattle.call_text.specs.Lines.{behind, refused_line}
use Rattle.raw_trb.specs.declared.DecodedTrb.{DecodedTrb}
use Rattle.held_bytes.specs.declared.TrbNumbers.{TrbNumbers}
use Rattle.held_bytes.specs.Numbers.{numbers_of}
use Rattle.raw_text.specs.declared.RawLimits.{RawLimits}

-- the numbers of a decoded TRB, which has no address
abbrev pub decoded_numbers : DecodedTrb → TrbNumbers
decoded_numbers d = numbers_of (record { variant = d.variant; addr = 0; cycle_bit = d.cycle_bit })

-- `KIND FLAGS A B`: the type's number, 0 of an Unrecognized; cycle bit, chain, interrupt on completion, interrupt on short, immediate data and direction by weight; data
-- pointer, event data or the setup bytes as a little-endian number; the length of a DataStage or Normal
unfoldable pub trb_line : TrbNumbers → List ℕ
trb_line n = hex_of n.kind ++ behind (hex_of n.flags) ++ behind (hex_of n.value) ++ behind (hex_of n.transfer_length) ++ (line_feed ∷ [])

-- 32 digits, or `no NUMBER`
unfoldable pub bytes_line : List ℕ → List ℕ
bytes_line bytes = bytes_hex bytes ++ (line_feed ∷ [])

abbrev pub encoded_line : Result (List ℕ) Refusal → List ℕ
encoded_line (Ok bytes) = bytes_line bytes
encoded_line (Err q) = refused_line (refusal_number q)

-- four numbers, each with a space or a line feed behind it
abbrev pub max_raw_answer : ℕ
max_raw_answer = 4 * (hex_places + 1)

abbrev pub raw_limits : RawLimits
raw_limits = record { answer = max_raw_answer }
