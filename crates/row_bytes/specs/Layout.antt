-- The bytes of a row of TRBs and of the results of its TDs, and what any bytes are. Assumes nothing.
--
-- A TRB has the bytes of a place (Places of held_bytes), and is read as a submission by numbers takes it: a type that is none of the seven is
-- an unrecognized TRB, to which question 15 says no, and all 32 bits of the length count, so that question 4 is asked of it.
--
-- A result has 8 bytes:
--
--   byte 0          status: 0 Success, 1 Stall, 3 a disconnect, 2 and any other number a transaction error
--        1 to 3     not read
--        4 to 7     how many bytes of the joined data the TD was given
use Rattle.std.specs.Prelude.{ℕ, zero, suc, ◌+◌, ◌/◌, ◌%◌, cond, ◌&&◌, List, [], ◌∷◌, eqb, length, drop, get_or}
use Rattle.buffers.specs.LittleEndian.{le_field}
use Rattle.trb.specs.Limits.{max_row}
use Rattle.trb.specs.declared.TransferTrb.{TransferTrb}
use Rattle.held_bytes.specs.Numbers.{trb_numbers, trb_of}
use Rattle.held_bytes.specs.Places.{place_length}
use Rattle.held_bytes.specs.declared.TrbNumbers.{TrbNumbers}
use Rattle.answer_numbers.specs.Numbers.{status_of}
use Rattle.row_walk.specs.declared.TdResult.{TdResult}

-- n cells of w bytes each, one behind the other from the start of l on
unfoldable pub cells_of : {A : Type 0} → (List ℕ → A) → ℕ → ℕ → List ℕ → List A
cells_of read w zero l = []
cells_of read w (suc n) l = read l ∷ cells_of read w n (drop w l)

-- ---- TRBs

-- the numbers in a place, the first bytes of l
abbrev pub given_numbers : List ℕ → TrbNumbers
given_numbers l = trb_numbers (get_or l 20 0) (get_or l 21 0) (le_field 0 8 l) (le_field 8 8 l) (le_field 16 4 l)

unfoldable pub given_trb : List ℕ → TransferTrb
given_trb l = trb_of (given_numbers l)

-- the TRBs that the bytes are
unfoldable pub trbs_in : List ℕ → List TransferTrb
trbs_in row = cells_of given_trb place_length (length row / place_length) row

-- ---- Results

abbrev pub result_length : ℕ
result_length = 8

unfoldable pub given_result : List ℕ → TdResult
given_result l = record { status = status_of (get_or l 0 0); length = le_field 4 4 l }

-- the results that the bytes are
unfoldable pub results_in : List ℕ → List TdResult
results_in results = cells_of given_result result_length (length results / result_length) results

-- ---- How many TRBs

-- 02, R-7, question 15: a row whose bytes, or whose results' bytes, are not a whole number of them counts as longer than a row may be
abbrev pub row_count : List ℕ → List ℕ → ℕ
row_count row results =
    cond (eqb (length row % place_length) 0 && eqb (length results % result_length) 0) (length row / place_length) (max_row + 1)
