-- Laws of a record's line. Assumes nothing.
use Prim.Native.Nat.{ℕ, zero, suc, ◌+◌, ◌*◌, ◌<◌, ◌≤◌}
use mathlib.Core.Path.{◌≡◌, refl, ap}
use mathlib.Core.List.{List, [], ◌∷◌, ◌++◌}
use native.Mathlib.Numerals.{add-one}
use native.Mathlib.Omega.{arith}
use lib.ListN.{length, take, drop, get_or, length-append, length-take}
use lib.Seq.{drop-cons}
use Rattle.std.specs.List.{flat_map}
use Rattle.std.specs.Simd.{first_chunks}
use Rattle.trb.specs.Limits.{record_length}
use Rattle.call_log.specs.declared.Record.{Record}
use Rattle.call_log.specs.Records.{decode}
use Rattle.call_log.proofs.RecordLaws.{part-take, decode-take}
use Rattle.numerals.specs.Digits.{bytes_hex}
use Rattle.numerals.proofs.DigitLaws.{length-decimal_of, length-hex_of, length-bytes_hex}
use Rattle.log_text.specs.Lines.{line_feed, kind_fields, id_fields, number_fields, fields_of, line_of, lines_in}
use Rattle.log_text.specs.Widths.{max_kinds, max_ids, max_numbers, max_fields, max_line}

pub length-kind_fields : (r : Record) → length (kind_fields r) ≤ max_kinds
unfolding kind_fields
length-kind_fields r = simp length-append (omega (arith, length-decimal_of r.kind, length-decimal_of r.code, length-decimal_of r.flag))

pub length-id_fields : (r : Record) → length (id_fields r) ≤ max_ids
unfolding id_fields
length-id_fields r = simp length-append (omega (arith, length-decimal_of r.endpoint_id.0, length-decimal_of r.slot_id.0))

pub length-number_fields : (r : Record) → length (number_fields r) ≤ max_numbers
unfolding number_fields
length-number_fields r = simp length-append (omega (arith, length-hex_of r.address, length-decimal_of r.length, length-decimal_of r.start))

pub length-fields_of : (r : Record) → length (fields_of r) ≤ max_fields
unfolding fields_of
length-fields_of r = simp length-append (omega (arith, length-kind_fields r, length-id_fields r, length-number_fields r))

pub length-line_of : (l : List ℕ) → length (line_of l) ≤ max_line
unfolding line_of
length-line_of l =
    simp length-append (omega (arith, length-fields_of (decode l), length-bytes_hex (take 8 (drop 24 l)), length-take 8 (drop 24 l)))

pub length-lines_in : (n : ℕ) (l : List ℕ) → length (lines_in n l) ≤ n * max_line
unfolding lines_in
length-lines_in zero l = omega arith
length-lines_in (suc n) l =
    omega (arith, length-append (line_of l) (lines_in n (drop record_length l)), length-line_of l, length-lines_in n (drop record_length l))

-- a line is made of the record's bytes alone
line_of-take : (l : List ℕ) → line_of (take record_length l) ≡ line_of l
unfolding line_of
line_of-take l = λ i. fields_of (decode-take l i) ++ bytes_hex (part-take 24 8 0 l i) ++ (line_feed ∷ [])

-- the lines of the first n records, each by its bytes
pub lines_in-cells : (n : ℕ) (l : List ℕ) → flat_map line_of (first_chunks record_length n l) ≡ lines_in n l
unfolding lines_in
lines_in-cells zero l = refl
lines_in-cells (suc n) l = λ i. line_of-take l i ++ lines_in-cells n (drop record_length l) i

-- of lines, that of the record at index i, and those behind it
pub lines-next : (cells : List (List ℕ)) (i : ℕ) → i < length cells
    → flat_map line_of (drop i cells) ≡ line_of (get_or cells i []) ++ flat_map line_of (drop (i + 1) cells)
lines-next cells i h = rw add-one (ap (flat_map line_of) (drop-cons cells i [] h))
