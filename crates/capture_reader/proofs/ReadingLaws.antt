-- The tests of a file and of a record as the code asks them, and one pass over the records of a file. Assumes nothing.
use Prim.Native.Nat.{ℕ, ◌+◌, ◌≤◌, ◌<◌}
use mathlib.Core.Bool.{Bool, true, false, ◌&&◌}
use mathlib.Core.Path.{◌≡◌, refl, sym, ap, ◌∙◌}
use mathlib.Core.List.{List, [], ◌∷◌}
use native.Mathlib.Omega.{arith}
use lib.Dec.{eqb, leb}
use lib.ListN.{length, take, drop, length-drop, drop_of_length-le}
use lib.Seq.{length-take-le}
use borrow.Author.Tests.{le-leb, lt-leb, eq-eqb, ne_eqb}
use Rattle.trb.specs.Questions.{first_no}
use Rattle.buffers.specs.LittleEndian.{le_field, AllBytes}
use Rattle.capture_file.specs.Reading.{captured_at, original_at, delivered_at, record_at, records_in, whole_record}
use Rattle.capture_file.proofs.ReadingLaws.{records_in-none, records_in-next, whole_records-none, whole_records-next}
use Rattle.capture_file.proofs.LayoutLaws.{both, Whole, whole-tests, captured-record_at}
use Rattle.capture_record.specs.Headers.{header_in}
use Rattle.capture_record.specs.Events.{snap_length, max_microseconds}
use Rattle.capture_header.specs.Made.{made_again, same_header, made}
use Rattle.capture_reader.specs.Reading.{made_head, made_records, made_file, count_refused, counted, count_of, ReadsCapture, made_record, NumberedRecord, nothing_read, read_at}

-- ---- One record

module _ (l : List ℕ) (whole : whole_record 0 snap_length l ≡ true) where
  tests : Whole 0 snap_length l
  tests = whole-tests 0 snap_length l whole

  module _ (bytes : AllBytes l) where
    abbrev link : List ℕ
    link = take 48 (drop 16 l)

    abbrev again : Bool
    again = same_header (header_in link) (made_again (le_field 0 4 l) (le_field 4 4 l) (header_in link))

    over-record : made (record_at 0 l)
        ≡ (leb (record_at 0 l).microseconds max_microseconds
        && (eqb (record_at 0 l).original (captured_at l)
        && same_header (header_in (record_at 0 l).link) (made_again (record_at 0 l).seconds (record_at 0 l).microseconds (header_in (record_at 0 l).link))))
    unfolding made
    over-record = rw (captured-record_at 0 snap_length l tests bytes)

    over-bytes : made (record_at 0 l) ≡ (leb (le_field 4 4 l) max_microseconds && (eqb (le_field 12 4 l) (le_field 8 4 l) && again))
    unfolding record_at original_at captured_at
    over-bytes = over-record

    pub made-late : max_microseconds < le_field 4 4 l → false ≡ made (record_at 0 l)
    made-late late = sym (over-bytes ∙ rw (lt-leb (le_field 4 4 l) max_microseconds late))

    module _ (early : le_field 4 4 l ≤ max_microseconds) where
      pub made-longer : (le_field 12 4 l ≡ le_field 8 4 l → ⊥) → false ≡ made (record_at 0 l)
      made-longer other = sym (over-bytes ∙ rw (le-leb (le_field 4 4 l) max_microseconds early, ne_eqb (le_field 12 4 l) (le_field 8 4 l) other))

      pub made-by-header : le_field 12 4 l ≡ le_field 8 4 l → again ≡ made (record_at 0 l)
      made-by-header equal = sym (over-bytes ∙ rw (le-leb (le_field 4 4 l) max_microseconds early, eq-eqb (le_field 12 4 l) (le_field 8 4 l) equal))

pub made-whole : (l : List ℕ) → made_record l ≡ true → whole_record 0 snap_length l ≡ true
unfolding made_record
made-whole l h = (both (whole_record 0 snap_length l) _ h).0

pub not-whole : (l : List ℕ) → whole_record 0 snap_length l ≡ false → false ≡ made_record l
unfolding made_record
not-whole l h = rw h

pub whole-made : (l : List ℕ) → whole_record 0 snap_length l ≡ true → made (record_at 0 l) ≡ made_record l
unfolding made_record
whole-made l h = rw h

-- ---- The record at a position

pub read_none : (l : List ℕ) (at : ℕ) → made_record (drop at l) ≡ false → nothing_read ≡ read_at l at
unfolding read_at
read_none l at h = rw h

pub read_past : (l : List ℕ) (at : ℕ) → length l ≤ at → nothing_read ≡ read_at l at
unfolding made_record whole_record
read_past l at h = read_none l at (ap made_record (drop_of_length-le l h))

-- its fields, read at their offsets
abbrev pub fields_at : ℕ → List ℕ → NumberedRecord
fields_at at l = record {
  number = 0;
  seconds = le_field 0 4 l;
  microseconds = le_field 4 4 l;
  header = header_in (take 48 (drop 16 l));
  payload_start = at + 64;
  payload_length = le_field 52 4 l;
  next = at + 64 + le_field 52 4 l;
}

pub read_found : (l : List ℕ) (at : ℕ) → made_record (drop at l) ≡ true → fields_at at (drop at l) ≡ read_at l at
unfolding read_at record_at delivered_at
read_found l at h =
    let w = whole-tests 0 snap_length (drop at l) (made-whole (drop at l) h) in
    let long : length (take (delivered_at (drop at l)) (drop 64 (drop at l))) ≡ le_field 52 4 (drop at l) =
    length-take-le (delivered_at (drop at l)) (drop 64 (drop at l)) (rw (length-drop 64 (drop at l)) (omega (arith, w.sum, w.complete))) in
    rw (h, long)

-- ---- The records of a file

swap : (a b c d : Bool) → ((a && b) && (c && d)) ≡ ((a && c) && (b && d))
swap true true c d = refl
swap true false true d = refl
swap true false false d = refl
swap false b c d = refl

made_records-none : made_records [] ≡ true
unfolding made_records
made_records-none = rw (whole_records-none 0 snap_length, records_in-none 0)

pub made_records-next : (l : List ℕ) → 0 < length l
    → made_records l ≡ (made_record l && made_records (drop (16 + captured_at l) l))
unfolding made_records made_record
made_records-next l h =
    rw (whole_records-next 0 snap_length l h, records_in-next 0 l h)
    (swap (whole_record 0 snap_length l) _ (made (record_at 0 l)) _)

-- so far `count` records were passed, all of which the writer makes, and `rest` is left
pub record Counting (l rest : List ℕ) (count : ℕ) : Type 0 where
  pub few : count + length rest ≤ length l
  pub made : made_records rest ≡ made_records l
  pub counted : count + length (records_in 0 rest) ≡ length (records_in 0 l)

module _ {l rest : List ℕ} {count : ℕ} (w : Counting l rest count) (h : 0 < length rest) where
  -- a record that is none of the writer's ends the pass
  pub count-broken : made_record rest ≡ false → count_refused ≡ count_of l
  unfolding count_of
  count-broken broken = rw (← w.made, made_records-next rest h, broken)

  pub count-step : {i : ℕ} → made_record rest ≡ true → i ≡ 16 + captured_at rest → 16 + captured_at rest ≤ length rest → Counting l (drop i rest) (count + 1)
  count-step passes passed within =
      rw passed
      (record {
        few = omega (arith, w.few, length-drop (16 + captured_at rest) rest);
        made = sym (made_records-next rest h ∙ rw passes) ∙ w.made;
        counted = omega (arith, w.counted, ap length (records_in-next 0 rest h));
      })

empty : (l : List ℕ) → length l ≡ 0 → l ≡ []
empty [] h = refl
empty (b ∷ bs) h = absurd (omega arith)

-- at the end nothing is left
pub count-ends : {l rest : List ℕ} {count : ℕ} → Counting l rest count → length rest ≡ 0 → counted count ≡ count_of l
unfolding count_of
count-ends {l} {rest} {count} w h =
    let none : rest ≡ [] = empty rest h in
    let all : made_records l ≡ true = sym w.made ∙ rw none made_records-none in
    let left : records_in 0 rest ≡ [] = rw none (records_in-none 0) in
    let number : count ≡ length (records_in 0 l) = omega (arith, w.counted, ap length left) in
    rw (all, number)

-- ---- A file

pub reads-headless : (l : List ℕ) → made_head l ≡ false → ReadsCapture l count_refused
unfolding made_file first_no
reads-headless l h = record { number = rw h; answer = rw h }

pub reads-headed : (l : List ℕ) → made_head l ≡ true → ReadsCapture l (count_of (drop 24 l))
unfolding made_file first_no count_of
reads-headed l h = by (made_records (drop 24 l)) refl
  where
    by : (b : Bool) → made_records (drop 24 l) ≡ b → ReadsCapture l (count_of (drop 24 l))
    by true e = record { number = rw (h, e); answer = rw (h, e) }
    by false e = record { number = rw (h, e); answer = rw (h, e) }
