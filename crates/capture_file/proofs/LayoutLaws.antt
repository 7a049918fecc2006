-- Reading is the inverse of laying out, on sound records and on whole files. Assumes nothing.
use Prim.Native.Nat.{ℕ, zero, suc, ◌+◌, ◌<◌, ◌≤◌}
use mathlib.Core.Bool.{Bool, true, false, ◌&&◌, false≢true}
use mathlib.Core.Path.{◌≡◌, refl, sym, ap, ◌∙◌}
use mathlib.Core.List.{List, [], ◌∷◌, ◌++◌, append_assoc, map}
use native.Mathlib.Omega.{arith}
use lib.ListN.{length, take, drop, length-append, length-drop, take-append-drop}
use lib.Seq.{take-add, take_at, drop_at, drop-drop, length-take-le}
use borrow.Author.Tests.{leb-true, eqb-true, le-leb, eq-eqb}
use Rattle.buffers.specs.LittleEndian.{le_bytes, le_number, le_field, AllBytes}
use Rattle.buffers.proofs.LittleEndianLaws.{le_number-le_bytes, le_field-lt, le_bytes-le_field, le_field-append}
use Rattle.capture_file.specs.Records.{CaptureRecord, captured, head, layout, layout_all, Sound, AllSound}
use Rattle.capture_file.specs.Reading.{captured_at, original_at, delivered_at, from_each, record_at, records_in, whole_record, whole_records, every, Records}
use Rattle.capture_file.proofs.ReadingLaws.{records_in-none, records_in-next, whole_records-none, whole_records-next, whole_records-step}

-- both parts of a conjunction that is true
pub both : (a b : Bool) → (a && b) ≡ true → (a ≡ true) × (b ≡ true)
both true b h = (refl, h)
both false b h = absurd (false≢true h)

-- what a whole record's tests say
pub record Whole (extra most : ℕ) (l : List ℕ) : Type 0 where
  pub header : 64 + extra ≤ length l
  pub sum : captured_at l ≡ 48 + extra + delivered_at l
  pub complete : 16 + captured_at l ≤ length l
  pub original : captured_at l ≤ original_at l
  pub limited : original_at l ≤ most

pub whole-tests : (extra most : ℕ) (l : List ℕ) → whole_record extra most l ≡ true → Whole extra most l
unfolding whole_record
whole-tests extra most l h =
    let a = both _ _ h in
    let b = both _ _ a.1 in
    let c = both _ _ b.1 in
    let d = both _ _ c.1 in
    record {
      header = leb-true _ _ a.0;
      sum = eqb-true _ _ b.0;
      complete = leb-true _ _ c.0;
      original = leb-true _ _ d.0;
      limited = leb-true _ _ d.1;
    }

pub tests-whole : (extra most : ℕ) (l : List ℕ) → Whole extra most l → whole_record extra most l ≡ true
unfolding whole_record
tests-whole extra most l w =
    simp (le-leb _ _ w.header, eq-eqb _ _ w.sum, le-leb _ _ w.complete, le-leb _ _ w.original, le-leb _ _ w.limited)

-- fields that stand side by side are the bytes from the first to the last
joined : (l : List ℕ) (extra n : ℕ) {a b c d : List ℕ} → a ≡ take 4 l → b ≡ take 4 (drop 4 l) → c ≡ take 4 (drop 8 l) → d ≡ take 4 (drop 12 l)
    → a ++ b ++ c ++ d ++ take 48 (drop 16 l) ++ take extra (drop 64 l) ++ take n (drop (64 + extra) l) ≡ take (64 + extra + n) l
joined l extra n p q r s =
    rw (
      p,
      q,
      r,
      s,
      ← take-add 4 4 l,
      ← take-add 8 4 l,
      ← take-add 12 4 l,
      ← take-add 16 48 l,
      ← take-add 64 extra l,
      ← take-add (64 + extra) n l,
    )

-- laying out the record that stands at the start of whole bytes gives these bytes
module _ (extra most : ℕ) (l : List ℕ) (w : Whole extra most l) (bytes : AllBytes l) where
  pub captured-record_at : captured (record_at extra l) ≡ captured_at l
  unfolding record_at
  captured-record_at =
      omega (
        arith,
        w.sum,
        w.complete,
        length-take-le 48 (drop 16 l) (simp length-drop (omega (arith, w.header))),
        length-take-le extra (drop 64 l) (simp length-drop (omega (arith, w.header))),
        length-take-le (delivered_at l) (drop (64 + extra) l) (simp length-drop (omega (arith, w.sum, w.complete))),
      )

  pub layout-record_at : layout (record_at extra l) ≡ take (16 + captured_at l) l
  unfolding layout head record_at captured_at original_at
  layout-record_at =
      let size : 64 + extra + delivered_at l ≡ 16 + captured_at l = omega (arith, w.sum) in
      joined l extra (delivered_at l)
      (le_bytes-le_field 0 4 l (omega (arith, w.header)) bytes)
      (le_bytes-le_field 4 4 l (omega (arith, w.header)) bytes)
      (ap (le_bytes 4) captured-record_at ∙ le_bytes-le_field 8 4 l (omega (arith, w.header)) bytes)
      (le_bytes-le_field 12 4 l (omega (arith, w.header)) bytes)
      ∙ ap (λ (n : ℕ). take n l) size

  pub record_at-sound : Sound extra most (record_at extra l)
  unfolding record_at original_at delivered_at
  record_at-sound =
      let front : length (take 48 (drop 16 l)) ≡ 48 = length-take-le 48 (drop 16 l) (simp length-drop (omega (arith, w.header))) in
      let field : le_field 36 4 (take 48 (drop 16 l)) ≡ delivered_at l =
      sym (le_field-append 36 4 (take 48 (drop 16 l)) (drop 48 (drop 16 l)) (omega arith))
      ∙ ap (le_field 36 4) (take-append-drop 48 (drop 16 l))
      ∙ ap (λ (m : List ℕ). le_number (take 4 m)) (drop-drop 36 16 l) in
      record {
        header = front;
        extras = length-take-le extra (drop 64 l) (simp length-drop (omega (arith, w.header)));
        delivered = field ∙ sym (length-take-le (delivered_at l) (drop (64 + extra) l) (simp length-drop (omega (arith, w.sum, w.complete))));
        whole = omega (arith, captured-record_at, w.original);
        limited = w.limited;
        fits = (
          le_field-lt 0 4 l (omega (arith, w.header)) bytes,
          le_field-lt 4 4 l (omega (arith, w.header)) bytes,
          le_field-lt 12 4 l (omega (arith, w.header)) bytes,
        );
      }

-- the same of whole records, one behind the other; the first k bytes belong to a record passed already
layout_all-from_each : (extra most k : ℕ) (l : List ℕ) → AllBytes l → every (whole_record extra most) (from_each k l) ≡ true
    → take k l ++ layout_all (map (record_at extra) (from_each k l)) ≡ l
unfolding from_each layout_all
layout_all-from_each extra most zero [] bytes h = refl
layout_all-from_each extra most (suc k) [] bytes h = refl
layout_all-from_each extra most zero (b ∷ bs) bytes h =
    let t = both _ _ h in
    let size : 16 + captured_at (b ∷ bs) ≡ suc (15 + captured_at (b ∷ bs)) = omega arith in
    rw (layout-record_at extra most (b ∷ bs) (whole-tests extra most (b ∷ bs) t.0) bytes, size)
    (ap (λ (l : List ℕ). b ∷ l) (layout_all-from_each extra most (15 + captured_at (b ∷ bs)) bs bytes.1 t.1))
layout_all-from_each extra most (suc k) (b ∷ bs) bytes h = ap (λ (l : List ℕ). b ∷ l) (layout_all-from_each extra most k bs bytes.1 h)

pub layout_all-records_in : (extra most : ℕ) (l : List ℕ) → AllBytes l → whole_records extra most l ≡ true
    → layout_all (records_in extra l) ≡ l
unfolding records_in whole_records
layout_all-records_in extra most l bytes h = layout_all-from_each extra most 0 l bytes h

sound-from_each : (extra most k : ℕ) (l : List ℕ) → AllBytes l → every (whole_record extra most) (from_each k l) ≡ true
    → AllSound extra most (map (record_at extra) (from_each k l))
unfolding from_each
sound-from_each extra most zero [] bytes h = tt
sound-from_each extra most (suc k) [] bytes h = tt
sound-from_each extra most zero (b ∷ bs) bytes h =
    let t = both _ _ h in (
      record_at-sound extra most (b ∷ bs) (whole-tests extra most (b ∷ bs) t.0) bytes,
      sound-from_each extra most (15 + captured_at (b ∷ bs)) bs bytes.1 t.1,
    )
sound-from_each extra most (suc k) (b ∷ bs) bytes h = sound-from_each extra most k bs bytes.1 h

pub records_in-sound : (extra most : ℕ) (l : List ℕ) → AllBytes l → whole_records extra most l ≡ true
    → AllSound extra most (records_in extra l)
unfolding records_in whole_records
records_in-sound extra most l bytes h = sound-from_each extra most 0 l bytes h

pub length-layout : (r : CaptureRecord) → length (layout r) ≡ 16 + captured r
unfolding layout head
length-layout r = simp length-append (omega arith)

-- three lists and what stands behind them
regrouped : (a b c d : List ℕ) → a ++ b ++ c ++ d ≡ a ++ (b ++ (c ++ d))
regrouped a b c d = simp append_assoc

module _ (a b c d : List ℕ) {m n : ℕ} (h : length a ≡ m) (k : length b ≡ n) where
  first : take m (a ++ b ++ c ++ d) ≡ a
  first = simp append_assoc (take_at a (b ++ (c ++ d)) m h)

  second : take n (drop m (a ++ b ++ c ++ d)) ≡ b
  second = simp (append_assoc, drop_at a (b ++ (c ++ d)) m h) (take_at b (c ++ d) n k)

  third : take (length c) (drop n (drop m (a ++ b ++ c ++ d))) ≡ c
  third = simp (append_assoc, drop_at a (b ++ (c ++ d)) m h, drop_at b (c ++ d) n k) (take_at c d (length c) refl)

-- a sound record's bytes, whatever stands behind them
module _ {extra most : ℕ} (r : CaptureRecord) (rest : List ℕ) (s : Sound extra most r) where
  pub captured_at-layout : captured_at (layout r ++ rest) ≡ captured r
  unfolding layout head captured_at
  captured_at-layout = le_number-le_bytes 4 (captured r) (omega (arith, s.whole, s.fits.2))

  original_at-layout : original_at (layout r ++ rest) ≡ r.original
  unfolding layout head original_at
  original_at-layout = le_number-le_bytes 4 r.original s.fits.2

  delivered_at-layout : delivered_at (layout r ++ rest) ≡ length r.payload
  unfolding layout head delivered_at
  delivered_at-layout =
      ap (le_field 36 4) (regrouped r.link r.added r.payload rest)
      ∙ le_field-append 36 4 r.link (r.added ++ (r.payload ++ rest)) (omega (arith, s.header))
      ∙ s.delivered

  pub record_at-layout : record_at extra (layout r ++ rest) ≡ r
  unfolding layout head record_at
  record_at-layout =
      let payload : take (delivered_at (layout r ++ rest)) (drop (64 + extra) (layout r ++ rest)) ≡ r.payload =
      rw (delivered_at-layout, ← drop-drop extra 64 (layout r ++ rest)) (third r.link r.added r.payload rest s.header s.extras) in
      λ i. record {
        seconds = le_number-le_bytes 4 r.seconds s.fits.0 i;
        microseconds = le_number-le_bytes 4 r.microseconds s.fits.1 i;
        original = original_at-layout i;
        link = first r.link r.added r.payload rest s.header s.extras i;
        added = second r.link r.added r.payload rest s.header s.extras i;
        payload = payload i;
      }

  pub whole_record-layout : whole_record extra most (layout r ++ rest) ≡ true
  whole_record-layout =
      let len = length-append (layout r) rest in
      tests-whole extra most (layout r ++ rest)
      (record {
        header = omega (arith, len, length-layout r, s.header, s.extras);
        sum = omega (arith, captured_at-layout, delivered_at-layout, s.header, s.extras);
        complete = omega (arith, len, length-layout r, captured_at-layout);
        original = omega (arith, captured_at-layout, original_at-layout, s.whole);
        limited = omega (arith, original_at-layout, s.limited);
      })

  drop-layout : drop (16 + captured_at (layout r ++ rest)) (layout r ++ rest) ≡ rest
  drop-layout = drop_at (layout r) rest (16 + captured_at (layout r ++ rest)) (omega (arith, length-layout r, captured_at-layout))

-- reading back what was laid out: the same records, all of them whole
pub records_in-layout_all : (extra most : ℕ) (rs : List CaptureRecord) → AllSound extra most rs → records_in extra (layout_all rs) ≡ rs
unfolding layout_all
records_in-layout_all extra most [] s = records_in-none extra
records_in-layout_all extra most (r ∷ rs) s =
    records_in-next extra (layout r ++ layout_all rs) (omega (arith, length-append (layout r) (layout_all rs), length-layout r))
    ∙ rw (record_at-layout r (layout_all rs) s.0, drop-layout r (layout_all rs) s.0, records_in-layout_all extra most rs s.1)

pub whole_records-layout_all : (extra most : ℕ) (rs : List CaptureRecord) → AllSound extra most rs → whole_records extra most (layout_all rs) ≡ true
unfolding layout_all
whole_records-layout_all extra most [] s = whole_records-none extra most
whole_records-layout_all extra most (r ∷ rs) s =
    whole_records-next extra most (layout r ++ layout_all rs) (omega (arith, length-append (layout r) (layout_all rs), length-layout r))
    ∙ rw (whole_record-layout r (layout_all rs) s.0, drop-layout r (layout_all rs) s.0, whole_records-layout_all extra most rs s.1)
