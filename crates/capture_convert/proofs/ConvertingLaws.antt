-- Laws of converting: the bytes of a resized record, of the records behind it and of a file, and what converting answers. Assumes nothing.
use Prim.Native.Nat.{ℕ, zero, suc, ◌+◌, ◌*◌, ◌≤◌, ◌<◌}
use mathlib.Core.Bool.{Bool, true, false, cond}
use mathlib.Core.Logic.{⊎_elim}
use mathlib.Core.Path.{◌≡◌, refl, sym, ap, ◌∙◌}
use mathlib.Core.List.{List, [], ◌∷◌, ◌++◌, map}
use native.Mathlib.Nat.{mul-suc}
use native.Mathlib.Omega.{arith}
use lib.Dec.{leb, eqb}
use lib.ListN.{length, take, drop, replicate, length-append, length-drop, length-replicate}
use lib.Seq.{length-take-le}
use borrow.Author.Tests.{leb-true, le-leb, lt-leb}
use Rattle.trb.specs.declared.Refusal.{Refusal}
use Rattle.trb.specs.declared.Refusal.TheVariants.{OutputTooShort}
use Rattle.trb.specs.Answers.{refusal_of}
use Rattle.trb.specs.Questions.{first_no}
use Rattle.trb.proofs.QuestionLaws.{yes-first, yes-behind}
use Rattle.buffers.specs.LittleEndian.{le_field}
use Rattle.buffers.specs.Patch.{patch}
use Rattle.std.proofs.Common.{Result, Ok, Err}
use Rattle.capture_file.specs.Records.{head, layout, layout_all, captured}
use Rattle.capture_file.specs.Reading.{captured_at, original_at, delivered_at, from_each, record_at, records_in, whole_record, whole_records, every}
use Rattle.capture_file.specs.Files.{link_long, known_link, extra_of, most_of, file_head, layout_file, file_in, whole_file}
use Rattle.capture_file.specs.Survey.{convertible}
use Rattle.capture_file.proofs.FileLaws.{file-headed, file-records, link-cases, length-file_head}
use Rattle.capture_file.proofs.ReadingLaws.{records_in-none, records_in-next}
use Rattle.capture_file.proofs.LayoutLaws.{both, Whole, whole-tests, length-layout}
use Rattle.capture_convert.specs.Converting.{resized, resized_front, resized_bytes, added_length, other_link, converted, converted_bytes, convert_questions, Measures, Converts, Resizable, ResizableRecord}

-- the sizes of a record that can be resized
pub record Sized (from to : ℕ) (l : List ℕ) : Type 0 where
  pub long : 64 + from + delivered_at l ≤ length l
  pub sum : captured_at l ≡ 48 + from + delivered_at l
  pub original : 48 + from + delivered_at l ≤ original_at l
  pub limit : original_at l + to ≤ 4294967295 + from

pub sized : {from to : ℕ} {l : List ℕ} → ResizableRecord from to l → Sized from to l
sized {from} {to} {l} s =
    let w = whole-tests from s.most l s.whole in
    record {
      long = omega (arith, w.complete, w.sum);
      sum = w.sum;
      original = omega (arith, w.sum, w.original);
      limit = omega (arith, w.limited, s.limit);
    }

-- the bytes of a whole record, resized
module _ {from most : ℕ} (to : ℕ) (l : List ℕ) (w : Whole from most l) where
  linked : length (take 48 (drop 16 l)) ≡ 48
  linked = length-take-le 48 (drop 16 l) (simp length-drop (omega (arith, w.header)))

  extended : length (take from (drop 64 l)) ≡ from
  extended = length-take-le from (drop 64 l) (simp length-drop (omega (arith, w.header)))

  paid : length (take (delivered_at l) (drop (64 + from) l)) ≡ delivered_at l
  paid = length-take-le (delivered_at l) (drop (64 + from) l) (simp length-drop (omega (arith, w.sum, w.complete)))

  captured-resized : captured (resized to (record_at from l)) ≡ 48 + to + delivered_at l
  unfolding record_at
  captured-resized = omega (arith, linked, paid, length-replicate {A = ℕ} to 0)

  pub length-resized : length (layout (resized to (record_at from l))) ≡ 64 + to + delivered_at l
  length-resized = omega (arith, length-layout (resized to (record_at from l)), captured-resized)

  pub length_front : length (resized_front from to l) ≡ 64 + to
  unfolding resized_front head
  length_front = simp length-append (omega (arith, linked, length-replicate {A = ℕ} to 0))

  pub layout-resized : layout (resized to (record_at from l))
      ≡ resized_front from to l ++ take (delivered_at l) (drop (64 + from) l)
  unfolding layout record_at resized_front
  layout-resized = rw (captured-resized, extended)

-- the records from index `at` on, resized: the one there, and those behind it
pub resized_bytes-next : (from to : ℕ) (l : List ℕ) → 0 < length l
    → resized_bytes from to l ≡ layout (resized to (record_at from l)) ++ resized_bytes from to (drop (16 + captured_at l) l)
unfolding resized_bytes layout_all
resized_bytes-next from to l h = rw (records_in-next from l h)

pub resized_bytes-none : (from to : ℕ) → resized_bytes from to [] ≡ []
unfolding resized_bytes layout_all
resized_bytes-none from to = rw (records_in-none from)

-- zeros, the first n of them
pub take-replicate : (n m : ℕ) → n ≤ m → ◌≡◌ {A = List ℕ} (take n (replicate m 0)) (replicate n 0)
take-replicate zero m h = refl
take-replicate (suc n) zero h = absurd (omega arith)
take-replicate (suc n) (suc m) h = ap (λ (l : List ℕ). 0 ∷ l) (take-replicate n m (omega arith))

-- so many bytes more or fewer for each record; the first k bytes belong to a record passed already
length-resized-each : (from most to k : ℕ) (l : List ℕ) → k ≤ length l → every (whole_record from most) (from_each k l) ≡ true
    → k + length (layout_all (map (resized to) (map (record_at from) (from_each k l)))) + from * length (map (record_at from) (from_each k l))
    ≡ length l + to * length (map (record_at from) (from_each k l))
unfolding from_each layout_all
length-resized-each from most to zero [] h e = omega arith
length-resized-each from most to (suc k) [] h e = absurd (omega arith)
length-resized-each from most to zero (b ∷ bs) h e =
    let t = both _ _ e in
    let w = whole-tests from most (b ∷ bs) t.0 in
    let others = map (record_at from) (from_each (15 + captured_at (b ∷ bs)) bs) in
    let behind = length-resized-each from most to (15 + captured_at (b ∷ bs)) bs (omega (arith, w.complete)) t.1 in
    omega (
      arith,
      length-append (layout (resized to (record_at from (b ∷ bs)))) (layout_all (map (resized to) others)),
      length-resized to (b ∷ bs) w,
      w.sum,
      behind,
      mul-suc from (length others),
      mul-suc to (length others),
    )
length-resized-each from most to (suc k) (b ∷ bs) h e = omega (arith, length-resized-each from most to k bs (omega arith) e)

-- a whole file's records can be resized for the other link type
resizes : (link : ℕ) → known_link link ≡ true → most_of added_length link + extra_of (other_link link) ≤ 4294967295 + extra_of link
unfolding most_of extra_of other_link
resizes link h = ⊎_elim (λ e. rw e (omega arith)) (λ e. rw e (omega arith)) (link-cases link h)

small-extra : (link : ℕ) → extra_of link ≤ 16
unfolding extra_of
small-extra link = by (eqb link link_long)
  where
    by : (b : Bool) → cond b 16 0 ≤ 16
    by true = omega arith
    by false = omega arith

pub file-resizable : (l : List ℕ) → whole_file added_length l ≡ true → Resizable (extra_of (le_field 20 4 l)) (extra_of (other_link (le_field 20 4 l))) (drop 24 l)
file-resizable l h = record {
  records = record { most = most_of added_length (le_field 20 4 l); whole = file-records added_length l h };
  limit = resizes (le_field 20 4 l) (file-headed added_length l h).known;
  small = (small-extra (le_field 20 4 l), small-extra (other_link (le_field 20 4 l)));
}

-- the bytes of the converted file
pub converted_bytes-are : (l : List ℕ) → converted_bytes l
    ≡ file_head (le_field 8 4 l) (le_field 12 4 l) (le_field 16 4 l) (other_link (le_field 20 4 l))
    ++ resized_bytes (extra_of (le_field 20 4 l)) (extra_of (other_link (le_field 20 4 l))) (drop 24 l)
unfolding converted_bytes layout_file converted file_in resized_bytes
converted_bytes-are l = refl

pub length-converted : (l : List ℕ) → length (converted_bytes l)
    ≡ 24 + length (resized_bytes (extra_of (le_field 20 4 l)) (extra_of (other_link (le_field 20 4 l))) (drop 24 l))
length-converted l =
    ap length (converted_bytes-are l)
    ∙ length-append (file_head (le_field 8 4 l) (le_field 12 4 l) (le_field 16 4 l) (other_link (le_field 20 4 l))) _
    ∙ ap (λ (n : ℕ). n + length (resized_bytes (extra_of (le_field 20 4 l)) (extra_of (other_link (le_field 20 4 l))) (drop 24 l)))
    (length-file_head (le_field 8 4 l) (le_field 12 4 l) (le_field 16 4 l) (other_link (le_field 20 4 l)))

-- the length of the converted file, by the number of its records
pub length-moves : (l : List ℕ) → whole_file added_length l ≡ true
    → length (converted_bytes l) + extra_of (le_field 20 4 l) * length (file_in l).records
    ≡ length l + extra_of (other_link (le_field 20 4 l)) * length (file_in l).records
unfolding file_in records_in resized_bytes whole_records
length-moves l h =
    let from = extra_of (le_field 20 4 l) in
    let to = extra_of (other_link (le_field 20 4 l)) in
    omega (
      arith,
      length-converted l,
      (file-headed added_length l h).long,
      length-drop 24 l,
      length-resized-each from (most_of added_length (le_field 20 4 l)) to 0 (drop 24 l) (omega arith) (file-records added_length l h),
    )

-- ---- Answers

-- where every answer is yes, the file is whole, every record can be converted, and there is room
pub record Accepted (l : List ℕ) (room : ℕ) : Type 0 where
  pub whole : whole_file added_length l ≡ true
  pub plain : every convertible (file_in l).records ≡ true
  pub fits : length (converted_bytes l) ≤ room

pub accepted : (l : List ℕ) (room : ℕ) → first_no (convert_questions l room) ≡ 0 → Accepted l room
accepted l room none =
    let third : List (Bool × ℕ) = (leb (length (converted_bytes l)) room, 14) ∷ [] in
    let second : List (Bool × ℕ) = (every convertible (file_in l).records, 18) ∷ third in
    let behind = yes-behind (whole_file added_length l) 16 second none in
    record {
      whole = yes-first (whole_file added_length l) 16 second none;
      plain = yes-first (every convertible (file_in l).records) 17 third behind;
      fits = leb-true _ room (yes-first (leb (length (converted_bytes l)) room) 13 [] (yes-behind (every convertible (file_in l).records) 17 third behind));
    }

-- a file with a length once converted is whole, and every record can be converted
pub record Measured (l : List ℕ) (n : ℕ) : Type 0 where
  pub whole : whole_file added_length l ≡ true
  pub plain : every convertible (file_in l).records ≡ true
  pub size : n ≡ length (converted_bytes l)

pub measured : (l : List ℕ) (n : ℕ) → Measures l (Ok n) → Measured l n
unfolding first_no
measured l n m =
    let second : List (Bool × ℕ) = (every convertible (file_in l).records, 18) ∷ [] in
    let whole : whole_file added_length l ≡ true = yes-first (whole_file added_length l) 16 second (sym m.number) in
    let plain : every convertible (file_in l).records ≡ true =
    yes-first (every convertible (file_in l).records) 17 [] (yes-behind (whole_file added_length l) 16 second (sym m.number)) in
    let same : ◌≡◌ {A = Result ℕ Refusal} (Ok n) (Ok (length (converted_bytes l))) = rw (whole, plain) at m.answer in
    record { whole = whole; plain = plain; size = cc }

-- where the length is refused, so is converting, with the same number
pub measured-refused : (l output : List ℕ) (q : Refusal) → Measures l (Err q) → Converts l output (Err q) output
unfolding first_no
measured-refused l output q m = by (whole_file added_length l) (every convertible (file_in l).records) refl refl
  where
    by : (a b : Bool) → whole_file added_length l ≡ a → every convertible (file_in l).records ≡ b → Converts l output (Err q) output
    by true true p e =
        let same : Err q ≡ Ok (length (converted_bytes l)) = rw (p, e) at m.answer in
        let never : ◌≡◌ {A = ℕ} 0 1 = cc in
        absurd (omega arith)
    by true false p e = record { number = rw (p, e) (rw (p, e) at m.number); answer = rw (p, e) (rw (p, e) at m.answer); after = rw (p, e) }
    by false b p e = record { number = rw p (rw p at m.number); answer = rw p (rw p at m.answer); after = rw p }

module _ (l output : List ℕ) (n : ℕ) (m : Measured l n) where
  pub converts-not : length output < n → Converts l output (Err OutputTooShort) output
  unfolding first_no refusal_of
  converts-not short =
      let no = lt-leb (length (converted_bytes l)) (length output) (omega (arith, m.size)) in
      record { number = rw (m.whole, m.plain, no); answer = rw (m.whole, m.plain, no); after = rw (m.whole, m.plain, no) }

  pub converts : n ≤ length output → Converts l output (Ok n) (patch output 0 (converted_bytes l))
  unfolding first_no
  converts fits =
      let yes = le-leb (length (converted_bytes l)) (length output) (omega (arith, m.size)) in
      record { number = rw (m.whole, m.plain, yes); answer = rw (m.whole, m.plain, yes) (ap Ok m.size); after = rw (m.whole, m.plain, yes) }
