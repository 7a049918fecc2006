-- Laws of merging whole files: the bytes of the merged file, its length, what merging answers, and that the merged file is one. Assumes nothing.
use Prim.Native.Nat.{ℕ, ◌+◌, ◌-◌, ◌≤◌, ◌<◌, ◌^◌}
use mathlib.Core.Bool.{Bool, true, false, cond}
use mathlib.Core.Path.{◌≡◌, refl, sym, ap, subst, ◌∙◌}
use mathlib.Core.List.{List, [], ◌∷◌, ◌++◌}
use native.Mathlib.Omega.{arith}
use lib.Dec.{leb, ltb, eqb}
use lib.ListN.{length, take, drop, length-append, length-drop}
use borrow.Author.Tests.{le-leb, lt-leb, eqb-true}
use Rattle.trb.specs.declared.Refusal.{Refusal}
use Rattle.trb.specs.declared.Refusal.TheVariants.{OutputTooShort}
use Rattle.trb.specs.Answers.{refusal_of}
use Rattle.trb.specs.Questions.{first_no}
use Rattle.trb.specs.Refusals.{refusal_number}
use Rattle.trb.proofs.AnswerLaws.{refusal_of-number, refusal_number-positive}
use Rattle.trb.proofs.QuestionLaws.{yes-first, yes-behind, first_no-longer}
use Rattle.buffers.specs.LittleEndian.{le_field, AllBytes}
use Rattle.buffers.specs.Patch.{patch}
use Rattle.buffers.proofs.LittleEndianLaws.{AllBytes-drop}
use Rattle.std.proofs.Common.{Result, Ok, Err}
use Rattle.capture_file.specs.Records.{CaptureRecord, layout_all, AllSound}
use Rattle.capture_file.specs.Reading.{records_in, Records}
use Rattle.capture_file.specs.Files.{CaptureFile, SoundFile, extra_of, most_of, file_head, layout_file, file_in, whole_file}
use Rattle.capture_file.specs.Times.{ordered_from}
use Rattle.capture_file.proofs.FileLaws.{file-headed, file-records, file_in-sound, file_in-layout_file, whole_file-layout_file, layout_file-file_in, length-file_head}
use Rattle.capture_merge.specs.Merging.{merged, larger, merged_file, merged_file_bytes, no_growth, length_questions, merge_questions, Measures, Merges, merged_bytes}
use Rattle.capture_merge.specs.Order.{Woven, none, left, right, Ordered, FirstFirst, OneOfTwo}
use Rattle.capture_merge.proofs.CopyLaws.{length-merged}
use Rattle.capture_merge.proofs.Order.{merged-woven, merged-ordered, first-file-first, ordered-tested}

pub records-of : (l : List ℕ) → whole_file no_growth l ≡ true → Records (extra_of (le_field 20 4 l)) (drop 24 l)
records-of l h = record { most = most_of no_growth (le_field 20 4 l); whole = file-records no_growth l h }

-- the bytes of the merged file
pub merged_file_bytes-are : (a b : List ℕ) → le_field 20 4 a ≡ le_field 20 4 b
    → merged_file_bytes a b
    ≡ file_head (le_field 8 4 a) (le_field 12 4 a) (larger (le_field 16 4 a) (le_field 16 4 b)) (le_field 20 4 a)
    ++ merged_bytes (extra_of (le_field 20 4 a)) (drop 24 a) (drop 24 b)
unfolding merged_file_bytes layout_file merged_file file_in merged_bytes
merged_file_bytes-are a b e =
    ap (λ (link : ℕ). file_head (le_field 8 4 a) (le_field 12 4 a) (larger (le_field 16 4 a) (le_field 16 4 b)) (le_field 20 4 a)
    ++ layout_all (merged (records_in (extra_of (le_field 20 4 a)) (drop 24 a)) (records_in (extra_of link) (drop 24 b)))) (sym e)

module _ (a b : List ℕ) (e : le_field 20 4 a ≡ le_field 20 4 b) (p : whole_file no_growth a ≡ true) (q : whole_file no_growth b ≡ true)
    (bytes_a : AllBytes a) (bytes_b : AllBytes b) where
  length-merged_bytes : length (merged_bytes (extra_of (le_field 20 4 a)) (drop 24 a) (drop 24 b)) ≡ length (drop 24 a) + length (drop 24 b)
  length-merged_bytes =
      let second : Records (extra_of (le_field 20 4 a)) (drop 24 b) = rw e (records-of b q) in
      length-merged (drop 24 a) (drop 24 b) (records-of a p) second (AllBytes-drop 24 a bytes_a) (AllBytes-drop 24 b bytes_b)

  pub length_merged : length (merged_file_bytes a b) ≡ length a + (length b - 24)
  length_merged =
      let front : List ℕ = file_head (le_field 8 4 a) (le_field 12 4 a) (larger (le_field 16 4 a) (le_field 16 4 b)) (le_field 20 4 a) in
      ap length (merged_file_bytes-are a b e)
      ∙ omega (
        arith,
        length-append front (merged_bytes (extra_of (le_field 20 4 a)) (drop 24 a) (drop 24 b)),
        length-file_head (le_field 8 4 a) (le_field 12 4 a) (larger (le_field 16 4 a) (le_field 16 4 b)) (le_field 20 4 a),
        length-merged_bytes,
        length-drop 24 a,
        length-drop 24 b,
        (file-headed no_growth a p).long,
        (file-headed no_growth b q).long,
      )

-- ---- Answers

-- two files with a length once merged are whole, of one link type, and in order
pub record Measured (a b : List ℕ) (n : ℕ) : Type 0 where
  pub first : whole_file no_growth a ≡ true
  pub second : whole_file no_growth b ≡ true
  pub linked : eqb (le_field 20 4 a) (le_field 20 4 b) ≡ true
  pub first_ordered : ordered_from 0 0 (file_in a).records ≡ true
  pub second_ordered : ordered_from 0 0 (file_in b).records ≡ true
  pub size : n ≡ length (merged_file_bytes a b)

-- the answers, where none is no
module _ (a b : List ℕ) (qs : List (Bool × ℕ)) (yes : first_no (length_questions a b ++ qs) ≡ 0) where
  abbrev fifth : List (Bool × ℕ)
  fifth = (ordered_from 0 0 (file_in b).records, 20) ∷ qs

  abbrev fourth : List (Bool × ℕ)
  fourth = (ordered_from 0 0 (file_in a).records, 20) ∷ fifth

  abbrev third : List (Bool × ℕ)
  third = (eqb (le_field 20 4 a) (le_field 20 4 b), 19) ∷ fourth

  behind-first : first_no ((whole_file no_growth b, 17) ∷ third) ≡ 0
  behind-first = yes-behind (whole_file no_growth a) 16 ((whole_file no_growth b, 17) ∷ third) yes

  behind-second : first_no third ≡ 0
  behind-second = yes-behind (whole_file no_growth b) 16 third behind-first

  behind-third : first_no fourth ≡ 0
  behind-third = yes-behind (eqb (le_field 20 4 a) (le_field 20 4 b)) 18 fourth behind-second

  behind-fourth : first_no fifth ≡ 0
  behind-fourth = yes-behind (ordered_from 0 0 (file_in a).records) 19 fifth behind-third

  pub all_yes : Measured a b (length (merged_file_bytes a b))
  all_yes = record {
    first = yes-first (whole_file no_growth a) 16 ((whole_file no_growth b, 17) ∷ third) yes;
    second = yes-first (whole_file no_growth b) 16 third behind-first;
    linked = yes-first (eqb (le_field 20 4 a) (le_field 20 4 b)) 18 fourth behind-second;
    first_ordered = yes-first (ordered_from 0 0 (file_in a).records) 19 fifth behind-third;
    second_ordered = yes-first (ordered_from 0 0 (file_in b).records) 19 qs behind-fourth;
    size = refl;
  }

pub measured : (a b : List ℕ) (n : ℕ) → Measures a b (Ok n) → Measured a b n
unfolding first_no
measured a b n m =
    let y : Measured a b (length (merged_file_bytes a b)) = all_yes a b [] (sym m.number) in
    let same : ◌≡◌ {A = Result ℕ Refusal} (Ok n) (Ok (length (merged_file_bytes a b))) =
    rw (y.first, y.second, y.linked, y.first_ordered, y.second_ordered) at m.answer in
    record {
      first = y.first;
      second = y.second;
      linked = y.linked;
      first_ordered = y.first_ordered;
      second_ordered = y.second_ordered;
      size = cc;
    }

-- where the length is refused, so is merging, with the same number
pub measured-refused : (a b output : List ℕ) (q : Refusal) → Measures a b (Err q) → Merges a b output (Err q) output
measured-refused a b output q m =
    let no : eqb (first_no (length_questions a b)) 0 ≡ false = rw m.number at (refusal_number-positive q) in
    let asked : first_no (merge_questions a b (length output)) ≡ refusal_number q = first_no-longer (length_questions a b) _ no ∙ sym m.number in
    record { number = sym asked; answer = rw (asked, refusal_number-positive q) (ap Err (sym (refusal_of-number q))); after = rw (asked, refusal_number-positive q) }

module _ (a b output : List ℕ) (n : ℕ) (m : Measured a b n) where
  pub merges-not : length output < n → Merges a b output (Err OutputTooShort) output
  unfolding first_no refusal_of
  merges-not short =
      let no = lt-leb (length (merged_file_bytes a b)) (length output) (omega (arith, m.size)) in
      record {
        number = rw (m.first, m.second, m.linked, m.first_ordered, m.second_ordered, no);
        answer = rw (m.first, m.second, m.linked, m.first_ordered, m.second_ordered, no);
        after = rw (m.first, m.second, m.linked, m.first_ordered, m.second_ordered, no);
      }

  pub merges : n ≤ length output → Merges a b output (Ok n) (patch output 0 (merged_file_bytes a b))
  unfolding first_no
  merges fits =
      let yes = le-leb (length (merged_file_bytes a b)) (length output) (omega (arith, m.size)) in
      record {
        number = rw (m.first, m.second, m.linked, m.first_ordered, m.second_ordered, yes);
        answer = rw (m.first, m.second, m.linked, m.first_ordered, m.second_ordered, yes) (ap Ok m.size);
        after = rw (m.first, m.second, m.linked, m.first_ordered, m.second_ordered, yes);
      }

-- ---- The merged file

sound-woven : (extra most : ℕ) {xs ys zs : List CaptureRecord} → Woven xs ys zs → AllSound extra most xs → AllSound extra most ys → AllSound extra most zs
sound-woven extra most none p q = tt
sound-woven extra most (left w) p q = (p.0, sound-woven extra most w p.1 q)
sound-woven extra most (right w) p q = (q.0, sound-woven extra most w p q.1)

larger-small : (x y n : ℕ) → x < n → y < n → larger x y < n
unfolding larger
larger-small x y n p q = by (ltb x y)
  where
    by : (b : Bool) → cond b y x < n
    by true = q
    by false = p

pub merged_file-sound : (f g : CaptureFile) → SoundFile no_growth f → SoundFile no_growth g → f.link ≡ g.link → SoundFile no_growth (merged_file f g)
unfolding merged_file
merged_file-sound f g p q same =
    let second : AllSound (extra_of f.link) (most_of no_growth f.link) g.records = rw same q.sound in
    record {
      known = p.known;
      sound = sound-woven (extra_of f.link) (most_of no_growth f.link) (merged-woven f.records g.records) p.sound second;
      fits = (p.fits.0, p.fits.1, larger-small f.snap g.snap (256 ^ 4) p.fits.2 q.fits.2, p.fits.3);
    }

-- the bytes of two files that are accepted, and of the merged one, read
module _ (a b : List ℕ) (room : ℕ) (bytes_a : AllBytes a) (bytes_b : AllBytes b) (yes : first_no (merge_questions a b room) ≡ 0) where
  answers : Measured a b (length (merged_file_bytes a b))
  answers = all_yes a b ((leb (length (merged_file_bytes a b)) room, 14) ∷ []) yes

  sound-merged : SoundFile no_growth (merged_file (file_in a) (file_in b))
  unfolding file_in
  sound-merged =
      merged_file-sound (file_in a) (file_in b) (file_in-sound no_growth a bytes_a answers.first) (file_in-sound no_growth b bytes_b answers.second)
      (eqb-true _ _ answers.linked)

  read-merged : file_in (merged_file_bytes a b) ≡ merged_file (file_in a) (file_in b)
  unfolding merged_file_bytes
  read-merged = file_in-layout_file no_growth (merged_file (file_in a) (file_in b)) sound-merged

  records-merged : (file_in (merged_file_bytes a b)).records ≡ merged (file_in a).records (file_in b).records
  unfolding merged_file
  records-merged = ap (λ (f : CaptureFile). f.records) read-merged

  whole-merged : whole_file no_growth (merged_file_bytes a b) ≡ true
  unfolding merged_file_bytes
  whole-merged = whole_file-layout_file no_growth (merged_file (file_in a) (file_in b)) sound-merged

  front-merged : take 16 (merged_file_bytes a b) ≡ take 16 a
  unfolding merged_file_bytes merged_file layout_file file_head
  front-merged = ap (take 16) (layout_file-file_in no_growth a bytes_a answers.first)

  snap-merged : le_field 16 4 (merged_file_bytes a b) ≡ larger (le_field 16 4 a) (le_field 16 4 b)
  unfolding file_in merged_file
  snap-merged = ap (λ (f : CaptureFile). f.snap) read-merged

  link-merged : le_field 20 4 (merged_file_bytes a b) ≡ le_field 20 4 a
  unfolding file_in merged_file
  link-merged = ap (λ (f : CaptureFile). f.link) read-merged

  -- 02, R-13: the merged file
  pub one_of_two : OneOfTwo a b (merged_file_bytes a b)
  one_of_two =
      let first = ordered-tested 0 0 (file_in a).records answers.first_ordered in
      let second = ordered-tested 0 0 (file_in b).records answers.second_ordered in
      record {
        whole = whole-merged;
        front = front-merged;
        snap = snap-merged;
        link = link-merged;
        woven = subst (Woven (file_in a).records (file_in b).records) (sym records-merged) (merged-woven (file_in a).records (file_in b).records);
        ordered = subst Ordered (sym records-merged) (merged-ordered (file_in a).records (file_in b).records first second);
        first_first =
            subst (FirstFirst (file_in a).records (file_in b).records) (sym records-merged) (first-file-first (file_in a).records (file_in b).records first);
      }
