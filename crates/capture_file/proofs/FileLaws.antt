-- A whole file is the layout of one sound file, and of no other. Assumes nothing.
use Prim.Native.Nat.{ℕ, ◌≤◌}
use mathlib.Core.Bool.{Bool, true, false}
use mathlib.Core.Logic.{◌↔◌, ◌⊎◌, inl, inr}
use mathlib.Core.Path.{◌≡◌, refl, sym, ap, ◌∙◌}
use mathlib.Core.List.{List, ◌++◌}
use native.Mathlib.Omega.{arith}
use lib.Dec.{eqb}
use lib.ListN.{length, take, drop, take-append-drop}
use lib.Seq.{take-add}
use borrow.Author.Tests.{leb-true, eqb-true, le-leb}
use Rattle.buffers.specs.LittleEndian.{le_bytes, le_field, AllBytes}
use Rattle.buffers.proofs.LittleEndianLaws.{le_number-le_bytes, le_field-lt, le_bytes-le_field, AllBytes-drop}
use Rattle.capture_file.specs.Records.{layout_all}
use Rattle.capture_file.specs.Reading.{records_in, whole_records}
use Rattle.capture_file.specs.Files.{CaptureFile, SoundFile, magic, link_short, link_long, known_link, extra_of, most_of, file_head, layout_file, file_in, whole_head, whole_file}
use Rattle.capture_file.proofs.LayoutLaws.{both, layout_all-records_in, records_in-layout_all, whole_records-layout_all, records_in-sound}

-- what the tests of a file header say
pub record Headed (l : List ℕ) : Type 0 where
  pub long : 24 ≤ length l
  pub magical : le_field 0 4 l ≡ magic
  pub major : le_field 4 2 l ≡ 2
  pub minor : le_field 6 2 l ≡ 4
  pub known : known_link (le_field 20 4 l) ≡ true

pub head-tests : (l : List ℕ) → whole_head l ≡ true → Headed l
unfolding whole_head
head-tests l h =
    let a = both _ _ h in
    let b = both _ _ a.1 in
    let c = both _ _ b.1 in
    let d = both _ _ c.1 in
    record {
      long = leb-true _ _ a.0;
      magical = eqb-true _ _ b.0;
      major = eqb-true _ _ c.0;
      minor = eqb-true _ _ d.0;
      known = d.1;
    }

-- the two parts of a whole file
pub file-headed : (growth : ℕ) (l : List ℕ) → whole_file growth l ≡ true → Headed l
unfolding whole_file
file-headed growth l h = head-tests l (both _ _ h).0

pub file-records : (growth : ℕ) (l : List ℕ) → whole_file growth l ≡ true
    → whole_records (extra_of (le_field 20 4 l)) (most_of growth (le_field 20 4 l)) (drop 24 l) ≡ true
unfolding whole_file
file-records growth l h = (both (whole_head l) _ h).1

pub length-file_head : (zone accuracy snap link : ℕ) → length (file_head zone accuracy snap link) ≡ 24
unfolding file_head
length-file_head zone accuracy snap link = refl

-- a file without a whole header is not whole
pub headless : (growth : ℕ) (l : List ℕ) → whole_head l ≡ false → whole_file growth l ≡ false
unfolding whole_file
headless growth l h = rw h

-- a known link type is one of two
pub link-cases : (link : ℕ) → known_link link ≡ true → (link ≡ link_short) ⊎ (link ≡ link_long)
unfolding known_link
link-cases link h = by (eqb link link_short) refl
  where
    by : (b : Bool) → eqb link link_short ≡ b → (link ≡ link_short) ⊎ (link ≡ link_long)
    by true e = inl (eqb-true link link_short e)
    by false e = inr (eqb-true link link_long (rw e at h))

-- fields that stand side by side are the bytes from the first to the last
joined : (l : List ℕ) {a b c d e f g : List ℕ} → a ≡ take 4 l → b ≡ take 2 (drop 4 l) → c ≡ take 2 (drop 6 l) → d ≡ take 4 (drop 8 l)
    → e ≡ take 4 (drop 12 l) → f ≡ take 4 (drop 16 l) → g ≡ take 4 (drop 20 l) → a ++ b ++ c ++ d ++ e ++ f ++ g ≡ take 24 l
joined l p q r s t u v =
    rw (p, q, r, s, t, u, v, ← take-add 4 2 l, ← take-add 6 2 l, ← take-add 8 4 l, ← take-add 12 4 l, ← take-add 16 4 l, ← take-add 20 4 l)

module _ (growth : ℕ) (l : List ℕ) (bytes : AllBytes l) (h : whole_file growth l ≡ true) where
  headed : Headed l
  headed = file-headed growth l h

  file_head-read : file_head (le_field 8 4 l) (le_field 12 4 l) (le_field 16 4 l) (le_field 20 4 l) ≡ take 24 l
  unfolding file_head
  file_head-read =
      joined l
      (ap (le_bytes 4) (sym headed.magical) ∙ le_bytes-le_field 0 4 l (omega (arith, headed.long)) bytes)
      (ap (le_bytes 2) (sym headed.major) ∙ le_bytes-le_field 4 2 l (omega (arith, headed.long)) bytes)
      (ap (le_bytes 2) (sym headed.minor) ∙ le_bytes-le_field 6 2 l (omega (arith, headed.long)) bytes)
      (le_bytes-le_field 8 4 l (omega (arith, headed.long)) bytes)
      (le_bytes-le_field 12 4 l (omega (arith, headed.long)) bytes)
      (le_bytes-le_field 16 4 l (omega (arith, headed.long)) bytes)
      (le_bytes-le_field 20 4 l (omega (arith, headed.long)) bytes)

  pub layout_file-file_in : layout_file (file_in l) ≡ l
  unfolding layout_file file_in
  layout_file-file_in =
      ap (λ (m : List ℕ). m ++ layout_all (records_in (extra_of (le_field 20 4 l)) (drop 24 l))) file_head-read
      ∙ ap (λ (m : List ℕ). take 24 l ++ m) (layout_all-records_in _ (most_of growth (le_field 20 4 l)) (drop 24 l) (AllBytes-drop 24 l bytes) (file-records growth l h))
      ∙ take-append-drop 24 l

  pub file_in-sound : SoundFile growth (file_in l)
  unfolding file_in
  file_in-sound = record {
    known = headed.known;
    sound = records_in-sound (extra_of (le_field 20 4 l)) (most_of growth (le_field 20 4 l)) (drop 24 l) (AllBytes-drop 24 l bytes) (file-records growth l h);
    fits = (
      le_field-lt 8 4 l (omega (arith, headed.long)) bytes,
      le_field-lt 12 4 l (omega (arith, headed.long)) bytes,
      le_field-lt 16 4 l (omega (arith, headed.long)) bytes,
      le_field-lt 20 4 l (omega (arith, headed.long)) bytes,
    );
  }

module _ (growth : ℕ) (f : CaptureFile) (s : SoundFile growth f) where
  link_read : le_field 20 4 (layout_file f) ≡ f.link
  unfolding layout_file file_head
  link_read = le_number-le_bytes 4 f.link s.fits.3

  pub file_in-layout_file : file_in (layout_file f) ≡ f
  unfolding file_in layout_file file_head
  file_in-layout_file =
      let records : records_in (extra_of (le_field 20 4 (layout_file f))) (layout_all f.records) ≡ f.records =
      ap (λ (t : ℕ). records_in (extra_of t) (layout_all f.records)) link_read
      ∙ records_in-layout_all (extra_of f.link) (most_of growth f.link) f.records s.sound in
      λ i. record {
        zone = le_number-le_bytes 4 f.zone s.fits.0 i;
        accuracy = le_number-le_bytes 4 f.accuracy s.fits.1 i;
        snap = le_number-le_bytes 4 f.snap s.fits.2 i;
        link = link_read i;
        records = records i;
      }

  pub whole_file-layout_file : whole_file growth (layout_file f) ≡ true
  unfolding whole_file whole_head layout_file file_head
  whole_file-layout_file =
      let long : 24 ≤ length (layout_file f) = omega arith in
      rw (link_read, s.known, whole_records-layout_all (extra_of f.link) (most_of growth f.link) f.records s.sound, le-leb _ _ long)

-- 02, R-12 and R-13: the check accepts exactly the bytes of sound files, each the bytes of one file only
module _ (growth : ℕ) (l : List ℕ) (bytes : AllBytes l) where
  pub whole-iff-laid : (whole_file growth l ≡ true) ↔ ((f : CaptureFile) × SoundFile growth f × (l ≡ layout_file f))
  whole-iff-laid = (
    λ h. (file_in l, file_in-sound growth l bytes h, sym (layout_file-file_in growth l bytes h)),
    λ laid. ap (whole_file growth) laid.2 ∙ whole_file-layout_file growth laid.0 laid.1,
  )

  pub laid-once : (f : CaptureFile) → SoundFile growth f → l ≡ layout_file f → file_in l ≡ f
  laid-once f s h = ap file_in h ∙ file_in-layout_file growth f s
