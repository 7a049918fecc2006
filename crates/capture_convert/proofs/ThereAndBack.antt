-- Converting there and back restores the file, byte for byte: a record that can be converted is the same again, its lengths too. And only what 02 names
-- changes: the converted bytes, read, are the records as they were but for that. Assumes nothing.
use Prim.Native.Nat.{ℕ, zero, suc, ◌+◌, ◌-◌, ◌≤◌, ◌<◌}
use mathlib.Core.Bool.{true, not}
use mathlib.Core.Logic.{⊎_elim}
use mathlib.Core.Path.{◌≡◌, refl, sym, ap, subst, ◌∙◌}
use mathlib.Core.List.{List, [], ◌∷◌, map}
use native.Mathlib.Omega.{arith}
use lib.Dec.{eqb}
use lib.ListN.{length, take, get_or, replicate, length-replicate}
use borrow.Author.Tests.{eqb-true, le-leb}
use Rattle.trb.specs.Questions.{first_no}
use Rattle.buffers.specs.LittleEndian.{le_field, AllBytes}
use Rattle.capture_file.specs.Records.{CaptureRecord, Sound, AllSound}
use Rattle.capture_file.specs.Reading.{every}
use Rattle.capture_file.specs.Survey.{convertible}
use Rattle.capture_file.specs.Files.{CaptureFile, SoundFile, known_link, extra_of, most_of, file_head, layout_file, file_in, whole_file}
use Rattle.capture_file.proofs.LayoutLaws.{both}
use Rattle.capture_file.proofs.FileLaws.{link-cases, file_in-sound, file_in-layout_file, layout_file-file_in, whole_file-layout_file}
use Rattle.capture_convert.specs.Converting.{resized, added_length, other_link, converted, converted_bytes, convert_questions}
use Rattle.capture_convert.specs.Changes.{AllMoved, OnlyNamed}
use Rattle.capture_convert.proofs.ConvertingLaws.{Accepted, accepted}

zeros : (l : List ℕ) → every (eqb 0) l ≡ true → replicate (length l) 0 ≡ l
zeros [] h = refl
zeros (x ∷ l) h =
    let b = both (eqb 0 x) (every (eqb 0) l) h in
    λ i. eqb-true 0 x b.0 i ∷ zeros l b.1 i

zero-replicate : (n : ℕ) → every (eqb 0) (replicate n 0) ≡ true
zero-replicate zero = refl
zero-replicate (suc n) = zero-replicate n

-- one record
module _ {from most : ℕ} (to : ℕ) (r : CaptureRecord) (s : Sound from most r) (h : convertible r ≡ true) where
  pub resized-back : resized from (resized to r) ≡ r
  unfolding convertible
  resized-back =
      let zero : replicate from 0 ≡ r.added =
      ap (λ (n : ℕ). replicate n 0) (sym s.extras) ∙ zeros r.added (both (not (eqb (get_or r.link 9 0) 0)) _ h).1 in
      let back : r.original + to - length r.added + from - length (replicate {A = ℕ} to 0) ≡ r.original =
      omega (arith, s.extras, s.whole, length-replicate {A = ℕ} to 0) in
      λ i. record {
        seconds = r.seconds;
        microseconds = r.microseconds;
        original = back i;
        link = r.link;
        added = zero i;
        payload = r.payload;
      }

  resized-sound : (limit : ℕ) → most + to ≤ limit + from → limit < 4294967296 → Sound to limit (resized to r)
  resized-sound limit fits small =
      let zero = length-replicate {A = ℕ} to 0 in
      record {
        header = s.header;
        extras = zero;
        delivered = s.delivered;
        whole = omega (arith, s.whole, s.extras, zero);
        limited = omega (arith, s.limited, s.extras, s.whole, fits);
        fits = (s.fits.0, s.fits.1, omega (arith, s.limited, s.extras, s.whole, fits, small));
      }

  resized-convertible : convertible (resized to r) ≡ true
  unfolding convertible
  resized-convertible = rw ((both (not (eqb (get_or r.link 9 0) 0)) _ h).0, zero-replicate to)

-- all records
module _ (from most to limit : ℕ) (fits : most + to ≤ limit + from) (small : limit < 4294967296) where
  all_back : (rs : List CaptureRecord) → AllSound from most rs → every convertible rs ≡ true → map (resized from) (map (resized to) rs) ≡ rs
  all_back [] s h = refl
  all_back (r ∷ rs) s h =
      let b = both (convertible r) (every convertible rs) h in
      λ i. resized-back to r s.0 b.0 i ∷ all_back rs s.1 b.1 i

  all_sound : (rs : List CaptureRecord) → AllSound from most rs → every convertible rs ≡ true → AllSound to limit (map (resized to) rs)
  all_sound [] s h = tt
  all_sound (r ∷ rs) s h =
      let b = both (convertible r) (every convertible rs) h in (resized-sound to r s.0 b.0 limit fits small, all_sound rs s.1 b.1)

  all-convertible : (rs : List CaptureRecord) → AllSound from most rs → every convertible rs ≡ true → every convertible (map (resized to) rs) ≡ true
  all-convertible [] s h = refl
  all-convertible (r ∷ rs) s h =
      let b = both (convertible r) (every convertible rs) h in
      rw (resized-convertible to r s.0 b.0) (all-convertible rs s.1 b.1)

-- what changes of each
all_moved : (from most to : ℕ) (rs : List CaptureRecord) → AllSound from most rs → AllMoved from to rs (map (resized to) rs)
all_moved from most to [] s = tt
all_moved from most to (r ∷ rs) s = (
  record {
    seconds = refl;
    microseconds = refl;
    link = refl;
    payload = refl;
    zeros = refl;
    captured_moves = omega (arith, s.0.extras, length-replicate {A = ℕ} to 0);
    original_moves = omega (arith, s.0.extras, s.0.whole);
  },
  all_moved from most to rs s.1,
)

-- the link types
other-other : (link : ℕ) → known_link link ≡ true → other_link (other_link link) ≡ link
unfolding other_link
other-other link h = ⊎_elim (λ e. rw e) (λ e. rw e) (link-cases link h)

other-known : (link : ℕ) → known_link link ≡ true → known_link (other_link link) ≡ true
unfolding other_link known_link
other-known link h = ⊎_elim (λ e. rw e) (λ e. rw e) (link-cases link h)

other-small : (link : ℕ) → known_link link ≡ true → other_link link < 4294967296
unfolding other_link
other-small link h = ⊎_elim (λ e. rw e (omega arith)) (λ e. rw e (omega arith)) (link-cases link h)

most-small : (link : ℕ) → most_of added_length link < 4294967296
unfolding most_of
most-small link = omega arith

most-moves : (link : ℕ) → known_link link ≡ true → most_of added_length link + extra_of (other_link link) ≤ most_of added_length (other_link link) + extra_of link
unfolding most_of extra_of other_link
most-moves link h = ⊎_elim (λ e. rw e (omega arith)) (λ e. rw e (omega arith)) (link-cases link h)

-- a file
module _ (f : CaptureFile) (s : SoundFile added_length f) (h : every convertible f.records ≡ true) where
  pub converted-converted : converted (converted f) ≡ f
  unfolding converted
  converted-converted =
      let link = other-other f.link s.known in
      let back : map (resized (extra_of (other_link (other_link f.link)))) (map (resized (extra_of (other_link f.link))) f.records) ≡ f.records =
      ap (λ (t : ℕ). map (resized (extra_of t)) (map (resized (extra_of (other_link f.link))) f.records)) link
      ∙ all_back (extra_of f.link) (most_of added_length f.link) (extra_of (other_link f.link)) (most_of added_length (other_link f.link)) (most-moves f.link s.known) (most-small (other_link f.link)) f.records s.sound h in
      λ i. record { zone = f.zone; accuracy = f.accuracy; snap = f.snap; link = link i; records = back i }

  pub converted-sound : SoundFile added_length (converted f)
  unfolding converted
  converted-sound = record {
    known = other-known f.link s.known;
    sound = all_sound (extra_of f.link) (most_of added_length f.link) (extra_of (other_link f.link)) (most_of added_length (other_link f.link)) (most-moves f.link s.known) (most-small (other_link f.link)) f.records s.sound h;
    fits = (s.fits.0, s.fits.1, s.fits.2, other-small f.link s.known);
  }

  pub converted-convertible : every convertible (converted f).records ≡ true
  unfolding converted
  converted-convertible =
      all-convertible (extra_of f.link) (most_of added_length f.link) (extra_of (other_link f.link)) (most_of added_length (other_link f.link)) (most-moves f.link s.known) (most-small (other_link f.link)) f.records s.sound h

-- the bytes of a file that is accepted, and of the converted one, read
module _ (l : List ℕ) (room : ℕ) (bytes : AllBytes l) (none : first_no (convert_questions l room) ≡ 0) where
  yes : Accepted l room
  yes = accepted l room none

  sound : SoundFile added_length (file_in l)
  sound = file_in-sound added_length l bytes yes.whole

  sound-again : SoundFile added_length (converted (file_in l))
  sound-again = converted-sound (file_in l) sound yes.plain

  read_again : file_in (converted_bytes l) ≡ converted (file_in l)
  unfolding converted_bytes
  read_again = file_in-layout_file added_length (converted (file_in l)) sound-again

  restored : converted_bytes (converted_bytes l) ≡ l
  unfolding converted_bytes
  restored =
      ap (λ (f : CaptureFile). layout_file (converted f)) read_again
      ∙ ap layout_file (converted-converted (file_in l) sound yes.plain)
      ∙ layout_file-file_in added_length l bytes yes.whole

  whole_again : whole_file added_length (converted_bytes l) ≡ true
  unfolding converted_bytes
  whole_again = whole_file-layout_file added_length (converted (file_in l)) sound-again

  plain-again : every convertible (file_in (converted_bytes l)).records ≡ true
  plain-again = ap (λ (f : CaptureFile). every convertible f.records) read_again ∙ converted-convertible (file_in l) sound yes.plain

  -- 02, R-12: the converted file is accepted, and converting it restores the file exactly
  pub there_and_back : (first_no (convert_questions (converted_bytes l) (length l)) ≡ 0) × (converted_bytes (converted_bytes l) ≡ l)
  unfolding first_no
  there_and_back =
      let fits = le-leb (length (converted_bytes (converted_bytes l))) (length l) (omega (arith, ap length restored)) in
      (rw (whole_again, plain-again, fits), restored)

  front_same : take 20 (converted_bytes l) ≡ take 20 l
  unfolding converted_bytes converted layout_file file_head
  front_same = ap (take 20) (layout_file-file_in added_length l bytes yes.whole)

  link-read : le_field 20 4 (converted_bytes l) ≡ other_link (le_field 20 4 l)
  unfolding file_in converted
  link-read = ap (λ (f : CaptureFile). f.link) read_again

  moved : AllMoved (extra_of (le_field 20 4 l)) (extra_of (other_link (le_field 20 4 l))) (file_in l).records (file_in (converted_bytes l)).records
  unfolding file_in converted
  moved =
      subst (λ (f : CaptureFile). AllMoved (extra_of (le_field 20 4 l)) (extra_of (other_link (le_field 20 4 l))) (file_in l).records f.records)
      (sym read_again) (all_moved _ (most_of added_length (le_field 20 4 l)) _ (file_in l).records sound.sound)

  -- 02, R-12: beyond the added fields, only the link type and, by 16, the two lengths change
  pub only-named-changes : OnlyNamed l (converted_bytes l)
  only-named-changes = record { front = front_same; linked = link-read; records = moved }
