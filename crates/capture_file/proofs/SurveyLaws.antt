-- One pass over the records of a file: what the rest gives from here on, with what was found so far, is what the whole gives. Assumes nothing.
use Prim.Native.Nat.{ℕ, zero, suc, ◌+◌, ◌*◌, ◌≤◌, ◌<◌}
use mathlib.Core.Bool.{Bool, true, false, not, ◌&&◌}
use mathlib.Core.Path.{◌≡◌, refl, sym, ap, ◌∙◌}
use mathlib.Core.List.{List, [], ◌∷◌, map}
use native.Mathlib.Omega.{arith}
use lib.Dec.{eqb}
use lib.ListN.{length, take, drop, get_or, length-drop}
use lib.Seq.{get_or-take, get_or-drop}
use Rattle.buffers.specs.LittleEndian.{le_field}
use Rattle.capture_file.specs.declared.Survey.{Survey}
use Rattle.capture_file.specs.Reading.{captured_at, from_each, record_at, records_in, whole_record, whole_records, every}
use Rattle.capture_file.specs.Files.{extra_of, most_of, file_in, whole_head, whole_file}
use Rattle.capture_file.specs.Times.{before, ordered_from}
use Rattle.std.proofs.Common.{Option, Some, None}
use Rattle.capture_file.specs.Survey.{convertible, found, survey_of, file_survey}
use Rattle.capture_file.proofs.ReadingLaws.{records_in-none, records_in-next, whole_records-none, whole_records-next}
use Rattle.capture_file.proofs.LayoutLaws.{both, Whole, whole-tests}
use Rattle.capture_file.proofs.FileLaws.{file-headed, file-records}

-- may the record that l starts with be converted?
pub convertible-here : (extra : ℕ) (l : List ℕ)
    → convertible (record_at extra l) ≡ (not (eqb (get_or l 25 0) 0) && every (eqb 0) (take extra (drop 64 l)))
unfolding convertible record_at
convertible-here extra l = rw (get_or-take 48 (drop 16 l) 9 0 (omega arith), get_or-drop 16 l 9 0)

and_assoc : (a b c : Bool) → ((a && b) && c) ≡ (a && (b && c))
and_assoc true b c = refl
and_assoc false b c = refl

-- so far `count` records were passed, all of them whole, and `rest` is left; `so` says whether all of them can be converted, and `up` whether their times do not
-- go backwards; the last time is (s, m)
pub record Surveying (extra most : ℕ) (l rest : List ℕ) (count : ℕ) (so up : Bool) (s m : ℕ) : Type 0 where
  pub few : count + length rest ≤ length l
  pub whole : whole_records extra most rest ≡ whole_records extra most l
  pub plain : (so && every convertible (records_in extra rest)) ≡ every convertible (records_in extra l)
  pub sorted : (up && ordered_from s m (records_in extra rest)) ≡ ordered_from 0 0 (records_in extra l)
  pub counted : count + length (records_in extra rest) ≡ length (records_in extra l)

module _ {extra most : ℕ} {l rest : List ℕ} {count : ℕ} {so up : Bool} {s m : ℕ} (w : Surveying extra most l rest count so up s m) (h : 0 < length rest) where
  -- a record that is not whole ends the pass
  pub survey-broken : whole_record extra most rest ≡ false → None ≡ survey_of extra most l
  unfolding survey_of
  survey-broken broken = rw (← w.whole, whole_records-next extra most rest h, broken)

  module _ (passes : whole_record extra most rest ≡ true) where
    here : Whole extra most rest
    here = whole-tests extra most rest passes

    pub survey-step : {i t n : ℕ} {so' up' : Bool} → i ≡ 16 + captured_at rest → so' ≡ (so && convertible (record_at extra rest))
        → up' ≡ (up && not (before (le_field 0 4 rest) (le_field 4 4 rest) s m)) → t ≡ le_field 0 4 rest → n ≡ le_field 4 4 rest
        → Surveying extra most l (drop i rest) (count + 1) so' up' t n
    unfolding record_at
    survey-step passed plain sorted seconds microseconds =
        let split = records_in-next extra rest h in
        rw (passed, plain, sorted, seconds, microseconds)
        (record {
          few = omega (arith, w.few, here.complete, length-drop (16 + captured_at rest) rest);
          whole = sym (whole_records-next extra most rest h ∙ rw passes) ∙ w.whole;
          plain =
              and_assoc so (convertible (record_at extra rest)) _
              ∙ ap (λ (b : Bool). so && b) (sym (ap (every convertible) split))
              ∙ w.plain;
          sorted =
              and_assoc up (not (before (le_field 0 4 rest) (le_field 4 4 rest) s m)) _
              ∙ ap (λ (b : Bool). up && b) (sym (ap (ordered_from s m) split))
              ∙ w.sorted;
          counted = omega (arith, w.counted, ap length split);
        })

empty : (l : List ℕ) → length l ≡ 0 → l ≡ []
empty [] h = refl
empty (b ∷ bs) h = absurd (omega arith)

-- at the end nothing is left
pub survey-ends : {extra most : ℕ} {l rest : List ℕ} {count : ℕ} {so up : Bool} {s m : ℕ} → Surveying extra most l rest count so up s m → length rest ≡ 0
    → ◌≡◌ {A = Option Survey} (Some (record { convertible = so; ordered = up; records = count })) (survey_of extra most l)
unfolding survey_of found
survey-ends {extra} {most} {l} {rest} {count} {so} {up} w h =
    let none : rest ≡ [] = empty rest h in
    let whole : whole_records extra most l ≡ true = sym w.whole ∙ rw none (whole_records-none extra most) in
    let left : records_in extra rest ≡ [] = rw none (records_in-none extra) in
    let plain : so ≡ every convertible (records_in extra l) = and-true so ∙ rw left at w.plain in
    let sorted : up ≡ ordered_from 0 0 (records_in extra l) = and-true up ∙ rw left at w.sorted in
    let counted : count ≡ length (records_in extra l) = omega (arith, w.counted, ap length left) in
    rw whole (λ i. Some (record { convertible = plain i; ordered = sorted i; records = counted i }))
  where
    and-true : (a : Bool) → a ≡ (a && true)
    and-true true = refl
    and-true false = refl

-- ---- A file

-- its header, and then its records
pub survey-headless : (growth : ℕ) (l : List ℕ) → whole_head l ≡ false → None ≡ file_survey growth l
unfolding file_survey whole_file
survey-headless growth l h = rw h

pub survey-headed : (growth : ℕ) (l : List ℕ) → whole_head l ≡ true
    → survey_of (extra_of (le_field 20 4 l)) (most_of growth (le_field 20 4 l)) (drop 24 l) ≡ file_survey growth l
unfolding file_survey whole_file survey_of file_in
survey-headed growth l h = rw h

-- nothing is found of a file that is not whole
pub survey-none : (growth : ℕ) (l : List ℕ) → None ≡ file_survey growth l → whole_file growth l ≡ false
unfolding file_survey
survey-none growth l h = by (whole_file growth l) refl
  where
    by : (b : Bool) → whole_file growth l ≡ b → whole_file growth l ≡ false
    by true e = absurd (cc (rw e at h))
    by false e = e

-- and of a whole one, what its records give
pub record Surveyed (growth : ℕ) (l : List ℕ) (s : Survey) : Type 0 where
  pub whole : whole_file growth l ≡ true
  pub convertible : s.convertible ≡ every convertible (file_in l).records
  pub ordered : s.ordered ≡ ordered_from 0 0 (file_in l).records
  pub count : s.records ≡ length (file_in l).records

pub survey-some : (growth : ℕ) (l : List ℕ) (s : Survey) → Some s ≡ file_survey growth l → Surveyed growth l s
unfolding file_survey found
survey-some growth l s h = by (whole_file growth l) refl
  where
    by : (b : Bool) → whole_file growth l ≡ b → Surveyed growth l s
    by true e =
        let same : s ≡ found (file_in l).records = cc (rw e at h) in
        record { whole = e; convertible = ap (λ (v : Survey). v.convertible) same; ordered = ap (λ (v : Survey). v.ordered) same; count = ap (λ (v : Survey). v.records) same }
    by false e = absurd (cc (rw e at h))

-- whole records are at least 64 bytes each; the first k bytes belong to a record passed already
few-from_each : (extra most k : ℕ) (l : List ℕ) → k ≤ length l → every (whole_record extra most) (from_each k l) ≡ true
    → k + 64 * length (map (record_at extra) (from_each k l)) ≤ length l
unfolding from_each
few-from_each extra most zero [] h e = omega arith
few-from_each extra most (suc k) [] h e = absurd (omega arith)
few-from_each extra most zero (b ∷ bs) h e =
    let t = both _ _ e in
    let w = whole-tests extra most (b ∷ bs) t.0 in
    omega (arith, w.complete, w.sum, few-from_each extra most (15 + captured_at (b ∷ bs)) bs (omega (arith, w.complete)) t.1)
few-from_each extra most (suc k) (b ∷ bs) h e = omega (arith, few-from_each extra most k bs (omega arith) e)

pub few-records : (growth : ℕ) (l : List ℕ) → whole_file growth l ≡ true → 24 + 64 * length (file_in l).records ≤ length l
unfolding file_in records_in whole_records
few-records growth l h =
    let long = (file-headed growth l h).long in
    omega (
      arith,
      length-drop 24 l,
      few-from_each (extra_of (le_field 20 4 l)) (most_of growth (le_field 20 4 l)) 0 (drop 24 l) (omega arith) (file-records growth l h),
    )
