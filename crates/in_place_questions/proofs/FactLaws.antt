-- What of the TRBs held the questions depend on. Assumes nothing.
use Rattle.std.specs.Prelude.{Option}
use Prim.Native.Nat.{ℕ, zero, suc, ◌<◌, ◌≤◌, min}
use mathlib.Core.Path.{◌≡◌, refl, sym, ap, ◌∙◌}
use mathlib.Core.Bool.{Bool, true, false, not, ◌&&◌, ◌||◌, true≢false}
use mathlib.Core.List.{List}
use native.Mathlib.Omega.{arith}
use lib.Dec.{eqb, leb}
use mir.Val.{bool_byte}
use lib.ListN.{take, drop, get_or}
use borrow.Author.Tests.{eqb-true, eqb-false, ne_eqb, le-leb}
use Rattle.buffers.specs.LittleEndian.{le_field}
use Rattle.trb.specs.Ids.{ids_in_range}
use Rattle.trb.specs.Limits.{max_held}
use Rattle.trb.specs.declared.InTrbProcessingStatus.{InTrbProcessingStatus}
use Rattle.trb.specs.declared.TdBasedNormalSubmissionState.{TdBasedNormalSubmissionState}
use Rattle.trb.specs.declared.TransferTrb.{TransferTrb}
use Rattle.held.specs.Sound.{held_sound}
use Rattle.held.specs.declared.EndpointKind.TheVariants.{In}
use Rattle.held.proofs.TestedLaws.{places-held}
use Rattle.guest_memory.specs.declared.Regions.{Regions}
use Rattle.in_td.specs.Td.{normals}
use Rattle.in_block.specs.Facts.{awaits_device, facts_of, sound_block}
use Rattle.in_block.specs.declared.BlockFacts.{BlockFacts}
use Rattle.in_questions.specs.Questions.{submission_questions, completion_questions}
use Rattle.held_bytes.proofs.PlaceLaws.{take-places_of}
use Rattle.in_bytes.specs.Layout.{head_length, endpoint_of, slot_of, held_count, state_of, places, block_of}
use Rattle.in_bytes.proofs.HeldLaws.{sound-places, length-places}
use Rattle.in_place_questions.specs.Lent.{SameFacts, SoundIn}

-- ---- The questions depend on soundness, the state and the number held

module _ (f g : BlockFacts) (same : SameFacts f g) where
  pub submission-same : (l : ℕ) (t : TransferTrb) (regions : Regions) → submission_questions l f t regions ≡ submission_questions l g t regions
  unfolding submission_questions
  submission-same l t regions = rw (same.sound, same.state, same.held)

  pub completion-same : (l : ℕ) (r : Option InTrbProcessingStatus) (n : ℕ) → completion_questions l f r n ≡ completion_questions l g r n
  unfolding completion_questions
  completion-same l r n = rw (same.sound, same.state)

-- ---- What is counted is 0 where there is none

pub zero-least : (n : ℕ) → eqb (min n max_held) 0 ≡ eqb n 0
zero-least n = by_zero (eqb n 0) refl
  where
    by_zero : (b : Bool) → eqb n 0 ≡ b → eqb (min n max_held) 0 ≡ b
    by_zero true e = let z = eqb-true n 0 e in rw z refl
    by_zero false e = let nz = eqb-false n 0 e in ne_eqb (min n max_held) 0 (λ z. nz (omega arith))

-- whether there is one, as a count
pub none-counted : (some none : Bool) → some ≡ not none → eqb (bool_byte some) 0 ≡ none
none-counted true true e = absurd (true≢false e)
none-counted true false e = refl
none-counted false true e = refl
none-counted false false e = absurd (true≢false (sym e))

-- ---- Of the TRBs in the places

-- soundness, once it was looked whether a block that awaits the device has a Normal: every place is sound
sound-by : (ids few waits : Bool) (x y : Bool) → (waits ≡ true → x ≡ y)
    → (ids && (few && (true && (not waits || not x)))) ≡ (ids && (few && (true && (not waits || not y))))
sound-by ids few true x y e = ap (λ (b : Bool). ids && (few && (true && (false || not b)))) (e refl)
sound-by ids few false x y e = refl

pub same-facts : (b : List ℕ) (st : TdBasedNormalSubmissionState) (held k : ℕ) → st ≡ (block_of b).state → held ≡ held_count b
    → (awaits_device st ≡ true → eqb k 0 ≡ eqb (normals (take (held_count b) (places b))) 0)
    → SameFacts (record { endpoint_id = endpoint_of b; slot_id = slot_of b; state = st; held = held; found = record { sound = true; normals = k } }) (facts_of (block_of b))
unfolding block_of sound_block
same-facts b st held k es eh seen =
    let p : ℕ = min held max_held in
    let ts : List TransferTrb = take held (places b) in
    let kept : take p (places b) ≡ ts = places-held (places b) held p (length-places b) refl in
    let sound : true ≡ held_sound In ts =
    sym (ap (λ (xs : List TransferTrb). held_sound In xs) (sym kept ∙ take-places_of In p max_held (drop head_length b) (omega arith)) ∙ sound-places p (drop head_length b)) in
    let zero : awaits_device st ≡ true → eqb k 0 ≡ eqb (min (normals ts) max_held) 0 =
    λ w. seen w ∙ ap (λ (n : ℕ). eqb (normals (take n (places b))) 0) (sym eh) ∙ sym (zero-least (normals ts)) in
    let first = sound-by (ids_in_range (endpoint_of b) (slot_of b)) (leb held max_held) (awaits_device st) (eqb k 0) (eqb (min (normals ts) max_held) 0) zero in
    let over : (n : ℕ) (x : TdBasedNormalSubmissionState) (s : Bool) → Bool =
    λ n x s. ids_in_range (endpoint_of b) (slot_of b) && (leb n max_held && (s && (not (awaits_device x) || not (eqb (min (normals (take n (places b))) max_held) 0)))) in
    record {
      sound = first ∙ ap (λ (s : Bool). over held st s) sound ∙ (λ j. over (eh j) (es j) (held_sound In (take (eh j) (places b))));
      state = es;
      held = eh;
    }

-- ---- Of a block that awaits no device

-- a submission is due, or a TD is collected
not-awaited : (n a : ℕ) → n < 2 → awaits_device (state_of n a) ≡ false
not-awaited zero a h = refl
not-awaited (suc zero) a h = refl
not-awaited (suc (suc n)) a h = absurd (omega (arith, h))

pub sound-in : (b : List ℕ) (n : ℕ) → get_or b 6 0 ≡ n → n < 2 → held_count b ≤ max_held → ids_in_range (endpoint_of b) (slot_of b) ≡ true → SoundIn n b
unfolding block_of sound_block
sound-in b n e known few ids =
    let st : TdBasedNormalSubmissionState = state_of (get_or b 6 0) (le_field 8 8 b) in
    let waits : awaits_device st ≡ false = ap (λ (k : ℕ). awaits_device (state_of k (le_field 8 8 b))) e ∙ not-awaited n (le_field 8 8 b) known in
    let same = same-facts b st (held_count b) 0 refl refl (λ w. absurd (true≢false (sym w ∙ waits))) in
    record { sound = sym same.sound ∙ rw (ids, le-leb (held_count b) max_held few, waits) refl; state = e }
