-- A Normal with chain on, at which no question says no. Assumes nothing.
use Rattle.std.specs.Prelude.{Ok}
use Prim.Native.Nat.{ℕ, ◌<◌, ◌≤◌}
use mathlib.Core.Path.{◌≡◌, refl, sym, ap, ◌∙◌}
use mathlib.Core.Bool.{true, false}
use mathlib.Core.List.{List}
use borrow.Author.Tests.{le-leb}
use Rattle.trb.specs.Limits.{max_held, max_transfer_length, min_log}
use Rattle.trb.specs.Questions.{first_no}
use Rattle.trb.specs.Trbs.{transfer_length}
use Rattle.trb.specs.declared.TdBasedNormalSubmissionState.TheVariants.{SubmissionDue, CollectingTd}
use Rattle.trb.specs.declared.TransferTrb.{TransferTrb}
use Rattle.trb.specs.declared.TransferTrbVariant.{TransferTrbVariant}
use Rattle.trb.specs.declared.TransferTrbVariant.TheVariants.{Normal}
use Rattle.buffers.specs.LittleEndian.{le_field}
use Rattle.call_log.proofs.LogLaws.{logged_none}
use Rattle.held.specs.Sound.{supported}
use Rattle.held.specs.declared.EndpointKind.TheVariants.{In}
use Rattle.guest_memory.specs.Regions.{share_an_address}
use Rattle.guest_memory.specs.declared.Regions.{Regions}
use Rattle.in_block.specs.Blocks.{held_of, with_state, stored}
use Rattle.in_block.specs.Facts.{held_test, facts_of}
use Rattle.in_block.specs.Outcomes.{outcome_of}
use Rattle.in_block.specs.declared.HeldTest.{HeldTest}
use Rattle.in_block.specs.declared.Outcome.TheVariants.{Collect}
use Rattle.in_questions.specs.Questions.{trb_questions, submission_questions}
use Rattle.in_questions.proofs.PassedLaws.{passed-submission}
use Rattle.in_endpoint.proofs.SubmissionLaws.{supported-held}
use Rattle.raw_trb.specs.Layouts.{normal_type}
use Rattle.held_bytes.specs.Numbers.{chain_on, cycle_on, normal_of, variant_of, trb_of}
use Rattle.held_bytes.specs.declared.TrbNumbers.{TrbNumbers}
use Rattle.answer_numbers.specs.Numbers.{answered_as}
use Rattle.answer_numbers.specs.declared.Answered.{Answered}
use Rattle.in_numbers.proofs.OutcomeLaws.{outcome-normal}
use Rattle.in_bytes.specs.Layout.{held_count, state_of, block_of}
use Rattle.in_place_store.specs.Becomes.{Becomes}
use Rattle.in_place_questions.specs.Lent.{SoundIn}
use Rattle.in_place_submission.specs.Submission.{Collected, SubmitsInPlace}
use Rattle.in_place_submission.proofs.SubmissionLaws.{submits-accepted}

module _ (b : List ℕ) (k : ℕ) (n : TrbNumbers) (regions : Regions) (kind : n.kind ≡ normal_type) where
  abbrev normal : TransferTrbVariant
  normal = Normal (normal_of n.flags n.value n.transfer_length)

  is_normal : (trb_of n).variant ≡ normal
  unfolding variant_of
  is_normal = rw kind

  pub collected : chain_on n.flags ≡ true → SoundIn 0 b → min_log ≤ k → share_an_address regions ≡ false → first_no (trb_questions (held_count b) normal regions) ≡ 0
      → Collected k b (trb_of n) regions
  unfolding block_of submission_questions first_no
  collected chain in-state long apart asked =
      let due : (block_of b).state ≡ SubmissionDue = ap (λ (x : ℕ). state_of x (le_field 8 8 b)) in-state.state in
      let found : HeldTest = held_test (held_of (block_of b)) in
      record {
        asked = rw (le-leb min_log k long, apart, in-state.sound, due) (ap (λ (v : TransferTrbVariant). first_no (trb_questions (held_count b) v regions)) is_normal ∙ asked);
        outcome = ap (λ (v : TransferTrbVariant). outcome_of found (record { variant = v; addr = n.addr; cycle_bit = cycle_on n.flags })) is_normal
            ∙ outcome-normal found n.flags n.value n.transfer_length n.addr (cycle_on n.flags) ∙ rw chain;
      }

module _ (b : List ℕ) (t : TransferTrb) (regions : Regions) where
  -- it has a place
  pub collected-fits : (k : ℕ) → Collected k b t regions → (held_count b < max_held) × ((transfer_length t.variant ≤ max_transfer_length) × (supported In t.variant ≡ true))
  unfolding block_of
  collected-fits k c =
      let passed = passed-submission k (facts_of (block_of b)) t regions c.asked in
      let kind = supported-held (held_test (held_of (block_of b))) t Collect c.outcome refl in
      (passed.room kind, (passed.short, kind))

  -- it is held, and nothing is logged
  pub submits-collected : (k : ℕ) (l : List ℕ) {r : Answered} {b' : List ℕ} → Collected k b t regions → r ≡ answered_as (Ok tt) 0
      → Becomes b (with_state (stored (block_of b) t) CollectingTd) b' → SubmitsInPlace k t regions l b r l b'
  submits-collected k l c er changed = submits-accepted k t regions l b (Ok tt) (sym c.asked) refl Collect c.outcome er changed refl (sym (logged_none l 0)) tt
