-- What follows for a TRB that no question refuses. Assumes nothing.
use Prim.Native.Nat.{ℕ, ◌-◌, ◌≤◌}
use mathlib.Core.Path.{◌≡◌, refl, sym, ap, ◌∙◌}
use mathlib.Core.Bool.{Bool, true, false, not, cond}
use mathlib.Core.List.{List}
use native.Mathlib.Omega.{arith}
use lib.Dec.{leb}
use lib.ListN.{length}
use borrow.Author.Tests.{leb-true}
use Rattle.trb.specs.Limits.{max_transfer_length}
use Rattle.trb.specs.Questions.{first_no}
use Rattle.trb.specs.Trbs.{transfer_length}
use Rattle.trb.proofs.QuestionLaws.{yes-first, yes-behind}
use Rattle.trb.specs.declared.ControlTransferState.{ControlTransferState}
use Rattle.trb.specs.declared.TransferTrb.{TransferTrb}
use Rattle.trb.specs.declared.TransferTrbVariant.{TransferTrbVariant}
use Rattle.trb.specs.declared.TransferTrbVariant.TheVariants.{SetupStage, DataStage, StatusStage, Normal, EventData, NoOp, Isoch, Unrecognized}
use Rattle.held.specs.Sound.{supported}
use Rattle.held.specs.declared.EndpointKind.TheVariants.{Control}
use Rattle.guest_memory.specs.declared.Regions.{Regions}
use Rattle.guest_memory.specs.Places.{Memory, regions_of}
use Rattle.guest_memory.specs.Regions.{share_an_address}
use Rattle.phase_table.specs.declared.Outcome.{Outcome}
use Rattle.phase_table.specs.Outcomes.{holds, restarts}
use Rattle.phase_table.specs.Table.{trb_outcome}
use Rattle.control_block.specs.declared.BlockFacts.{BlockFacts}
use Rattle.control_block.specs.Facts.{facts_of, sound_block, submission_due}
use Rattle.control_questions.specs.Submission.{long_enough, submission_questions}
use Rattle.control_questions.proofs.SubmissionLaws.{Passed, passed, from-regions, from_block, from-turn, from-length, from-flag}
use Rattle.control_endpoint.specs.Submission.{places_dropped}
use Rattle.control_endpoint.proofs.SubmissionLaws.{place-free}
use Rattle.control_bytes.specs.Layout.{block_of}
use Rattle.control_stores.specs.Becomes.{Holdable}
use Rattle.control_in_place.specs.InPlace.{Acceptable}

never : {A : Type 0} → false ≡ true → A
never e = let z : ◌≡◌ {A = ℕ} 0 1 = ap (λ (x : Bool). cond x 1 0) e in absurd (omega arith)

-- a TRB that is held is of a kind that is
held-supported : (phase : ControlTransferState) (v : TransferTrbVariant) → holds (trb_outcome phase v) ≡ true → supported Control v ≡ true
unfolding trb_outcome
held-supported phase (SetupStage t) h = refl
held-supported phase (DataStage t) h = refl
held-supported phase (StatusStage t) h = refl
held-supported phase (Normal t) h = refl
held-supported phase (EventData t) h = refl
held-supported phase (NoOp t) h = never h
held-supported phase Isoch h = never h
held-supported phase Unrecognized h = never h

-- question 4 was answered yes
short-enough : (f : BlockFacts) (o : Outcome) (t : TransferTrb) (regions : Regions) (log collect : ℕ) → first_no (submission_questions log collect f o t regions) ≡ 0
    → transfer_length t.variant ≤ max_transfer_length
unfolding submission_questions
short-enough f o t regions log collect none =
    let apart = yes-behind (long_enough log collect) 0 (from-regions f o t regions) none in
    let sound = yes-behind (not (share_an_address regions)) 12 (from_block f o t regions) apart in
    let due = yes-behind (sound_block f) 1 (from-turn f o t regions) sound in
    let long = yes-behind (submission_due f.state) 2 (from-length f o t regions) due in
    leb-true _ _ (yes-first (leb (transfer_length t.variant) max_transfer_length) 3 (from-flag f o t regions) long)

module _ (l c b : List ℕ) (t : TransferTrb) (m : Memory) (o : Outcome) (a : Acceptable l c b t m o) where
  none : first_no (submission_questions (length l) (length c) (facts_of (block_of b)) o t (regions_of m)) ≡ 0
  none = ap (λ (x : Outcome). first_no (submission_questions (length l) (length c) (facts_of (block_of b)) x t (regions_of m))) a.outcome ∙ a.none

  pub pass : Passed (length l) (length c) (facts_of (block_of b)) o t
  pass = passed (facts_of (block_of b)) o t (regions_of m) (length l) (length c) none

  pub holdable : holds o ≡ true → Holdable ((block_of b).held - places_dropped (restarts o) (block_of b).held) t
  holdable hold = record {
    room = place-free o (block_of b).held pass.room hold;
    kind = held-supported (block_of b).transfer.phase t.variant (ap holds (sym a.outcome) ∙ hold);
    short = short-enough (facts_of (block_of b)) o t (regions_of m) (length l) (length c) none;
  }
