-- 02, R-4: the mode is chosen at creation, and every call keeps it. Assumes nothing.
use Rattle.std.specs.Prelude.{Option}
use Prim.Native.Nat.{ℕ}
use mathlib.Core.Path.{◌≡◌, refl}
use mathlib.Core.Bool.{Bool, true, false, cond}
use lib.Dec.{eqb}
use Rattle.trb.specs.Questions.{first_no}
use Rattle.trb.specs.declared.EndpointId.{EndpointId}
use Rattle.trb.specs.declared.InTrbProcessingStatus.{InTrbProcessingStatus}
use Rattle.trb.specs.declared.SlotId.{SlotId}
use Rattle.trb.specs.declared.TransferTrb.{TransferTrb}
use Rattle.call_log.specs.Calls.{Out}
use Rattle.in_td.specs.declared.InMode.{InMode}
use Rattle.guest_memory.specs.declared.Regions.{Regions}
use Rattle.in_block.specs.Blocks.{held_of}
use Rattle.guest_memory.specs.declared.Regions.{Regions}
use Rattle.in_block.specs.Facts.{held_test, facts_of}
use Rattle.guest_memory.specs.declared.Regions.{Regions}
use Rattle.in_block.specs.Outcomes.{outcome_of, ending_of}
use Rattle.guest_memory.specs.declared.Regions.{Regions}
use Rattle.in_block.specs.declared.Ending.{Ending}
use Rattle.guest_memory.specs.declared.Regions.{Regions}
use Rattle.in_block.specs.declared.Ending.TheVariants.{KeepCollecting, Transfer, ReportUnsupported}
use Rattle.guest_memory.specs.declared.Regions.{Regions}
use Rattle.in_block.specs.declared.InBlock.{InBlock}
use Rattle.guest_memory.specs.declared.Regions.{Regions}
use Rattle.in_block.specs.declared.Outcome.{Outcome}
use Rattle.guest_memory.specs.declared.Regions.{Regions}
use Rattle.in_block.specs.declared.Outcome.TheVariants.{Drop, Collect, CompleteLocally, Request}
use Rattle.in_questions.specs.Questions.{submission_questions, completion_questions}
use Rattle.in_endpoint.specs.Completion.{transferred, completed_as, completion}
use Rattle.in_endpoint.specs.Creation.{creation_questions, creation, cancelled}
use Rattle.in_endpoint.specs.Submission.{submitted_as, submission}
use Rattle.in_endpoint.specs.Returned.{Completed}
use Rattle.in_endpoint.specs.Returned.{Created}
use Rattle.in_endpoint.specs.Returned.{Submitted}

-- whether every question was answered with yes or not
either : {A : Type 0} (mode_of : A → InMode) (mode : InMode) (b : Bool) (x y : A) → mode_of x ≡ mode → mode_of y ≡ mode → mode_of (cond b x y) ≡ mode
either mode_of mode true x y p q = p
either mode_of mode false x y p q = q

-- also a refused creation
pub creation-keeps : (e : EndpointId) (s : SlotId) (mode : InMode) → (creation e s mode).block.mode ≡ mode
unfolding creation
creation-keeps e s mode = either (λ (r : Created). r.block.mode) mode (eqb (first_no (creation_questions e s)) 0) _ _ refl refl

submitted-keeps : (o : Outcome) (b : InBlock) (t : TransferTrb) → (submitted_as o b t).state.block.mode ≡ b.mode
submitted-keeps Drop b t = refl
submitted-keeps Collect b t = refl
submitted-keeps CompleteLocally b t = refl
submitted-keeps Request b t = refl

pub submission-keeps : (l : ℕ) (b : InBlock) (t : TransferTrb) (regions : Regions) → (submission l b t regions).state.block.mode ≡ b.mode
unfolding submission
submission-keeps l b t regions =
    either (λ (o : Out Submitted). o.state.block.mode) b.mode (eqb (first_no (submission_questions l (facts_of b) t regions)) 0) _ _
    (submitted-keeps (outcome_of (held_test (held_of b)) t) b t) refl

completed-keeps : (x : Ending) (b : InBlock) → (completed_as x b).state.block.mode ≡ b.mode
unfolding transferred
completed-keeps KeepCollecting b = refl
completed-keeps (Transfer st n) b = refl
completed-keeps (ReportUnsupported a) b = refl

pub completion-keeps : (l : ℕ) (b : InBlock) (r : Option InTrbProcessingStatus) (n : ℕ) → (completion l b r n).state.block.mode ≡ b.mode
unfolding completion
completion-keeps l b r n =
    either (λ (o : Out Completed). o.state.block.mode) b.mode (eqb (first_no (completion_questions l (facts_of b) r n)) 0) _ _
    (completed-keeps (ending_of b.state r n) b) refl

pub cancelled-keeps : (b : InBlock) → (cancelled b).mode ≡ b.mode
cancelled-keeps b = refl
