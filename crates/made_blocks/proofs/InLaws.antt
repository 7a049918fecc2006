-- Each call on an IN endpoint keeps it so that no TRB held has immediate data: question 21 lets none in, and every other change of the
-- places drops the TRBs held. Assumes nothing.
use Rattle.std.specs.Prelude.{Err, Ok, Option}
use Prim.Native.Nat.{ℕ}
use mathlib.Core.Path.{◌≡◌, refl}
use mathlib.Core.Bool.{true, false}
use mathlib.Core.List.{List, [], ◌∷◌}
use Rattle.trb.specs.Answers.{refusal_of}
use Rattle.trb.specs.Trbs.{immediate_of}
use Rattle.trb.specs.declared.EndpointId.{EndpointId}
use Rattle.trb.specs.declared.InTrbProcessingStatus.{InTrbProcessingStatus}
use Rattle.trb.specs.declared.SlotId.{SlotId}
use Rattle.trb.specs.declared.TdBasedNormalSubmissionState.{TdBasedNormalSubmissionState}
use Rattle.trb.specs.declared.TdBasedNormalSubmissionState.TheVariants.{SubmissionDue}
use Rattle.trb.specs.declared.TransferTrb.{TransferTrb}
use Rattle.call_log.specs.Calls.{Out}
use Rattle.walks.specs.All.{all}
use Rattle.guest_memory.specs.declared.Regions.{Regions}
use Rattle.in_block.specs.Blocks.{fresh_block, held_of, stored, emptied}
use Rattle.in_block.specs.Facts.{held_test, facts_of}
use Rattle.in_block.specs.Outcomes.{outcome_of, state_after, ending_of}
use Rattle.in_block.specs.declared.Ending.{Ending}
use Rattle.in_block.specs.declared.Ending.TheVariants.{KeepCollecting, Transfer, ReportUnsupported}
use Rattle.in_block.specs.declared.InBlock.{InBlock}
use Rattle.in_block.specs.declared.Outcome.{Outcome}
use Rattle.in_block.specs.declared.Outcome.TheVariants.{Drop, Collect, CompleteLocally, Request}
use Rattle.in_questions.specs.Questions.{submission_questions, completion_questions}
use Rattle.in_questions.proofs.PassedLaws.{passed-submission}
use Rattle.in_endpoint.specs.Completion as completing
use Rattle.in_endpoint.specs.Creation.{creation_questions, creation}
use Rattle.in_endpoint.specs.Submission as submitting
use Rattle.in_endpoint.specs.Returned.{Completed}
use Rattle.in_endpoint.specs.Returned.{Created}
use Rattle.in_endpoint.specs.Returned.{Submitted}
use Rattle.in_endpoint.proofs.SubmissionLaws.{holds, supported-held}
use Rattle.in_td.specs.declared.InMode.{InMode}
use Rattle.made_blocks.specs.Held.{from_memory}
use Rattle.made_blocks.specs.InCalls.{InCall, submit, complete, cancel, after, after_all}
use Rattle.made_blocks.proofs.CallLaws.{by-questions, all-stored}

-- what every call keeps
abbrev pub FromMemory : InBlock → Type 0
FromMemory b = all from_memory (held_of b) ≡ true

from-emptied : (b : InBlock) (state : TdBasedNormalSubmissionState) → FromMemory (emptied b state)
unfolding all
from-emptied b state = refl

from-stored : (b : InBlock) (t : TransferTrb) → FromMemory b → immediate_of t.variant ≡ false → FromMemory (stored b t)
from-stored b t k flag = all-stored from_memory b.trbs b.held t k (rw flag)

-- ---- Creation

from-fresh : (e : EndpointId) (s : SlotId) (mode : InMode) → FromMemory (fresh_block e s mode)
unfolding all
from-fresh e s mode = refl

pub from-creation : (e : EndpointId) (s : SlotId) (mode : InMode) → FromMemory (creation e s mode).block
unfolding creation
from-creation e s mode =
    by-questions (λ (r : Created). FromMemory r.block) (creation_questions e s)
    (λ n. record { answer = Err (refusal_of n); block = fresh_block (record { 0 = 0 }) (record { 0 = 0 }) mode }) (record { answer = Ok tt; block = fresh_block e s mode })
    (λ n. from-fresh (record { 0 = 0 }) (record { 0 = 0 }) mode) (λ none. from-fresh e s mode)

-- ---- Submission

module _ (b : InBlock) (k : FromMemory b) where
  from-submitted : (o : Outcome) (t : TransferTrb) → (holds o ≡ true → immediate_of t.variant ≡ false) → FromMemory (submitting.submitted_as o b t).state.block
  from-submitted Drop t flag = from-emptied b (state_after Drop t.addr)
  from-submitted Collect t flag = from-stored b t k (flag refl)
  from-submitted CompleteLocally t flag = from-stored b t k (flag refl)
  from-submitted Request t flag = from-stored b t k (flag refl)

  from-submission : (l : ℕ) (t : TransferTrb) (regions : Regions) → FromMemory (submitting.submission l b t regions).state.block
  unfolding submitting.submission
  from-submission l t regions =
      let o : Outcome = outcome_of (held_test (held_of b)) t in
      by-questions (λ (r : Out Submitted). FromMemory r.state.block) (submission_questions l (facts_of b) t regions) (submitting.refused b) (submitting.submitted_as o b t)
      (λ n. k)
      (λ none. from-submitted o t (λ h. (passed-submission l (facts_of b) t regions none).from-memory (supported-held (held_test (held_of b)) t o refl h)))

  -- ---- Completion

  from-completed : (x : Ending) → FromMemory (completing.completed_as x b).state.block
  unfolding completing.transferred
  from-completed KeepCollecting = k
  from-completed (Transfer st n) = from-emptied b SubmissionDue
  from-completed (ReportUnsupported a) = from-emptied b SubmissionDue

  from-completion : (l : ℕ) (r : Option InTrbProcessingStatus) (n : ℕ) → FromMemory (completing.completion l b r n).state.block
  unfolding completing.completion
  from-completion l r n =
      by-questions (λ (c : Out Completed). FromMemory c.state.block) (completion_questions l (facts_of b) r n) (completing.refused b)
      (completing.completed_as (ending_of b.state r n) b) (λ m. k) (λ none. from-completed (ending_of b.state r n))

  from-call : (c : InCall) → FromMemory (after c b)
  from-call (submit l t regions) = from-submission l t regions
  from-call (complete l r n) = from-completion l r n
  from-call cancel = from-emptied b SubmissionDue

pub from-calls : (cs : List InCall) (b : InBlock) → FromMemory b → FromMemory (after_all cs b)
from-calls [] b k = k
from-calls (c ∷ cs) b k = from-calls cs (after c b) (from-call b k c)
