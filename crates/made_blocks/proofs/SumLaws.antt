-- What calls ask for, by their number: question 4 lets no TRB add more than 131,071. Assumes nothing.
use Prim.Native.Nat.{ℕ, ◌+◌, ◌*◌, ◌≤◌, min}
use mathlib.Core.Path.{◌≡◌}
use mathlib.Core.Bool.{Bool, true, false, not, cond, ◌&&◌}
use mathlib.Core.List.{List, [], ◌∷◌}
use native.Mathlib.Omega.{arith}
use borrow.Author.Tests.{leb-true}
use lib.Dec.{leb}
use lib.ListN.{length}
use Rattle.trb.specs.Answers.{is_accepted}
use Rattle.trb.specs.Limits.{max_transfer_length}
use Rattle.trb.specs.Questions.{first_no}
use Rattle.trb.specs.Trbs.{transfer_length}
use Rattle.trb.specs.declared.TransferTrb.{TransferTrb}
use Rattle.trb.specs.declared.TransferTrbVariant.{TransferTrbVariant}
use Rattle.trb.specs.declared.TransferTrbVariant.TheVariants.{SetupStage, DataStage, StatusStage, Normal, EventData, NoOp, Isoch, Unrecognized}
use Rattle.trb.proofs.QuestionLaws.{yes-first, yes-behind}
use Rattle.call_log.specs.Calls.{Out}
use Rattle.guest_memory.specs.declared.Regions.{Regions}
use Rattle.guest_memory.specs.Regions.{share_an_address}
use Rattle.phase_table.specs.declared.Outcome.{Outcome}
use Rattle.phase_table.specs.Outcomes.{holds}
use Rattle.phase_table.specs.Table.{trb_outcome}
use Rattle.control_block.specs.declared.BlockFacts.{BlockFacts}
use Rattle.control_block.specs.declared.ControlBlock.{ControlBlock}
use Rattle.control_block.specs.Facts.{submission_due, facts_of, sound_block}
use Rattle.control_questions.specs.Submission.{long_enough, submission_questions}
use Rattle.control_questions.proofs.SubmissionLaws.{from-flag, from-length, from-turn, from_block, from-regions}
use Rattle.control_endpoint.specs.Submission.{questions_of, refused, accepted, submission}
use Rattle.control_endpoint.specs.Returned.{Submitted}
use Rattle.made_blocks.specs.ControlCalls.{ControlCall, submit, complete, cancel, after, asked_by, asked_after, asked_after_all}
use Rattle.made_blocks.proofs.CallLaws.{by-questions}

size-length : (immediate : Bool) (length : ℕ) → cond immediate (min 8 length) length ≤ length
size-length true length = omega arith
size-length false length = omega arith

asked_by-length : (v : TransferTrbVariant) (n : ℕ) → asked_by v n ≤ n + transfer_length v
asked_by-length (SetupStage t) n = omega arith
asked_by-length (DataStage t) n = omega (arith, size-length t.immediate_data t.transfer_length)
asked_by-length (StatusStage t) n = omega arith
asked_by-length (Normal t) n = omega (arith, size-length t.immediate_data t.transfer_length)
asked_by-length (EventData t) n = omega arith
asked_by-length (NoOp t) n = omega arith
asked_by-length Isoch n = omega arith
asked_by-length Unrecognized n = omega arith

short-enough : (l c : ℕ) (f : BlockFacts) (o : Outcome) (t : TransferTrb) (regions : Regions) → first_no (submission_questions l c f o t regions) ≡ 0
    → transfer_length t.variant ≤ max_transfer_length
unfolding submission_questions
short-enough l c f o t regions none =
    let apart = yes-behind (long_enough l c) 0 (from-regions f o t regions) none in
    let block = yes-behind (not (share_an_address regions)) 12 (from_block f o t regions) apart in
    let turn = yes-behind (sound_block f) 1 (from-turn f o t regions) block in
    let trb = yes-behind (submission_due f.state) 2 (from-length f o t regions) turn in
    leb-true _ _ (yes-first (leb (transfer_length t.variant) max_transfer_length) 3 (from-flag f o t regions) trb)

asked-submission : (l c : ℕ) (t : TransferTrb) (regions : Regions) (b : ControlBlock) (n : ℕ) → asked_after (submit l c t regions) b n ≤ n + max_transfer_length
unfolding submission accepted
asked-submission l c t regions b n =
    by-questions (λ (r : Out Submitted). cond (is_accepted r.state.answer && holds o) (asked_by t.variant n) n ≤ n + max_transfer_length) (questions_of l c b t regions)
    (refused b) (accepted o b t) (λ q. omega arith) (λ none. by (holds o) (short-enough l c (facts_of b) o t regions none))
  where
    o : Outcome
    o = trb_outcome b.transfer.phase t.variant

    by : (hold : Bool) → transfer_length t.variant ≤ max_transfer_length → cond hold (asked_by t.variant n) n ≤ n + max_transfer_length
    by true short = omega (arith, asked_by-length t.variant n)
    by false short = omega arith

asked-call : (c : ControlCall) (b : ControlBlock) (n : ℕ) → asked_after c b n ≤ n + max_transfer_length
asked-call (submit l c t regions) b n = asked-submission l c t regions b n
asked-call (complete l r m) b n = omega arith
asked-call cancel b n = omega arith

pub asked-calls : (cs : List ControlCall) (b : ControlBlock) (n : ℕ) → asked_after_all cs b n ≤ n + max_transfer_length * length cs
asked-calls [] b n = omega arith
asked-calls (c ∷ cs) b n = omega (arith, asked-call c b n, asked-calls cs (after c b) (asked_after c b n))
