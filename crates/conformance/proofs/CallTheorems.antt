-- The theorems reach the calls: an accepted completion of a block that awaits the device logs the records of the walk over the TRBs held, of which
-- the other theorems speak. Assumes nothing.
use Rattle.std.specs.Prelude.{Ok, Option, Some}
use Prim.Native.Nat.{ℕ, ◌<◌}
use mathlib.Core.Path.{◌≡◌, refl, sym, ap, ◌∙◌}
use mathlib.Core.Bool.{true, true≢false}
use native.Mathlib.Omega.{arith}
use Rattle.trb.specs.declared.ControlRequestProcessingResult.TheVariants.{SuccessfulControlIn}
use Rattle.trb.specs.declared.ControlSubmissionState.{ControlSubmissionState}
use Rattle.trb.specs.declared.ControlSubmissionState.TheVariants.{AwaitingControlRequest}
use Rattle.trb.specs.declared.InTrbProcessingStatus.{InTrbProcessingStatus}
use Rattle.trb.specs.declared.InTrbProcessingStatus.TheVariants as status
use Rattle.trb.specs.declared.TdBasedNormalSubmissionState.{TdBasedNormalSubmissionState}
use Rattle.trb.specs.declared.TdBasedNormalSubmissionState.TheVariants.{AwaitingRealTransfer}
use Rattle.call_log.specs.Calls.{Out}
use Rattle.in_td.specs.Td.{normals, process_td, in_td}
use Rattle.in_td.specs.declared.InMode.{InMode}
use Rattle.in_td.specs.declared.InMode.TheVariants.{Strict}
use Rattle.account.specs.Strict.{is_failure}
use Rattle.in_block.specs.Facts.{awaits_device, facts_of as facts_in}
use Rattle.in_block.proofs.SoundLaws.{sound-normals}
use Rattle.in_questions.proofs.PassedLaws.{PassedCompletion, passed-completion}
use Rattle.standard.specs.Xhci.{outcome, asked, repeated_residual, events}
use Rattle.conformance.specs.Translate.{td_of, told, ending_of as ending_of_status, Agreed}
use Rattle.conformance.proofs.InTheorems.{told-events, counted-normal}
use Rattle.in_block.specs.Blocks.{held_of}
use Rattle.in_block.specs.Outcomes.{ending_of as in_ending_of}
use Rattle.in_block.specs.declared.InBlock.{InBlock}
use Rattle.in_endpoint.specs.Completion.{transferred, completed_as, is_accepted, completion as in_completion}
use Rattle.in_endpoint.proofs.CompletionLaws.{accepted-none, accepted-completion}
use Rattle.in_endpoint.specs.Returned.{Completed}
use Rattle.control_block.specs.declared.ControlBlock.{ControlBlock}
use Rattle.control_block.specs.Blocks.{held_of as held_control}
use Rattle.control_block.specs.Endings.{ending_of}
use Rattle.control_block.specs.Facts.{facts_of as facts_control}
use Rattle.control_chain.specs.Chain.{realize_chain, input_td}
use Rattle.control_chain.specs.Endings.{ending_records}
use Rattle.control_endpoint.specs.Completion.{refused as refused_control, accepted, completion as completion_control}
use Rattle.control_questions.specs.Completion.{completion_questions}
use Rattle.trb.specs.Questions.{first_no}
use Rattle.trb.proofs.AnswerLaws.{answered-yes}

-- ---- IN

-- an accepted completion of a block that awaits the device, with a log of l bytes
pub completion-process_td : (b : InBlock) (st : InTrbProcessingStatus) (n l : ℕ) → b.state ≡ AwaitingRealTransfer → is_accepted (in_completion l b (Some st) n).state.answer ≡ true
    → (in_completion l b (Some st) n).records ≡ (process_td (in_td b.endpoint_id b.slot_id b.mode st n) (held_of b)).records
unfolding transferred
completion-process_td b st n l awaits h =
    ap (λ (o : Out Completed). o.records) (accepted-completion l b (Some st) n h)
    ∙ ap (λ (state : TdBasedNormalSubmissionState). (completed_as (in_ending_of state (Some st) n) b).records) awaits

-- 02, R-4: such a block holds a Normal
accepted-normals : (b : InBlock) (r : Option InTrbProcessingStatus) (n l : ℕ) → b.state ≡ AwaitingRealTransfer → is_accepted (in_completion l b r n).state.answer ≡ true → 0 < normals (held_of b)
accepted-normals b r n l awaits h =
    let known : PassedCompletion l (facts_in b) r n = passed-completion l (facts_in b) r n (accepted-none l b r n h) in
    omega (arith, sound-normals (facts_in b) known.sound (ap awaits_device awaits))

agreed-strict : (st : InTrbProcessingStatus) (n requested : ℕ) → is_failure st ≡ true → Agreed Strict st n requested
agreed-strict status.Success n requested h = absurd (true≢false (sym h))
agreed-strict status.Stall n requested h = tt
agreed-strict status.TransactionError n requested h = tt
agreed-strict status.Disconnect n requested h = tt

-- so in strict mode the events of a failed transfer are the standard's, however many bytes came
pub strict-events : (b : InBlock) (st : InTrbProcessingStatus) (n l : ℕ) → b.mode ≡ Strict → is_failure st ≡ true → b.state ≡ AwaitingRealTransfer
    → is_accepted (in_completion l b (Some st) n).state.answer ≡ true
    → told (in_completion l b (Some st) n).records ≡ events repeated_residual (outcome (ending_of_status st) n (td_of (held_of b))) n (td_of (held_of b))
strict-events b st n l strict failed awaits h =
    let made : (in_completion l b (Some st) n).records ≡ (process_td (in_td b.endpoint_id b.slot_id Strict st n) (held_of b)).records =
    completion-process_td b st n l awaits h ∙ ap (λ (mode : InMode). (process_td (in_td b.endpoint_id b.slot_id mode st n) (held_of b)).records) strict in
    ap told made
    ∙ told-events b.endpoint_id b.slot_id Strict st n (held_of b) (counted-normal st (held_of b) (accepted-normals b (Some st) n l awaits h))
    (agreed-strict st n (asked (td_of (held_of b))) failed)

-- ---- Control

pub completion-realize_chain : (log : ℕ) (b : ControlBlock) (n : ℕ) → b.state ≡ AwaitingControlRequest → first_no (completion_questions log (facts_control b) (Some SuccessfulControlIn) n) ≡ 0
    → (completion_control log b (Some SuccessfulControlIn) n).records ≡ (realize_chain (input_td b.endpoint_id b.slot_id n) (held_control b)).records
unfolding completion_control accepted ending_records
completion-realize_chain log b n awaits none =
    ap (λ o. o.records)
    (answered-yes (completion_questions log (facts_control b) (Some SuccessfulControlIn) n) (refused_control b) (accepted (ending_of b.state (Some SuccessfulControlIn) n) b) (Ok tt) (sym none) refl)
    ∙ ap (λ (state : ControlSubmissionState). (accepted (ending_of state (Some SuccessfulControlIn) n) b).records) awaits
