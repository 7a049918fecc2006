-- 01, Completion on an IN endpoint: what is done once every question was answered with yes; demand 3; and the promise of a call.
-- Assumes nothing.
use Rattle.std.specs.Prelude.{ℕ, ◌≡◌, Bool, true, false, List, [], ◌∷◌, length, Err, Ok, Option}
use Rattle.trb.specs.Answers.{number_of, refusal_of, said}
use Rattle.trb.specs.Questions.{first_no, after_questions}
use Rattle.trb.specs.Answers.{Answer, CompletionAnswer}
use Rattle.trb.specs.declared.CompletionCode.TheVariants as code
use Rattle.trb.specs.declared.EndpointId.{EndpointId}
use Rattle.trb.specs.declared.InTrbProcessingStatus.{InTrbProcessingStatus}
use Rattle.trb.specs.declared.SlotId.{SlotId}
use Rattle.trb.specs.declared.TdBasedNormalSubmissionState.TheVariants.{SubmissionDue}
use Rattle.trb.specs.declared.TrbProcessingResult.{TrbProcessingResult}
use Rattle.trb.specs.declared.TrbProcessingResult.TheVariants as result
use Rattle.call_log.specs.Calls.{Out, silent, Meets}
use Rattle.call_log.specs.Logs.{records_in}
use Rattle.call_log.specs.Records.{transfer_event}
use Rattle.call_log.specs.declared.Record.{Record}
use Rattle.in_td.specs.Td.{in_td, process_td}
use Rattle.in_td.specs.declared.TdProcessed.{TdProcessed}
use Rattle.account.specs.Guest.{Distinct, IspOnNormals, LastNormalWithIoc, Account}
use Rattle.in_block.specs.Blocks.{held_of, with_state, emptied}
use Rattle.in_block.specs.Facts.{awaits_device, facts_of}
use Rattle.in_block.specs.Outcomes.{ending_of}
use Rattle.in_block.specs.declared.Ending.{Ending}
use Rattle.in_block.specs.declared.Ending.TheVariants.{KeepCollecting, Transfer, ReportUnsupported}
use Rattle.in_block.specs.declared.InBlock.{InBlock}
use Rattle.in_questions.specs.Questions.{completion_questions}
use Rattle.in_endpoint.specs.Returned.{Completed}

-- a no ends the call with its number, zero records, and block and log unchanged
abbrev pub refused : InBlock → ℕ → Out Completed
refused b n = silent (record { answer = Err (refusal_of n); records = 0; block = b })

-- what a completion answers to the questions, where its result is r
abbrev pub completion_answer : Answer → TrbProcessingResult → CompletionAnswer
completion_answer (Ok tt) r = Ok r
completion_answer (Err q) r = Err q

-- with this result and so many records, nothing is held any more, and a submission is due
abbrev pub completed : TrbProcessingResult → ℕ → InBlock → Completed
completed r n b = record { answer = Ok r; records = n; block = emptied b SubmissionDue }

abbrev pub processed : Out TdProcessed → InBlock → Out Completed
processed o b = record { state = completed o.state.result (length o.records) b; records = o.records }

-- the walk over the TRBs held, in the block's mode, with this status and n bytes
unfoldable pub transferred : InBlock → InTrbProcessingStatus → ℕ → Out Completed
transferred b st n = processed (process_td (in_td b.endpoint_id b.slot_id b.mode st n) (held_of b)) b

-- 01, IN endpoint: completion then logs an event with code 5, residual 0, at its address; result TrbError
abbrev pub unsupported_event : ℕ → EndpointId → SlotId → Record
unsupported_event a e s = transfer_event a 0 code.TrbError false e s

abbrev pub unsupported : InBlock → ℕ → Out Completed
unsupported b a = record {
  state = completed result.TrbError 1 b;
  records = unsupported_event a b.endpoint_id b.slot_id ∷ [];
}

-- a completion while TRBs are still being collected logs nothing, keeps them, and its result is Ok
abbrev pub collecting : InBlock → Out Completed
collecting b = silent (record { answer = Ok result.Ok; records = 0; block = with_state b SubmissionDue })

abbrev pub completed_as : Ending → InBlock → Out Completed
completed_as KeepCollecting b = collecting b
completed_as (Transfer st n) b = transferred b st n
completed_as (ReportUnsupported a) b = unsupported b a

-- with a log of l bytes and n bytes of data
unfoldable pub completion : ℕ → InBlock → Option InTrbProcessingStatus → ℕ → Out Completed
completion l b r n = after_questions (completion_questions l (facts_of b) r n) (refused b) (completed_as (ending_of b.state r n) b)

abbrev pub is_accepted : CompletionAnswer → Bool
is_accepted (Ok r) = true
is_accepted (Err r) = false

-- 00, demand 3: for every list of held TRBs at distinct addresses, with interrupt-on-short on every Normal TRB and a last TRB that is
-- Normal with interrupt-on-completion, and whatever status and whichever n bytes the device returns, an accepted completion of an IN
-- block that holds the list and awaits the device logs the guest's account of what the device did
abbrev pub Accounted : InBlock → ℕ → CompletionAnswer → List Record → Type 0
Accounted b n a rs =
    awaits_device b.state ≡ true → is_accepted a ≡ true → Distinct (held_of b) → IspOnNormals (held_of b) → LastNormalWithIoc (held_of b)
    → Account n (held_of b) rs

-- of a completion with the device result s, n bytes of data and the log l, which returned r and left the log l'
pub record Completes (b : InBlock) (s : Option InTrbProcessingStatus) (n : ℕ) (l : List ℕ) (r : Completed) (l' : List ℕ) : Type 0 where
  pub number : number_of r.answer ≡ first_no (completion_questions (length l) (facts_of b) s n)
  pub met : Meets (completion (length l) b s n) 0 l r l'
  pub result : said r.answer ≡ said (completion (length l) b s n).state.answer
  pub account : Accounted b n r.answer (records_in r.records l')
