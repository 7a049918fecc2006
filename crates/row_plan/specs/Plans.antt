-- What the entry for a lent row does ahead of the walk: the questions, and the TD that they leave. Assumes nothing.
use Rattle.std.specs.Prelude.{ℕ, Err, None, Ok, Option, Result, Some}
use Rattle.trb.specs.Answers.{refusal_of}
use Rattle.trb.specs.Questions.{after_questions}
use Rattle.trb.specs.declared.EndpointId.{EndpointId}
use Rattle.trb.specs.declared.InTrbProcessingStatus.{InTrbProcessingStatus}
use Rattle.trb.specs.declared.InTrbProcessingStatus.TheVariants.{Success}
use Rattle.trb.specs.declared.Refusal.{Refusal}
use Rattle.trb.specs.declared.SlotId.{SlotId}
use Rattle.trb.specs.declared.TdBasedNormalSubmissionState.TheVariants.{AwaitingRealTransfer}
use Rattle.in_block.specs.declared.BlockFacts.{BlockFacts}
use Rattle.in_block.specs.declared.HeldTest.{HeldTest}
use Rattle.in_questions.specs.Questions.{completion_questions}
use Rattle.in_td.specs.Td.{in_td}
use Rattle.in_td.specs.declared.InMode.{InMode}
use Rattle.in_td.specs.declared.InTd.{InTd}

-- ---- The questions

-- of a block that awaits the device and holds a row of k TRBs, of which this was found
abbrev pub row_facts : EndpointId → SlotId → ℕ → HeldTest → BlockFacts
row_facts e s k found = record { endpoint_id = e; slot_id = s; state = AwaitingRealTransfer; held = k; found = found }

-- where no result is given, question 8 refuses the row
abbrev pub status_of : Option InTrbProcessingStatus → InTrbProcessingStatus
status_of None = Success
status_of (Some st) = st

-- as which TD the row is walked, with a log of l bytes, a row of k TRBs and n bytes of data
unfoldable pub row_plan : ℕ → EndpointId → SlotId → InMode → ℕ → HeldTest → Option InTrbProcessingStatus → ℕ → Result InTd Refusal
row_plan l e s mode k found r n =
    after_questions (completion_questions l (row_facts e s k found) r n) (λ no. Err (refusal_of no)) (Ok (in_td e s mode (status_of r) n))
