-- 01, What changes shape: a thin entry accepts the TD as a lent row of TRB records and answers, refusals included, as completion does
-- for a block holding that row and awaiting the device. Assumes nothing.
use Rattle.std.specs.Prelude.{ℕ, ◌≡◌, true, List, ◌++◌, length, take, replicate, Option}
use Rattle.trb.specs.Answers.{number_of}
use Rattle.trb.specs.Limits.{max_held}
use Rattle.trb.specs.Questions.{first_no}
use Rattle.trb.specs.Answers.{CompletionAnswer}
use Rattle.trb.specs.declared.EndpointId.{EndpointId}
use Rattle.trb.specs.declared.InTrbProcessingStatus.{InTrbProcessingStatus}
use Rattle.trb.specs.declared.SlotId.{SlotId}
use Rattle.trb.specs.declared.TdBasedNormalSubmissionState.TheVariants.{AwaitingRealTransfer}
use Rattle.trb.specs.declared.TransferTrb.{TransferTrb}
use Rattle.call_log.specs.Calls.{Out, Meets}
use Rattle.call_log.specs.declared.Record.{Record}
use Rattle.held.specs.Places.{blank_trb}
use Rattle.account.specs.Guest.{Distinct, IspOnNormals, LastNormalWithIoc, Account}
use Rattle.in_td.specs.declared.InMode.{InMode}
use Rattle.in_block.specs.Blocks.{in_block}
use Rattle.in_block.specs.Facts.{facts_of}
use Rattle.in_block.specs.declared.InBlock.{InBlock}
use Rattle.in_questions.specs.Questions.{completion_questions}
use Rattle.in_endpoint.specs.Completion.{completion, is_accepted}
use Rattle.in_endpoint.specs.Returned.{Completed}
use Rattle.trb.specs.declared.Logged.{Logged}

-- a block in this mode that holds the row and awaits the device. Of a longer row it has only as many places as a block has, and says that it holds
-- more: question 2 refuses it
abbrev pub row_block : EndpointId → SlotId → InMode → List TransferTrb → InBlock
row_block e s mode ts = in_block e s mode AwaitingRealTransfer (length ts) (take max_held (ts ++ replicate max_held blank_trb))

abbrev pub without_block : Out Completed → Out (Logged CompletionAnswer)
without_block o = record { state = record { answer = o.state.answer; records = o.state.records }; records = o.records }

-- what completion does for that block
abbrev pub row_completion : ℕ → EndpointId → SlotId → InMode → List TransferTrb → Option InTrbProcessingStatus → ℕ → Out (Logged CompletionAnswer)
row_completion l e s mode ts r n = without_block (completion l (row_block e s mode ts) r n)

-- of a row with the device result res, n bytes of data and the log l, which returned r and left the log l'
pub record CompletesRow (e : EndpointId) (s : SlotId) (mode : InMode) (ts : List TransferTrb) (res : Option InTrbProcessingStatus) (n : ℕ) (l : List ℕ) (r : Logged CompletionAnswer) (l' : List ℕ) : Type 0 where
  pub number : number_of r.answer ≡ first_no (completion_questions (length l) (facts_of (row_block e s mode ts)) res n)
  pub met : Meets (row_completion (length l) e s mode ts res n) 0 l r l'

-- 00, demand 3, of the row: an accepted completion logs the guest's account of what the device did
abbrev pub AccountedRow : List TransferTrb → ℕ → CompletionAnswer → List Record → Type 0
AccountedRow ts n a rs = is_accepted a ≡ true → Distinct ts → IspOnNormals ts → LastNormalWithIoc ts → Account n ts rs
