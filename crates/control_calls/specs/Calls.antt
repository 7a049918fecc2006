-- The calls of a script on a control endpoint: each answer is what the endpoint answers, and behind it stands the line of the block's state. Assumes nothing.
use Rattle.std.specs.Prelude.{ℕ, min, ◌≡◌, Bool, true, cond, List, [], ◌++◌, leb, length, take, drop, None, Ok, Option, Some}
use Rattle.buffers.specs.Patch.{patch}
use Rattle.trb.specs.Limits.{max_held, max_collected}
use Rattle.trb.specs.declared.ControlRequestProcessingResult.{ControlRequestProcessingResult}
use Rattle.trb.specs.declared.ControlRequestProcessingResult.TheVariants as result
use Rattle.trb.specs.declared.ControlSubmissionState.{ControlSubmissionState}
use Rattle.trb.specs.declared.ControlTransferState.{ControlTransferState}
use Rattle.trb.specs.declared.EndpointId.{EndpointId}
use Rattle.trb.specs.declared.SlotId.{SlotId}
use Rattle.trb.specs.declared.TransferTrb.{TransferTrb}
use Rattle.trb.specs.declared.UsbRequest.{UsbRequest}
use Rattle.call_log.specs.Logs.{logged}
use Rattle.guest_memory.specs.Places.{Memory, regions_of}
use Rattle.text.specs.declared.Text.{Text}
use Rattle.text.specs.Wrote.{Wrote}
use Rattle.call_text.specs.Lines.{count_of}
use Rattle.script_bytes.specs.Bytes.{weighted_sum}
use Rattle.state_text.specs.Lines.{control_line}
use Rattle.state_text.specs.Widths.{max_state}
use Rattle.state_text.specs.declared.ControlStanding.{ControlStanding}
use Rattle.call_answer.specs.Answers.{answer_text, carried_out, completion_text, completion_memory}
use Rattle.call_answer.specs.Called.{Said, bad_said, silent_said, answered_said, Called, called, Runs}
use Rattle.call_script.specs.declared.Call.{Call}
use Rattle.call_script.specs.declared.Call.TheVariants.{Submit, Complete, Cancel, Hold, MakeUpControl}
use Rattle.call_script.specs.declared.DeviceStatus.{DeviceStatus}
use Rattle.call_script.specs.declared.DeviceStatus.TheVariants as device
use Rattle.control_block.specs.Blocks.{stored, advanced}
use Rattle.control_block.specs.declared.ControlBlock.{ControlBlock}
use Rattle.control_block.specs.declared.GuestRelease.{GuestRelease}
use Rattle.control_endpoint.specs.Creation.{creation}
use Rattle.control_endpoint.specs.Submission.{submission, bytes_collected}
use Rattle.control_endpoint.specs.Completion.{completion}
use Rattle.control_endpoint.specs.Returned.{Created}
use Rattle.control_endpoint.specs.Returned.{Submitted}
use Rattle.control_endpoint.specs.Returned.{Completed}
use Rattle.call_answer.specs.declared.Ran.{Ran}

-- what was collected; a made-up block may say more than there is
abbrev pub collected_bytes : ControlBlock → List ℕ → List ℕ
collected_bytes b collect = take (min b.transfer.collected max_collected) collect

-- what the block is at, with the whole collect buffer
abbrev pub standing : ControlBlock → List ℕ → ControlStanding
standing b collect = record {
  transfer = b.transfer;
  state = b.state;
  held = count_of b.held;
  sum = weighted_sum 0 0 (collected_bytes b collect);
}

-- `st control PHASE STATE HELD DIRECTION LENGTH COLLECTED SUM ADDRESS REQUEST`
abbrev pub state_line : ControlBlock → List ℕ → List ℕ
state_line b collect = control_line (standing b collect)

-- ---- Creation, submission, completion and cancel

-- an answer of so many records, and the state line behind it
abbrev pub answered : List ℕ → ControlBlock → List ℕ → ℕ → Said ControlBlock
answered text b collect n = answered_said (text ++ state_line b collect) b n

-- a creation that answered c
abbrev pub created : Created → List ℕ → Said ControlBlock
created c collect = answered (answer_text c.answer 0 []) c.block collect 0

-- a submission that answered s and left this log and this collect buffer
abbrev pub submitted : Submitted → List ℕ → List ℕ → Memory → Called ControlBlock
submitted s log collect m = called (answered (answer_text s.answer s.records log) s.block collect s.records) log m

-- a completion that answered c and left this log is carried out
abbrev pub completed : Completed → List ℕ → List ℕ → List ℕ → Memory → Called ControlBlock
completed c log collect bytes m =
    called (answered (completion_text c.answer c.records log (carried_out c.records log bytes m)) c.block collect c.records) log
    (completion_memory c.answer c.records log bytes m)

-- `c`
unfoldable pub create_call : EndpointId → SlotId → GuestRelease → List ℕ → Said ControlBlock
create_call e s release collect = created (creation e s release) collect

-- the collect buffer after a submission, of which so many bytes were lent
unfoldable pub collect_after : ControlBlock → TransferTrb → ℕ → List ℕ → List ℕ → Memory → List ℕ
collect_after b t lent collect log m =
    patch (take lent collect) b.transfer.collected (bytes_collected (length log) (length (take lent collect)) b t m) ++ drop lent collect

-- `s` and `u`
unfoldable pub submit_call : ControlBlock → TransferTrb → ℕ → List ℕ → List ℕ → Memory → Called ControlBlock
submit_call b t lent collect log m =
    let o = submission (length log) (length (take lent collect)) b t (regions_of m) in
    submitted o.state (logged log 0 o.records) (collect_after b t lent collect log m) m

-- `d` and `l`, with these bytes of the device's data
unfoldable pub complete_call : ControlBlock → Option ControlRequestProcessingResult → List ℕ → List ℕ → List ℕ → Memory → Called ControlBlock
complete_call b r bytes collect log m =
    let o = completion (length log) b r (length bytes) in completed o.state (logged log 0 o.records) collect bytes m

-- `x`
unfoldable pub cancel_call : ControlBlock → List ℕ → Said ControlBlock
cancel_call b collect = answered (answer_text (Ok tt) 0 []) b collect 0

-- ---- A made-up block

-- `h`: no place left is a bad line
unfoldable pub hold_call : ControlBlock → TransferTrb → Said ControlBlock
hold_call b t = cond (leb max_held b.held) (bad_said b) (silent_said (stored b t))

-- `p`: what it does not name stays
abbrev pub with_length : UsbRequest → ℕ → UsbRequest
with_length r n = record { address = r.address; request_type = r.request_type; request = r.request; value = r.value; index = r.index; length = n }

abbrev pub made_up : ControlBlock → ControlTransferState → ControlSubmissionState → Bool → ℕ → ControlBlock
made_up b phase state direction n =
    advanced b (record { phase = phase; direction = direction; request = with_length b.transfer.request n; collected = b.transfer.collected }) state

-- ---- Any call

-- the device result of a script as a control endpoint takes it
abbrev pub result_of : DeviceStatus → ControlRequestProcessingResult
result_of device.Success = result.SuccessfulControlIn
result_of device.Stall = result.Stall
result_of device.TransactionError = result.TransactionError
result_of device.Disconnect = result.Disconnect
result_of device.SuccessfulControlOut = result.SuccessfulControlOut

-- a result that a script gives, or none
abbrev pub result_given : Option DeviceStatus → Option ControlRequestProcessingResult
result_given (Some s) = Some (result_of s)
result_given None = None

-- a call on the endpoint, of whose device these bytes are, with so many bytes of the collect buffer lent. (Those that are none on an endpoint, or not on this
-- one, are bad lines.)
unfoldable pub control_call : ControlBlock → Call → List ℕ → ℕ → List ℕ → List ℕ → Memory → Called ControlBlock
control_call b (Submit t) bytes lent collect log m = submit_call b t lent collect log m
control_call b (Complete s n) bytes lent collect log m = complete_call b (result_given s) (take n bytes) collect log m
control_call b Cancel bytes lent collect log m = called (cancel_call b collect) log m
control_call b (Hold t) bytes lent collect log m = called (hold_call b t) log m
control_call b (MakeUpControl phase state direction n) bytes lent collect log m = called (silent_said (made_up b phase state direction n)) log m
control_call b other bytes lent collect log m = called (bad_said b) log m

-- the collect buffer afterwards: a submission alone changes it
unfoldable pub collect_behind : ControlBlock → Call → ℕ → List ℕ → List ℕ → Memory → List ℕ
collect_behind b (Submit t) lent collect log m = collect_after b t lent collect log m
collect_behind b other lent collect log m = collect

-- ---- Promises

-- the state line of the block b was written behind the text t, which has an answer of so many records
pub record Stated (b : ControlBlock) (collect : List ℕ) (n : ℕ) (t : Text) (r : Ran ControlBlock) (t' : Text) : Type 0 where
  pub ran : r ≡ record { left = b; records = n; good = true }
  pub text : Wrote max_state t (state_line b collect) t'

-- and this collect buffer
pub record RunsWith (o : Called ControlBlock) (collect : List ℕ) (t : Text) (r : Ran ControlBlock) (t' : Text) (log' collect' : List ℕ) (m' : Memory) : Type 0 where
  pub runs : Runs o t r t' log' m'
  pub collected : collect' ≡ collect
