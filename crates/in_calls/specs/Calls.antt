-- The calls of a script on an IN endpoint: each answer is what the endpoint answers, and behind it stands the line of the block's state. Assumes nothing.
use Rattle.std.specs.Prelude.{ℕ, ◌≡◌, true, cond, List, [], ◌++◌, leb, length, take, None, Ok, Option, Some}
use Rattle.trb.specs.Limits.{max_held}
use Rattle.trb.specs.declared.EndpointId.{EndpointId}
use Rattle.trb.specs.declared.InTrbProcessingStatus.{InTrbProcessingStatus}
use Rattle.trb.specs.declared.InTrbProcessingStatus.TheVariants as status
use Rattle.trb.specs.declared.SlotId.{SlotId}
use Rattle.trb.specs.declared.TransferTrb.{TransferTrb}
use Rattle.call_log.specs.Logs.{logged}
use Rattle.guest_memory.specs.Places.{Memory, regions_of}
use Rattle.text.specs.declared.Text.{Text}
use Rattle.text.specs.Wrote.{Wrote}
use Rattle.call_text.specs.Lines.{count_of}
use Rattle.state_text.specs.Lines.{in_line}
use Rattle.state_text.specs.Widths.{max_state}
use Rattle.call_answer.specs.Answers.{answer_text, carried_out, completion_text, row_text, completion_memory}
use Rattle.call_answer.specs.Called.{Said, bad_said, silent_said, answered_said, Called, called}
use Rattle.call_script.specs.declared.Call.{Call}
use Rattle.call_script.specs.declared.Call.TheVariants.{Submit, Complete, Cancel, Hold, MakeUpIn}
use Rattle.call_script.specs.declared.DeviceStatus.{DeviceStatus}
use Rattle.call_script.specs.declared.DeviceStatus.TheVariants as device
use Rattle.in_td.specs.declared.InMode.{InMode}
use Rattle.in_block.specs.Blocks.{with_state, stored}
use Rattle.in_block.specs.declared.InBlock.{InBlock}
use Rattle.in_endpoint.specs.Creation.{creation, cancelled}
use Rattle.in_endpoint.specs.Submission.{submission}
use Rattle.in_endpoint.specs.Completion.{completion}
use Rattle.in_endpoint.specs.Returned.{Created}
use Rattle.in_endpoint.specs.Returned.{Submitted}
use Rattle.in_endpoint.specs.Returned.{Completed}
use Rattle.in_row.specs.Completion.{row_completion}
use Rattle.in_row.specs.declared.TdsCompleted.{TdsCompleted}
use Rattle.call_answer.specs.declared.Ran.{Ran}
use Rattle.in_calls.specs.declared.Row.{Row}

-- `st in STATE HELD`
abbrev pub state_line : InBlock → List ℕ
state_line b = in_line b.state (count_of b.held)

-- ---- Creation, submission, completion, row and cancel

-- an answer of so many records, and the state line behind it
abbrev pub answered : List ℕ → InBlock → ℕ → Said InBlock
answered text b n = answered_said (text ++ state_line b) b n

-- a creation that answered c
abbrev pub created : Created → Said InBlock
created c = answered (answer_text c.answer 0 []) c.block 0

-- a submission that answered s and left this log
abbrev pub submitted : Submitted → List ℕ → Memory → Called InBlock
submitted s log m = called (answered (answer_text s.answer s.records log) s.block s.records) log m

-- a completion that answered c and left this log is carried out
abbrev pub completed : Completed → List ℕ → List ℕ → Memory → Called InBlock
completed c log bytes m =
    called (answered (completion_text c.answer c.records log (carried_out c.records log bytes m)) c.block c.records) log
    (completion_memory c.answer c.records log bytes m)

-- a row, likewise
abbrev pub row_completed : TdsCompleted → List ℕ → List ℕ → Memory → Called InBlock
row_completed c log bytes m =
    called (answered (row_text c.answer c.finished c.records log (carried_out c.records log bytes m)) c.block c.records) log
    (completion_memory c.answer c.records log bytes m)

-- `i`
unfoldable pub create_call : EndpointId → SlotId → InMode → Said InBlock
create_call e s mode = created (creation e s mode)

-- `s` and `u`
unfoldable pub submit_call : InBlock → TransferTrb → List ℕ → Memory → Called InBlock
submit_call b t log m = let o = submission (length log) b t (regions_of m) in submitted o.state (logged log 0 o.records) m

-- `d` and `l`, with these bytes of the device's data
unfoldable pub complete_call : InBlock → Option InTrbProcessingStatus → List ℕ → List ℕ → Memory → Called InBlock
complete_call b r bytes log m = let o = completion (length log) b r (length bytes) in completed o.state (logged log 0 o.records) bytes m

-- `r`: of as many TRBs and results of a row as it has, with these bytes
unfoldable pub row_call : InBlock → Row → List ℕ → List ℕ → Memory → Called InBlock
row_call b row bytes log m =
    let o = row_completion (length log) b row.count (take row.count row.trbs) row.tds (take row.tds row.results) (length bytes) (regions_of m) in
    row_completed o.state (logged log 0 o.records) bytes m

-- `x`
unfoldable pub cancel_call : InBlock → Said InBlock
cancel_call b = answered (answer_text (Ok tt) 0 []) (cancelled b) 0

-- `h`: no place left is a bad line
unfoldable pub hold_call : InBlock → TransferTrb → Said InBlock
hold_call b t = cond (leb max_held b.held) (bad_said b) (silent_said (stored b t))

-- ---- Any call

-- the device result of a script as an IN endpoint takes it; SuccessfulControlOut is none
abbrev pub result_of : DeviceStatus → Option InTrbProcessingStatus
result_of device.Success = Some status.Success
result_of device.Stall = Some status.Stall
result_of device.TransactionError = Some status.TransactionError
result_of device.Disconnect = Some status.Disconnect
result_of device.SuccessfulControlOut = None

-- `d 4` on IN is a bad line
unfoldable pub result_call : InBlock → Option InTrbProcessingStatus → List ℕ → List ℕ → Memory → Called InBlock
result_call b None bytes log m = called (bad_said b) log m
result_call b (Some s) bytes log m = complete_call b (Some s) bytes log m

-- `d`, and `l`, which gives no result
unfoldable pub completion_call : InBlock → Option DeviceStatus → List ℕ → List ℕ → Memory → Called InBlock
completion_call b (Some s) bytes log m = result_call b (result_of s) bytes log m
completion_call b None bytes log m = complete_call b None bytes log m

-- a call on the endpoint, of whose device these bytes are. (Those that are none on an endpoint, or not on this one, are bad lines.)
unfoldable pub in_call : InBlock → Call → List ℕ → List ℕ → Memory → Called InBlock
in_call b (Submit t) bytes log m = submit_call b t log m
in_call b (Complete s n) bytes log m = completion_call b s (take n bytes) log m
in_call b Cancel bytes log m = called (cancel_call b) log m
in_call b (Hold t) bytes log m = called (hold_call b t) log m
in_call b (MakeUpIn state) bytes log m = called (silent_said (with_state b state)) log m
in_call b other bytes log m = called (bad_said b) log m

-- ---- Promises

-- the state line of the block b was written behind the text t, which has an answer of so many records
pub record Stated (b : InBlock) (n : ℕ) (t : Text) (r : Ran InBlock) (t' : Text) : Type 0 where
  pub ran : r ≡ record { left = b; records = n; good = true }
  pub text : Wrote max_state t (state_line b) t'
