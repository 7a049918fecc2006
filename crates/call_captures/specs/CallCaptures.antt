-- 02, R-2: what a call of a script gives to a capture, from the sessions before and behind it. Assumes nothing.
use Rattle.std.specs.Prelude.{ℕ, cond, List, [], take, None, Option, Some}
use Rattle.call_log.specs.declared.Record.{Record}
use Rattle.trb.specs.declared.ControlRequestProcessingResult.{ControlRequestProcessingResult}
use Rattle.trb.specs.declared.InTrbProcessingStatus.{InTrbProcessingStatus}
use Rattle.in_block.specs.declared.InBlock.{InBlock}
use Rattle.in_block.specs.Facts as input
use Rattle.control_block.specs.declared.ControlBlock.{ControlBlock}
use Rattle.control_block.specs.Facts as control
use Rattle.row_walk.specs.Rows.{row_tds}
use Rattle.call_text.specs.Lines.{count_of}
use Rattle.call_script.specs.declared.Call.{Call}
use Rattle.call_script.specs.declared.Call.TheVariants.{Window, Buffers, CreateIn, CreateControl, Submit, Complete, Cancel, Hold, MakeUpIn, MakeUpControl, AppendTrb, AppendResult, CompleteRow, Time, Captured}
use Rattle.call_script.specs.declared.DeviceStatus.{DeviceStatus}
use Rattle.in_calls.specs.Calls as input-calls
use Rattle.control_calls.specs.Calls as control-calls
use Rattle.held.specs.declared.EndpointKind.{EndpointKind}
use Rattle.held.specs.declared.EndpointKind.TheVariants.{In, Control}
use Rattle.session.specs.declared.Session.{Session}
use Rattle.capture_record.specs.Calls.{CaptureCall}
use Rattle.capture_calls.specs.Events.{in_completion_event, control_completion_event, control_request_event}
use Rattle.capture_calls.specs.Captures.{writer_call, request_captures, in_submission_capture, first_address}
use Rattle.captured_calls.specs.declared.Setting.{Setting}
use Rattle.captured_calls.specs.Submitted.{captured_of, pipe_of}
use Rattle.captured_calls.specs.Rows.{row_captures, requests_in}

-- ---- A submission

-- the requests among the records that it logged; on control with the bytes that the block behind it has collected
abbrev pub submission_captures : Option EndpointKind → Setting → Session → Session → List Record → List ℕ → List CaptureCall
submission_captures None s before after rows collect = []
submission_captures (Some In) s before after rows collect =
    in_submission_capture (captured_of s) (pipe_of s before.in_block.endpoint_id) rows
submission_captures (Some Control) s before after rows collect =
    request_captures (captured_of s) control_request_event (take after.control_block.transfer.collected collect) rows

-- ---- A completion

-- of the IN block before the call: the address of its first TRB, and all of the device's data. Behind an accepted one a submission is due; a
-- refused one leaves its block as it was, and gives nothing
abbrev pub in_completion_captures : Setting → InBlock → InBlock → Option InTrbProcessingStatus → List ℕ → List CaptureCall
in_completion_captures s b after r bytes =
    cond (input.submission_due after.state)
    (writer_call (captured_of s) (in_completion_event (pipe_of s b.endpoint_id) b.state (first_address b.trbs) r) bytes) []

-- of the control block before the call, likewise
abbrev pub control_completion_captures : Setting → ControlBlock → ControlBlock → Option ControlRequestProcessingResult → List ℕ → List CaptureCall
control_completion_captures s b after r bytes =
    cond (control.submission_due after.state)
    (writer_call (captured_of s) (control_completion_event b.state b.transfer.direction b.transfer.request (count_of b.transfer.collected) r) bytes) []

-- with a device result
abbrev pub result_captures : Option EndpointKind → Setting → Session → Session → DeviceStatus → List ℕ → List CaptureCall
result_captures None s before after status bytes = []
result_captures (Some In) s before after status bytes =
    in_completion_captures s before.in_block after.in_block (input-calls.result_of status) bytes
result_captures (Some Control) s before after status bytes =
    control_completion_captures s before.control_block after.control_block (Some (control-calls.result_of status)) bytes

-- without one: a TRB error on control; 000 writes none on IN
abbrev pub no_result_captures : Option EndpointKind → Setting → Session → Session → List CaptureCall
no_result_captures None s before after = []
no_result_captures (Some In) s before after = []
no_result_captures (Some Control) s before after =
    control_completion_captures s before.control_block after.control_block None []

-- ---- A row

-- as it was written down before the call
abbrev pub row_call_captures : Setting → Session → List Record → List ℕ → List CaptureCall
row_call_captures s before rows bytes =
    row_captures (captured_of s) (pipe_of s before.in_block.endpoint_id) (row_tds (take before.row.count before.row.trbs) before.row.results)
    (requests_in rows) bytes

-- ---- Any call

-- submission, completion and row give records, of the device's data those bytes that the call gave; no other call asks the device for anything
unfoldable pub call_captures : Setting → Session → Session → Call → List Record → List ℕ → List ℕ → List CaptureCall
call_captures s before after (Window window) rows collect bytes = []
call_captures s before after (Buffers l n) rows collect bytes = []
call_captures s before after (CreateIn e i mode) rows collect bytes = []
call_captures s before after (CreateControl e i release) rows collect bytes = []
call_captures s before after (Submit t) rows collect bytes = submission_captures after.endpoint s before after rows collect
call_captures s before after (Complete (Some status) n) rows collect bytes =
    result_captures after.endpoint s before after status (take n bytes)
call_captures s before after (Complete None n) rows collect bytes = no_result_captures after.endpoint s before after
call_captures s before after Cancel rows collect bytes = []
call_captures s before after (Hold t) rows collect bytes = []
call_captures s before after (MakeUpIn state) rows collect bytes = []
call_captures s before after (MakeUpControl phase state direction n) rows collect bytes = []
call_captures s before after (AppendTrb t) rows collect bytes = []
call_captures s before after (AppendResult status n) rows collect bytes = []
call_captures s before after (CompleteRow n) rows collect bytes = row_call_captures s before rows (take n bytes)
call_captures s before after (Time time) rows collect bytes = []
call_captures s before after (Captured device transfer_type) rows collect bytes = []
