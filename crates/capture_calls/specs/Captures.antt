-- 02, R-2: what a call of the engine gives to a capture: at most one call of the writer. Assumes nothing.
use Rattle.std.specs.Prelude.{ℕ, List, [], ◌∷◌, ◌++◌, Option, Some, None, take}
use Rattle.trb.specs.declared.ControlRequestProcessingResult.{ControlRequestProcessingResult}
use Rattle.trb.specs.declared.InTrbProcessingStatus.{InTrbProcessingStatus}
use Rattle.trb.specs.declared.TransferTrb.{TransferTrb}
use Rattle.call_log.specs.declared.Record.{Record}
use Rattle.in_block.specs.declared.InBlock.{InBlock}
use Rattle.in_block.specs.Blocks as input
use Rattle.control_block.specs.declared.ControlBlock.{ControlBlock}
use Rattle.capture_record.specs.declared.CaptureEvent.{CaptureEvent}
use Rattle.capture_record.specs.declared.InPipe.{InPipe}
use Rattle.capture_record.specs.declared.UsbDevice.{UsbDevice}
use Rattle.capture_record.specs.Calls.{CaptureCall}
use Rattle.capture_calls.specs.Events.{in_request_event, control_request_event, in_completion_event, control_completion_event}

-- the caller's: whose transfers they are, and the time
pub record Captured : Type 0 where
  pub device : UsbDevice
  pub seconds : ℕ
  pub microseconds : ℕ

-- the call of the writer for an event with this payload
abbrev pub writer_call : Captured → Option CaptureEvent → List ℕ → List CaptureCall
writer_call c None payload = []
writer_call c (Some e) payload =
    record { device = c.device; seconds = c.seconds; microseconds = c.microseconds; event = e; payload = payload } ∷ []

-- the requests among these records, each with this payload; a record of another kind gives none
abbrev pub request_captures : Captured → (Record → Option CaptureEvent) → List ℕ → List Record → List CaptureCall
request_captures c event payload [] = []
request_captures c event payload (r ∷ rs) = writer_call c (event r) payload ++ request_captures c event payload rs

-- an accepted submission that logged these records: its request, if there is one
abbrev pub in_submission_capture : Captured → InPipe → List Record → List CaptureCall
in_submission_capture c p rs = request_captures c (in_request_event p) [] rs

-- the same on control: its payload is what the block has collected, of which an IN transfer's record carries nothing
abbrev pub control_submission_capture : Captured → List Record → ControlBlock → List ℕ → List CaptureCall
control_submission_capture c rs after collect = request_captures c control_request_event (take after.transfer.collected collect) rs

-- the identifier of an IN completion: the address of the TD's first TRB
abbrev pub first_address : List TransferTrb → ℕ
first_address [] = 0
first_address (t ∷ ts) = t.addr

-- an accepted completion of the block b: its payload is all of the device's data
abbrev pub in_completion_capture : Captured → InPipe → InBlock → Option InTrbProcessingStatus → List ℕ → List CaptureCall
in_completion_capture c p b r bytes = writer_call c (in_completion_event p b.state (first_address (input.held_of b)) r) bytes

abbrev pub control_completion_capture : Captured → ControlBlock → Option ControlRequestProcessingResult → List ℕ → List CaptureCall
control_completion_capture c b r bytes = writer_call c (control_completion_event b.state b.transfer.direction b.transfer.request b.transfer.collected r) bytes
