-- 02, R-2: which event a call gives, as endpoint_handle.rs writes them, over the values of a block. Assumes nothing.
use Rattle.std.specs.Prelude.{ℕ, Bool, cond, Option, Some, None, eqb}
use Rattle.trb.specs.declared.ControlRequestProcessingResult.{ControlRequestProcessingResult}
use Rattle.trb.specs.declared.ControlRequestProcessingResult.TheVariants as device
use Rattle.trb.specs.declared.ControlSubmissionState.{ControlSubmissionState}
use Rattle.trb.specs.declared.ControlSubmissionState.TheVariants as control
use Rattle.trb.specs.declared.InTrbProcessingStatus.{InTrbProcessingStatus}
use Rattle.trb.specs.declared.TdBasedNormalSubmissionState.{TdBasedNormalSubmissionState}
use Rattle.trb.specs.declared.TdBasedNormalSubmissionState.TheVariants.{SubmissionDue, CollectingTd, AwaitingRealTransfer, AwaitingLocalCompletion, UnsupportedTrb}
use Rattle.trb.specs.declared.UsbRequest.{UsbRequest}
use Rattle.call_log.specs.declared.Record.{Record}
use Rattle.call_log.specs.Records.{request_kind}
use Rattle.capture_record.specs.declared.CaptureEvent.{CaptureEvent}
use Rattle.capture_record.specs.declared.CaptureEvent.TheVariants.{InSubmission, InCompletion, ControlSubmission, ControlCompletionIn, ControlCompletionOut, ControlError, TrbError}
use Rattle.capture_record.specs.declared.InPipe.{InPipe}
use Rattle.capture_record.specs.declared.TransferError.TheVariants.{Disconnect, Stall, TransactionError}

-- ---- The request that a submission logged

-- `in_submission`: the TD's first TRB address, and the sum of its Normal lengths
abbrev pub in_request_event : InPipe → Record → Option CaptureEvent
in_request_event p r = cond (eqb r.kind request_kind) (Some (InSubmission p r.address r.length)) None

-- 01, The log: the request that a record of kind 3 is
abbrev pub request_in : Record → UsbRequest
request_in r = record {
  address = r.address;
  request_type = r.request_type;
  request = r.request;
  value = r.value;
  index = r.index;
  length = r.length;
}

-- `control_submission`
abbrev pub control_request_event : Record → Option CaptureEvent
control_request_event r = cond (eqb r.kind request_kind) (Some (ControlSubmission (request_in r))) None

-- ---- An accepted completion

-- `in_completion`: with a device result only; 000 writes no record of a TRB error on IN
abbrev pub in_completion_event : InPipe → TdBasedNormalSubmissionState → ℕ → Option InTrbProcessingStatus → Option CaptureEvent
in_completion_event p SubmissionDue first r = None
in_completion_event p CollectingTd first r = None
in_completion_event p AwaitingRealTransfer first None = None
in_completion_event p AwaitingRealTransfer first (Some status) = Some (InCompletion p first status)
in_completion_event p AwaitingLocalCompletion first r = None
in_completion_event p (UnsupportedTrb a) first r = None

-- `control_completion_in`, `control_completion_out` with the request's length, `control_in_error`, `control_out_error`: 02, R-2: a failed one is E
abbrev pub request_completion_event : Bool → UsbRequest → ℕ → Option ControlRequestProcessingResult → Option CaptureEvent
request_completion_event direction q collected None = None
request_completion_event direction q collected (Some device.Disconnect) = Some (ControlError direction Disconnect q collected)
request_completion_event direction q collected (Some device.Stall) = Some (ControlError direction Stall q collected)
request_completion_event direction q collected (Some device.TransactionError) = Some (ControlError direction TransactionError q collected)
request_completion_event direction q collected (Some device.SuccessfulControlIn) = Some (ControlCompletionIn q.address)
request_completion_event direction q collected (Some device.SuccessfulControlOut) = Some (ControlCompletionOut q.address q.length)

-- `trb_error`: the bad TRB's address, after Unrecognized and after a TRB that was not expected
abbrev pub control_completion_event : ControlSubmissionState → Bool → UsbRequest → ℕ → Option ControlRequestProcessingResult → Option CaptureEvent
control_completion_event control.NoTrbSubmitted direction q collected r = None
control_completion_event control.CollectingTd direction q collected r = None
control_completion_event (control.ParserError a) direction q collected r = Some (TrbError a)
control_completion_event (control.UnexpectedTrb a) direction q collected r = Some (TrbError a)
control_completion_event control.AwaitingControlRequest direction q collected r = request_completion_event direction q collected r
