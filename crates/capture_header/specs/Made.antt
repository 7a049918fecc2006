-- 02, R-2: is a record one that the writer makes? The event that its header names is looked up, and must make that header again. Assumes nothing.
use Rattle.std.specs.Prelude.{ℕ, ◌+◌, ◌*◌, ◌/◌, ◌%◌, Bool, cond, ◌&&◌, eqb, leb}
use Rattle.trb.specs.declared.InTrbProcessingStatus.{InTrbProcessingStatus}
use Rattle.trb.specs.declared.InTrbProcessingStatus.TheVariants as device
use Rattle.trb.specs.declared.UsbRequest.{UsbRequest}
use Rattle.capture_file.specs.Records.{CaptureRecord, captured}
use Rattle.capture_record.specs.declared.CaptureEvent.{CaptureEvent}
use Rattle.capture_record.specs.declared.CaptureEvent.TheVariants.{InSubmission, InCompletion, ControlSubmission, ControlCompletionIn, ControlCompletionOut, ControlError, TrbError}
use Rattle.capture_record.specs.declared.InPipe.{InPipe}
use Rattle.capture_record.specs.declared.InTransferType.{InTransferType}
use Rattle.capture_record.specs.declared.InTransferType.TheVariants.{Interrupt, Bulk}
use Rattle.capture_record.specs.declared.TransferError.{TransferError}
use Rattle.capture_record.specs.declared.UsbDevice.{UsbDevice}
use Rattle.capture_record.specs.declared.UsbHeader.{UsbHeader}
use Rattle.capture_record.specs.declared.UsbSetup.{UsbSetup}
use Rattle.capture_record.specs.Headers.{header_in}
use Rattle.capture_record.specs.Events.{max_microseconds, submission, completion, control, with_setup, minus, transfer_error, header_of}

-- ---- The event that a header names

-- the byte that the endpoint address is rotated from
abbrev pub rotated_left : ℕ → ℕ
rotated_left byte = byte % 128 * 2 + byte / 128

-- of the transfer types that are not control's
abbrev pub type_named : ℕ → InTransferType
type_named n = cond (eqb n 1) Interrupt Bulk

abbrev pub pipe_named : UsbHeader → InPipe
pipe_named h = record { endpoint_id = record { 0 = rotated_left h.endpoint_address }; transfer_type = type_named h.transfer_type }

abbrev pub status_named : ℕ → InTrbProcessingStatus
status_named n = cond (eqb n (minus 19)) device.Disconnect (cond (eqb n (minus 32)) device.Stall (cond (eqb n (minus 71)) device.TransactionError device.Success))

abbrev pub error_named : ℕ → TransferError
error_named n = transfer_error (status_named n)

-- the request that the setup bytes are, with a length
abbrev pub request_named : UsbHeader → ℕ → UsbRequest
request_named h length = record {
  address = h.id;
  request_type = h.setup.request_type;
  request = h.setup.request;
  value = h.setup.value;
  index = h.setup.index;
  length = length;
}

-- an IN submission has its request length whole; of any other only its low 16 bits are known
abbrev pub submission_named : UsbHeader → UsbRequest
submission_named h = request_named h (cond (leb 128 h.setup.request_type) h.length h.setup.length)

abbrev pub completion_named : UsbHeader → CaptureEvent
completion_named h = cond (leb 128 h.endpoint_address) (ControlCompletionIn h.id) (ControlCompletionOut h.id h.length)

abbrev pub failure_named : UsbHeader → CaptureEvent
failure_named h =
    cond (eqb h.setup_flag with_setup)
    (ControlError (leb 128 h.endpoint_address) (error_named h.status) (request_named h h.setup.length) h.length)
    (TrbError h.id)

abbrev pub control_named : UsbHeader → CaptureEvent
control_named h =
    cond (eqb h.event_type submission) (ControlSubmission (submission_named h))
    (cond (eqb h.event_type completion) (completion_named h) (failure_named h))

abbrev pub in_named : UsbHeader → CaptureEvent
in_named h =
    cond (eqb h.event_type submission) (InSubmission (pipe_named h) h.id h.length) (InCompletion (pipe_named h) h.id (status_named h.status))

unfoldable pub event_named : UsbHeader → CaptureEvent
event_named h = cond (eqb h.transfer_type control) (control_named h) (in_named h)

-- the number of its payload's bytes: a submission's length is that of the request
unfoldable pub count_named : UsbHeader → ℕ
count_named h = cond (eqb h.event_type submission) h.delivered h.length

abbrev pub device_named : UsbHeader → UsbDevice
device_named h = record { bus_number = h.bus_number; device_address = h.device_address }

-- the header that the writer makes of that event at a time
unfoldable pub made_again : ℕ → ℕ → UsbHeader → UsbHeader
made_again seconds microseconds h = header_of (device_named h) seconds microseconds (event_named h) (count_named h)

-- ---- The test

abbrev pub same_setup : UsbSetup → UsbSetup → Bool
same_setup a b =
    eqb a.request_type b.request_type
    && (eqb a.request b.request && (eqb a.value b.value && (eqb a.index b.index && eqb a.length b.length)))

-- the first 16 bytes
abbrev pub same_front : UsbHeader → UsbHeader → Bool
same_front a b =
    eqb a.id b.id
    && (eqb a.event_type b.event_type
    && (eqb a.transfer_type b.transfer_type
    && (eqb a.endpoint_address b.endpoint_address
    && (eqb a.device_address b.device_address
    && (eqb a.bus_number b.bus_number
    && (eqb a.setup_flag b.setup_flag && eqb a.data_flag b.data_flag))))))

-- the 24 behind them
abbrev pub same_numbers : UsbHeader → UsbHeader → Bool
same_numbers a b =
    eqb a.seconds b.seconds
    && (eqb a.microseconds b.microseconds
    && (eqb a.status b.status && (eqb a.length b.length && eqb a.delivered b.delivered)))

unfoldable pub same_header : UsbHeader → UsbHeader → Bool
same_header a b = same_front a b && (same_numbers a b && same_setup a.setup b.setup)

-- 02, R-2: microseconds in range, original and captured length equal, and a header that the writer makes at the record's own time
unfoldable pub made : CaptureRecord → Bool
made r =
    leb r.microseconds max_microseconds
    && (eqb r.original (captured r)
    && same_header (header_in r.link) (made_again r.seconds r.microseconds (header_in r.link)))
