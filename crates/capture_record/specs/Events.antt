-- 02, R-2: the records that the writer makes, these and no others, as packet.rs computes them. Assumes nothing.
use Rattle.std.specs.Prelude.{ℕ, ◌+◌, ◌-◌, ◌*◌, ◌/◌, ◌%◌, Bool, true, false, cond, not, eqb, leb, length}
use Rattle.trb.specs.declared.InTrbProcessingStatus.{InTrbProcessingStatus}
use Rattle.trb.specs.declared.InTrbProcessingStatus.TheVariants as device
use Rattle.trb.specs.declared.UsbRequest.{UsbRequest}
use Rattle.capture_record.specs.declared.CaptureEvent.{CaptureEvent}
use Rattle.capture_record.specs.declared.CaptureEvent.TheVariants.{InSubmission, InCompletion, ControlSubmission, ControlCompletionIn, ControlCompletionOut, ControlError, TrbError}
use Rattle.capture_record.specs.declared.InPipe.{InPipe}
use Rattle.capture_record.specs.declared.InTransferType.{InTransferType}
use Rattle.capture_record.specs.declared.InTransferType.TheVariants.{Interrupt, Bulk}
use Rattle.capture_record.specs.declared.TransferError.{TransferError}
use Rattle.capture_record.specs.declared.TransferError.TheVariants as failed
use Rattle.capture_record.specs.declared.UsbDevice.{UsbDevice}
use Rattle.capture_record.specs.declared.UsbHeader.{UsbHeader}
use Rattle.capture_record.specs.declared.UsbSetup.{UsbSetup}
use Rattle.capture_record.specs.Headers.{no_setup, usb_header}

-- ---- Limits

abbrev pub snap_length : ℕ
snap_length = 134217728

abbrev pub max_microseconds : ℕ
max_microseconds = 999999

-- ---- Codes

-- packet.rs, `UsbEventType::code`: S, C, E
abbrev pub submission : ℕ
submission = 83

abbrev pub completion : ℕ
completion = 67

abbrev pub failure : ℕ
failure = 69

-- packet.rs, `UsbTransferType::code`
abbrev pub control : ℕ
control = 2

abbrev pub type_number : InTransferType → ℕ
type_number Interrupt = 1
type_number Bulk = 3

abbrev pub transfer_type : InPipe → ℕ
transfer_type p = type_number p.transfer_type

-- packet.rs, `setup_flag_value`: - without setup bytes, zero with them
abbrev pub without_setup : ℕ
without_setup = 45

abbrev pub with_setup : ℕ
with_setup = 0

-- packet.rs, `data_flag_value`: <, > or E where the record carries no data, zero where it may. Is the transfer to the host?
abbrev pub submission_flag : Bool → ℕ
submission_flag to_host = cond to_host 60 0

abbrev pub completion_flag : Bool → ℕ
completion_flag to_host = cond to_host 0 62

abbrev pub error_flag : ℕ
error_flag = 69

-- 02, R-2: minus k, as 32 bits have it
abbrev pub minus : ℕ → ℕ
minus k = 4294967296 - k

-- 02, R-2: 0, or minus 19, 32 or 71 for disconnect, stall and transaction error
abbrev pub in_status : InTrbProcessingStatus → ℕ
in_status device.Disconnect = minus 19
in_status device.Stall = minus 32
in_status device.TransactionError = minus 71
in_status device.Success = 0

abbrev pub error_status : TransferError → ℕ
error_status failed.Disconnect = minus 19
error_status failed.Stall = minus 32
error_status failed.TransactionError = minus 71

-- of a device result; Success, which is no failure, counts as a transaction error
abbrev pub transfer_error : InTrbProcessingStatus → TransferError
transfer_error device.Disconnect = failed.Disconnect
transfer_error device.Stall = failed.Stall
transfer_error device.TransactionError = failed.TransactionError
transfer_error device.Success = failed.TransactionError

-- minus 22 for a TRB error
abbrev pub trb_error_status : ℕ
trb_error_status = minus 22

-- ---- Endpoint addresses and directions

-- packet.rs, `endpoint_address`: the xHCI id rotated right by one
abbrev pub rotated_right : ℕ → ℕ
rotated_right byte = byte / 2 + 128 * (byte % 2)

-- packet.rs, `endpoint_direction`: an odd id is IN
abbrev pub odd : ℕ → Bool
odd byte = eqb (byte % 2) 1

abbrev pub is_in_pipe : InPipe → Bool
is_in_pipe p = odd p.endpoint_id.0

abbrev pub pipe_address : InPipe → ℕ
pipe_address p = rotated_right p.endpoint_id.0

-- packet.rs, `endpoint_address` of a control endpoint
abbrev pub endpoint_zero : Bool → ℕ
endpoint_zero to_host = cond to_host 128 0

-- 01, Control endpoint: bit 7 of the request type gives IN
abbrev pub to_host : UsbRequest → Bool
to_host r = leb 128 r.request_type

-- 02, R-2: setup bytes, with the low 16 bits of the request length
abbrev pub setup_of : UsbRequest → UsbSetup
setup_of r = record { request_type = r.request_type; request = r.request; value = r.value; index = r.index; length = r.length % 65536 }

-- ---- Records

-- packet.rs, `packet_payload`: does a record of the event carry its payload?
abbrev pub carries : CaptureEvent → Bool
carries (InSubmission p id n) = false
carries (InCompletion p id status) = is_in_pipe p
carries (ControlSubmission r) = not (to_host r)
carries (ControlCompletionIn id) = true
carries (ControlCompletionOut id n) = false
carries (ControlError to_host error r collected) = false
carries (TrbError id) = false

abbrev pub delivered_of : {A : Type 0} → CaptureEvent → A → A → A
delivered_of e payload none = cond (carries e) payload none

-- the header of an event, with the times and the number n of its payload's bytes. Columns: id, event type, transfer type, endpoint address, setup flag, data flag,
-- status, length, delivered length, setup bytes. 02, R-2: a control OUT submission has 0 as its length
abbrev pub header_of : UsbDevice → ℕ → ℕ → CaptureEvent → ℕ → UsbHeader
header_of d s m (InSubmission p id length) n =
    usb_header d s m id submission (transfer_type p) (pipe_address p) without_setup (submission_flag (is_in_pipe p)) 0 length 0 no_setup
header_of d s m (InCompletion p id status) n =
    usb_header d s m id completion (transfer_type p) (pipe_address p) without_setup (completion_flag (is_in_pipe p)) (in_status status) n (cond (is_in_pipe p) n 0) no_setup
header_of d s m (ControlSubmission r) n =
    usb_header d s m r.address submission control (endpoint_zero (to_host r)) with_setup (submission_flag (to_host r)) 0 (cond (to_host r) r.length 0) (cond (to_host r) 0 n) (setup_of r)
header_of d s m (ControlCompletionIn id) n =
    usb_header d s m id completion control (endpoint_zero true) without_setup (completion_flag true) 0 n n no_setup
header_of d s m (ControlCompletionOut id length) n =
    usb_header d s m id completion control (endpoint_zero false) without_setup (completion_flag false) 0 length 0 no_setup
header_of d s m (ControlError to_host error r collected) n =
    usb_header d s m r.address failure control (endpoint_zero to_host) with_setup error_flag (error_status error) collected 0 (setup_of r)
header_of d s m (TrbError id) n =
    usb_header d s m id failure control (endpoint_zero false) without_setup error_flag trb_error_status 0 0 no_setup
