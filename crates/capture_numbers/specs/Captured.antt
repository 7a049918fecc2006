-- Captures from numbers and lent bytes: what the numbers of an exported call say. Assumes nothing.
use Rattle.std.specs.Prelude.{ℕ, Bool, cond, eqb}
use Rattle.trb.specs.declared.UsbRequest.{UsbRequest}
use Rattle.capture_record.specs.declared.InPipe.{InPipe}
use Rattle.capture_record.specs.declared.InTransferType.TheVariants.{Interrupt, Bulk}
use Rattle.capture_record.specs.declared.TransferError.{TransferError}
use Rattle.capture_record.specs.declared.TransferError.TheVariants as failed
use Rattle.capture_record.specs.declared.UsbDevice.{UsbDevice}
use Rattle.capture_record.specs.declared.UsbHeader.{UsbHeader}
use Rattle.capture_record.specs.declared.UsbSetup.{UsbSetup}
use Rattle.capture_reader.specs.Reading.{CaptureCount, NumberedRecord}
use Rattle.capture_writer.specs.Writing.{Written}
use Rattle.answer_numbers.specs.declared.Answered.{Answered}
use Rattle.capture_numbers.specs.declared.RecordRead.{RecordRead}

-- the writer's answer: the number, and how many bytes it wrote
abbrev pub written_by : Answered → Written
written_by r = record { number = r.number; length = r.count }

abbrev pub device_of : ℕ → ℕ → UsbDevice
device_of bus address = record { bus_number = bus; device_address = address }

abbrev pub pipe_of : ℕ → Bool → InPipe
pipe_of id interrupt = record { endpoint_id = record { 0 = id }; transfer_type = cond interrupt Interrupt Bulk }

-- as `status_of` of answer_numbers has it
abbrev pub error_of : ℕ → TransferError
error_of n = cond (eqb n 1) failed.Stall (cond (eqb n 3) failed.Disconnect failed.TransactionError)

abbrev pub request_of : ℕ → ℕ → ℕ → ℕ → ℕ → ℕ → UsbRequest
request_of id request_type request value index length =
    record { address = id; request_type = request_type; request = request; value = value; index = index; length = length }

-- the reader's answer: the number, and how many records the file has
abbrev pub count_by : Answered → CaptureCount
count_by r = record { number = r.number; records = r.count }

abbrev pub setup_by : RecordRead → UsbSetup
setup_by r = record { request_type = r.request_type; request = r.request; value = r.value; index = r.index; length = r.setup_length }

abbrev pub header_by : RecordRead → UsbHeader
header_by r = record {
  id = r.id;
  event_type = r.event_type;
  transfer_type = r.transfer_type;
  endpoint_address = r.endpoint_address;
  device_address = r.device_address;
  bus_number = r.bus_number;
  setup_flag = r.setup_flag;
  data_flag = r.data_flag;
  seconds = r.header_seconds;
  microseconds = r.header_microseconds;
  status = r.status;
  length = r.length;
  delivered = r.delivered;
  setup = setup_by r;
}

-- what the reader gives of a record
abbrev pub record_by : RecordRead → NumberedRecord
record_by r = record {
  number = r.number;
  seconds = r.seconds;
  microseconds = r.microseconds;
  header = header_by r;
  payload_start = r.payload_start;
  payload_length = r.payload_length;
  next = r.next;
}
