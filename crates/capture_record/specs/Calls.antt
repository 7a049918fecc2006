-- 02, R-2: a call of the writer, the record that it gives and the file that a list of calls writes. Assumes nothing.
use Rattle.std.specs.Prelude.{ℕ, ◌+◌, ◌%◌, ◌<◌, ◌≤◌, ◌^◌, List, [], ◌∷◌, ◌++◌, map, length}
use Rattle.buffers.specs.LittleEndian.{AllBytes}
use Rattle.trb.specs.declared.UsbRequest.{UsbRequest}
use Rattle.capture_file.specs.Records.{CaptureRecord, layout_all}
use Rattle.capture_file.specs.Files.{file_head, link_short}
use Rattle.capture_record.specs.declared.CaptureEvent.{CaptureEvent}
use Rattle.capture_record.specs.declared.CaptureEvent.TheVariants.{InSubmission, InCompletion, ControlSubmission, ControlCompletionIn, ControlCompletionOut, ControlError, TrbError}
use Rattle.capture_record.specs.declared.UsbDevice.{UsbDevice}
use Rattle.capture_record.specs.Headers.{header_bytes}
use Rattle.capture_record.specs.Events.{snap_length, max_microseconds, delivered_of, header_of}

-- device, times, event and payload: what the caller gives
pub record CaptureCall : Type 0 where
  pub device : UsbDevice
  pub seconds : ℕ
  pub microseconds : ℕ
  pub event : CaptureEvent
  pub payload : List ℕ

-- the payload that the record carries
abbrev pub delivered_by : CaptureCall → List ℕ
delivered_by c = delivered_of c.event c.payload []

-- 02, R-2: each original length equal to the captured one
abbrev pub captured_by : CaptureCall → ℕ
captured_by c = 48 + length (delivered_by c)

-- the times stand in the record's header and again in the usbmon header; a payload's length counts as 32 bits have it
abbrev pub record_of : CaptureCall → CaptureRecord
record_of c = record {
  seconds = c.seconds;
  microseconds = c.microseconds;
  original = captured_by c;
  link = header_bytes (header_of c.device c.seconds c.microseconds c.event (length c.payload % 4294967296));
  added = [];
  payload = delivered_by c;
}

-- 02, R-2: zone and accuracy 0, snap length 134,217,728, link type 189
abbrev pub writer_head : List ℕ
writer_head = file_head 0 0 snap_length link_short

-- the bytes of the file that the calls write, one behind the other
unfoldable pub capture : List CaptureCall → List ℕ
capture cs = writer_head ++ layout_all (map record_of cs)

-- ---- Calls that can be made: every argument fits its type

pub record RequestFits (r : UsbRequest) : Type 0 where
  pub address : r.address < 256 ^ 8
  pub request_type : r.request_type < 256
  pub request : r.request < 256
  pub value : r.value < 256 ^ 2
  pub index : r.index < 256 ^ 2
  pub length : r.length < 256 ^ 4

abbrev pub EventFits : CaptureEvent → Type 0
EventFits (InSubmission p id n) = (p.endpoint_id.0 < 256) × (id < 256 ^ 8) × (n < 256 ^ 4)
EventFits (InCompletion p id status) = (p.endpoint_id.0 < 256) × (id < 256 ^ 8)
EventFits (ControlSubmission r) = RequestFits r
EventFits (ControlCompletionIn id) = id < 256 ^ 8
EventFits (ControlCompletionOut id n) = (id < 256 ^ 8) × (n < 256 ^ 4)
EventFits (ControlError to_host error r collected) = RequestFits r × (collected < 256 ^ 4)
EventFits (TrbError id) = id < 256 ^ 8

pub record CallFits (c : CaptureCall) : Type 0 where
  pub bus : c.device.bus_number < 256 ^ 2
  pub address : c.device.device_address < 256
  pub seconds : c.seconds < 256 ^ 4
  pub event : EventFits c.event
  pub payload : AllBytes c.payload

-- and the writer does not refuse it with 24
pub record Writable (c : CaptureCall) : Type 0 where
  pub fits : CallFits c
  pub microseconds : c.microseconds ≤ max_microseconds
  pub captured : captured_by c ≤ snap_length

abbrev pub AllWritable : List CaptureCall → Type 0
AllWritable [] = Unit {0}
AllWritable (c ∷ cs) = Writable c × AllWritable cs
