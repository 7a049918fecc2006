-- The usbmon header of link type 189 and its 48 bytes (the usbmon documentation; packet.rs, `header_bytes`). Assumes nothing.
use Rattle.std.specs.Prelude.{ℕ, ◌<◌, ◌^◌, List, [], ◌∷◌, ◌++◌, get_or}
use Rattle.buffers.specs.LittleEndian.{le_bytes, le_field}
use Rattle.capture_record.specs.declared.UsbDevice.{UsbDevice}
use Rattle.capture_record.specs.declared.UsbHeader.{UsbHeader}
use Rattle.capture_record.specs.declared.UsbSetup.{UsbSetup}

abbrev pub no_setup : UsbSetup
no_setup = record { request_type = 0; request = 0; value = 0; index = 0; length = 0 }

-- the header of a record: device, seconds, microseconds, id, event type, transfer type, endpoint address, setup flag, data flag, status, length,
-- delivered length, setup bytes
abbrev pub usb_header : UsbDevice → ℕ → ℕ → ℕ → ℕ → ℕ → ℕ → ℕ → ℕ → ℕ → ℕ → ℕ → UsbSetup → UsbHeader
usb_header d seconds microseconds id event transfer endpoint setup_flag data_flag status length delivered setup = record {
  id = id;
  event_type = event;
  transfer_type = transfer;
  endpoint_address = endpoint;
  device_address = d.device_address;
  bus_number = d.bus_number;
  setup_flag = setup_flag;
  data_flag = data_flag;
  seconds = seconds;
  microseconds = microseconds;
  status = status;
  length = length;
  delivered = delivered;
  setup = setup;
}

-- offsets 40 to 47: request type, request, value, index, length
abbrev pub setup_bytes : UsbSetup → List ℕ
setup_bytes s = s.request_type ∷ s.request ∷ (le_bytes 2 s.value ++ le_bytes 2 s.index ++ le_bytes 2 s.length)

-- by offset: 0, 8, 9, 10, 11; 12; 14, 15; 16; 24; 28; 32; 36; 40
unfoldable pub header_bytes : UsbHeader → List ℕ
header_bytes h =
    le_bytes 8 h.id
    ++ (h.event_type ∷ h.transfer_type ∷ h.endpoint_address ∷ h.device_address ∷ [])
    ++ le_bytes 2 h.bus_number
    ++ (h.setup_flag ∷ h.data_flag ∷ [])
    ++ le_bytes 8 h.seconds
    ++ le_bytes 4 h.microseconds
    ++ le_bytes 4 h.status
    ++ le_bytes 4 h.length
    ++ le_bytes 4 h.delivered
    ++ setup_bytes h.setup

-- every number fits its bytes
pub record HeaderFits (h : UsbHeader) : Type 0 where
  pub id : h.id < 256 ^ 8
  pub bus : h.bus_number < 256 ^ 2
  pub seconds : h.seconds < 256 ^ 8
  pub microseconds : h.microseconds < 256 ^ 4
  pub status : h.status < 256 ^ 4
  pub length : h.length < 256 ^ 4
  pub delivered : h.delivered < 256 ^ 4
  pub value : h.setup.value < 256 ^ 2
  pub index : h.setup.index < 256 ^ 2
  pub setup_length : h.setup.length < 256 ^ 2

-- what 48 bytes say
unfoldable pub header_in : List ℕ → UsbHeader
header_in l = record {
  id = le_field 0 8 l;
  event_type = get_or l 8 0;
  transfer_type = get_or l 9 0;
  endpoint_address = get_or l 10 0;
  device_address = get_or l 11 0;
  bus_number = le_field 12 2 l;
  setup_flag = get_or l 14 0;
  data_flag = get_or l 15 0;
  seconds = le_field 16 8 l;
  microseconds = le_field 24 4 l;
  status = le_field 28 4 l;
  length = le_field 32 4 l;
  delivered = le_field 36 4 l;
  setup = record { request_type = get_or l 40 0; request = get_or l 41 0; value = le_field 42 2 l; index = le_field 44 2 l; length = le_field 46 2 l };
}
