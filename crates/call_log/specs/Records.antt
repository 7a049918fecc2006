-- 01, The log: a record and its 32 bytes. Assumes nothing.
use Rattle.std.specs.Prelude.{ℕ, ◌*◌, ◌<◌, ◌^◌, Bool, cond, List, [], ◌∷◌, ◌++◌, get_or, drop}
use Rattle.buffers.specs.LittleEndian.{le_bytes, le_field}
use Rattle.trb.specs.Codes.{code_number}
use Rattle.trb.specs.Limits.{record_length}
use Rattle.trb.specs.declared.CompletionCode.{CompletionCode}
use Rattle.trb.specs.declared.EndpointId.{EndpointId}
use Rattle.trb.specs.declared.SlotId.{SlotId}
use Rattle.trb.specs.declared.UsbRequest.{UsbRequest}
use Rattle.call_log.specs.declared.Record.{Record}

-- offset 0: kind
abbrev pub write_kind : ℕ
write_kind = 1

abbrev pub event_kind : ℕ
event_kind = 2

abbrev pub request_kind : ℕ
request_kind = 3

-- the 32 bytes, by offset: 0 to 7; 8 to 15; 16 to 19; 20 to 23; 24 to 31
abbrev pub encode : Record → List ℕ
encode r =
    r.kind ∷ r.code ∷ r.flag ∷ r.endpoint_id.0 ∷ r.slot_id.0 ∷ 0 ∷ 0 ∷ 0 ∷
    (le_bytes 8 r.address ++ (le_bytes 4 r.length ++ (le_bytes 4 r.start ++
    (r.request_type ∷ r.request ∷ (le_bytes 2 r.value ++ (le_bytes 2 r.index ++ (0 ∷ 0 ∷ [])))))))

-- what 32 bytes, the first of l, say
abbrev pub decode : List ℕ → Record
decode l = record {
  kind = get_or l 0 0;
  code = get_or l 1 0;
  flag = get_or l 2 0;
  endpoint_id = record { 0 = get_or l 3 0 };
  slot_id = record { 0 = get_or l 4 0 };
  address = le_field 8 8 l;
  length = le_field 16 4 l;
  start = le_field 20 4 l;
  request_type = get_or l 24 0;
  request = get_or l 25 0;
  value = le_field 26 2 l;
  index = le_field 28 2 l;
}

-- record number k of the log l
unfoldable pub record_at : List ℕ → ℕ → Record
record_at l k = decode (drop (record_length * k) l)

-- each number fits its bytes
pub record Fits (r : Record) : Type 0 where
  pub address : r.address < 256 ^ 8
  pub length : r.length < 256 ^ 4
  pub start : r.start < 256 ^ 4
  pub value : r.value < 256 ^ 2
  pub index : r.index < 256 ^ 2

-- a record of this kind in which all but the ids is zero
abbrev pub blank : ℕ → EndpointId → SlotId → Record
blank kind e s = record {
  kind = kind;
  code = 0;
  flag = 0;
  endpoint_id = e;
  slot_id = s;
  address = 0;
  length = 0;
  start = 0;
  request_type = 0;
  request = 0;
  value = 0;
  index = 0;
}

-- kind 2: TRB address or Event Data value, residual or EDTLA, completion code, event-data flag
abbrev pub transfer_event : ℕ → ℕ → CompletionCode → Bool → EndpointId → SlotId → Record
transfer_event address residual code flag e s = record {
  kind = event_kind;
  code = code_number code;
  flag = cond flag 1 0;
  endpoint_id = e;
  slot_id = s;
  address = address;
  length = residual;
  start = 0;
  request_type = 0;
  request = 0;
  value = 0;
  index = 0;
}

-- kind 1: guest address, bytes written, where in the device's data the write starts
abbrev pub guest_write : ℕ → ℕ → ℕ → EndpointId → SlotId → Record
guest_write address length start e s = record {
  kind = write_kind;
  code = 0;
  flag = 0;
  endpoint_id = e;
  slot_id = s;
  address = address;
  length = length;
  start = start;
  request_type = 0;
  request = 0;
  value = 0;
  index = 0;
}

-- kind 3: the TD's first TRB address, requested length
abbrev pub in_request : ℕ → ℕ → EndpointId → SlotId → Record
in_request address length e s = record {
  kind = request_kind;
  code = 0;
  flag = 0;
  endpoint_id = e;
  slot_id = s;
  address = address;
  length = length;
  start = 0;
  request_type = 0;
  request = 0;
  value = 0;
  index = 0;
}

-- kind 3: the Setup TRB's address, requested length, request type, request, value, index
abbrev pub control_request : UsbRequest → EndpointId → SlotId → Record
control_request q e s = record {
  kind = request_kind;
  code = 0;
  flag = 0;
  endpoint_id = e;
  slot_id = s;
  address = q.address;
  length = q.length;
  start = 0;
  request_type = q.request_type;
  request = q.request;
  value = q.value;
  index = q.index;
}

-- the record, where it is due
abbrev pub when : Bool → Record → List Record
when due r = cond due (r ∷ []) []
