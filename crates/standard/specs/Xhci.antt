-- xHCI 1.2: the Transfer Events of an IN transfer descriptor (TD), what each of its buffers gets, and where the endpoint halts.
-- A TRB is judged by its place: the TRBs of its TD before it, NEAREST FIRST, those behind it, and n, the bytes that the TD moved in all.
-- No state goes from one TRB to the next. Slot ID and Endpoint ID of an event are its endpoint's own, and are left out. Assumes nothing.
use Rattle.std.specs.Prelude.{ℕ, zero, suc, ◌+◌, ◌-◌, ◌%◌, ◌^◌, min, Bool, true, false, cond, ◌&&◌, ◌||◌, List, [], ◌∷◌, ◌++◌, leb}
use Rattle.std.proofs.Math.Option.{Option, none, some}

-- ---- TRBs, completion codes, events

-- xHCI 1.2, 6.4.1.1 Normal; 6.4.4.2 Event Data; 6.4.1.4 No Op. A Data Stage TRB (6.4.1.2.2) has a Normal's buffer, IOC and ISP, and is one here;
-- `stage` is a Setup or Status Stage TRB (6.4.1.2.1, 6.4.1.2.3), which has transactions and no buffer for data.
pub data Trb : Type 0 where
  normal : (address buffer length : ℕ) (ioc isp : Bool) → Trb
  stage : (address : ℕ) (ioc : Bool) → Trb
  event_data : (address value : ℕ) (ioc : Bool) → Trb
  no_op : (address : ℕ) (ioc : Bool) → Trb

-- xHCI 1.2, 6.4.1: a buffer is of at most 64 KiB, and does not cross a 64 KiB boundary.
abbrev pub buffer_allowed : (buffer length : ℕ) → Bool
buffer_allowed buffer length = leb length 65536 && leb (buffer % 65536 + length) 65536

-- xHCI 1.2, 4.9.1: the TRBs of a TD are tied by their Chain bits, on in all but the last.
abbrev pub is_td : (chain : List Bool) → Bool
is_td [] = false
is_td (false ∷ []) = true
is_td (true ∷ []) = false
is_td (c ∷ d ∷ cs) = c && is_td (d ∷ cs)

-- xHCI 1.2, 6.4.5, Table 6-90: completion codes.
abbrev pub success : ℕ
success = 1

abbrev pub babble_detected_error : ℕ
babble_detected_error = 3

abbrev pub usb_transaction_error : ℕ
usb_transaction_error = 4

abbrev pub trb_error : ℕ
trb_error = 5

abbrev pub stall_error : ℕ
stall_error = 6

abbrev pub short_packet : ℕ
short_packet = 13

-- xHCI 1.2, 6.4.2.1: a Transfer Event. With ED 0 the pointer is the TRB's address and the length its residual;
-- with ED 1 the pointer is the value of an Event Data TRB and the length the EDTLA.
pub data TransferEvent : Type 0 where
  transfer_event : (code : ℕ) (ed : Bool) (pointer length : ℕ) → TransferEvent

-- ---- Fields of a TRB

-- Where the TRB stands on its ring.
abbrev pub address_of : Trb → ℕ
address_of (normal a p l ioc isp) = a
address_of (stage a ioc) = a
address_of (event_data a v ioc) = a
address_of (no_op a ioc) = a

-- xHCI 1.2, 6.4.1.1: Interrupt On Completion, and Interrupt-on Short Packet, which only a TRB with a buffer has.
abbrev pub ioc_of : Trb → Bool
ioc_of (normal a p l ioc isp) = ioc
ioc_of (stage a ioc) = ioc
ioc_of (event_data a v ioc) = ioc
ioc_of (no_op a ioc) = ioc

abbrev pub isp_of : Trb → Bool
isp_of (normal a p l ioc isp) = isp
isp_of (stage a ioc) = false
isp_of (event_data a v ioc) = false
isp_of (no_op a ioc) = false

-- xHCI 1.2, 6.4.1.1: the TRB Transfer Length; a TRB without a buffer for data asks for none.
abbrev pub transfer_length : Trb → ℕ
transfer_length (normal a p l ioc isp) = l
transfer_length (stage a ioc) = 0
transfer_length (event_data a v ioc) = 0
transfer_length (no_op a ioc) = 0

-- xHCI 1.2, 4.11.2, 4.11.5.2: does the TRB have transactions on the bus? Event Data and No Op TRBs have none.
abbrev pub on_bus : Trb → Bool
on_bus (normal a p l ioc isp) = true
on_bus (stage a ioc) = true
on_bus (event_data a v ioc) = false
on_bus (no_op a ioc) = false

abbrev pub any_on_bus : List Trb → Bool
any_on_bus [] = false
any_on_bus (t ∷ ts) = on_bus t || any_on_bus ts

-- ---- Bytes

-- The bytes that some TRBs ask for.
abbrev pub asked : List Trb → ℕ
asked [] = 0
asked (t ∷ ts) = transfer_length t + asked ts

-- xHCI 1.2, 4.9.1: the buffers of a TD's TRBs are filled in order, as one. So of n bytes those behind the first `asked before` are t's, as
-- many as it has room for.
abbrev pub moved : (n : ℕ) (before : List Trb) → Trb → ℕ
moved n before t = min (transfer_length t) (n - asked before)

-- xHCI 1.2, 6.4.2.1, TRB Transfer Length with ED 0: the TRB's length less the bytes received into its buffer.
abbrev pub residual : (n : ℕ) (before : List Trb) → Trb → ℕ
residual n before t = transfer_length t - moved n before t

-- The residual of the TRB, among those before, in which the n bytes ended.
abbrev pub short_residual : (n : ℕ) (before : List Trb) → ℕ
short_residual n [] = 0
short_residual n (t ∷ before) = cond (leb (asked before) n) (residual n before t) (short_residual n before)

-- ---- Where the text is doubtful

-- What the code and the length of a Normal TRB's event are when it is passed after a short packet (4.10.1.1), and whether an
-- Event Data TRB clears the EDTLA, by its IOC (4.11.5.2). Theorems hold at a reading.
pub record Reading : Type 0 where
  pub passed_code : ℕ
  pub passed_length : (n : ℕ) (before : List Trb) → Trb → ℕ
  pub clears : (ioc : Bool) → Bool

-- 6.4.2.1 to the letter: a passed Normal TRB got no byte, so its residual is its length.
abbrev pub own_residual : Reading
own_residual = record { passed_code = short_packet; passed_length = residual; clears = λ ioc. true }

-- A passed Normal TRB repeats the residual of the short one.
abbrev pub repeated_residual : Reading
repeated_residual = record { passed_code = short_packet; passed_length = λ n before t. short_residual n before; clears = λ ioc. true }

-- ---- Event Data

-- xHCI 1.2, 4.11.5.2: the bytes moved since the TD's start or the last Event Data TRB that cleared, whichever is nearer.
abbrev pub accumulated : Reading → (n : ℕ) (before : List Trb) → ℕ
accumulated r n [] = 0
accumulated r n (normal a p l ioc isp ∷ before) = moved n before (normal a p l ioc isp) + accumulated r n before
accumulated r n (stage a ioc ∷ before) = accumulated r n before
accumulated r n (event_data a v ioc ∷ before) = cond (r.clears ioc) 0 (accumulated r n before)
accumulated r n (no_op a ioc ∷ before) = accumulated r n before

-- xHCI 1.2, 4.11.5.2: the Event Data Transfer Length Accumulator has 24 bits.
abbrev pub edtla : Reading → (n : ℕ) (before : List Trb) → ℕ
edtla r n before = accumulated r n before % 2 ^ 24

-- What the Event Data TRBs of ts find accumulated, and what is left behind the last of them, in one sum.
abbrev pub accumulated_in_all : Reading → (n : ℕ) (before ts : List Trb) → ℕ
accumulated_in_all r n before [] = accumulated r n before
accumulated_in_all r n before (normal a p l ioc isp ∷ ts) = accumulated_in_all r n (normal a p l ioc isp ∷ before) ts
accumulated_in_all r n before (stage a ioc ∷ ts) = accumulated_in_all r n (stage a ioc ∷ before) ts
accumulated_in_all r n before (event_data a v ioc ∷ ts) = accumulated r n before + accumulated_in_all r n (event_data a v ioc ∷ before) ts
accumulated_in_all r n before (no_op a ioc ∷ ts) = accumulated_in_all r n (no_op a ioc ∷ before) ts

-- ---- How a TD ends

-- The TD's bytes were all moved or a short packet came (4.10.1.1); or a transaction failed, with an error's code (4.10.2).
pub data Outcome : Type 0 where
  ended : Outcome
  failed : (code : ℕ) → Outcome

-- How the device ended the transfer, beside its n bytes.
pub data Ending : Type 0 where
  succeeded stalled unanswered : Ending

-- xHCI 1.2, 4.10.2 and Table 6-90: a device that sends more than the TD asks for babbles. How much of its last packet then reaches the
-- buffer is doubtful; here it is what there is room for.
abbrev pub outcome : Ending → (n : ℕ) (td : List Trb) → Outcome
outcome succeeded n td = cond (leb n (asked td)) ended (failed babble_detected_error)
outcome stalled n td = failed stall_error
outcome unanswered n td = failed usb_transaction_error

-- What becomes of a TRB: it is done in full; the TD's bytes, or its error, ended in it; or that was in a TRB before it.
pub data Fate : Type 0 where
  complete cut beyond : Fate

-- xHCI 1.2, 4.10.1.1, 4.10.2. An error falls on the TRB whose bytes are not all there and, where all are, on the TD's last with transactions.
abbrev pub fate : Outcome → (n : ℕ) (before : List Trb) → Trb → (behind : List Trb) → Fate
fate ended n before t behind = cond (leb (transfer_length t + asked before) n) complete (cond (leb (asked before) n) cut beyond)
fate (failed code) n before t behind =
    cond (leb (transfer_length t + asked before) n && any_on_bus behind) complete (cond (leb (asked before) n && on_bus t) cut beyond)

-- ---- Events

abbrev pub event_if : Bool → TransferEvent → List TransferEvent
event_if true e = e ∷ []
event_if false e = []

-- xHCI 1.2, 6.4.2.1, 4.11.5.2: the event of a TRB in its place, with a code.
abbrev pub event_of : Reading → (code n : ℕ) (before : List Trb) → Trb → TransferEvent
event_of r code n before (normal a p l ioc isp) = transfer_event code false a (residual n before (normal a p l ioc isp))
event_of r code n before (stage a ioc) = transfer_event code false a 0
event_of r code n before (event_data a v ioc) = transfer_event code true v (edtla r n before)
event_of r code n before (no_op a ioc) = transfer_event code false a 0

-- xHCI 1.2, 4.10.1.1: after a short packet the x_hc goes on to the end of the TD, and a TRB with IOC that it passes has its event.
abbrev pub passed_event : Reading → (n : ℕ) (before : List Trb) → Trb → TransferEvent
passed_event r n before (normal a p l ioc isp) = transfer_event r.passed_code false a (r.passed_length n before (normal a p l ioc isp))
passed_event r n before (stage a ioc) = event_of r success n before (stage a ioc)
passed_event r n before (event_data a v ioc) = event_of r short_packet n before (event_data a v ioc)
passed_event r n before (no_op a ioc) = event_of r success n before (no_op a ioc)

-- Which events a TRB has, by its fate.
abbrev pub report : Reading → Outcome → Fate → (n : ℕ) (before : List Trb) → Trb → List TransferEvent
-- xHCI 1.2, 6.4.1.1: IOC, an event on completion
report r o complete n before t = event_if (ioc_of t) (event_of r success n before t)
-- xHCI 1.2, 4.10.1.1: a short packet in a TRB with IOC or ISP; one event where it has both
report r ended cut n before t = event_if (ioc_of t || isp_of t) (event_of r short_packet n before t)
report r ended beyond n before t = event_if (ioc_of t) (passed_event r n before t)
-- xHCI 1.2, 4.10.2: an error has its event whatever the flags, the endpoint halts, and no TRB behind it runs
report r (failed code) cut n before t = event_of r code n before t ∷ []
report r (failed code) beyond n before t = []

abbrev pub events_at : Reading → Outcome → (n : ℕ) (before : List Trb) → Trb → (behind : List Trb) → List TransferEvent
events_at r o n before t behind = report r o (fate o n before t behind) n before t

-- The events of the TRBs ts that stand behind `before`, in the order of the ring.
abbrev pub events_from : Reading → Outcome → (n : ℕ) (before ts : List Trb) → List TransferEvent
events_from r o n before [] = []
events_from r o n before (t ∷ ts) = events_at r o n before t ts ++ events_from r o n (t ∷ before) ts

abbrev pub events : Reading → Outcome → (n : ℕ) (td : List Trb) → List TransferEvent
events r o n td = events_from r o n [] td

-- ---- Data, and where the endpoint halts

-- What a buffer gets: so many bytes, at its address, from this one of the TD's bytes on.
pub data Delivery : Type 0 where
  delivery : (buffer bytes start : ℕ) → Delivery

abbrev pub deliver_if : (bytes : ℕ) → Delivery → List Delivery
deliver_if zero d = []
deliver_if (suc m) d = d ∷ []

-- xHCI 1.2, 6.4.1.1, 4.9.1: a Normal TRB's buffer gets its part of the bytes; one that gets none has no delivery.
abbrev pub delivery_at : (n : ℕ) (before : List Trb) → Trb → List Delivery
delivery_at n before (normal a p l ioc isp) =
    deliver_if (moved n before (normal a p l ioc isp)) (delivery p (moved n before (normal a p l ioc isp)) (asked before))
delivery_at n before (stage a ioc) = []
delivery_at n before (event_data a v ioc) = []
delivery_at n before (no_op a ioc) = []

abbrev pub deliveries_from : (n : ℕ) (before ts : List Trb) → List Delivery
deliveries_from n before [] = []
deliveries_from n before (t ∷ ts) = delivery_at n before t ++ deliveries_from n (t ∷ before) ts

abbrev pub deliveries : (n : ℕ) (td : List Trb) → List Delivery
deliveries n td = deliveries_from n [] td

abbrev pub delivered_bytes : List Delivery → ℕ
delivered_bytes [] = 0
delivered_bytes (delivery p m s ∷ ds) = m + delivered_bytes ds

-- xHCI 1.2, 4.8.3, 4.10.2: the endpoint halts at the TRB on which an error falls.
abbrev pub halts : Outcome → Fate → Bool
halts ended f = false
halts (failed code) complete = false
halts (failed code) cut = true
halts (failed code) beyond = false

abbrev pub halted_from : Outcome → (n : ℕ) (before ts : List Trb) → Option ℕ
halted_from o n before [] = none
halted_from o n before (t ∷ ts) = cond (halts o (fate o n before t ts)) (some (address_of t)) (halted_from o n (t ∷ before) ts)

-- The address of that TRB, or none.
abbrev pub halted_at : Outcome → (n : ℕ) (td : List Trb) → Option ℕ
halted_at o n td = halted_from o n [] td
