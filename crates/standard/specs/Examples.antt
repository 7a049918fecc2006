-- The definitions run on worked examples. Assumes nothing.
use Rattle.std.specs.Prelude.{ℕ, ◌+◌, ◌^◌, ◌≡◌, refl, true, false, List, [], ◌∷◌, map}
use Rattle.std.proofs.Math.Option.{Option, none, some}
use Rattle.standard.specs.Xhci.{Trb, normal, event_data, no_op, TransferEvent, transfer_event, Reading, own_residual, repeated_residual, Ending, succeeded, stalled, unanswered, outcome, events, delivery, deliveries, halted_at, is_td}
use Rattle.standard.specs.Usb.{setup_of, setup_bytes, stages}
use Rattle.standard.specs.Usb as usb
use Rattle.standard.specs.Control.{setup_stage, data_stage, status_stage, ControlTransfer, transferred, data_failed, status_failed, control_events, sent_whole, buffer, immediate, outgoing, immediate_allowed, IsControl, with-data, data-chained, more-normal, last-event, status-event, setup_stage_trb, data_stage_trb, normal_trb, event_data_trb, status_stage_trb}

-- ---- An IN TD

-- The events of a TD, and the address at which its endpoint halts.
pub data Answer : Type 0 where
  answer : List TransferEvent → Option ℕ → Answer

abbrev pub answer_of : Reading → Ending → (n : ℕ) (td : List Trb) → Answer
answer_of r e n td = answer (events r (outcome e n td) n td) (halted_at (outcome e n td) n td)

-- Three Normal TRBs of 512 bytes, ISP on all and IOC on the last.
abbrev pub three_normals : List Trb
three_normals = normal 0x1000 0x8000 512 false true ∷ normal 0x1010 0x8200 512 false true ∷ normal 0x1020 0x8400 512 true true ∷ []

pub all-bytes : answer_of own_residual succeeded 1536 three_normals ≡ answer (transfer_event 1 false 0x1020 0 ∷ []) none
all-bytes = refl

-- A short packet in the second: its event, and one at the IOC behind it, whose length is doubtful.
pub short-packet : answer_of own_residual succeeded 600 three_normals ≡ answer (transfer_event 13 false 0x1010 424 ∷ transfer_event 13 false 0x1020 512 ∷ []) none
short-packet = refl

pub short-packet-repeated : answer_of repeated_residual succeeded 600 three_normals
    ≡ answer (transfer_event 13 false 0x1010 424 ∷ transfer_event 13 false 0x1020 424 ∷ []) none
short-packet-repeated = refl

-- Errors: in the second; between the first and the second; behind the last byte; where no byte was asked for; and a byte too many.
pub stall-inside : answer_of own_residual stalled 600 three_normals ≡ answer (transfer_event 6 false 0x1010 424 ∷ []) (some 0x1010)
stall-inside = refl

pub error-between : answer_of own_residual unanswered 512 three_normals ≡ answer (transfer_event 4 false 0x1010 512 ∷ []) (some 0x1010)
error-between = refl

pub stall-at-end : answer_of own_residual stalled 1536 three_normals ≡ answer (transfer_event 6 false 0x1020 0 ∷ []) (some 0x1020)
stall-at-end = refl

pub stall-of-none : answer_of own_residual stalled 0 (normal 0x1000 0x8000 0 true true ∷ []) ≡ answer (transfer_event 6 false 0x1000 0 ∷ []) (some 0x1000)
stall-of-none = refl

pub babble : answer_of own_residual succeeded 1537 three_normals ≡ answer (transfer_event 3 false 0x1020 0 ∷ []) (some 0x1020)
babble = refl

-- A Normal TRB of 2^24 + 5 bytes between Event Data TRBs: the EDTLA has 24 bits, and its event the code of a short TD.
abbrev pub long_normal : List Trb
long_normal = event_data 0x1000 0xAAAA true ∷ normal 0x1010 0x8000 (2 ^ 24 + 5) false false ∷ event_data 0x1020 0xBBBB true ∷ []

pub edtla-wraps : answer_of own_residual succeeded (2 ^ 24 + 5) long_normal ≡ answer (transfer_event 1 true 0xAAAA 0 ∷ transfer_event 1 true 0xBBBB 5 ∷ []) none
edtla-wraps = refl

pub edtla-short : answer_of own_residual succeeded 100 long_normal ≡ answer (transfer_event 1 true 0xAAAA 0 ∷ transfer_event 13 true 0xBBBB 100 ∷ []) none
edtla-short = refl

pub no-op : answer_of own_residual succeeded 0 (no_op 0x1000 true ∷ []) ≡ answer (transfer_event 1 false 0x1000 0 ∷ []) none
no-op = refl

pub delivered : deliveries 600 three_normals ≡ delivery 0x8000 512 0 ∷ delivery 0x8200 88 512 ∷ []
delivered = refl

pub chain-bits : map is_td ((true ∷ true ∷ false ∷ []) ∷ (true ∷ false ∷ false ∷ []) ∷ (true ∷ []) ∷ []) ≡ true ∷ false ∷ false ∷ []
chain-bits = refl

-- ---- A control transfer

-- GET_DESCRIPTOR with wLength 64.
abbrev pub get_descriptor : List ℕ
get_descriptor = 0x80 ∷ 0x06 ∷ 0x00 ∷ 0x01 ∷ 0x00 ∷ 0x00 ∷ 0x40 ∷ 0x00 ∷ []

pub setup-fields : setup_of get_descriptor ≡ record { bm_request_type = 0x80; b_request = 6; w_value = 0x0100; w_index = 0; w_length = 64 }
setup-fields = refl

pub setup-out : setup_bytes (setup_of get_descriptor) ≡ get_descriptor
setup-out = refl

pub stages-in : stages (setup_of get_descriptor) ≡ usb.setup_stage ∷ usb.data_stage true ∷ usb.status_stage false ∷ []
stages-in = refl

-- A Data Stage TRB of 18 bytes with ISP, and a Status Stage TRB chained to an Event Data TRB.
abbrev pub eighteen_bytes : ControlTransfer
eighteen_bytes =
    record {
      setup_trb = setup_stage 0x1000 true;
      data_trbs = data_stage 0x1010 0x8000 18 false true ∷ [];
      status_trbs = status_stage 0x1020 true ∷ event_data 0x1030 0xABCD true ∷ [];
    }

-- Eight bytes come. Status is a TD of its own: its Event Data TRB tells Success and an EDTLA of 0.
pub control-short : control_events own_residual eighteen_bytes (transferred 8)
    ≡ transfer_event 1 false 0x1000 0 ∷ transfer_event 13 false 0x1010 10 ∷ transfer_event 1 false 0x1020 0 ∷ transfer_event 1 true 0xABCD 0 ∷ []
control-short = refl

pub control-sent : control_events own_residual eighteen_bytes (sent_whole eighteen_bytes)
    ≡ transfer_event 1 false 0x1000 0 ∷ transfer_event 1 false 0x1020 0 ∷ transfer_event 1 true 0xABCD 0 ∷ []
control-sent = refl

pub control-data-stall : control_events own_residual eighteen_bytes (data_failed 6 0) ≡ transfer_event 1 false 0x1000 0 ∷ transfer_event 6 false 0x1010 18 ∷ []
control-data-stall = refl

pub control-status-stall : control_events own_residual eighteen_bytes (status_failed 6 18) ≡ transfer_event 1 false 0x1000 0 ∷ transfer_event 6 false 0x1020 0 ∷ []
control-status-stall = refl

-- Setup; Data chained to a Normal and an Event Data TRB; Status chained to an Event Data TRB.
pub control-chain : IsControl (setup_stage_trb ∷ data_stage_trb true ∷ normal_trb true ∷ event_data_trb false ∷ status_stage_trb true ∷ event_data_trb false ∷ [])
control-chain = with-data (data-chained (more-normal last-event)) status-event

-- Two bytes of a memory that is 7 everywhere, then eight of immediate data.
abbrev pub sevens : (address length : ℕ) → List ℕ
sevens address length = 7 ∷ 7 ∷ []

pub data-out : outgoing sevens (buffer 0x8000 2 ∷ immediate 0x1122334455667788 8 ∷ []) ≡ 7 ∷ 7 ∷ 0x88 ∷ 0x77 ∷ 0x66 ∷ 0x55 ∷ 0x44 ∷ 0x33 ∷ 0x22 ∷ 0x11 ∷ []
data-out = refl

pub immediate-lengths : map (immediate_allowed false) (8 ∷ 12 ∷ []) ≡ true ∷ false ∷ []
immediate-lengths = refl
