-- xHCI 1.2, 4.11.2.2 and 6.4.1.2: the TDs of a control transfer, their Transfer Events, and the data of one that goes out. Assumes nothing.
use Rattle.std.specs.Prelude.{ℕ, zero, suc, ◌/◌, ◌%◌, Bool, true, false, not, ◌&&◌, List, [], ◌∷◌, ◌++◌, leb}
use Rattle.standard.specs.Xhci.{Trb, normal, stage, TransferEvent, Reading, asked, ended, failed, events}

-- ---- The grammar

-- xHCI 1.2, 6.4.1.2: the TRBs of a control transfer, by type and Chain bit. A Setup Stage TRB has no Chain bit.
pub data Kind : Type 0 where
  setup_stage_trb : Kind
  data_stage_trb status_stage_trb normal_trb event_data_trb : (chain : Bool) → Kind

-- xHCI 1.2, 4.11.2.2, 4.9.1: the rest of a Data Stage TD behind a chained TRB: Normal and Event Data TRBs, chained up to the last.
pub data IsDataRest : List Kind → Type 0 where
  last-normal : IsDataRest (normal_trb false ∷ [])
  last-event : IsDataRest (event_data_trb false ∷ [])
  more-normal : {ks : List Kind} → IsDataRest ks → IsDataRest (normal_trb true ∷ ks)
  more-event : {ks : List Kind} → IsDataRest ks → IsDataRest (event_data_trb true ∷ ks)

-- xHCI 1.2, 4.11.2.2: a Data Stage TD begins with a Data Stage TRB.
pub data IsDataTd : List Kind → Type 0 where
  data-alone : IsDataTd (data_stage_trb false ∷ [])
  data-chained : {ks : List Kind} → IsDataRest ks → IsDataTd (data_stage_trb true ∷ ks)

-- xHCI 1.2, 4.11.2.2: a Status Stage TD is a Status Stage TRB, or one chained to an Event Data TRB.
pub data IsStatusTd : List Kind → Type 0 where
  status-alone : IsStatusTd (status_stage_trb false ∷ [])
  status-event : IsStatusTd (status_stage_trb true ∷ event_data_trb false ∷ [])

-- xHCI 1.2, 4.11.2.2: Setup Stage TD, Data Stage TD if there is one, Status Stage TD.
pub data IsControl : List Kind → Type 0 where
  without-data : {ss : List Kind} → IsStatusTd ss → IsControl (setup_stage_trb ∷ ss)
  with-data : {ds ss : List Kind} → IsDataTd ds → IsStatusTd ss → IsControl (setup_stage_trb ∷ (ds ++ ss))

-- ---- The events

-- xHCI 1.2, 6.4.1.2: how the TRBs of the stages stand in their TDs.
abbrev pub setup_stage : (address : ℕ) (ioc : Bool) → Trb
setup_stage a ioc = stage a ioc

abbrev pub data_stage : (address buffer length : ℕ) (ioc isp : Bool) → Trb
data_stage a p l ioc isp = normal a p l ioc isp

abbrev pub status_stage : (address : ℕ) (ioc : Bool) → Trb
status_stage a ioc = stage a ioc

-- xHCI 1.2, 4.11.2.2: the TDs of a control transfer, each with its own EDTLA and its own short packet; no data TRBs where there is no data stage.
pub record ControlTransfer : Type 0 where
  pub setup_trb : Trb
  pub data_trbs : List Trb
  pub status_trbs : List Trb

-- A transfer with n bytes of data comes to its end, or fails in its data or its status stage (USB 2.0, 8.5.3.4). One that fails in the
-- setup stage is left out: what length its event has is doubtful.
pub data ControlOutcome : Type 0 where
  transferred : (n : ℕ) → ControlOutcome
  data_failed status_failed : (code n : ℕ) → ControlOutcome

-- xHCI 1.2, 4.11.2.2, 4.10.2: the events of the TDs, one after the other, up to the one that fails.
abbrev pub control_events : Reading → ControlTransfer → ControlOutcome → List TransferEvent
control_events r t (transferred n) =
    events r ended 0 (t.setup_trb ∷ []) ++ (events r ended n t.data_trbs ++ events r ended 0 t.status_trbs)
control_events r t (data_failed code n) = events r ended 0 (t.setup_trb ∷ []) ++ events r (failed code) n t.data_trbs
control_events r t (status_failed code n) =
    events r ended 0 (t.setup_trb ∷ []) ++ (events r ended n t.data_trbs ++ events r (failed code) 0 t.status_trbs)

-- ---- Control OUT

-- xHCI 1.2, 6.4.2.1: a transfer that went out whole moved all the bytes of its TRBs.
abbrev pub sent_whole : ControlTransfer → ControlOutcome
sent_whole t = transferred (asked t.data_trbs)

-- xHCI 1.2, 6.4.1.1, Immediate Data: a TRB's data is in a buffer, or in its Data Buffer Pointer field.
pub data Source : Type 0 where
  buffer : (address length : ℕ) → Source
  immediate : (field length : ℕ) → Source

-- xHCI 1.2, 6.4.1.1: immediate data is of 0 to 8 bytes, and only goes out.
abbrev pub immediate_allowed : (to_host : Bool) (length : ℕ) → Bool
immediate_allowed to_host length = not to_host && leb length 8

-- xHCI 1.2, 6.4.1.1: its bytes, from the lowest of the field on.
abbrev pub immediate_bytes : (field length : ℕ) → List ℕ
immediate_bytes field zero = []
immediate_bytes field (suc k) = field % 256 ∷ immediate_bytes (field / 256) k

-- xHCI 1.2, 4.9.1: the bytes that go out, where `memory` gives the bytes at an address.
abbrev pub outgoing : (memory : (address length : ℕ) → List ℕ) → List Source → List ℕ
outgoing memory [] = []
outgoing memory (buffer a l ∷ ss) = memory a l ++ outgoing memory ss
outgoing memory (immediate f l ∷ ss) = immediate_bytes f l ++ outgoing memory ss
