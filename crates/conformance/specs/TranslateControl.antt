-- The engine's words for a control transfer in those of the public texts. Assumes nothing.
use Rattle.std.specs.Prelude.{ℕ, Bool, cond, List, [], ◌∷◌, ◌++◌, leb}
use Rattle.trb.specs.declared.DataStageTrb.{DataStageTrb}
use Rattle.trb.specs.declared.EventDataTrb.{EventDataTrb}
use Rattle.trb.specs.declared.NormalTrb.{NormalTrb}
use Rattle.trb.specs.declared.SetupStageTrb.{SetupStageTrb}
use Rattle.trb.specs.declared.StatusStageTrb.{StatusStageTrb}
use Rattle.trb.specs.declared.TransferTrb.{TransferTrb}
use Rattle.trb.specs.declared.TransferTrbVariant.{TransferTrbVariant}
use Rattle.trb.specs.declared.TransferTrbVariant.TheVariants.{SetupStage, DataStage, StatusStage, Normal, EventData}
use Rattle.standard.specs.Control.{setup_stage, data_stage, status_stage, ControlTransfer, ControlOutcome, transferred, data_failed}
use Rattle.standard.specs.Xhci.{Trb, normal, event_data, TransferEvent, transfer_event, success, short_packet, babble_detected_error, asked, repeated_residual, ended, events}

-- ---- The TRBs of a control transfer, stage by stage (xHCI 1.2, 4.11.2.2): each as the engine has it, with its address and its cycle bit

-- in a Data Stage TD behind its first TRB
pub data DataTrb : Type 0 where
  normal_at : NormalTrb → (address : ℕ) (cycle : Bool) → DataTrb
  event_data_at : EventDataTrb → (address : ℕ) (cycle : Bool) → DataTrb

-- none, or a Data Stage TRB and those behind it
pub data DataTd : Type 0 where
  no_data : DataTd
  data_td : DataStageTrb → (address : ℕ) (cycle : Bool) → List DataTrb → DataTd

-- behind the Status Stage TRB
pub data Final : Type 0 where
  no_final : Final
  final_at : EventDataTrb → (address : ℕ) (cycle : Bool) → Final

pub record Chain : Type 0 where
  pub setup : SetupStageTrb
  pub setup_address : ℕ
  pub setup_cycle : Bool
  pub data_part : DataTd
  pub status : StatusStageTrb
  pub status_address : ℕ
  pub status_cycle : Bool
  pub final : Final

-- ---- As the engine holds them

abbrev pub at : TransferTrbVariant → (address : ℕ) (cycle : Bool) → TransferTrb
at v a cycle = record { variant = v; addr = a; cycle_bit = cycle }

abbrev pub data_trbs : List DataTrb → List TransferTrb
data_trbs [] = []
data_trbs (normal_at t a cycle ∷ ds) = at (Normal t) a cycle ∷ data_trbs ds
data_trbs (event_data_at t a cycle ∷ ds) = at (EventData t) a cycle ∷ data_trbs ds

abbrev pub data_td_trbs : DataTd → List TransferTrb
data_td_trbs no_data = []
data_td_trbs (data_td t a cycle ds) = at (DataStage t) a cycle ∷ data_trbs ds

abbrev pub final_trbs : Final → List TransferTrb
final_trbs no_final = []
final_trbs (final_at t a cycle) = at (EventData t) a cycle ∷ []

abbrev pub trbs_of : Chain → List TransferTrb
trbs_of c =
    at (SetupStage c.setup) c.setup_address c.setup_cycle
    ∷ (data_td_trbs c.data_part ++ (at (StatusStage c.status) c.status_address c.status_cycle ∷ final_trbs c.final))

-- ---- As the standard sees them

abbrev pub data_of : List DataTrb → List Trb
data_of [] = []
data_of (normal_at t a cycle ∷ ds) =
    normal a t.data_pointer t.transfer_length t.interrupt_on_completion t.interrupt_on_short ∷ data_of ds
data_of (event_data_at t a cycle ∷ ds) = event_data a t.event_data t.interrupt_on_completion ∷ data_of ds

abbrev pub data_td_of : DataTd → List Trb
data_td_of no_data = []
data_td_of (data_td t a cycle ds) =
    data_stage a t.data_pointer t.transfer_length t.interrupt_on_completion t.interrupt_on_short ∷ data_of ds

abbrev pub final_of : Final → List Trb
final_of no_final = []
final_of (final_at t a cycle) = event_data a t.event_data t.interrupt_on_completion ∷ []

abbrev pub stages_of : Chain → ControlTransfer
stages_of c = record {
  setup_trb = setup_stage c.setup_address c.setup.interrupt_on_completion;
  data_trbs = data_td_of c.data_part;
  status_trbs = status_stage c.status_address c.status.interrupt_on_completion ∷ final_of c.final;
}

-- ---- Events

-- xHCI 1.2, 4.10.2: n bytes of data; a device that sends more than the data stage asks for babbles
abbrev pub outcome_of : (n : ℕ) → ControlTransfer → ControlOutcome
outcome_of n t = cond (leb n (asked t.data_trbs)) (transferred n) (data_failed babble_detected_error n)

-- 01, Control endpoint: the chain is walked like an IN TD, so the Event Data TRB behind Status has the data stage's code
abbrev pub final_code : (n requested : ℕ) → ℕ
final_code n requested = cond (leb requested n) success short_packet

abbrev pub recoded : (code : ℕ) → List TransferEvent → List TransferEvent
recoded code [] = []
recoded code (transfer_event old ed pointer length ∷ es) = transfer_event (cond ed code old) ed pointer length ∷ recoded code es

-- the events of the TDs, with that code
abbrev pub chain_events : (n : ℕ) → ControlTransfer → List TransferEvent
chain_events n t =
    events repeated_residual ended 0 (t.setup_trb ∷ [])
    ++ (events repeated_residual ended n t.data_trbs ++ recoded (final_code n (asked t.data_trbs)) (events repeated_residual ended 0 t.status_trbs))

-- 01, Control endpoint: the event of a failed transfer has residual 0; here with this length in its place
abbrev pub sized : (length : ℕ) → List TransferEvent → List TransferEvent
sized length [] = []
sized length (transfer_event code ed pointer old ∷ es) = transfer_event code ed pointer length ∷ sized length es
