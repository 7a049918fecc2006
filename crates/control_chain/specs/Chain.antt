-- 01, Control endpoint: what a completion makes of the TRBs of a transfer that succeeded, over lists of any length. Assumes nothing.
use Rattle.std.specs.Prelude.{ℕ, Bool, true, false, cond, List}
use Rattle.trb.specs.declared.DataStageTrb.{DataStageTrb}
use Rattle.trb.specs.declared.EndpointId.{EndpointId}
use Rattle.trb.specs.declared.SlotId.{SlotId}
use Rattle.trb.specs.declared.NormalTrb.{NormalTrb}
use Rattle.trb.specs.declared.TransferTrb.{TransferTrb}
use Rattle.trb.specs.declared.TransferTrbVariant.{TransferTrbVariant}
use Rattle.trb.specs.declared.TransferTrbVariant.TheVariants.{SetupStage, DataStage, StatusStage, Normal, EventData, NoOp, Isoch, Unrecognized}
use Rattle.call_log.specs.Calls.{Out, silent}
use Rattle.td_part.specs.declared.TdInfo.{TdInfo}
use Rattle.td_part.specs.declared.TdProcessingState.{TdProcessingState}
use Rattle.td_part.specs.declared.TdProcessingState.TheVariants.{Default, ShortTransfer}
use Rattle.td_part.specs.declared.TdProgress.{TdProgress}
use Rattle.td_part.specs.declared.TrbDmaInfo.{TrbDmaInfo}
use Rattle.td_part.specs.Parts.{of_normal, of_data_stage, at_start, edtla_after, realize_dma, repeat_short, report_success, handle_event_data}
use Rattle.walks.specs.Walk.{walk}
use Rattle.control_chain.specs.declared.ControlTd.{ControlTd}

-- Setup, DataStage and StatusStage set EDTLA to 0 first
abbrev pub edtla_zeroed : TdProgress → TdProgress
edtla_zeroed w = record { start = w.start; edtla = 0; state = w.state; records = w.records }

-- SuccessfulControlOut writes nothing, every residual is 0, and EDTLA grows by the full length
unfoldable pub move_out : TdInfo → TdProgress → TrbDmaInfo → Out TdProgress
move_out td w d = report_success td w (edtla_after w.edtla d.transfer_length) d.interrupt_on_completion d.addr

-- SuccessfulControlIn: like a TRB of an IN TD. Immediate TRBs are written like any other
abbrev pub move_data : ControlTd → TdProgress → TrbDmaInfo → Out TdProgress
move_data td w d = cond td.input (realize_dma td.info w d) (move_out td.info w d)

-- Setup and StatusStage log Success if IOC
abbrev pub realize_stage : TdInfo → TdProgress → Bool → ℕ → Out TdProgress
realize_stage td w ioc a = report_success td w 0 ioc a

-- a Normal moves its bytes, until one is short
abbrev pub normal_by_state : TdProcessingState → ControlTd → TdProgress → NormalTrb → ℕ → Out TdProgress
normal_by_state Default td w t a = move_data td w (of_normal t a)
normal_by_state (ShortTransfer missing) td w t a = repeat_short td.info w missing t.interrupt_on_completion a

-- a DataStage writes min(its length, bytes left) even after a short TRB and, if short itself, gives the residual that later Normals repeat
unfoldable pub realize_data_stage : ControlTd → TdProgress → DataStageTrb → ℕ → Out TdProgress
realize_data_stage td w t a = move_data td (edtla_zeroed w) (of_data_stage t a)

unfoldable pub realize_normal : ControlTd → TdProgress → NormalTrb → ℕ → Out TdProgress
realize_normal td w t a = normal_by_state w.state td w t a

-- what a TRB does, by its kind. The last three are never held by a sound block: they do nothing
abbrev pub trb_by_kind : TransferTrbVariant → ControlTd → TdProgress → ℕ → Out TdProgress
trb_by_kind (SetupStage t) td w a = realize_stage td.info w t.interrupt_on_completion a
trb_by_kind (DataStage t) td w a = realize_data_stage td w t a
trb_by_kind (StatusStage t) td w a = realize_stage td.info w t.interrupt_on_completion a
trb_by_kind (Normal t) td w a = realize_normal td w t a
trb_by_kind (EventData t) td w a = handle_event_data td.info w t
trb_by_kind (NoOp t) td w a = silent w
trb_by_kind Isoch td w a = silent w
trb_by_kind Unrecognized td w a = silent w

unfoldable pub realize_trb : ControlTd → TdProgress → TransferTrb → Out TdProgress
realize_trb td w t = trb_by_kind t.variant td w t.addr

-- nothing ends the walk
abbrev pub never : TdProgress → Bool
never w = false

-- the walk over the TRBs of a transfer
abbrev pub realize_chain : ControlTd → List TransferTrb → Out TdProgress
realize_chain td ts = walk (realize_trb td) never at_start ts

-- with n bytes of device data
abbrev pub input_td : EndpointId → SlotId → ℕ → ControlTd
input_td e s n = record { info = record { endpoint_id = e; slot_id = s; data_length = n }; input = true }

-- with none
abbrev pub output_td : EndpointId → SlotId → ControlTd
output_td e s = record { info = record { endpoint_id = e; slot_id = s; data_length = 0 }; input = false }
