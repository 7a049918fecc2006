-- 01, Control endpoint: the phase table, a definition for each kind of TRB. Assumes nothing.
use Rattle.std.specs.Prelude.{Bool, cond}
use Rattle.trb.specs.declared.ControlTransferState.{ControlTransferState}
use Rattle.trb.specs.declared.ControlTransferState.TheVariants.{ExpectSetupStageTrb, MaybeDataStageTrb, MoreData, ExpectStatusStageTrb, ExpectFinalEventDataTrb}
use Rattle.trb.specs.declared.TransferTrbVariant.{TransferTrbVariant}
use Rattle.trb.specs.declared.TransferTrbVariant.TheVariants as variant
use Rattle.trb.specs.Trbs.{chain_of}
use Rattle.phase_table.specs.declared.TrbKind.{TrbKind}
use Rattle.phase_table.specs.declared.TrbKind.TheVariants as kind
use Rattle.phase_table.specs.declared.Outcome.{Outcome}
use Rattle.phase_table.specs.declared.Outcome.TheVariants.{StartTransfer, RestartTransfer, TakeData, TakeLastData, TakeChainedStatus, SubmitRequest, Unexpected, Unsupported, Unrecognized}

abbrev pub kind_of : TransferTrbVariant → TrbKind
kind_of (variant.SetupStage t) = kind.SetupStage
kind_of (variant.DataStage t) = kind.DataStage
kind_of (variant.StatusStage t) = kind.StatusStage
kind_of (variant.Normal t) = kind.Normal
kind_of (variant.EventData t) = kind.EventData
kind_of (variant.NoOp t) = kind.NoOp
kind_of variant.Isoch = kind.Isoch
kind_of variant.Unrecognized = kind.Unrecognized

-- MoreData if chained, else ExpectStatusStageTrb
abbrev pub data_taken : Bool → Outcome
data_taken chain = cond chain TakeData TakeLastData

-- chained: ExpectFinalEventDataTrb; else request
abbrev pub status_taken : Bool → Outcome
status_taken chain = cond chain TakeChainedStatus SubmitRequest

-- Setup is taken in every phase; outside ExpectSetupStageTrb it first clears the held TRBs
abbrev pub setup_stage_outcome : ControlTransferState → Outcome
setup_stage_outcome ExpectSetupStageTrb = StartTransfer
setup_stage_outcome MaybeDataStageTrb = RestartTransfer
setup_stage_outcome MoreData = RestartTransfer
setup_stage_outcome ExpectStatusStageTrb = RestartTransfer
setup_stage_outcome ExpectFinalEventDataTrb = RestartTransfer

-- MaybeDataStageTrb: also taken DataStage
abbrev pub data_stage_outcome : ControlTransferState → Bool → Outcome
data_stage_outcome ExpectSetupStageTrb chain = Unexpected
data_stage_outcome MaybeDataStageTrb chain = data_taken chain
data_stage_outcome MoreData chain = Unexpected
data_stage_outcome ExpectStatusStageTrb chain = Unexpected
data_stage_outcome ExpectFinalEventDataTrb chain = Unexpected

-- MaybeDataStageTrb, ExpectStatusStageTrb: also taken StatusStage
abbrev pub status_stage_outcome : ControlTransferState → Bool → Outcome
status_stage_outcome ExpectSetupStageTrb chain = Unexpected
status_stage_outcome MaybeDataStageTrb chain = status_taken chain
status_stage_outcome MoreData chain = Unexpected
status_stage_outcome ExpectStatusStageTrb chain = status_taken chain
status_stage_outcome ExpectFinalEventDataTrb chain = Unexpected

-- MoreData: also taken Normal, EventData
abbrev pub normal_outcome : ControlTransferState → Bool → Outcome
normal_outcome ExpectSetupStageTrb chain = Unexpected
normal_outcome MaybeDataStageTrb chain = Unexpected
normal_outcome MoreData chain = data_taken chain
normal_outcome ExpectStatusStageTrb chain = Unexpected
normal_outcome ExpectFinalEventDataTrb chain = Unexpected

-- ExpectFinalEventDataTrb: also taken EventData, then request
abbrev pub event_data_outcome : ControlTransferState → Bool → Outcome
event_data_outcome ExpectSetupStageTrb chain = Unexpected
event_data_outcome MaybeDataStageTrb chain = Unexpected
event_data_outcome MoreData chain = data_taken chain
event_data_outcome ExpectStatusStageTrb chain = Unexpected
event_data_outcome ExpectFinalEventDataTrb chain = SubmitRequest

-- the table, by phase, kind and chain bit
abbrev pub outcome_of : ControlTransferState → TrbKind → Bool → Outcome
outcome_of phase kind.SetupStage chain = setup_stage_outcome phase
outcome_of phase kind.DataStage chain = data_stage_outcome phase chain
outcome_of phase kind.StatusStage chain = status_stage_outcome phase chain
outcome_of phase kind.Normal chain = normal_outcome phase chain
outcome_of phase kind.EventData chain = event_data_outcome phase chain
outcome_of phase kind.NoOp chain = Unsupported
outcome_of phase kind.Isoch chain = Unsupported
outcome_of phase kind.Unrecognized chain = Unrecognized

-- of a TRB
unfoldable pub trb_outcome : ControlTransferState → TransferTrbVariant → Outcome
trb_outcome phase v = outcome_of phase (kind_of v) (chain_of v)
