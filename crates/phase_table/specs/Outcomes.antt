-- 01, Control endpoint: what follows from the phase table's outcome. Assumes nothing.
use Rattle.std.specs.Prelude.{ℕ, Bool, true, false}
use Rattle.trb.specs.declared.ControlSubmissionState.{ControlSubmissionState}
use Rattle.trb.specs.declared.ControlSubmissionState.TheVariants.{CollectingTd, ParserError, UnexpectedTrb, AwaitingControlRequest}
use Rattle.trb.specs.declared.ControlTransferState.{ControlTransferState}
use Rattle.trb.specs.declared.ControlTransferState.TheVariants.{ExpectSetupStageTrb, MaybeDataStageTrb, MoreData, ExpectStatusStageTrb, ExpectFinalEventDataTrb}
use Rattle.phase_table.specs.declared.Outcome.{Outcome}
use Rattle.phase_table.specs.declared.Outcome.TheVariants.{StartTransfer, RestartTransfer, TakeData, TakeLastData, TakeChainedStatus, SubmitRequest, Unexpected, Unsupported, Unrecognized}

-- a TRB that is taken is held
abbrev pub holds : Outcome → Bool
holds StartTransfer = true
holds RestartTransfer = true
holds TakeData = true
holds TakeLastData = true
holds TakeChainedStatus = true
holds SubmitRequest = true
holds Unexpected = false
holds Unsupported = false
holds Unrecognized = false

-- a Setup outside ExpectSetupStageTrb clears the held TRBs
abbrev pub restarts : Outcome → Bool
restarts StartTransfer = false
restarts RestartTransfer = true
restarts TakeData = false
restarts TakeLastData = false
restarts TakeChainedStatus = false
restarts SubmitRequest = false
restarts Unexpected = false
restarts Unsupported = false
restarts Unrecognized = false

-- a request is logged
abbrev pub requests : Outcome → Bool
requests StartTransfer = false
requests RestartTransfer = false
requests TakeData = false
requests TakeLastData = false
requests TakeChainedStatus = false
requests SubmitRequest = true
requests Unexpected = false
requests Unsupported = false
requests Unrecognized = false

-- the table's column Next; after a request ExpectSetupStageTrb. Any other TRB: ExpectSetupStageTrb, at completion for NoOp and
-- Isoch, at submission for the rest; after Unrecognized it stays
abbrev pub phase_after : ControlTransferState → Outcome → ControlTransferState
phase_after phase StartTransfer = MaybeDataStageTrb
phase_after phase RestartTransfer = MaybeDataStageTrb
phase_after phase TakeData = MoreData
phase_after phase TakeLastData = ExpectStatusStageTrb
phase_after phase TakeChainedStatus = ExpectFinalEventDataTrb
phase_after phase SubmitRequest = ExpectSetupStageTrb
phase_after phase Unexpected = ExpectSetupStageTrb
phase_after phase Unsupported = phase
phase_after phase Unrecognized = phase

-- what the completion will find; the bad TRB's address is kept for it
abbrev pub state_after : Outcome → ℕ → ControlSubmissionState
state_after StartTransfer a = CollectingTd
state_after RestartTransfer a = CollectingTd
state_after TakeData a = CollectingTd
state_after TakeLastData a = CollectingTd
state_after TakeChainedStatus a = CollectingTd
state_after SubmitRequest a = AwaitingControlRequest
state_after Unexpected a = UnexpectedTrb a
state_after Unsupported a = UnexpectedTrb a
state_after Unrecognized a = ParserError a
