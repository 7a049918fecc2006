-- 01, Control endpoint: what a completion does. Assumes nothing.
use Rattle.std.specs.Prelude.{ℕ, None, Option, Some}
use Rattle.trb.specs.declared.CompletionCode.TheVariants.{UsbTransactionError, StallError}
use Rattle.trb.specs.declared.ControlRequestProcessingResult.{ControlRequestProcessingResult}
use Rattle.trb.specs.declared.ControlRequestProcessingResult.TheVariants as device
use Rattle.trb.specs.declared.ControlSubmissionState.{ControlSubmissionState}
use Rattle.trb.specs.declared.ControlSubmissionState.TheVariants.{NoTrbSubmitted, CollectingTd, ParserError, UnexpectedTrb, AwaitingControlRequest}
use Rattle.trb.specs.declared.ControlTransferState.{ControlTransferState}
use Rattle.trb.specs.declared.ControlTransferState.TheVariants.{ExpectSetupStageTrb}
use Rattle.trb.specs.declared.TrbProcessingResult.{TrbProcessingResult}
use Rattle.trb.specs.declared.TrbProcessingResult.TheVariants as result
use Rattle.control_block.specs.declared.Ending.{Ending}
use Rattle.control_block.specs.declared.Ending.TheVariants.{KeepCollecting, ReportBadTrb, Fail, Realize}

-- Stall, TransactionError, Disconnect: code 6, 4, 4. Data counts only with SuccessfulControlIn. (That none is given is refused by question 8.)
abbrev pub request_ending : Option ControlRequestProcessingResult → ℕ → Ending
request_ending None n = KeepCollecting
request_ending (Some device.Disconnect) n = Fail UsbTransactionError result.Disconnect
request_ending (Some device.Stall) n = Fail StallError result.Stall
request_ending (Some device.TransactionError) n = Fail UsbTransactionError result.TransactionError
request_ending (Some device.SuccessfulControlIn) n = Realize (Some n)
request_ending (Some device.SuccessfulControlOut) n = Realize None

-- TRBs still being collected are kept; a bad TRB is reported. (A submission that is due is refused by question 3.)
abbrev pub ending_of : ControlSubmissionState → Option ControlRequestProcessingResult → ℕ → Ending
ending_of NoTrbSubmitted r n = KeepCollecting
ending_of CollectingTd r n = KeepCollecting
ending_of (ParserError a) r n = ReportBadTrb a
ending_of (UnexpectedTrb a) r n = ReportBadTrb a
ending_of AwaitingControlRequest r n = request_ending r n

-- 01, Questions asked: a completion while TRBs are still being collected ends with Ok. Control endpoint: TrbError after a bad TRB
abbrev pub result_of : Ending → TrbProcessingResult
result_of KeepCollecting = result.Ok
result_of (ReportBadTrb a) = result.TrbError
result_of (Fail c r) = r
result_of (Realize given) = result.Ok

-- 01, Questions asked: TRBs still being collected are kept; after any other completion nothing is held
abbrev pub places_freed : Ending → ℕ → ℕ
places_freed KeepCollecting held = 0
places_freed (ReportBadTrb a) held = held
places_freed (Fail c r) held = held
places_freed (Realize given) held = held

-- phase becomes ExpectSetupStageTrb after a bad TRB; after Unrecognized it stays
abbrev pub phase_behind : ControlSubmissionState → ControlTransferState → ControlTransferState
phase_behind NoTrbSubmitted phase = phase
phase_behind CollectingTd phase = phase
phase_behind (ParserError a) phase = phase
phase_behind (UnexpectedTrb a) phase = ExpectSetupStageTrb
phase_behind AwaitingControlRequest phase = phase
