-- 01, IN endpoint: what becomes of a TRB that is submitted, and what a completion does. Assumes nothing.
use Rattle.std.specs.Prelude.{ℕ, cond, eqb, None, Option, Some}
use Rattle.trb.specs.Trbs.{chain_of}
use Rattle.trb.specs.declared.InTrbProcessingStatus.{InTrbProcessingStatus}
use Rattle.trb.specs.declared.InTrbProcessingStatus.TheVariants.{Success}
use Rattle.trb.specs.declared.TdBasedNormalSubmissionState.{TdBasedNormalSubmissionState}
use Rattle.trb.specs.declared.TdBasedNormalSubmissionState.TheVariants.{SubmissionDue, CollectingTd, AwaitingRealTransfer, AwaitingLocalCompletion, UnsupportedTrb}
use Rattle.trb.specs.declared.TransferTrb.{TransferTrb}
use Rattle.held.specs.Sound.{supported}
use Rattle.held.specs.declared.EndpointKind.TheVariants.{In}
use Rattle.in_block.specs.declared.Ending.{Ending}
use Rattle.in_block.specs.declared.Ending.TheVariants.{KeepCollecting, Transfer, ReportUnsupported}
use Rattle.in_block.specs.declared.HeldTest.{HeldTest}
use Rattle.in_block.specs.declared.Outcome.{Outcome}
use Rattle.in_block.specs.declared.Outcome.TheVariants.{Drop, Collect, CompleteLocally, Request}
use Rattle.in_block.specs.Facts.{trb_test}

-- if the TD has a Normal, a request is logged. Otherwise the completion is local
abbrev pub endedTd : HeldTest → Outcome
endedTd td = cond (eqb td.normals 0) CompleteLocally Request

-- Normal, EventData and NoOp are held; any other TRB drops the held ones. A TRB with chain off ends the TD
unfoldable pub outcome_of : HeldTest → TransferTrb → Outcome
outcome_of found t = cond (supported In t.variant) (cond (chain_of t.variant) Collect (endedTd (trb_test found t))) Drop

-- what the completion will find; the address of a TRB of an unsupported kind is kept for it
abbrev pub state_after : Outcome → ℕ → TdBasedNormalSubmissionState
state_after Drop a = UnsupportedTrb a
state_after Collect a = CollectingTd
state_after CompleteLocally a = AwaitingLocalCompletion
state_after Request a = AwaitingRealTransfer

-- what the device returned is walked; without a Normal the completion is local, as Success with no data. (A submission that is due is
-- refused by question 3, a result that is missing by question 8.)
abbrev pub ending_of : TdBasedNormalSubmissionState → Option InTrbProcessingStatus → ℕ → Ending
ending_of SubmissionDue r n = KeepCollecting
ending_of CollectingTd r n = KeepCollecting
ending_of AwaitingRealTransfer None n = KeepCollecting
ending_of AwaitingRealTransfer (Some st) n = Transfer st n
ending_of AwaitingLocalCompletion r n = Transfer Success 0
ending_of (UnsupportedTrb a) r n = ReportUnsupported a
