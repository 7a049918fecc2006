-- 01, Submission: is the block sound? What is asked of the TRBs held. Assumes nothing.
use Rattle.std.specs.Prelude.{Bool, true, false, ◌&&◌, List, leb}
use Rattle.trb.specs.Limits.{max_transfer_length}
use Rattle.trb.specs.Trbs.{transfer_length}
use Rattle.trb.specs.declared.TransferTrb.{TransferTrb}
use Rattle.trb.specs.declared.TransferTrbVariant.{TransferTrbVariant}
use Rattle.trb.specs.declared.TransferTrbVariant.TheVariants.{SetupStage, DataStage, StatusStage, Normal, EventData, NoOp, Isoch, Unrecognized}
use Rattle.walks.specs.All.{all}
use Rattle.held.specs.declared.EndpointKind.{EndpointKind}
use Rattle.held.specs.declared.EndpointKind.TheVariants.{In, Control}

-- 01, IN endpoint: Normal, EventData and NoOp are held. Control endpoint: the kinds of its phase table
abbrev pub supported : EndpointKind → TransferTrbVariant → Bool
supported In (SetupStage t) = false
supported In (DataStage t) = false
supported In (StatusStage t) = false
supported In (Normal t) = true
supported In (EventData t) = true
supported In (NoOp t) = true
supported In Isoch = false
supported In Unrecognized = false
supported Control (SetupStage t) = true
supported Control (DataStage t) = true
supported Control (StatusStage t) = true
supported Control (Normal t) = true
supported Control (EventData t) = true
supported Control (NoOp t) = false
supported Control Isoch = false
supported Control Unrecognized = false

-- of a kind that this endpoint supports, its length at most 131,071
unfoldable pub sound_trb : EndpointKind → TransferTrb → Bool
sound_trb k t = supported k t.variant && leb (transfer_length t.variant) max_transfer_length

abbrev pub held_sound : EndpointKind → List TransferTrb → Bool
held_sound k ts = all (sound_trb k) ts
