-- 01, Submission and IN endpoint: what is asked of a TRB that would be held. Assumes nothing.
use Rattle.std.specs.Prelude.{Bool, true}
use Rattle.trb.specs.declared.TransferTrbVariant.{TransferTrbVariant}
use Rattle.trb.specs.declared.TransferTrbVariant.TheVariants.{SetupStage, DataStage, StatusStage, Normal, EventData, NoOp, Isoch, Unrecognized}
use Rattle.guest_memory.specs.declared.Regions.{Regions}
use Rattle.guest_memory.specs.Places.{range_inside}

-- 01, Submission: does its range lie in the guest window? 02, R-1: in one of the regions
abbrev pub in_guest_memory : TransferTrbVariant → Regions → Bool
in_guest_memory (SetupStage t) regions = true
in_guest_memory (DataStage t) regions = true
in_guest_memory (StatusStage t) regions = true
in_guest_memory (Normal t) regions = range_inside regions t.data_pointer t.transfer_length
in_guest_memory (EventData t) regions = true
in_guest_memory (NoOp t) regions = true
in_guest_memory Isoch regions = true
in_guest_memory Unrecognized regions = true
