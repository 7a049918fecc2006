-- The numbers of a phase and of a release rule, as a block in bytes and a script have them: any number is one. Assumes nothing.
use Rattle.std.specs.Prelude.{ℕ, cond, eqb}
use Rattle.trb.specs.declared.ControlTransferState.{ControlTransferState}
use Rattle.trb.specs.declared.ControlTransferState.TheVariants.{ExpectSetupStageTrb, MaybeDataStageTrb, MoreData, ExpectStatusStageTrb, ExpectFinalEventDataTrb}
use Rattle.control_block.specs.declared.GuestRelease.{GuestRelease}
use Rattle.control_block.specs.declared.GuestRelease.TheVariants.{Release4, Release5}

-- 5 is release 5, any other number release 4
abbrev pub release_of : ℕ → GuestRelease
release_of n = cond (eqb n 5) Release5 Release4

-- 1 to 4 are the phases behind ExpectSetupStageTrb, in their order; any other number is that one
abbrev pub phase_of : ℕ → ControlTransferState
phase_of n =
    cond (eqb n 1) MaybeDataStageTrb
    (cond (eqb n 2) MoreData
    (cond (eqb n 3) ExpectStatusStageTrb
    (cond (eqb n 4) ExpectFinalEventDataTrb ExpectSetupStageTrb)))
