-- 02, R-11: where the event of a failed transfer goes. Assumes nothing.
use Rattle.std.specs.Prelude.{ℕ, Bool, true, false, cond, List, [], ◌∷◌}
use Rattle.trb.specs.declared.TransferTrb.{TransferTrb}
use Rattle.trb.specs.declared.TransferTrbVariant.{TransferTrbVariant}
use Rattle.trb.specs.declared.TransferTrbVariant.TheVariants.{SetupStage, DataStage, StatusStage, Normal, EventData, NoOp, Isoch, Unrecognized}
use Rattle.control_block.specs.declared.ControlBlock.{ControlBlock}
use Rattle.control_block.specs.declared.GuestRelease.{GuestRelease}
use Rattle.control_block.specs.declared.GuestRelease.TheVariants.{Release4, Release5}
use Rattle.control_block.specs.declared.StageFound.{StageFound}
use Rattle.control_block.specs.declared.StageFound.TheVariants as found
use Rattle.control_block.specs.Blocks.{held_of}

abbrev pub is_data_stage : TransferTrbVariant → Bool
is_data_stage (SetupStage t) = false
is_data_stage (DataStage t) = true
is_data_stage (StatusStage t) = false
is_data_stage (Normal t) = false
is_data_stage (EventData t) = false
is_data_stage (NoOp t) = false
is_data_stage Isoch = false
is_data_stage Unrecognized = false

abbrev pub is_status_stage : TransferTrbVariant → Bool
is_status_stage (SetupStage t) = false
is_status_stage (DataStage t) = false
is_status_stage (StatusStage t) = true
is_status_stage (Normal t) = false
is_status_stage (EventData t) = false
is_status_stage (NoOp t) = false
is_status_stage Isoch = false
is_status_stage Unrecognized = false

-- the address of the first of these TRBs that is of a kind, failing that another address
unfoldable pub first_at : (TransferTrbVariant → Bool) → List TransferTrb → ℕ → ℕ
first_at kind [] failing = failing
first_at kind (t ∷ ts) failing = cond (kind t.variant) t.addr (first_at kind ts failing)

-- the first held Data Stage TRB, failing that the first held Status Stage TRB, failing that the Setup address
abbrev pub stage_address : List TransferTrb → (setup : ℕ) → ℕ
stage_address ts setup = first_at is_data_stage ts (first_at is_status_stage ts setup)

-- release 4 guests expect the event at the Setup TRB, release 5 guests look for the stage
abbrev pub address_for : GuestRelease → (setup stage : ℕ) → ℕ
address_for Release4 setup stage = setup
address_for Release5 setup stage = stage

-- where the event of a failed transfer of the block b goes
unfoldable pub error_address : ControlBlock → ℕ
error_address b = address_for b.release b.transfer.request.address (stage_address (held_of b) b.transfer.request.address)

-- ---- The same, TRB by TRB

-- a TRB has its turn: the first Data Stage TRB counts, even behind a Status Stage TRB
unfoldable pub stage_with : StageFound → TransferTrb → StageFound
stage_with (found.Neither a) t =
    cond (is_data_stage t.variant) (found.DataStage t.addr) (cond (is_status_stage t.variant) (found.StatusStage t.addr) (found.Neither a))
stage_with (found.StatusStage a) t = cond (is_data_stage t.variant) (found.DataStage t.addr) (found.StatusStage a)
stage_with (found.DataStage a) t = found.DataStage a

-- the address that the event goes to
abbrev pub found_address : StageFound → ℕ
found_address (found.Neither a) = a
found_address (found.StatusStage a) = a
found_address (found.DataStage a) = a
