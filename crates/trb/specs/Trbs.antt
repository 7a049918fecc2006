-- What a TRB says, by its kind. Assumes nothing.
use Rattle.std.specs.Prelude.{ℕ, Bool, false}
use Rattle.trb.specs.declared.TransferTrbVariant.{TransferTrbVariant}
use Rattle.trb.specs.declared.TransferTrbVariant.TheVariants.{SetupStage, DataStage, StatusStage, Normal, EventData, NoOp, Isoch, Unrecognized}

-- 01, Submission: the length of a DataStage or Normal TRB; of any other 0
abbrev pub transfer_length : TransferTrbVariant → ℕ
transfer_length (SetupStage t) = 0
transfer_length (DataStage t) = t.transfer_length
transfer_length (StatusStage t) = 0
transfer_length (Normal t) = t.transfer_length
transfer_length (EventData t) = 0
transfer_length (NoOp t) = 0
transfer_length Isoch = 0
transfer_length Unrecognized = 0

-- the immediate data flag of a DataStage or Normal TRB; of any other, off
abbrev pub immediate_of : TransferTrbVariant → Bool
immediate_of (SetupStage t) = false
immediate_of (DataStage t) = t.immediate_data
immediate_of (StatusStage t) = false
immediate_of (Normal t) = t.immediate_data
immediate_of (EventData t) = false
immediate_of (NoOp t) = false
immediate_of Isoch = false
immediate_of Unrecognized = false

-- the chain bit; of a kind without one, off
abbrev pub chain_of : TransferTrbVariant → Bool
chain_of (SetupStage t) = false
chain_of (DataStage t) = t.chain
chain_of (StatusStage t) = t.chain
chain_of (Normal t) = t.chain
chain_of (EventData t) = t.chain
chain_of (NoOp t) = t.chain
chain_of Isoch = false
chain_of Unrecognized = false
