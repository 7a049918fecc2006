-- 01, Control endpoint: what a DataStage or Normal TRB counts and collects. Assumes nothing.
use Rattle.std.specs.Prelude.{ℕ, min, Bool, false, cond, not, ◌||◌, List}
use Rattle.buffers.specs.LittleEndian.{le_bytes}
use Rattle.guest_memory.specs.declared.Regions.{Regions}
use Rattle.guest_memory.specs.Places.{range_inside, Memory, bytes_at}
use Rattle.trb.specs.Questions.{asked_if}
use Rattle.trb.specs.declared.TransferTrbVariant.{TransferTrbVariant}
use Rattle.trb.specs.declared.TransferTrbVariant.TheVariants.{SetupStage, DataStage, StatusStage, Normal, EventData, NoOp, Isoch, Unrecognized}
use Rattle.control_transfer.specs.declared.TrbData.{TrbData}

abbrev pub no_data : TrbData
no_data = record { data_pointer = 0; transfer_length = 0; immediate_data = false }

-- of a DataStage or Normal TRB; the other kinds move nothing
abbrev pub data_of : TransferTrbVariant → TrbData
data_of (SetupStage t) = no_data
data_of (DataStage t) = record { data_pointer = t.data_pointer; transfer_length = t.transfer_length; immediate_data = t.immediate_data }
data_of (StatusStage t) = no_data
data_of (Normal t) = record { data_pointer = t.data_pointer; transfer_length = t.transfer_length; immediate_data = t.immediate_data }
data_of (EventData t) = no_data
data_of (NoOp t) = no_data
data_of Isoch = no_data
data_of Unrecognized = no_data

-- min(8, length)
abbrev pub immediate_length : ℕ → ℕ
immediate_length n = min 8 n

-- immediate TRBs counting min(8, length)
abbrev pub size_of : TrbData → ℕ
size_of d = cond d.immediate_data (immediate_length d.transfer_length) d.transfer_length

-- 01, Submission: does pointer to pointer + length lie in the guest window? 02, R-1: in one of the regions. Not asked of immediate data in a control OUT transfer
unfoldable pub in_reach : Bool → TrbData → Regions → Bool
in_reach input d regions = asked_if (input || not d.immediate_data) (range_inside regions d.data_pointer d.transfer_length)

-- on OUT bytes are collected: from memory, or min(8, length) little-endian pointer bytes
unfoldable pub bytes_of : Memory → TrbData → List ℕ
bytes_of m d =
    cond d.immediate_data (le_bytes (immediate_length d.transfer_length) d.data_pointer)
    (bytes_at m d.data_pointer d.transfer_length)
