-- A TRB by numbers: xHCI's type, flags, address, data pointer or event data or setup bytes, and transfer length. Assumes nothing.
use Rattle.std.specs.Prelude.{ℕ, ◌+◌, ◌*◌, ◌/◌, ◌%◌, ◌^◌, ◌<◌, Bool, false, cond, eqb}
use Rattle.trb.specs.declared.NormalTrb.{NormalTrb}
use Rattle.trb.specs.declared.SetupStageTrb.{SetupStageTrb}
use Rattle.trb.specs.declared.DataStageTrb.{DataStageTrb}
use Rattle.trb.specs.declared.StatusStageTrb.{StatusStageTrb}
use Rattle.trb.specs.declared.EventDataTrb.{EventDataTrb}
use Rattle.trb.specs.declared.NoOpTrb.{NoOpTrb}
use Rattle.trb.specs.declared.TransferTrb.{TransferTrb}
use Rattle.trb.specs.declared.TransferTrbVariant.{TransferTrbVariant}
use Rattle.trb.specs.declared.TransferTrbVariant.TheVariants.{SetupStage, DataStage, StatusStage, Normal, EventData, NoOp, Isoch, Unrecognized}
use Rattle.raw_trb.specs.Fields.{bit_number}
use Rattle.raw_trb.specs.Layouts.{normal_type, setup_stage_type, data_stage_type, status_stage_type, isoch_type, event_data_type, no_op_type}
use Rattle.held_bytes.specs.declared.TrbNumbers.{TrbNumbers}

-- is the bit of this weight on?
abbrev pub bit_of : ℕ → ℕ → Bool
bit_of n weight = eqb (n / weight % 2) 1

-- ---- Flags, by weight

abbrev pub cycle_on : ℕ → Bool
cycle_on flags = bit_of flags 1

abbrev pub chain_on : ℕ → Bool
chain_on flags = bit_of flags 2

abbrev pub completion_on : ℕ → Bool
completion_on flags = bit_of flags 4

abbrev pub short_on : ℕ → Bool
short_on flags = bit_of flags 8

abbrev pub immediate_on : ℕ → Bool
immediate_on flags = bit_of flags 16

abbrev pub direction_on : ℕ → Bool
direction_on flags = bit_of flags 32

-- ---- What the numbers say, by kind

abbrev pub normal_of : ℕ → ℕ → ℕ → NormalTrb
normal_of flags value length = record {
  data_pointer = value;
  transfer_length = length;
  interrupt_on_short = short_on flags;
  chain = chain_on flags;
  interrupt_on_completion = completion_on flags;
  immediate_data = immediate_on flags;
}

-- the eight setup bytes are a little-endian number
abbrev pub setup_stage_of : ℕ → ℕ → SetupStageTrb
setup_stage_of flags value = record {
  request_type = value % 256;
  request = value / 2 ^ 8 % 256;
  value = value / 2 ^ 16 % 65536;
  index = value / 2 ^ 32 % 65536;
  length = value / 2 ^ 48 % 65536;
  interrupt_on_completion = completion_on flags;
}

abbrev pub data_stage_of : ℕ → ℕ → ℕ → DataStageTrb
data_stage_of flags value length = record {
  data_pointer = value;
  transfer_length = length;
  chain = chain_on flags;
  interrupt_on_completion = completion_on flags;
  interrupt_on_short = short_on flags;
  immediate_data = immediate_on flags;
  direction = direction_on flags;
}

abbrev pub status_stage_of : ℕ → StatusStageTrb
status_stage_of flags = record { chain = chain_on flags; interrupt_on_completion = completion_on flags; direction = direction_on flags }

abbrev pub event_data_of : ℕ → ℕ → EventDataTrb
event_data_of flags value = record { event_data = value; chain = chain_on flags; interrupt_on_completion = completion_on flags }

abbrev pub no_op_of : ℕ → NoOpTrb
no_op_of flags = record { chain = chain_on flags; interrupt_on_completion = completion_on flags }

-- by xHCI's type; any number but these seven is an unrecognized TRB
unfoldable pub variant_of : ℕ → ℕ → ℕ → ℕ → TransferTrbVariant
variant_of kind flags value length =
    cond (eqb kind normal_type) (Normal (normal_of flags value length))
    (cond (eqb kind setup_stage_type) (SetupStage (setup_stage_of flags value))
    (cond (eqb kind data_stage_type) (DataStage (data_stage_of flags value length))
    (cond (eqb kind status_stage_type) (StatusStage (status_stage_of flags))
    (cond (eqb kind isoch_type) Isoch
    (cond (eqb kind event_data_type) (EventData (event_data_of flags value))
    (cond (eqb kind no_op_type) (NoOp (no_op_of flags)) Unrecognized))))))

abbrev pub trb_of : TrbNumbers → TransferTrb
trb_of n = record { variant = variant_of n.kind n.flags n.value n.transfer_length; addr = n.addr; cycle_bit = cycle_on n.flags }

-- ---- The numbers of a TRB

abbrev pub flags_of : Bool → Bool → Bool → Bool → Bool → Bool → ℕ
flags_of cycle chain completion short immediate direction =
    bit_number cycle + 2 * bit_number chain + 4 * bit_number completion + 8 * bit_number short + 16 * bit_number immediate + 32 * bit_number direction

abbrev pub setup_value : SetupStageTrb → ℕ
setup_value t = t.request_type + 2 ^ 8 * t.request + 2 ^ 16 * t.value + 2 ^ 32 * t.index + 2 ^ 48 * t.length

-- the fields of a Setup TRB fit their bytes
abbrev pub SetupFits : TransferTrbVariant → Type 0
SetupFits (SetupStage t) = (t.request_type < 2 ^ 8) × ((t.request < 2 ^ 8) × ((t.value < 2 ^ 16) × ((t.index < 2 ^ 16) × (t.length < 2 ^ 16))))
SetupFits (DataStage t) = Unit {0}
SetupFits (StatusStage t) = Unit {0}
SetupFits (Normal t) = Unit {0}
SetupFits (EventData t) = Unit {0}
SetupFits (NoOp t) = Unit {0}
SetupFits Isoch = Unit {0}
SetupFits Unrecognized = Unit {0}

-- what a kind has no field for is 0
abbrev pub trb_numbers : ℕ → ℕ → ℕ → ℕ → ℕ → TrbNumbers
trb_numbers kind flags addr value length = record { kind = kind; flags = flags; addr = addr; value = value; transfer_length = length }

abbrev pub variant_numbers : TransferTrbVariant → Bool → ℕ → TrbNumbers
variant_numbers (SetupStage t) c a = trb_numbers setup_stage_type (flags_of c false t.interrupt_on_completion false false false) a (setup_value t) 0
variant_numbers (DataStage t) c a = trb_numbers data_stage_type (flags_of c t.chain t.interrupt_on_completion t.interrupt_on_short t.immediate_data t.direction) a t.data_pointer t.transfer_length
variant_numbers (StatusStage t) c a = trb_numbers status_stage_type (flags_of c t.chain t.interrupt_on_completion false false t.direction) a 0 0
variant_numbers (Normal t) c a = trb_numbers normal_type (flags_of c t.chain t.interrupt_on_completion t.interrupt_on_short t.immediate_data false) a t.data_pointer t.transfer_length
variant_numbers (EventData t) c a = trb_numbers event_data_type (flags_of c t.chain t.interrupt_on_completion false false false) a t.event_data 0
variant_numbers (NoOp t) c a = trb_numbers no_op_type (flags_of c t.chain t.interrupt_on_completion false false false) a 0 0
variant_numbers Isoch c a = trb_numbers isoch_type (flags_of c false false false false false) a 0 0
variant_numbers Unrecognized c a = trb_numbers 0 (flags_of c false false false false false) a 0 0

abbrev pub numbers_of : TransferTrb → TrbNumbers
numbers_of t = variant_numbers t.variant t.cycle_bit t.addr
