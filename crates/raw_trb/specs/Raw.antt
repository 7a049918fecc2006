-- 02, R-6: a transfer TRB from its 16 bytes, and back. Assumes nothing.
use Rattle.std.specs.Prelude.{ℕ, ◌+◌, ◌*◌, ◌/◌, ◌%◌, ◌<◌, ◌^◌, Bool, true, false, cond, List, [], ◌∷◌, ◌≡◌, eqb, leb, Result, Err, Ok}
use Rattle.trb.specs.declared.NormalTrb.{NormalTrb}
use Rattle.trb.specs.declared.SetupStageTrb.{SetupStageTrb}
use Rattle.trb.specs.declared.DataStageTrb.{DataStageTrb}
use Rattle.trb.specs.declared.StatusStageTrb.{StatusStageTrb}
use Rattle.trb.specs.declared.EventDataTrb.{EventDataTrb}
use Rattle.trb.specs.declared.NoOpTrb.{NoOpTrb}
use Rattle.trb.specs.declared.TransferTrbVariant.{TransferTrbVariant}
use Rattle.trb.specs.declared.TransferTrbVariant.TheVariants.{SetupStage, DataStage, StatusStage, Normal, EventData, NoOp, Isoch, Unrecognized}
use Rattle.trb.specs.declared.Refusal.{Refusal}
use Rattle.trb.specs.Answers.{refusal_of}
use Rattle.trb.specs.Refusals.{refusal_number}
use Rattle.trb.specs.Limits.{max_transfer_length}
use Rattle.trb.specs.Questions.{first_no, after_questions}
use Rattle.trb.specs.Trbs.{transfer_length}
use Rattle.raw_trb.specs.declared.Dwords.{Dwords}
use Rattle.raw_trb.specs.declared.DecodedTrb.{DecodedTrb}
use Rattle.raw_trb.specs.Fields.{Placed, ◌⇒◌, field_of, is_set, all_zero, bit_number, dwords_of, dwords_with, bytes_of}
use Rattle.raw_trb.specs.Layouts.{cycle_bit, interrupt_on_short, chain_bit, interrupt_on_completion, immediate_data, trb_type, direction, pointer_low, pointer_high, trb_transfer_length, request_type, request_code, setup_value, setup_index, setup_length, normal_type, setup_stage_type, data_stage_type, status_stage_type, isoch_type, event_data_type, no_op_type, Row, reserved_of, normal_table, setup_stage_table, data_stage_table, status_stage_table, event_data_table, no_op_table}

-- what the fields say, by kind

abbrev pub pointer_of : Dwords → ℕ
pointer_of d = field_of pointer_low d + 2 ^ 32 * field_of pointer_high d

abbrev pub normal_of : Dwords → NormalTrb
normal_of d = record {
  data_pointer = pointer_of d;
  transfer_length = field_of trb_transfer_length d;
  interrupt_on_short = is_set interrupt_on_short d;
  chain = is_set chain_bit d;
  interrupt_on_completion = is_set interrupt_on_completion d;
  immediate_data = is_set immediate_data d;
}

abbrev pub setup_stage_of : Dwords → SetupStageTrb
setup_stage_of d = record {
  request_type = field_of request_type d;
  request = field_of request_code d;
  value = field_of setup_value d;
  index = field_of setup_index d;
  length = field_of setup_length d;
  interrupt_on_completion = is_set interrupt_on_completion d;
}

abbrev pub data_stage_of : Dwords → DataStageTrb
data_stage_of d = record {
  data_pointer = pointer_of d;
  transfer_length = field_of trb_transfer_length d;
  chain = is_set chain_bit d;
  interrupt_on_completion = is_set interrupt_on_completion d;
  interrupt_on_short = is_set interrupt_on_short d;
  immediate_data = is_set immediate_data d;
  direction = is_set direction d;
}

abbrev pub status_stage_of : Dwords → StatusStageTrb
status_stage_of d = record {
  chain = is_set chain_bit d;
  interrupt_on_completion = is_set interrupt_on_completion d;
  direction = is_set direction d;
}

abbrev pub event_data_of : Dwords → EventDataTrb
event_data_of d = record {
  event_data = pointer_of d;
  chain = is_set chain_bit d;
  interrupt_on_completion = is_set interrupt_on_completion d;
}

abbrev pub no_op_of : Dwords → NoOpTrb
no_op_of d = record { chain = is_set chain_bit d; interrupt_on_completion = is_set interrupt_on_completion d }

-- 02, R-6: a nonzero reserved bit gives Unrecognized
abbrev pub where_clear : List Row → Dwords → TransferTrbVariant → TransferTrbVariant
where_clear rows d v = cond (all_zero (reserved_of rows) d) v Unrecognized

-- 02, R-6: by the type's number; type 5 gives Isoch whatever its other bits, an unknown type Unrecognized
unfoldable pub of_type : ℕ → Dwords → TransferTrbVariant
of_type n d =
    cond (eqb n normal_type) (where_clear normal_table d (Normal (normal_of d)))
    (cond (eqb n setup_stage_type) (where_clear setup_stage_table d (SetupStage (setup_stage_of d)))
    (cond (eqb n data_stage_type) (where_clear data_stage_table d (DataStage (data_stage_of d)))
    (cond (eqb n status_stage_type) (where_clear status_stage_table d (StatusStage (status_stage_of d)))
    (cond (eqb n isoch_type) Isoch
    (cond (eqb n event_data_type) (where_clear event_data_table d (EventData (event_data_of d)))
    (cond (eqb n no_op_type) (where_clear no_op_table d (NoOp (no_op_of d))) Unrecognized))))))

abbrev pub variant_of : Dwords → TransferTrbVariant
variant_of d = of_type (field_of trb_type d) d

-- 02, R-6: the TRB of 16 bytes, and its cycle bit
abbrev pub decode_trb : List ℕ → DecodedTrb
decode_trb bytes = record { variant = variant_of (dwords_of bytes); cycle_bit = is_set cycle_bit (dwords_of bytes) }

-- 02, R-6: the numbers that the encoder sets in the fields of a TRB; a Setup TRB gets transfer length 8 and immediate data 1
abbrev pub placed : TransferTrbVariant → Bool → List Placed
placed (SetupStage t) c =
    request_type ⇒ t.request_type ∷ request_code ⇒ t.request ∷ setup_value ⇒ t.value ∷ setup_index ⇒ t.index ∷ setup_length ⇒ t.length
    ∷ trb_transfer_length ⇒ 8
    ∷ cycle_bit ⇒ bit_number c ∷ interrupt_on_completion ⇒ bit_number t.interrupt_on_completion ∷ immediate_data ⇒ 1 ∷ trb_type ⇒ setup_stage_type ∷ []
placed (DataStage t) c =
    pointer_low ⇒ (t.data_pointer % 2 ^ 32) ∷ pointer_high ⇒ (t.data_pointer / 2 ^ 32) ∷ trb_transfer_length ⇒ t.transfer_length
    ∷ cycle_bit ⇒ bit_number c ∷ interrupt_on_short ⇒ bit_number t.interrupt_on_short ∷ chain_bit ⇒ bit_number t.chain
    ∷ interrupt_on_completion ⇒ bit_number t.interrupt_on_completion ∷ immediate_data ⇒ bit_number t.immediate_data
    ∷ trb_type ⇒ data_stage_type ∷ direction ⇒ bit_number t.direction ∷ []
placed (StatusStage t) c =
    cycle_bit ⇒ bit_number c ∷ chain_bit ⇒ bit_number t.chain ∷ interrupt_on_completion ⇒ bit_number t.interrupt_on_completion
    ∷ trb_type ⇒ status_stage_type ∷ direction ⇒ bit_number t.direction ∷ []
placed (Normal t) c =
    pointer_low ⇒ (t.data_pointer % 2 ^ 32) ∷ pointer_high ⇒ (t.data_pointer / 2 ^ 32) ∷ trb_transfer_length ⇒ t.transfer_length
    ∷ cycle_bit ⇒ bit_number c ∷ interrupt_on_short ⇒ bit_number t.interrupt_on_short ∷ chain_bit ⇒ bit_number t.chain
    ∷ interrupt_on_completion ⇒ bit_number t.interrupt_on_completion ∷ immediate_data ⇒ bit_number t.immediate_data
    ∷ trb_type ⇒ normal_type ∷ []
placed (EventData t) c =
    pointer_low ⇒ (t.event_data % 2 ^ 32) ∷ pointer_high ⇒ (t.event_data / 2 ^ 32)
    ∷ cycle_bit ⇒ bit_number c ∷ chain_bit ⇒ bit_number t.chain ∷ interrupt_on_completion ⇒ bit_number t.interrupt_on_completion
    ∷ trb_type ⇒ event_data_type ∷ []
placed (NoOp t) c =
    cycle_bit ⇒ bit_number c ∷ chain_bit ⇒ bit_number t.chain ∷ interrupt_on_completion ⇒ bit_number t.interrupt_on_completion
    ∷ trb_type ⇒ no_op_type ∷ []
placed Isoch c = []
placed Unrecognized c = []

-- is it one of the six kinds with fields?
abbrev pub has_fields : TransferTrbVariant → Bool
has_fields (SetupStage t) = true
has_fields (DataStage t) = true
has_fields (StatusStage t) = true
has_fields (Normal t) = true
has_fields (EventData t) = true
has_fields (NoOp t) = true
has_fields Isoch = false
has_fields Unrecognized = false

unfoldable pub encoded_dwords : TransferTrbVariant → Bool → Dwords
encoded_dwords v c = dwords_with (placed v c)

abbrev pub encoded_bytes : TransferTrbVariant → Bool → List ℕ
encoded_bytes v c = bytes_of (encoded_dwords v c)

-- 02, R-6: 23 to Isoch and Unrecognized, then 4 to a length above 131,071
abbrev pub encode_questions : TransferTrbVariant → List (Bool × ℕ)
encode_questions v = (has_fields v, 23) ∷ (leb (transfer_length v) max_transfer_length, 4) ∷ []

abbrev pub encode_trb : TransferTrbVariant → Bool → Result (List ℕ) Refusal
encode_trb v c = after_questions (encode_questions v) (λ n. Err (refusal_of n)) (Ok (encoded_bytes v c))

-- the number of what the encoder answers
abbrev pub encoding_number : Result (List ℕ) Refusal → ℕ
encoding_number (Ok bytes) = 0
encoding_number (Err q) = refusal_number q

-- every number of the TRB fits its field's type in the code; the transfer length is asked by the encoder
abbrev pub InRange : TransferTrbVariant → Type 0
InRange (SetupStage t) = (t.request_type < 2 ^ 8) × (t.request < 2 ^ 8) × (t.value < 2 ^ 16) × (t.index < 2 ^ 16) × (t.length < 2 ^ 16)
InRange (DataStage t) = t.data_pointer < 2 ^ 64
InRange (StatusStage t) = Unit {0}
InRange (Normal t) = t.data_pointer < 2 ^ 64
InRange (EventData t) = t.event_data < 2 ^ 64
InRange (NoOp t) = Unit {0}
InRange Isoch = Unit {0}
InRange Unrecognized = Unit {0}

-- the dwords of a TRB that is a value of its type
pub record EncodedAs (v : TransferTrbVariant) (c : Bool) (d : Dwords) : Type 0 where
  pub dwords : d ≡ encoded_dwords v c
  pub range : InRange v

-- what the encoder promises: the number of the first no, the definition's answer, and bytes that decode to the TRB and its cycle bit
pub record Encodes (v : TransferTrbVariant) (c : Bool) (r : Result (List ℕ) Refusal) : Type 0 where
  pub number : encoding_number r ≡ first_no (encode_questions v)
  pub encoded : r ≡ encode_trb v c
  pub decodes : (bytes : List ℕ) → r ≡ Ok bytes → decode_trb bytes ≡ record { variant = v; cycle_bit = c }
