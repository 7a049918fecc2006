-- 02, R-6: decoding an encoded TRB returns it and its cycle bit. Every field is found in the sum of the numbers that are set in its dword
-- by linear arithmetic, a bit being at most 1. Assumes nothing.
use Rattle.std.specs.Prelude.{Result, Ok, Err}
use Prim.Native.Nat.{ℕ, ◌<◌, ◌≤◌, ◌^◌}
use mathlib.Core.Bool.{Bool, true, cond, true≢false}
use mathlib.Core.List.{List}
use mathlib.Core.Path.{◌≡◌, refl, sym, ap, ◌∙◌}
use native.Mathlib.Omega.{arith}
use borrow.Author.Tests.{le-leb}
use Rattle.trb.specs.declared.NormalTrb.{NormalTrb}
use Rattle.trb.specs.declared.SetupStageTrb.{SetupStageTrb}
use Rattle.trb.specs.declared.DataStageTrb.{DataStageTrb}
use Rattle.trb.specs.declared.StatusStageTrb.{StatusStageTrb}
use Rattle.trb.specs.declared.EventDataTrb.{EventDataTrb}
use Rattle.trb.specs.declared.NoOpTrb.{NoOpTrb}
use Rattle.trb.specs.declared.TransferTrbVariant.{TransferTrbVariant}
use Rattle.trb.specs.declared.TransferTrbVariant.TheVariants.{SetupStage, DataStage, StatusStage, Normal, EventData, NoOp, Isoch, Unrecognized}
use Rattle.trb.specs.declared.Refusal.{Refusal}
use Rattle.trb.specs.Answers.{refusal_of}
use Rattle.trb.specs.Limits.{max_transfer_length}
use Rattle.trb.specs.Questions.{first_no}
use Rattle.trb.specs.Refusals.{refusal_number}
use Rattle.trb.specs.Trbs.{transfer_length}
use Rattle.trb.proofs.AnswerLaws.{refusal_of-number, answered-no}
use Rattle.raw_trb.specs.declared.Dwords.{Dwords}
use Rattle.raw_trb.specs.Fields.{field_of, is_set, bit_number, dwords_with, bytes_of}
use Rattle.raw_trb.specs.Layouts.{Row, reserved_of, cycle_bit, interrupt_on_short, chain_bit, interrupt_on_completion, immediate_data, trb_type, direction, trb_transfer_length, request_type, request_code, setup_value, setup_index, setup_length, normal_type, setup_stage_type, data_stage_type, status_stage_type, event_data_type, no_op_type, normal_table, setup_stage_table, data_stage_table, status_stage_table, event_data_table, no_op_table}
use Rattle.raw_trb.specs.Raw.{InRange, Encodes, has_fields, where_clear, pointer_of, of_type, variant_of, decode_trb, placed, encoded_dwords, encoded_bytes, encoding_number, encode_questions, encode_trb}
use Rattle.raw_trb.proofs.DwordLaws.{Small, AllZero, bit-small, set-bit, all-zero, dwords_of-bytes_of}

-- dwords of 32 bits that say the TRB v with the cycle bit c
pub record Says (d : Dwords) (v : TransferTrbVariant) (c : Bool) : Type 0 where
  pub small : Small d
  pub variant : variant_of d ≡ v
  pub cycle : is_set cycle_bit d ≡ c

-- what every TRB with fields has, its type being n and its table rows
record Framed (d : Dwords) (n : ℕ) (rows : List Row) (c : Bool) : Type 0 where
  pub small : Small d
  pub type : field_of trb_type d ≡ n
  pub clear : AllZero (reserved_of rows) d
  pub cycle : field_of cycle_bit d ≡ bit_number c

-- so dwords say v, if they do by v's own fields
says : {d : Dwords} {n : ℕ} {rows : List Row} {c : Bool} {w v : TransferTrbVariant} → Framed d n rows c → of_type n d ≡ where_clear rows d w → w ≡ v → Says d v c
says {d} {n} {rows} {c} {w} {v} h e p = record {
  small = h.small;
  variant = ap (λ (m : ℕ). of_type m d) h.type ∙ e ∙ λ i. cond (all-zero (reserved_of rows) d h.clear i) (p i) Unrecognized;
  cycle = set-bit (field_of cycle_bit d) c h.cycle;
}

normal-says : (t : NormalTrb) (c : Bool) → t.data_pointer < 2 ^ 64 → t.transfer_length ≤ max_transfer_length → Says (dwords_with (placed (Normal t) c)) (Normal t) c
unfolding of_type
normal-says t c p l =
    let d : Dwords = dwords_with (placed (Normal t) c) in
    let cycle = bit-small c in
    let short = bit-small t.interrupt_on_short in
    let chain = bit-small t.chain in
    let completion = bit-small t.interrupt_on_completion in
    let immediate = bit-small t.immediate_data in
    let pointer : pointer_of d ≡ t.data_pointer = omega arith in
    let length : field_of trb_transfer_length d ≡ t.transfer_length = omega arith in
    says {d = d} {n = normal_type} {rows = normal_table} (omega arith) refl (λ i. Normal (record {
      data_pointer = pointer i;
      transfer_length = length i;
      interrupt_on_short = set-bit (field_of interrupt_on_short d) t.interrupt_on_short (omega arith) i;
      chain = set-bit (field_of chain_bit d) t.chain (omega arith) i;
      interrupt_on_completion = set-bit (field_of interrupt_on_completion d) t.interrupt_on_completion (omega arith) i;
      immediate_data = set-bit (field_of immediate_data d) t.immediate_data (omega arith) i;
    }))

setup-stage-says : (t : SetupStageTrb) (c : Bool) → t.request_type < 2 ^ 8 → t.request < 2 ^ 8 → t.value < 2 ^ 16 → t.index < 2 ^ 16 → t.length < 2 ^ 16 → Says (dwords_with (placed (SetupStage t) c)) (SetupStage t) c
unfolding of_type
setup-stage-says t c y r v x l =
    let d : Dwords = dwords_with (placed (SetupStage t) c) in
    let cycle = bit-small c in
    let completion = bit-small t.interrupt_on_completion in
    let found : (field_of request_type d ≡ t.request_type) × ((field_of request_code d ≡ t.request)
    × ((field_of setup_value d ≡ t.value) × ((field_of setup_index d ≡ t.index) × (field_of setup_length d ≡ t.length)))) = omega arith in
    says {d = d} {n = setup_stage_type} {rows = setup_stage_table} (omega arith) refl (λ i. SetupStage (record {
      request_type = found.0 i;
      request = found.1.0 i;
      value = found.1.1.0 i;
      index = found.1.1.1.0 i;
      length = found.1.1.1.1 i;
      interrupt_on_completion = set-bit (field_of interrupt_on_completion d) t.interrupt_on_completion (omega arith) i;
    }))

data-stage-says : (t : DataStageTrb) (c : Bool) → t.data_pointer < 2 ^ 64 → t.transfer_length ≤ max_transfer_length → Says (dwords_with (placed (DataStage t) c)) (DataStage t) c
unfolding of_type
data-stage-says t c p l =
    let d : Dwords = dwords_with (placed (DataStage t) c) in
    let cycle = bit-small c in
    let chain = bit-small t.chain in
    let completion = bit-small t.interrupt_on_completion in
    let short = bit-small t.interrupt_on_short in
    let immediate = bit-small t.immediate_data in
    let toward = bit-small t.direction in
    let pointer : pointer_of d ≡ t.data_pointer = omega arith in
    let length : field_of trb_transfer_length d ≡ t.transfer_length = omega arith in
    says {d = d} {n = data_stage_type} {rows = data_stage_table} (omega arith) refl (λ i. DataStage (record {
      data_pointer = pointer i;
      transfer_length = length i;
      chain = set-bit (field_of chain_bit d) t.chain (omega arith) i;
      interrupt_on_completion = set-bit (field_of interrupt_on_completion d) t.interrupt_on_completion (omega arith) i;
      interrupt_on_short = set-bit (field_of interrupt_on_short d) t.interrupt_on_short (omega arith) i;
      immediate_data = set-bit (field_of immediate_data d) t.immediate_data (omega arith) i;
      direction = set-bit (field_of direction d) t.direction (omega arith) i;
    }))

status-stage-says : (t : StatusStageTrb) (c : Bool) → Says (dwords_with (placed (StatusStage t) c)) (StatusStage t) c
unfolding of_type
status-stage-says t c =
    let d : Dwords = dwords_with (placed (StatusStage t) c) in
    let cycle = bit-small c in
    let chain = bit-small t.chain in
    let completion = bit-small t.interrupt_on_completion in
    let toward = bit-small t.direction in
    says {d = d} {n = status_stage_type} {rows = status_stage_table} (omega arith) refl (λ i. StatusStage (record {
      chain = set-bit (field_of chain_bit d) t.chain (omega arith) i;
      interrupt_on_completion = set-bit (field_of interrupt_on_completion d) t.interrupt_on_completion (omega arith) i;
      direction = set-bit (field_of direction d) t.direction (omega arith) i;
    }))

event-data-says : (t : EventDataTrb) (c : Bool) → t.event_data < 2 ^ 64 → Says (dwords_with (placed (EventData t) c)) (EventData t) c
unfolding of_type
event-data-says t c p =
    let d : Dwords = dwords_with (placed (EventData t) c) in
    let cycle = bit-small c in
    let chain = bit-small t.chain in
    let completion = bit-small t.interrupt_on_completion in
    let pointer : pointer_of d ≡ t.event_data = omega arith in
    says {d = d} {n = event_data_type} {rows = event_data_table} (omega arith) refl (λ i. EventData (record {
      event_data = pointer i;
      chain = set-bit (field_of chain_bit d) t.chain (omega arith) i;
      interrupt_on_completion = set-bit (field_of interrupt_on_completion d) t.interrupt_on_completion (omega arith) i;
    }))

no-op-says : (t : NoOpTrb) (c : Bool) → Says (dwords_with (placed (NoOp t) c)) (NoOp t) c
unfolding of_type
no-op-says t c =
    let d : Dwords = dwords_with (placed (NoOp t) c) in
    let cycle = bit-small c in
    let chain = bit-small t.chain in
    let completion = bit-small t.interrupt_on_completion in
    says {d = d} {n = no_op_type} {rows = no_op_table} (omega arith) refl (λ i. NoOp (record {
      chain = set-bit (field_of chain_bit d) t.chain (omega arith) i;
      interrupt_on_completion = set-bit (field_of interrupt_on_completion d) t.interrupt_on_completion (omega arith) i;
    }))

-- what is encoded says the TRB
encoded-says : (v : TransferTrbVariant) (c : Bool) → InRange v → has_fields v ≡ true → transfer_length v ≤ max_transfer_length → Says (encoded_dwords v c) v c
unfolding encoded_dwords
encoded-says (SetupStage t) c r f l = setup-stage-says t c r.0 r.1 r.2 r.3 r.4
encoded-says (DataStage t) c r f l = data-stage-says t c r l
encoded-says (StatusStage t) c r f l = status-stage-says t c
encoded-says (Normal t) c r f l = normal-says t c r l
encoded-says (EventData t) c r f l = event-data-says t c r
encoded-says (NoOp t) c r f l = no-op-says t c
encoded-says Isoch c r f l = absurd (true≢false (sym f))
encoded-says Unrecognized c r f l = absurd (true≢false (sym f))

-- the bytes of dwords that say a TRB decode to it
decode-bytes_of : (d : Dwords) (v : TransferTrbVariant) (c : Bool) → Says d v c → decode_trb (bytes_of d) ≡ record { variant = v; cycle_bit = c }
decode-bytes_of d v c h =
    ap (λ (x : Dwords). record { variant = variant_of x; cycle_bit = is_set cycle_bit x }) (dwords_of-bytes_of d h.small)
    ∙ λ i. record { variant = h.variant i; cycle_bit = h.cycle i }

module _ (v : TransferTrbVariant) (c : Bool) where
  -- 02, R-6: decoding an encoded TRB returns it and its cycle bit when its length is at most 131,071
  pub decode-encode : InRange v → has_fields v ≡ true → transfer_length v ≤ max_transfer_length
      → (encode_trb v c ≡ Ok (encoded_bytes v c)) × (decode_trb (encoded_bytes v c) ≡ record { variant = v; cycle_bit = c })
  unfolding first_no
  decode-encode r f l = (rw (f, le-leb (transfer_length v) max_transfer_length l), decode-bytes_of (encoded_dwords v c) v c (encoded-says v c r f l))

  -- what the encoder promises, by its questions: the TRB is taken, or refused with q
  pub encodes-taken : {r : Result (List ℕ) Refusal} → InRange v → has_fields v ≡ true → transfer_length v ≤ max_transfer_length → r ≡ Ok (encoded_bytes v c) → Encodes v c r
  unfolding first_no
  encodes-taken i f l e = record {
    number = ap encoding_number e ∙ rw (f, le-leb (transfer_length v) max_transfer_length l);
    encoded = e ∙ rw (f, le-leb (transfer_length v) max_transfer_length l);
    decodes = λ bytes is. ap decode_trb (taken-bytes (sym is ∙ e)) ∙ decode-bytes_of (encoded_dwords v c) v c (encoded-says v c i f l);
  }
    where
      taken-bytes : {a b : List ℕ} → ◌≡◌ {A = Result (List ℕ) Refusal} (Ok a) (Ok b) → a ≡ b
      taken-bytes is = cc

  pub encodes-refused : {r : Result (List ℕ) Refusal} {q : Refusal} → first_no (encode_questions v) ≡ refusal_number q → r ≡ Err q → Encodes v c r
  encodes-refused {r} {q} first e = record {
    number = ap encoding_number e ∙ sym first;
    encoded = e ∙ sym (answered-no (encode_questions v) (λ n. Err (refusal_of n)) (Ok (encoded_bytes v c)) (Err q) (sym first) refl ∙ ap (λ (k : Refusal). Err k) (refusal_of-number q));
    decodes = λ bytes is. let told : r ≡ Err q = e in let z : ◌≡◌ {A = ℕ} 0 1 = cc in absurd (no-sooner z);
  }
    where
      no-sooner : ◌≡◌ {A = ℕ} 0 1 → ⊥
      no-sooner z = omega arith
