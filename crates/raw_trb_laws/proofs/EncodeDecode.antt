-- 02, R-6: encoding what 16 bytes decode to gives the bytes back, where the fields that the decoded form does not hold are zero. By the type's
-- number, and then by whether the reserved bits are zero: the numbers that are set are those that the fields have, and these make the dwords. Assumes nothing.
use Rattle.std.specs.Prelude.{Ok}
use Prim.Native.Nat.{ℕ, ◌≤◌}
use mathlib.Core.Bool.{Bool, true, false, cond}
use mathlib.Core.List.{List, [], ◌∷◌, map}
use mathlib.Core.Path.{◌≡◌, refl, sym, ap, ◌∙◌}
use native.Mathlib.Omega.{arith}
use lib.Dec.{eqb}
use lib.ListN.{length}
use borrow.Author.Tests.{eqb-true, le-leb}
use Rattle.buffers.specs.LittleEndian.{AllBytes}
use Rattle.trb.specs.declared.TransferTrbVariant.{TransferTrbVariant}
use Rattle.trb.specs.declared.TransferTrbVariant.TheVariants.{SetupStage, DataStage, StatusStage, Normal, EventData, NoOp, Isoch, Unrecognized}
use Rattle.trb.specs.Limits.{max_transfer_length}
use Rattle.trb.specs.Questions.{first_no}
use Rattle.trb.specs.Trbs.{transfer_length}
use Rattle.raw_trb.specs.declared.Dwords.{Dwords}
use Rattle.raw_trb.specs.Fields.{◌⇒◌, field_of, is_set, all_zero, dwords_of, bytes_of}
use Rattle.raw_trb.specs.Layouts.{Row, reserved_of, unheld_of, set_of, tiles, pointer_low, pointer_high, request_type, request_code, setup_value, setup_index, setup_length, trb_transfer_length, cycle_bit, interrupt_on_short, chain_bit, interrupt_on_completion, immediate_data, trb_type, direction, normal_type, setup_stage_type, data_stage_type, status_stage_type, isoch_type, event_data_type, no_op_type, normal_table, setup_stage_table, data_stage_table, status_stage_table, event_data_table, no_op_table}
use Rattle.raw_trb.specs.Raw.{has_fields, where_clear, of_type, variant_of, decode_trb, placed, encoded_dwords, encode_trb, normal_of, setup_stage_of, data_stage_of, status_stage_of, event_data_of, no_op_of}
use Rattle.raw_trb.proofs.DwordLaws.{Small, AllZero, zero-all, number-of-set, pointer-low, pointer-high}
use Rattle.raw_trb_laws.proofs.ByteLaws.{dwords-small, bytes_of-dwords_of}
use Rattle.raw_trb.proofs.TableLaws.{own, dwords_with-own}

-- what the decoded form of v does not hold is as the encoder sets it; never so of a TRB that has no encoding
abbrev pub Unheld : Dwords → TransferTrbVariant → Type 0
Unheld d (SetupStage t) = AllZero (unheld_of setup_stage_table) d × ((field_of trb_transfer_length d ≡ 8) × (field_of immediate_data d ≡ 1))
Unheld d (DataStage t) = AllZero (unheld_of data_stage_table) d
Unheld d (StatusStage t) = AllZero (unheld_of status_stage_table) d
Unheld d (Normal t) = AllZero (unheld_of normal_table) d
Unheld d (EventData t) = AllZero (unheld_of event_data_table) d
Unheld d (NoOp t) = AllZero (unheld_of no_op_table) d
Unheld d Isoch = ⊥
Unheld d Unrecognized = ⊥

module _ (d : Dwords) (s : Small d) where
  -- v is encoded, and as d
  record Back (v : TransferTrbVariant) : Type 0 where
    pub fields : has_fields v ≡ true
    pub short : transfer_length v ≤ max_transfer_length
    pub dwords : encoded_dwords v (is_set cycle_bit d) ≡ d

  abbrev Goal : TransferTrbVariant → Type 0
  Goal v = Unheld d v → Back v

  -- the numbers that are set in a table's fields are those that the fields have
  back : (rows : List Row) (v : TransferTrbVariant) → has_fields v ≡ true → transfer_length v ≤ max_transfer_length → tiles rows ≡ true
      → placed v (is_set cycle_bit d) ≡ map (own d) (set_of rows) → AllZero (reserved_of rows) d → AllZero (unheld_of rows) d → Back v
  unfolding encoded_dwords
  back rows v f l t p r u = record { fields = f; short = l; dwords = rw p (dwords_with-own d rows s t r u) }

  -- by whether the reserved bits are zero
  by-clear : (rows : List Row) (v : TransferTrbVariant) → (AllZero (reserved_of rows) d → Goal v) → Goal (where_clear rows d v)
  by-clear rows v f = by-test (all_zero (reserved_of rows) d) refl
    where
      by-test : (b : Bool) → all_zero (reserved_of rows) d ≡ b → Goal (cond b v Unrecognized)
      by-test true e = f (zero-all (reserved_of rows) d e)
      by-test false e = λ u. absurd u

  -- by whether the type's number is k
  by-type : (k : ℕ) (v w : TransferTrbVariant) → (field_of trb_type d ≡ k → Goal v) → Goal w → Goal (cond (eqb (field_of trb_type d) k) v w)
  by-type k v w f g = by-test (eqb (field_of trb_type d) k) refl
    where
      by-test : (b : Bool) → eqb (field_of trb_type d) k ≡ b → Goal (cond b v w)
      by-test true e = f (eqb-true (field_of trb_type d) k e)
      by-test false e = g

  normal-placed : field_of trb_type d ≡ normal_type → placed (Normal (normal_of d)) (is_set cycle_bit d) ≡ map (own d) (set_of normal_table)
  normal-placed e = λ i. pointer_low ⇒ pointer-low d i ∷ pointer_high ⇒ pointer-high d i ∷ trb_transfer_length ⇒ field_of trb_transfer_length d ∷ cycle_bit ⇒ number-of-set 3 0 d i ∷ interrupt_on_short ⇒ number-of-set 3 2 d i ∷ chain_bit ⇒ number-of-set 3 4 d i ∷ interrupt_on_completion ⇒ number-of-set 3 5 d i ∷ immediate_data ⇒ number-of-set 3 6 d i ∷ trb_type ⇒ sym e i ∷ []

  setup-stage-placed : field_of trb_type d ≡ setup_stage_type → field_of trb_transfer_length d ≡ 8 → field_of immediate_data d ≡ 1 → placed (SetupStage (setup_stage_of d)) (is_set cycle_bit d) ≡ map (own d) (set_of setup_stage_table)
  setup-stage-placed e l m = λ i. request_type ⇒ field_of request_type d ∷ request_code ⇒ field_of request_code d ∷ setup_value ⇒ field_of setup_value d ∷ setup_index ⇒ field_of setup_index d ∷ setup_length ⇒ field_of setup_length d ∷ trb_transfer_length ⇒ sym l i ∷ cycle_bit ⇒ number-of-set 3 0 d i ∷ interrupt_on_completion ⇒ number-of-set 3 5 d i ∷ immediate_data ⇒ sym m i ∷ trb_type ⇒ sym e i ∷ []

  data-stage-placed : field_of trb_type d ≡ data_stage_type → placed (DataStage (data_stage_of d)) (is_set cycle_bit d) ≡ map (own d) (set_of data_stage_table)
  data-stage-placed e = λ i. pointer_low ⇒ pointer-low d i ∷ pointer_high ⇒ pointer-high d i ∷ trb_transfer_length ⇒ field_of trb_transfer_length d ∷ cycle_bit ⇒ number-of-set 3 0 d i ∷ interrupt_on_short ⇒ number-of-set 3 2 d i ∷ chain_bit ⇒ number-of-set 3 4 d i ∷ interrupt_on_completion ⇒ number-of-set 3 5 d i ∷ immediate_data ⇒ number-of-set 3 6 d i ∷ trb_type ⇒ sym e i ∷ direction ⇒ number-of-set 3 16 d i ∷ []

  status-stage-placed : field_of trb_type d ≡ status_stage_type → placed (StatusStage (status_stage_of d)) (is_set cycle_bit d) ≡ map (own d) (set_of status_stage_table)
  status-stage-placed e = λ i. cycle_bit ⇒ number-of-set 3 0 d i ∷ chain_bit ⇒ number-of-set 3 4 d i ∷ interrupt_on_completion ⇒ number-of-set 3 5 d i ∷ trb_type ⇒ sym e i ∷ direction ⇒ number-of-set 3 16 d i ∷ []

  event-data-placed : field_of trb_type d ≡ event_data_type → placed (EventData (event_data_of d)) (is_set cycle_bit d) ≡ map (own d) (set_of event_data_table)
  event-data-placed e = λ i. pointer_low ⇒ pointer-low d i ∷ pointer_high ⇒ pointer-high d i ∷ cycle_bit ⇒ number-of-set 3 0 d i ∷ chain_bit ⇒ number-of-set 3 4 d i ∷ interrupt_on_completion ⇒ number-of-set 3 5 d i ∷ trb_type ⇒ sym e i ∷ []

  no-op-placed : field_of trb_type d ≡ no_op_type → placed (NoOp (no_op_of d)) (is_set cycle_bit d) ≡ map (own d) (set_of no_op_table)
  no-op-placed e = λ i. cycle_bit ⇒ number-of-set 3 0 d i ∷ chain_bit ⇒ number-of-set 3 4 d i ∷ interrupt_on_completion ⇒ number-of-set 3 5 d i ∷ trb_type ⇒ sym e i ∷ []

  -- the TRB that the dwords say is encoded as the dwords
  said-back : Goal (variant_of d)
  unfolding of_type
  said-back =
      by-type normal_type (where_clear normal_table d (Normal (normal_of d))) _ (λ e. by-clear normal_table (Normal (normal_of d)) (back normal_table (Normal (normal_of d)) refl (omega arith) refl (normal-placed e)))
      (by-type setup_stage_type (where_clear setup_stage_table d (SetupStage (setup_stage_of d))) _ (λ e. by-clear setup_stage_table (SetupStage (setup_stage_of d)) (λ r u. back setup_stage_table (SetupStage (setup_stage_of d)) refl (omega arith) refl (setup-stage-placed e u.1.0 u.1.1) r u.0))
      (by-type data_stage_type (where_clear data_stage_table d (DataStage (data_stage_of d))) _ (λ e. by-clear data_stage_table (DataStage (data_stage_of d)) (back data_stage_table (DataStage (data_stage_of d)) refl (omega arith) refl (data-stage-placed e)))
      (by-type status_stage_type (where_clear status_stage_table d (StatusStage (status_stage_of d))) _ (λ e. by-clear status_stage_table (StatusStage (status_stage_of d)) (back status_stage_table (StatusStage (status_stage_of d)) refl (omega arith) refl (status-stage-placed e)))
      (by-type isoch_type Isoch _ (λ e u. absurd u)
      (by-type event_data_type (where_clear event_data_table d (EventData (event_data_of d))) _ (λ e. by-clear event_data_table (EventData (event_data_of d)) (back event_data_table (EventData (event_data_of d)) refl (omega arith) refl (event-data-placed e)))
      (by-type no_op_type (where_clear no_op_table d (NoOp (no_op_of d))) _ (λ e. by-clear no_op_table (NoOp (no_op_of d)) (back no_op_table (NoOp (no_op_of d)) refl (omega arith) refl (no-op-placed e)))
      (λ u. absurd u)))))))

-- 02, R-6: encoding what 16 bytes decode to gives the bytes back
pub encode-decode : (l : List ℕ) → length l ≡ 16 → AllBytes l → Unheld (dwords_of l) (decode_trb l).variant
    → encode_trb (decode_trb l).variant (decode_trb l).cycle_bit ≡ Ok l
unfolding first_no
encode-decode l n h u =
    let b = said-back (dwords_of l) (dwords-small l n h) u in
    rw (b.fields, le-leb (transfer_length (decode_trb l).variant) max_transfer_length b.short)
    (λ i. Ok ((ap bytes_of b.dwords ∙ bytes_of-dwords_of l n h) i))
