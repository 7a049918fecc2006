-- A TRB of a kind that this endpoint does not hold does nothing. Assumes nothing.
use Prim.Native.Nat.{ℕ}
use mathlib.Core.Path.{◌≡◌, refl}
use mathlib.Core.Bool.{Bool, true, false, cond}
use lib.Dec.{eqb}
use Rattle.trb.specs.declared.TransferTrbVariant.TheVariants.{NoOp, Isoch, Unrecognized}
use Rattle.call_log.specs.Calls.{silent}
use Rattle.raw_trb.specs.Layouts.{normal_type, setup_stage_type, data_stage_type, status_stage_type, isoch_type, event_data_type, no_op_type}
use Rattle.held_bytes.specs.Numbers.{no_op_of, variant_of}
use Rattle.td_part.specs.declared.TdProgress.{TdProgress}
use Rattle.control_chain.specs.declared.ControlTd.{ControlTd}
use Rattle.control_chain.specs.Chain.{trb_by_kind}

module _ (kind flags value len : ℕ) (td : ControlTd) (w : TdProgress) (addr : ℕ) where
  by-type : (i o : Bool) → trb_by_kind (cond i Isoch (cond o (NoOp (no_op_of flags)) Unrecognized)) td w addr ≡ silent w
  by-type true o = refl
  by-type false true = refl
  by-type false false = refl

  pub other-silent : eqb kind normal_type ≡ false → eqb kind setup_stage_type ≡ false → eqb kind data_stage_type ≡ false → eqb kind status_stage_type ≡ false → eqb kind event_data_type ≡ false
      → trb_by_kind (variant_of kind flags value len) td w addr ≡ silent w
  unfolding variant_of
  other-silent normal setup stage status event = rw (normal, setup, stage, status, event) (by-type (eqb kind isoch_type) (eqb kind no_op_type))
