-- Nothing is asked of a TRB that has no length and is not held. Assumes nothing.
use Prim.Native.Nat.{ℕ}
use mathlib.Core.Path.{◌≡◌, refl}
use mathlib.Core.Bool.{Bool, true, false, cond}
use lib.Dec.{eqb}
use Rattle.trb.specs.Questions.{first_no}
use Rattle.trb.specs.declared.TransferTrbVariant.TheVariants.{SetupStage, StatusStage, Isoch, Unrecognized}
use Rattle.guest_memory.specs.declared.Regions.{Regions}
use Rattle.in_questions.specs.Questions.{trb_questions}
use Rattle.raw_trb.specs.Layouts.{normal_type, setup_stage_type, data_stage_type, status_stage_type, isoch_type, event_data_type, no_op_type}
use Rattle.held_bytes.specs.Numbers.{setup_stage_of, status_stage_of, variant_of}

module _ (kind flags value len held : ℕ) (regions : Regions) where
  by-type : (u t i : Bool) → first_no (trb_questions held (cond u (SetupStage (setup_stage_of flags value)) (cond t (StatusStage (status_stage_of flags)) (cond i Isoch Unrecognized))) regions) ≡ 0
  unfolding first_no
  by-type true t i = refl
  by-type false true i = refl
  by-type false false true = refl
  by-type false false false = refl

  pub asked-other : eqb kind normal_type ≡ false → eqb kind data_stage_type ≡ false → eqb kind event_data_type ≡ false → eqb kind no_op_type ≡ false
      → first_no (trb_questions held (variant_of kind flags value len) regions) ≡ 0
  unfolding variant_of
  asked-other normal stage event none = rw (normal, stage, event, none) (by-type (eqb kind setup_stage_type) (eqb kind status_stage_type) (eqb kind isoch_type))
