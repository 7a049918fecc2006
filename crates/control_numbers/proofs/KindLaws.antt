-- What a TRB by numbers is asked about, by its kind. Assumes nothing.
use Rattle.std.proofs.Common.{◌≡◌, ℕ, Bool, true, false, cond, eqb, refl}
use Rattle.trb.specs.declared.ControlTransferState.{ControlTransferState}
use Rattle.trb.specs.declared.TransferTrbVariant.{TransferTrbVariant}
use Rattle.trb.specs.declared.TransferTrbVariant.TheVariants.{SetupStage, DataStage, StatusStage, Normal, EventData, NoOp, Isoch, Unrecognized}
use Rattle.raw_trb.specs.Layouts.{normal_type, setup_stage_type, data_stage_type, status_stage_type, isoch_type, event_data_type, no_op_type}
use Rattle.held_bytes.specs.Numbers.{chain_on, normal_of, setup_stage_of, data_stage_of, status_stage_of, event_data_of, no_op_of, variant_of}
use Rattle.phase_table.specs.Table.{kind_of, outcome_of, trb_outcome}

module _ (kind flags value len : ℕ) where
  -- by which types the kind is: Normal, Setup, Data, Status, Isoch, Event Data, NoOp
  abbrev pub said : (n u d t i e o : Bool) → TransferTrbVariant
  said n u d t i e o =
      cond n (Normal (normal_of flags value len))
      (cond u (SetupStage (setup_stage_of flags value))
      (cond d (DataStage (data_stage_of flags value len))
      (cond t (StatusStage (status_stage_of flags))
      (cond i Isoch (cond e (EventData (event_data_of flags value)) (cond o (NoOp (no_op_of flags)) Unrecognized))))))

  -- the table reads the chain bit of no kind that has none
  outcome-said : (phase : ControlTransferState) (n u d t i e o : Bool) → outcome_of phase (kind_of (said n u d t i e o)) (chain_on flags) ≡ trb_outcome phase (said n u d t i e o)
  unfolding trb_outcome
  outcome-said phase true u d t i e o = refl
  outcome-said phase false true d t i e o = refl
  outcome-said phase false false true t i e o = refl
  outcome-said phase false false false true i e o = refl
  outcome-said phase false false false false true e o = refl
  outcome-said phase false false false false false true o = refl
  outcome-said phase false false false false false false true = refl
  outcome-said phase false false false false false false false = refl

  pub outcome-by : (phase : ControlTransferState) → outcome_of phase (kind_of (variant_of kind flags value len)) (chain_on flags) ≡ trb_outcome phase (variant_of kind flags value len)
  unfolding variant_of
  outcome-by phase =
      outcome-said phase (eqb kind normal_type) (eqb kind setup_stage_type) (eqb kind data_stage_type) (eqb kind status_stage_type) (eqb kind isoch_type) (eqb kind event_data_type) (eqb kind no_op_type)
