-- The kinds of xHCI 1.2, 4.11.2.2, of a list of TRBs. Assumes nothing.
use Rattle.std.specs.Prelude.{Bool, true, false, List, [], ◌∷◌}
use Rattle.trb.specs.declared.DataStageTrb.{DataStageTrb}
use Rattle.trb.specs.declared.EventDataTrb.{EventDataTrb}
use Rattle.trb.specs.declared.NormalTrb.{NormalTrb}
use Rattle.trb.specs.declared.SetupStageTrb.{SetupStageTrb}
use Rattle.trb.specs.declared.StatusStageTrb.{StatusStageTrb}
use Rattle.trb.specs.declared.TransferTrb.{TransferTrb}
use Rattle.trb.specs.declared.TransferTrbVariant.{TransferTrbVariant}
use Rattle.trb.specs.declared.TransferTrbVariant.TheVariants.{SetupStage, DataStage, StatusStage, Normal, EventData}
use Rattle.standard.specs.Control.{Kind, setup_stage_trb, data_stage_trb, status_stage_trb, normal_trb, event_data_trb}

pub data OfKind : TransferTrbVariant → Kind → Type 0 where
  is-setup : {t : SetupStageTrb} → OfKind (SetupStage t) setup_stage_trb
  is-data : {t : DataStageTrb} → OfKind (DataStage t) (data_stage_trb t.chain)
  is-status : {t : StatusStageTrb} → OfKind (StatusStage t) (status_stage_trb t.chain)
  is_normal : {t : NormalTrb} → OfKind (Normal t) (normal_trb t.chain)
  is-event : {t : EventDataTrb} → OfKind (EventData t) (event_data_trb t.chain)

pub data OfKinds : List TransferTrb → List Kind → Type 0 where
  none : OfKinds [] []
  more : {t : TransferTrb} {k : Kind} {ts : List TransferTrb} {ks : List Kind} → OfKind t.variant k → OfKinds ts ks → OfKinds (t ∷ ts) (k ∷ ks)

-- xHCI 1.2, 4.9.1: the last TRB of a TD has its Chain bit off
abbrev pub unchained : Kind → Bool
unchained setup_stage_trb = true
unchained (data_stage_trb true) = false
unchained (data_stage_trb false) = true
unchained (status_stage_trb true) = false
unchained (status_stage_trb false) = true
unchained (normal_trb true) = false
unchained (normal_trb false) = true
unchained (event_data_trb true) = false
unchained (event_data_trb false) = true

abbrev pub ends_unchained : List Kind → Bool
ends_unchained [] = true
ends_unchained (k ∷ []) = unchained k
ends_unchained (k ∷ l ∷ ks) = ends_unchained (l ∷ ks)
