-- The phase table takes exactly the control transfers of xHCI 1.2, 4.11.2.2, but for the Chain bit of the last TRB. Assumes nothing.
use mathlib.Core.Path.{◌≡◌, refl, ap, ap₂, ◌∙◌}
use mathlib.Core.Bool.{Bool, true, false, false≢true}
use mathlib.Core.List.{List, [], ◌∷◌, ◌++◌, map}
use Rattle.trb.specs.declared.ControlTransferState.{ControlTransferState}
use Rattle.trb.specs.declared.ControlTransferState.TheVariants.{ExpectSetupStageTrb, MaybeDataStageTrb, MoreData, ExpectStatusStageTrb, ExpectFinalEventDataTrb}
use Rattle.trb.specs.declared.TransferTrb.{TransferTrb}
use Rattle.trb.specs.declared.TransferTrbVariant.{TransferTrbVariant}
use Rattle.trb.specs.declared.TransferTrbVariant.TheVariants.{SetupStage, DataStage, StatusStage, Normal, EventData, NoOp, Isoch, Unrecognized}
use Rattle.trb.specs.Trbs.{chain_of}
use Rattle.phase_table.specs.declared.TrbKind.TheVariants as kind
use Rattle.phase_table.specs.Outcomes.{phase_after}
use Rattle.phase_table.specs.Table.{kind_of, outcome_of}
use Rattle.phase_table.specs.Leads.{Entry, entry_of, outcome_at, leads_on, leads, trbs_lead}
use Rattle.phase_table.proofs.LeadsLaws.{leads-rest}
use Rattle.standard.specs.Control.{Kind, setup_stage_trb, data_stage_trb, status_stage_trb, normal_trb, event_data_trb, IsDataRest, last-normal, last-event, more-normal, more-event, IsDataTd, data-alone, data-chained, IsStatusTd, status-alone, status-event, IsControl, without-data, with-data}
use Rattle.conformance.specs.Phases.{OfKind, is-setup, is-data, is-status, is_normal, is-event, OfKinds, none, more, ends_unchained}

-- ---- The table on kinds

-- what the table reads of a kind
abbrev kind_entry : Kind → Entry
kind_entry setup_stage_trb = record { kind = kind.SetupStage; chain = false }
kind_entry (data_stage_trb chain) = record { kind = kind.DataStage; chain = chain }
kind_entry (status_stage_trb chain) = record { kind = kind.StatusStage; chain = chain }
kind_entry (normal_trb chain) = record { kind = kind.Normal; chain = chain }
kind_entry (event_data_trb chain) = record { kind = kind.EventData; chain = chain }

abbrev kinds_lead : ControlTransferState → List Kind → Bool
kinds_lead phase ks = leads phase (map kind_entry ks)

-- a TRB of a kind is read as the kind is
variant-kind_entry : {v : TransferTrbVariant} {k : Kind} → OfKind v k → record { kind = kind_of v; chain = chain_of v } ≡ kind_entry k
variant-kind_entry is-setup = refl
variant-kind_entry is-data = refl
variant-kind_entry is-status = refl
variant-kind_entry is_normal = refl
variant-kind_entry is-event = refl

entries-kinds : {ts : List TransferTrb} {ks : List Kind} → OfKinds ts ks → map entry_of ts ≡ map kind_entry ks
entries-kinds none = refl
entries-kinds (more h hs) = ap₂ (λ (e : Entry) (es : List Entry). e ∷ es) (variant-kind_entry h) (entries-kinds hs)

leads-kinds_lead : (phase : ControlTransferState) {ts : List TransferTrb} {ks : List Kind} → OfKinds ts ks → trbs_lead phase ts ≡ kinds_lead phase ks
leads-kinds_lead phase hs = ap (leads phase) (entries-kinds hs)

-- ---- Each transfer of the grammar is taken

status-taken : {ks : List Kind} → IsStatusTd ks → kinds_lead ExpectStatusStageTrb ks ≡ true
status-taken status-alone = refl
status-taken status-event = refl

status-taken-first : {ks : List Kind} → IsStatusTd ks → kinds_lead MaybeDataStageTrb ks ≡ true
status-taken-first status-alone = refl
status-taken-first status-event = refl

rest-taken : {ds : List Kind} (ks : List Kind) → IsDataRest ds → kinds_lead ExpectStatusStageTrb ks ≡ true → kinds_lead MoreData (ds ++ ks) ≡ true
rest-taken ks last-normal h = h
rest-taken ks last-event h = h
rest-taken ks (more-normal d) h = rest-taken ks d h
rest-taken ks (more-event d) h = rest-taken ks d h

data-taken : {ds : List Kind} (ks : List Kind) → IsDataTd ds → kinds_lead ExpectStatusStageTrb ks ≡ true → kinds_lead MaybeDataStageTrb (ds ++ ks) ≡ true
data-taken ks data-alone h = h
data-taken ks (data-chained d) h = rest-taken ks d h

transfer-taken : {ks : List Kind} → IsControl ks → kinds_lead ExpectSetupStageTrb ks ≡ true
transfer-taken (without-data s) = status-taken-first s
transfer-taken (with-data {ss = ss} d s) = data-taken ss d (status-taken s)

pub is_control-leads : {ts : List TransferTrb} {ks : List Kind} → OfKinds ts ks → IsControl ks → trbs_lead ExpectSetupStageTrb ts ≡ true
is_control-leads hs c = leads-kinds_lead ExpectSetupStageTrb hs ∙ transfer-taken c

-- ---- And no other, where the last TRB has its Chain bit off

final-only : (ks : List Kind) → kinds_lead ExpectFinalEventDataTrb ks ≡ true → ends_unchained ks ≡ true → ks ≡ event_data_trb false ∷ []
final-only [] h u = absurd (false≢true h)
final-only (setup_stage_trb ∷ ks) h u = absurd (false≢true h)
final-only (data_stage_trb c ∷ ks) h u = absurd (false≢true h)
final-only (status_stage_trb c ∷ ks) h u = absurd (false≢true h)
final-only (normal_trb c ∷ ks) h u = absurd (false≢true h)
final-only (event_data_trb c ∷ k ∷ ks) h u = absurd (false≢true h)
final-only (event_data_trb true ∷ []) h u = absurd (false≢true u)
final-only (event_data_trb false ∷ []) h u = refl

-- behind a TRB
unchained-tail : (k : Kind) (ks : List Kind) → ends_unchained (k ∷ ks) ≡ true → ends_unchained ks ≡ true
unchained-tail k [] u = refl
unchained-tail k (l ∷ ks) u = u

status-only : (ks : List Kind) → kinds_lead ExpectStatusStageTrb ks ≡ true → ends_unchained ks ≡ true → IsStatusTd ks
status-only [] h u = absurd (false≢true h)
status-only (setup_stage_trb ∷ ks) h u = absurd (false≢true h)
status-only (data_stage_trb c ∷ ks) h u = absurd (false≢true h)
status-only (normal_trb c ∷ ks) h u = absurd (false≢true h)
status-only (event_data_trb c ∷ ks) h u = absurd (false≢true h)
status-only (status_stage_trb false ∷ []) h u = status-alone
status-only (status_stage_trb false ∷ k ∷ ks) h u = absurd (false≢true h)
status-only (status_stage_trb true ∷ ks) h u = rw (final-only ks h (unchained-tail (status_stage_trb true) ks u)) status-event

-- kinds that are the rest of a Data Stage TD, and a Status Stage TD
record Split (ks : List Kind) : Type 0 where
  data-kinds : List Kind
  status-kinds : List Kind
  shape : ks ≡ data-kinds ++ status-kinds
  rest : IsDataRest data-kinds
  status : IsStatusTd status-kinds

split-last : (k : Kind) (ks : List Kind) → IsDataRest (k ∷ []) → kinds_lead ExpectStatusStageTrb ks ≡ true → ends_unchained (k ∷ ks) ≡ true → Split (k ∷ ks)
split-last k ks r h u = record { data-kinds = k ∷ []; status-kinds = ks; shape = refl; rest = r; status = status-only ks h (unchained-tail k ks u) }

split-more : (k : Kind) (ks : List Kind) → ((ds : List Kind) → IsDataRest ds → IsDataRest (k ∷ ds)) → Split ks → Split (k ∷ ks)
split-more k ks r s = record {
  data-kinds = k ∷ s.data-kinds;
  status-kinds = s.status-kinds;
  shape = ap (λ (l : List Kind). k ∷ l) s.shape;
  rest = r s.data-kinds s.rest;
  status = s.status;
}

more-only : (ks : List Kind) → kinds_lead MoreData ks ≡ true → ends_unchained ks ≡ true → Split ks
more-only [] h u = absurd (false≢true h)
more-only (setup_stage_trb ∷ ks) h u = absurd (false≢true h)
more-only (data_stage_trb c ∷ ks) h u = absurd (false≢true h)
more-only (status_stage_trb c ∷ ks) h u = absurd (false≢true h)
more-only (normal_trb true ∷ ks) h u = split-more (normal_trb true) ks (λ ds r. more-normal r) (more-only ks h (unchained-tail (normal_trb true) ks u))
more-only (event_data_trb true ∷ ks) h u = split-more (event_data_trb true) ks (λ ds r. more-event r) (more-only ks h (unchained-tail (event_data_trb true) ks u))
more-only (normal_trb false ∷ ks) h u = split-last (normal_trb false) ks last-normal h u
more-only (event_data_trb false ∷ ks) h u = split-last (event_data_trb false) ks last-event h u

maybe-only : (ks : List Kind) → kinds_lead MaybeDataStageTrb ks ≡ true → ends_unchained ks ≡ true → IsControl (setup_stage_trb ∷ ks)
maybe-only [] h u = absurd (false≢true h)
maybe-only (setup_stage_trb ∷ ks) h u = absurd (false≢true h)
maybe-only (normal_trb c ∷ ks) h u = absurd (false≢true h)
maybe-only (event_data_trb c ∷ ks) h u = absurd (false≢true h)
maybe-only (status_stage_trb false ∷ []) h u = without-data status-alone
maybe-only (status_stage_trb false ∷ k ∷ ks) h u = absurd (false≢true h)
maybe-only (status_stage_trb true ∷ ks) h u = rw (final-only ks h (unchained-tail (status_stage_trb true) ks u)) (without-data status-event)
maybe-only (data_stage_trb false ∷ ks) h u = with-data data-alone (status-only ks h (unchained-tail (data_stage_trb false) ks u))
maybe-only (data_stage_trb true ∷ ks) h u =
    let s : Split ks = more-only ks h (unchained-tail (data_stage_trb true) ks u) in
    rw s.shape (with-data (data-chained s.rest) s.status)

transfer-only : (ks : List Kind) → kinds_lead ExpectSetupStageTrb ks ≡ true → ends_unchained ks ≡ true → IsControl ks
transfer-only [] h u = absurd (false≢true h)
transfer-only (setup_stage_trb ∷ ks) h u = maybe-only ks h (unchained-tail setup_stage_trb ks u)
transfer-only (data_stage_trb c ∷ ks) h u = absurd (false≢true h)
transfer-only (status_stage_trb c ∷ ks) h u = absurd (false≢true h)
transfer-only (normal_trb c ∷ ks) h u = absurd (false≢true h)
transfer-only (event_data_trb c ∷ ks) h u = absurd (false≢true h)

pub leads-is_control : {ts : List TransferTrb} {ks : List Kind} → OfKinds ts ks → trbs_lead ExpectSetupStageTrb ts ≡ true → ends_unchained ks ≡ true → IsControl ks
leads-is_control {ks = ks} hs h u = transfer-only ks (rw (leads-kinds_lead ExpectSetupStageTrb hs) at h) u

-- ---- TRBs that lead to a request are of these kinds

kind-of : (phase : ControlTransferState) (v : TransferTrbVariant) (last rest : Bool) → leads_on (outcome_of phase (kind_of v) (chain_of v)) last rest ≡ true → (k : Kind) × OfKind v k
kind-of phase (SetupStage t) last rest h = (setup_stage_trb, is-setup)
kind-of phase (DataStage t) last rest h = (data_stage_trb t.chain, is-data)
kind-of phase (StatusStage t) last rest h = (status_stage_trb t.chain, is-status)
kind-of phase (Normal t) last rest h = (normal_trb t.chain, is_normal)
kind-of phase (EventData t) last rest h = (event_data_trb t.chain, is-event)
kind-of phase (NoOp t) last rest h = absurd (false≢true h)
kind-of phase Isoch last rest h = absurd (false≢true h)
kind-of phase Unrecognized last rest h = absurd (false≢true h)

pub leads-of_kinds : (phase : ControlTransferState) (ts : List TransferTrb) → trbs_lead phase ts ≡ true → (ks : List Kind) × OfKinds ts ks
leads-of_kinds phase [] h = absurd (false≢true h)
leads-of_kinds phase (t ∷ []) h =
    let k : (k : Kind) × OfKind t.variant k = kind-of phase t.variant true false h in
    (k.0 ∷ [], more k.1 none)
leads-of_kinds phase (t ∷ u ∷ ts) h =
    let next : ControlTransferState = phase_after phase (outcome_at phase (entry_of t)) in
    let k : (k : Kind) × OfKind t.variant k = kind-of phase t.variant false (trbs_lead next (u ∷ ts)) h in
    let ks : (ks : List Kind) × OfKinds (u ∷ ts) ks = leads-of_kinds next (u ∷ ts) (leads-rest phase (entry_of t) (entry_of u) (map entry_of ts) h) in
    (k.0 ∷ ks.0, more k.1 ks.1)
