-- Whatever leads the phase table to a request is a control transfer by its stages, so that the theorems on its events and writes hold of it.
-- Assumes nothing.
use Prim.Native.Nat.{ℕ}
use mathlib.Core.Path.{◌≡◌, refl, ap}
use mathlib.Core.Bool.{Bool, true, false, false≢true}
use mathlib.Core.List.{List, [], ◌∷◌, ◌++◌, map}
use mathlib.Core.Logic.{◌⊎◌, inl, inr, ⊎_elim}
use Rattle.trb.specs.declared.ControlTransferState.{ControlTransferState}
use Rattle.trb.specs.declared.ControlTransferState.TheVariants.{ExpectSetupStageTrb, MaybeDataStageTrb, MoreData, ExpectStatusStageTrb, ExpectFinalEventDataTrb}
use Rattle.trb.specs.declared.DataStageTrb.{DataStageTrb}
use Rattle.trb.specs.declared.EventDataTrb.{EventDataTrb}
use Rattle.trb.specs.declared.NormalTrb.{NormalTrb}
use Rattle.trb.specs.declared.SetupStageTrb.{SetupStageTrb}
use Rattle.trb.specs.declared.StatusStageTrb.{StatusStageTrb}
use Rattle.trb.specs.declared.TransferTrb.{TransferTrb}
use Rattle.trb.specs.declared.TransferTrbVariant.{TransferTrbVariant}
use Rattle.trb.specs.declared.TransferTrbVariant.TheVariants.{SetupStage, DataStage, StatusStage, Normal, EventData, NoOp, Isoch, Unrecognized}
use Rattle.phase_table.specs.Outcomes.{phase_after}
use Rattle.phase_table.specs.Table.{data_taken, status_taken}
use Rattle.phase_table.specs.Leads.{entry_of, is_empty, leads_on, trbs_lead}
use Rattle.conformance.specs.TranslateControl.{DataTrb, normal_at, event_data_at, DataTd, no_data, data_td, Final, no_final, final_at, Chain, at, data_trbs, data_td_trbs, final_trbs, trbs_of}

-- ---- Behind Status

final-kind : (v : TransferTrbVariant) (a : ℕ) (y : Bool) (ts : List TransferTrb) → trbs_lead ExpectFinalEventDataTrb (at v a y ∷ ts) ≡ true → (f : Final) × (final_trbs f ≡ at v a y ∷ ts)
final-kind (EventData t) a y [] h = (final_at t a y, refl)
final-kind (EventData t) a y (u ∷ ts) h = absurd (false≢true h)
final-kind (SetupStage t) a y ts h = absurd (false≢true h)
final-kind (DataStage t) a y ts h = absurd (false≢true h)
final-kind (StatusStage t) a y ts h = absurd (false≢true h)
final-kind (Normal t) a y ts h = absurd (false≢true h)
final-kind (NoOp t) a y ts h = absurd (false≢true h)
final-kind Isoch a y ts h = absurd (false≢true h)
final-kind Unrecognized a y ts h = absurd (false≢true h)

final-shape : (ts : List TransferTrb) → trbs_lead ExpectFinalEventDataTrb ts ≡ true → (f : Final) × (final_trbs f ≡ ts)
final-shape [] h = absurd (false≢true h)
final-shape (t ∷ ts) h = final-kind t.variant t.addr t.cycle_bit ts h

-- ---- Status

record StatusShape (ts : List TransferTrb) : Type 0 where
  status : StatusStageTrb
  address : ℕ
  cycle : Bool
  final : Final
  shape : at (StatusStage status) address cycle ∷ final_trbs final ≡ ts

-- a Status Stage TRB that is taken, by its Chain bit
status-taken : (z : StatusStageTrb) (a : ℕ) (y : Bool) (phase : ControlTransferState) (ts : List TransferTrb) (chain : Bool)
    → leads_on (status_taken chain) (is_empty (map entry_of ts)) (trbs_lead (phase_after phase (status_taken chain)) ts) ≡ true → StatusShape (at (StatusStage z) a y ∷ ts)
status-taken z a y phase ts true h =
    let f : (f : Final) × (final_trbs f ≡ ts) = final-shape ts h in
    record { status = z; address = a; cycle = y; final = f.0; shape = ap (λ (us : List TransferTrb). at (StatusStage z) a y ∷ us) f.1 }
status-taken z a y phase [] false h = record { status = z; address = a; cycle = y; final = no_final; shape = refl }
status-taken z a y phase (u ∷ ts) false h = absurd (false≢true h)

status-kind : (v : TransferTrbVariant) (a : ℕ) (y : Bool) (ts : List TransferTrb) → trbs_lead ExpectStatusStageTrb (at v a y ∷ ts) ≡ true → StatusShape (at v a y ∷ ts)
status-kind (StatusStage z) a y ts h = status-taken z a y ExpectStatusStageTrb ts z.chain h
status-kind (SetupStage t) a y ts h = absurd (false≢true h)
status-kind (DataStage t) a y ts h = absurd (false≢true h)
status-kind (Normal t) a y ts h = absurd (false≢true h)
status-kind (EventData t) a y ts h = absurd (false≢true h)
status-kind (NoOp t) a y ts h = absurd (false≢true h)
status-kind Isoch a y ts h = absurd (false≢true h)
status-kind Unrecognized a y ts h = absurd (false≢true h)

status-shape : (ts : List TransferTrb) → trbs_lead ExpectStatusStageTrb ts ≡ true → StatusShape ts
status-shape [] h = absurd (false≢true h)
status-shape (t ∷ ts) h = status-kind t.variant t.addr t.cycle_bit ts h

-- ---- Data, then Status

record DataShape (ts : List TransferTrb) : Type 0 where
  data-part : List DataTrb
  behind : List TransferTrb
  status : StatusShape behind
  shape : data_trbs data-part ++ behind ≡ ts

-- a data TRB that is taken, by its Chain bit: more data, or Status
data-taken : (phase : ControlTransferState) (ts : List TransferTrb) (chain : Bool) → leads_on (data_taken chain) (is_empty (map entry_of ts)) (trbs_lead (phase_after phase (data_taken chain)) ts) ≡ true
    → (trbs_lead MoreData ts ≡ true) ⊎ (trbs_lead ExpectStatusStageTrb ts ≡ true)
data-taken phase ts true h = inl h
data-taken phase ts false h = inr h

last-data : (ts : List TransferTrb) → trbs_lead ExpectStatusStageTrb ts ≡ true → DataShape ts
last-data ts h = record { data-part = []; behind = ts; status = status-shape ts h; shape = refl }

more-normal : (t : NormalTrb) (a : ℕ) (y : Bool) (ts : List TransferTrb) → DataShape ts → DataShape (at (Normal t) a y ∷ ts)
more-normal t a y ts d =
    record { data-part = normal_at t a y ∷ d.data-part; behind = d.behind; status = d.status; shape = ap (λ (us : List TransferTrb). at (Normal t) a y ∷ us) d.shape }

more-event : (t : EventDataTrb) (a : ℕ) (y : Bool) (ts : List TransferTrb) → DataShape ts → DataShape (at (EventData t) a y ∷ ts)
more-event t a y ts d =
    record { data-part = event_data_at t a y ∷ d.data-part; behind = d.behind; status = d.status; shape = ap (λ (us : List TransferTrb). at (EventData t) a y ∷ us) d.shape }

more-kind : (v : TransferTrbVariant) (a : ℕ) (y : Bool) (ts : List TransferTrb) → trbs_lead MoreData (at v a y ∷ ts) ≡ true → (trbs_lead MoreData ts ≡ true → DataShape ts)
    → DataShape (at v a y ∷ ts)
more-kind (Normal t) a y ts h ih = more-normal t a y ts (⊎_elim ih (last-data ts) (data-taken MoreData ts t.chain h))
more-kind (EventData t) a y ts h ih = more-event t a y ts (⊎_elim ih (last-data ts) (data-taken MoreData ts t.chain h))
more-kind (SetupStage t) a y ts h ih = absurd (false≢true h)
more-kind (DataStage t) a y ts h ih = absurd (false≢true h)
more-kind (StatusStage t) a y ts h ih = absurd (false≢true h)
more-kind (NoOp t) a y ts h ih = absurd (false≢true h)
more-kind Isoch a y ts h ih = absurd (false≢true h)
more-kind Unrecognized a y ts h ih = absurd (false≢true h)

more-shape : (ts : List TransferTrb) → trbs_lead MoreData ts ≡ true → DataShape ts
more-shape [] h = absurd (false≢true h)
more-shape (t ∷ ts) h = more-kind t.variant t.addr t.cycle_bit ts h (more-shape ts)

-- ---- Behind Setup

record RestShape (ts : List TransferTrb) : Type 0 where
  data-part : DataTd
  behind : List TransferTrb
  status : StatusShape behind
  shape : data_td_trbs data-part ++ behind ≡ ts

with-data : (t : DataStageTrb) (a : ℕ) (y : Bool) (ts : List TransferTrb) → DataShape ts → RestShape (at (DataStage t) a y ∷ ts)
with-data t a y ts d =
    record { data-part = data_td t a y d.data-part; behind = d.behind; status = d.status; shape = ap (λ (us : List TransferTrb). at (DataStage t) a y ∷ us) d.shape }

rest-kind : (v : TransferTrbVariant) (a : ℕ) (y : Bool) (ts : List TransferTrb) → trbs_lead MaybeDataStageTrb (at v a y ∷ ts) ≡ true → RestShape (at v a y ∷ ts)
rest-kind (DataStage t) a y ts h = with-data t a y ts (⊎_elim (more-shape ts) (last-data ts) (data-taken MaybeDataStageTrb ts t.chain h))
rest-kind (StatusStage z) a y ts h =
    record { data-part = no_data; behind = at (StatusStage z) a y ∷ ts; status = status-taken z a y MaybeDataStageTrb ts z.chain h; shape = refl }
rest-kind (SetupStage t) a y ts h = absurd (false≢true h)
rest-kind (Normal t) a y ts h = absurd (false≢true h)
rest-kind (EventData t) a y ts h = absurd (false≢true h)
rest-kind (NoOp t) a y ts h = absurd (false≢true h)
rest-kind Isoch a y ts h = absurd (false≢true h)
rest-kind Unrecognized a y ts h = absurd (false≢true h)

rest-shape : (ts : List TransferTrb) → trbs_lead MaybeDataStageTrb ts ≡ true → RestShape ts
rest-shape [] h = absurd (false≢true h)
rest-shape (t ∷ ts) h = rest-kind t.variant t.addr t.cycle_bit ts h

-- ---- The whole

chain-behind : (t : SetupStageTrb) (a : ℕ) (y : Bool) (ts : List TransferTrb) → RestShape ts → (c : Chain) × (trbs_of c ≡ at (SetupStage t) a y ∷ ts)
chain-behind t a y ts r = (
  record {
    setup = t;
    setup_address = a;
    setup_cycle = y;
    data_part = r.data-part;
    status = r.status.status;
    status_address = r.status.address;
    status_cycle = r.status.cycle;
    final = r.status.final;
  },
  rw r.status.shape (ap (λ (us : List TransferTrb). at (SetupStage t) a y ∷ us) r.shape),
)

chain-kind : (v : TransferTrbVariant) (a : ℕ) (y : Bool) (ts : List TransferTrb) → trbs_lead ExpectSetupStageTrb (at v a y ∷ ts) ≡ true → (c : Chain) × (trbs_of c ≡ at v a y ∷ ts)
chain-kind (SetupStage t) a y ts h = chain-behind t a y ts (rest-shape ts h)
chain-kind (DataStage t) a y ts h = absurd (false≢true h)
chain-kind (StatusStage t) a y ts h = absurd (false≢true h)
chain-kind (Normal t) a y ts h = absurd (false≢true h)
chain-kind (EventData t) a y ts h = absurd (false≢true h)
chain-kind (NoOp t) a y ts h = absurd (false≢true h)
chain-kind Isoch a y ts h = absurd (false≢true h)
chain-kind Unrecognized a y ts h = absurd (false≢true h)

pub leads-trbs_of : (ts : List TransferTrb) → trbs_lead ExpectSetupStageTrb ts ≡ true → (c : Chain) × (trbs_of c ≡ ts)
leads-trbs_of [] h = absurd (false≢true h)
leads-trbs_of (t ∷ ts) h = chain-kind t.variant t.addr t.cycle_bit ts h
