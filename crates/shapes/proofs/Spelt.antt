-- R-10: a list of TRBs leads the phase table from Setup to a request just where a shape spells it. Assumes nothing.
use mathlib.Core.Path.{◌≡◌, refl, sym, ap, ap₂, ◌∙◌}
use mathlib.Core.Bool.{Bool, true, false, false≢true}
use mathlib.Core.List.{List, [], ◌∷◌, map}
use Rattle.trb.specs.declared.ControlTransferState.{ControlTransferState}
use Rattle.trb.specs.declared.ControlTransferState.TheVariants.{ExpectSetupStageTrb}
use Rattle.trb.specs.declared.TransferTrb.{TransferTrb}
use Rattle.trb.specs.declared.TransferTrbVariant.{TransferTrbVariant}
use Rattle.trb.specs.declared.TransferTrbVariant.TheVariants.{SetupStage, DataStage, StatusStage, Normal, EventData, NoOp, Isoch, Unrecognized}
use Rattle.trb.specs.Trbs.{chain_of}
use Rattle.phase_table.specs.declared.TrbKind.{TrbKind}
use Rattle.phase_table.specs.declared.TrbKind.TheVariants as kind
use Rattle.phase_table.specs.Outcomes.{phase_after}
use Rattle.phase_table.specs.Table.{kind_of, outcome_of}
use Rattle.phase_table.specs.Leads.{Entry, entry_of, outcome_at, leads_on, leads, trbs_lead}
use Rattle.phase_table.proofs.LeadsLaws.{leads-rest}
use Rattle.shapes.specs.Letters.{Letter, Word, chained, unchained, letter_entry, D, E, N, T, d, e, n, s, t}
use Rattle.shapes.specs.Shapes.{is_shape, Spells}

-- a TRB of a kind has the letter of its chain bit
by_chain : (k : TrbKind) (capital small : Letter) → letter_entry capital ≡ chained k → letter_entry small ≡ unchained k → (chain : Bool)
    → (l : Letter) × (record { kind = k; chain = chain } ≡ letter_entry l)
by_chain k capital small g h true = (capital, sym g)
by_chain k capital small g h false = (small, sym h)

-- a TRB that the table takes has a letter
letter-of : (phase : ControlTransferState) (v : TransferTrbVariant) (last rest : Bool) → leads_on (outcome_of phase (kind_of v) (chain_of v)) last rest ≡ true
    → (l : Letter) × (record { kind = kind_of v; chain = chain_of v } ≡ letter_entry l)
letter-of phase (SetupStage u) last rest h = (s, refl)
letter-of phase (DataStage u) last rest h = by_chain kind.DataStage D d refl refl u.chain
letter-of phase (StatusStage u) last rest h = by_chain kind.StatusStage T t refl refl u.chain
letter-of phase (Normal u) last rest h = by_chain kind.Normal N n refl refl u.chain
letter-of phase (EventData u) last rest h = by_chain kind.EventData E e refl refl u.chain
letter-of phase (NoOp u) last rest h = absurd (false≢true h)
letter-of phase Isoch last rest h = absurd (false≢true h)
letter-of phase Unrecognized last rest h = absurd (false≢true h)

leads-spelt : (phase : ControlTransferState) (ts : List TransferTrb) → trbs_lead phase ts ≡ true → (w : Word) × Spells w ts
leads-spelt phase [] h = absurd (false≢true h)
leads-spelt phase (x ∷ []) h =
    let l : (l : Letter) × (entry_of x ≡ letter_entry l) = letter-of phase x.variant true false h in
    (l.0 ∷ [], ap (λ (entry : Entry). entry ∷ []) l.1)
leads-spelt phase (x ∷ y ∷ xs) h =
    let next : ControlTransferState = phase_after phase (outcome_at phase (entry_of x)) in
    let l : (l : Letter) × (entry_of x ≡ letter_entry l) = letter-of phase x.variant false (trbs_lead next (y ∷ xs)) h in
    let w : (w : Word) × Spells w (y ∷ xs) = leads-spelt next (y ∷ xs) (leads-rest phase (entry_of x) (entry_of y) (map entry_of xs) h) in
    (l.0 ∷ w.0, ap₂ (λ (entry : Entry) (entries : List Entry). entry ∷ entries) l.1 w.1)

-- TRBs that a word spells lead to a request just where it is a shape
pub spelt-leads : (w : Word) (ts : List TransferTrb) → Spells w ts → trbs_lead ExpectSetupStageTrb ts ≡ is_shape w
spelt-leads w ts h = ap (leads ExpectSetupStageTrb) h

-- and there is a word for all that do
pub leads-shape : (ts : List TransferTrb) → trbs_lead ExpectSetupStageTrb ts ≡ true → (w : Word) × Spells w ts × (is_shape w ≡ true)
leads-shape ts h =
    let w : (w : Word) × Spells w ts = leads-spelt ExpectSetupStageTrb ts h in
    (w.0, w.1, sym (spelt-leads w.0 ts w.1) ∙ h)
