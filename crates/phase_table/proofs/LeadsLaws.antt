-- What leads to a request, TRB by TRB. Assumes nothing.
use mathlib.Core.Path.{◌≡◌}
use mathlib.Core.Bool.{Bool, true, false, false≢true}
use mathlib.Core.List.{List, ◌∷◌}
use Rattle.trb.specs.declared.ControlTransferState.{ControlTransferState}
use Rattle.phase_table.specs.declared.Outcome.{Outcome}
use Rattle.phase_table.specs.declared.Outcome.TheVariants.{StartTransfer, RestartTransfer, TakeData, TakeLastData, TakeChainedStatus, SubmitRequest, Unexpected, Unsupported, Unrecognized}
use Rattle.phase_table.specs.Outcomes.{phase_after}
use Rattle.phase_table.specs.Leads.{Entry, outcome_at, leads_on, leads}

-- a TRB that is not the last
leads_on-rest : (o : Outcome) (rest : Bool) → leads_on o false rest ≡ true → rest ≡ true
leads_on-rest StartTransfer rest h = h
leads_on-rest RestartTransfer rest h = absurd (false≢true h)
leads_on-rest TakeData rest h = h
leads_on-rest TakeLastData rest h = h
leads_on-rest TakeChainedStatus rest h = h
leads_on-rest SubmitRequest rest h = absurd (false≢true h)
leads_on-rest Unexpected rest h = absurd (false≢true h)
leads_on-rest Unsupported rest h = absurd (false≢true h)
leads_on-rest Unrecognized rest h = absurd (false≢true h)

-- what is behind the first leads from the phase after it
pub leads-rest : (phase : ControlTransferState) (e f : Entry) (es : List Entry) → leads phase (e ∷ f ∷ es) ≡ true → leads (phase_after phase (outcome_at phase e)) (f ∷ es) ≡ true
leads-rest phase e f es h = leads_on-rest (outcome_at phase e) (leads (phase_after phase (outcome_at phase e)) (f ∷ es)) h
