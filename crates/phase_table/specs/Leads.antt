-- 01, Control endpoint: the phase table followed from TRB to TRB, until a request is made. Assumes nothing.
use Rattle.std.specs.Prelude.{Bool, true, false, List, [], ◌∷◌, map}
use Rattle.trb.specs.declared.ControlTransferState.{ControlTransferState}
use Rattle.trb.specs.declared.TransferTrb.{TransferTrb}
use Rattle.trb.specs.Trbs.{chain_of}
use Rattle.phase_table.specs.declared.TrbKind.{TrbKind}
use Rattle.phase_table.specs.declared.Outcome.{Outcome}
use Rattle.phase_table.specs.declared.Outcome.TheVariants.{StartTransfer, RestartTransfer, TakeData, TakeLastData, TakeChainedStatus, SubmitRequest, Unexpected, Unsupported, Unrecognized}
use Rattle.phase_table.specs.Outcomes.{phase_after}
use Rattle.phase_table.specs.Table.{kind_of, outcome_of}

-- what the table reads of a TRB
pub record Entry : Type 0 where
  pub kind : TrbKind
  pub chain : Bool

abbrev pub entry_of : TransferTrb → Entry
entry_of t = record { kind = kind_of t.variant; chain = chain_of t.variant }

abbrev pub outcome_at : ControlTransferState → Entry → Outcome
outcome_at phase e = outcome_of phase e.kind e.chain

abbrev pub is_empty : List Entry → Bool
is_empty [] = true
is_empty (e ∷ es) = false

-- a TRB that is taken leads on; a request is to be made at the last. A second Setup begins another transfer
abbrev pub leads_on : Outcome → (last rest : Bool) → Bool
leads_on StartTransfer last rest = rest
leads_on RestartTransfer last rest = false
leads_on TakeData last rest = rest
leads_on TakeLastData last rest = rest
leads_on TakeChainedStatus last rest = rest
leads_on SubmitRequest last rest = last
leads_on Unexpected last rest = false
leads_on Unsupported last rest = false
leads_on Unrecognized last rest = false

-- do they lead, from this phase, to a request at the last of them, and to none before?
abbrev pub leads : ControlTransferState → List Entry → Bool
leads phase [] = false
leads phase (e ∷ es) = leads_on (outcome_at phase e) (is_empty es) (leads (phase_after phase (outcome_at phase e)) es)

-- of a list of TRBs
abbrev pub trbs_lead : ControlTransferState → List TransferTrb → Bool
trbs_lead phase ts = leads phase (map entry_of ts)
