-- A control IN transfer that succeeded, with n bytes of data, against xHCI 1.2, 4.11.2.2: its Setup, Data and Status Stage TDs. Assumes nothing.
use Prim.Native.Nat.{ℕ, ◌≤◌}
use mathlib.Core.Path.{◌≡◌, refl, ap, ◌∙◌}
use mathlib.Core.Bool.{Bool, true, false}
use mathlib.Core.List.{List, [], ◌∷◌, ◌++◌, append-nil}
use native.Mathlib.Omega.{arith}
use borrow.Author.Tests.{le-leb}
use Rattle.trb.specs.Codes.{code_number}
use Rattle.trb.specs.declared.CompletionCode.TheVariants.{Success}
use Rattle.trb.specs.declared.EndpointId.{EndpointId}
use Rattle.trb.specs.declared.EventDataTrb.{EventDataTrb}
use Rattle.trb.specs.declared.SlotId.{SlotId}
use Rattle.trb.specs.declared.StatusStageTrb.{StatusStageTrb}
use Rattle.trb.specs.declared.TransferTrb.{TransferTrb}
use Rattle.trb.specs.declared.TransferTrbVariant.TheVariants.{StatusStage}
use Rattle.call_log.specs.Calls.{Out}
use Rattle.call_log.specs.Records.{when}
use Rattle.td_part.specs.declared.TdProgress.{TdProgress}
use Rattle.td_part.specs.Parts.{at_start, code_after, report_success, event_at}
use Rattle.walks.specs.Walk.{walk}
use Rattle.control_chain.specs.Chain.{realize_trb, realize_chain, input_td}
use Rattle.control_chain.specs.declared.ControlTd.{ControlTd}
use Rattle.standard.specs.Control.{ControlTransfer, setup_stage, status_stage, control_events}
use Rattle.standard.specs.Xhci.{TransferEvent, transfer_event, event_data, success, asked, repeated_residual, ended, events, event_if, deliveries}
use Rattle.conformance.specs.Translate.{told, wrote}
use Rattle.conformance.specs.TranslateControl.{Final, no_final, final_at, Chain, at, data_td_trbs, final_trbs, trbs_of, final_of, stages_of, outcome_of, recoded, final_code, chain_events}
use Rattle.conformance.proofs.TranslateLaws.{told-append, wrote-append, told-when, wrote-when}
use Rattle.conformance.proofs.ControlConforms.{chain_from, chain_from-append, DataAgrees, data-agrees}

-- ---- The Status Stage TD

module _ (td : ControlTd) (w : TdProgress) (z : StatusStageTrb) (c : ℕ) (cycle : Bool) where
  -- its TRBs, and its events with the code that the data part left
  abbrev pub status_trbs : Final → List TransferTrb
  status_trbs f = at (StatusStage z) c cycle ∷ final_trbs f

  abbrev pub status_events : Final → List TransferEvent
  status_events f = recoded (code_number (code_after w.state)) (events repeated_residual ended 0 (status_stage c z.interrupt_on_completion ∷ final_of f))

  told-alone : (ioc : Bool) → z.interrupt_on_completion ≡ ioc → told (chain_from td w (status_trbs no_final)).records ≡ status_events no_final
  unfolding walk realize_trb
  told-alone true h = rw h
  told-alone false h = rw h

  told-event : (t : EventDataTrb) (a : ℕ) (y ioc tells : Bool) → z.interrupt_on_completion ≡ ioc → t.interrupt_on_completion ≡ tells
      → told (chain_from td w (status_trbs (final_at t a y))).records ≡ status_events (final_at t a y)
  unfolding walk realize_trb
  told-event t a y true true h k = rw (h, k)
  told-event t a y true false h k = rw (h, k)
  told-event t a y false true h k = rw (h, k)
  told-event t a y false false h k = rw (h, k)

  told-status : (f : Final) → told (chain_from td w (status_trbs f)).records ≡ status_events f
  told-status no_final = told-alone z.interrupt_on_completion refl
  told-status (final_at t a y) = told-event t a y z.interrupt_on_completion t.interrupt_on_completion refl refl

  -- it writes nothing
  wrote-status : (f : Final) → wrote (chain_from td w (status_trbs f)).records ≡ []
  unfolding walk realize_trb
  wrote-status no_final = wrote-when c 0 Success td.info.endpoint_id td.info.slot_id [] z.interrupt_on_completion false
  wrote-status (final_at t a y) =
      wrote-when c 0 Success td.info.endpoint_id td.info.slot_id _ z.interrupt_on_completion false
      ∙ wrote-when t.event_data 0 (code_after w.state) td.info.endpoint_id td.info.slot_id [] t.interrupt_on_completion true

-- ---- Events of the stages

setup-events : (a : ℕ) (ioc : Bool) → events repeated_residual ended 0 (setup_stage a ioc ∷ []) ≡ event_if ioc (transfer_event success false a 0)
setup-events a true = refl
setup-events a false = refl

recoded-alone : (code a : ℕ) (ioc : Bool)
    → recoded code (events repeated_residual ended 0 (status_stage a ioc ∷ [])) ≡ events repeated_residual ended 0 (status_stage a ioc ∷ [])
recoded-alone code a true = refl
recoded-alone code a false = refl

recoded-event : (a b v : ℕ) (ioc tells : Bool)
    → recoded success (events repeated_residual ended 0 (status_stage a ioc ∷ event_data b v tells ∷ [])) ≡ events repeated_residual ended 0 (status_stage a ioc ∷ event_data b v tells ∷ [])
recoded-event a b v true true = refl
recoded-event a b v true false = refl
recoded-event a b v false true = refl
recoded-event a b v false false = refl

pub recoded-success : (a : ℕ) (ioc : Bool) (f : Final)
    → recoded success (events repeated_residual ended 0 (status_stage a ioc ∷ final_of f)) ≡ events repeated_residual ended 0 (status_stage a ioc ∷ final_of f)
recoded-success a ioc no_final = recoded-alone success a ioc
recoded-success a ioc (final_at t b y) = recoded-event a b t.event_data ioc t.interrupt_on_completion

-- ---- The three parts of a transfer, IN or OUT

module _ (td : ControlTd) (c : Chain) where
  abbrev pub setup_ioc : Bool
  setup_ioc = c.setup.interrupt_on_completion

  -- the progress behind the Setup Stage TRB; what the data part and what the Status Stage TD make
  abbrev pub begun : TdProgress
  begun = (report_success td.info at_start 0 setup_ioc c.setup_address).state

  abbrev pub data_made : Out TdProgress
  data_made = chain_from td begun (data_td_trbs c.data_part)

  abbrev pub status_made : Out TdProgress
  status_made = chain_from td data_made.state (status_trbs td begun c.status c.status_address c.status_cycle c.final)

  three-parts : (realize_chain td (trbs_of c)).records ≡ when setup_ioc (event_at td.info c.setup_address 0 Success) ++ (data_made.records ++ status_made.records)
  unfolding walk realize_trb
  three-parts =
      ap (λ (made : Out TdProgress). when setup_ioc (event_at td.info c.setup_address 0 Success) ++ made.records)
      (chain_from-append td begun (data_td_trbs c.data_part) (status_trbs td begun c.status c.status_address c.status_cycle c.final))

  pub told-parts : told (realize_chain td (trbs_of c)).records
      ≡ events repeated_residual ended 0 ((stages_of c).setup_trb ∷ [])
      ++ (told data_made.records ++ status_events td data_made.state c.status c.status_address c.status_cycle c.final)
  told-parts =
      ap told three-parts
      ∙ told-when c.setup_address 0 Success td.info.endpoint_id td.info.slot_id (data_made.records ++ status_made.records) setup_ioc false
      ∙ rw (
        told-append data_made.records status_made.records,
        told-status td data_made.state c.status c.status_address c.status_cycle c.final,
        setup-events c.setup_address setup_ioc,
      )

  pub wrote-parts : wrote (realize_chain td (trbs_of c)).records ≡ wrote data_made.records
  wrote-parts =
      ap wrote three-parts
      ∙ wrote-when c.setup_address 0 Success td.info.endpoint_id td.info.slot_id (data_made.records ++ status_made.records) setup_ioc false
      ∙ wrote-append data_made.records status_made.records
      ∙ rw (wrote-status td data_made.state c.status c.status_address c.status_cycle c.final) (append-nil (wrote data_made.records))

-- ---- The transfer

module _ (e : EndpointId) (s : SlotId) (n : ℕ) (c : Chain) where
  abbrev td : ControlTd
  td = input_td e s n

  abbrev stages : ControlTransfer
  stages = stages_of c

  data-agree : DataAgrees n (asked stages.data_trbs) [] stages.data_trbs (data_made td c)
  data-agree = data-agrees e s n (asked stages.data_trbs) c.data_part (begun td c) refl refl refl

  -- the events of the three TDs, but for the code of the Event Data TRB behind Status
  pub told-chain_events : told (realize_chain td (trbs_of c)).records ≡ chain_events n stages
  told-chain_events = told-parts td c ∙ rw (data-agree.events, data-agree.code)

  -- n bytes that the data stage has room for, and no Event Data TRB behind Status: the standard's
  pub told-control_events-alone : n ≤ asked stages.data_trbs → c.final ≡ no_final
      → told (realize_chain td (trbs_of c)).records ≡ control_events repeated_residual stages (outcome_of n stages)
  told-control_events-alone room alone =
      told-chain_events
      ∙ rw (
        le-leb n (asked stages.data_trbs) room,
        alone,
        recoded-alone (final_code n (asked stages.data_trbs)) c.status_address c.status.interrupt_on_completion,
      )

  -- as many bytes as the data stage asks for: the standard's
  pub told-control_events-filled : n ≡ asked stages.data_trbs
      → told (realize_chain td (trbs_of c)).records ≡ control_events repeated_residual stages (outcome_of n stages)
  told-control_events-filled filled =
      let room : n ≤ asked stages.data_trbs = omega arith in
      let enough : asked stages.data_trbs ≤ n = omega arith in
      told-chain_events
      ∙ rw (
        le-leb n (asked stages.data_trbs) room,
        le-leb (asked stages.data_trbs) n enough,
        recoded-success c.status_address c.status.interrupt_on_completion c.final,
      )

  -- the writes of at least one byte are the deliveries of the Data Stage TD
  pub wrote-deliveries : wrote (realize_chain td (trbs_of c)).records ≡ deliveries n stages.data_trbs
  wrote-deliveries = wrote-parts td c ∙ data-agree.writes
