-- A control OUT transfer that succeeded, against xHCI 1.2, 4.11.2.2: its events are those of TDs whose bytes all went out. No TRB is short, so the
-- progress is told by the EDTLA alone. Assumes nothing.
use Prim.Native.Nat.{ℕ, ◌+◌, ◌-◌, ◌≤◌, min}
use mathlib.Core.Path.{◌≡◌, refl, ap, ◌∙◌}
use mathlib.Core.Bool.{true, false}
use mathlib.Core.List.{List, [], ◌∷◌, ◌++◌}
use native.Mathlib.Omega.{arith}
use Rattle.trb.specs.declared.CompletionCode.TheVariants.{Success}
use Rattle.trb.specs.declared.EndpointId.{EndpointId}
use Rattle.trb.specs.declared.EventDataTrb.{EventDataTrb}
use Rattle.trb.specs.declared.NormalTrb.{NormalTrb}
use Rattle.trb.specs.declared.SlotId.{SlotId}
use Rattle.call_log.specs.Calls.{Out}
use Rattle.call_log.specs.declared.Record.{Record}
use Rattle.td_part.specs.declared.TdProcessingState.TheVariants.{Default}
use Rattle.td_part.specs.declared.TdProgress.{TdProgress}
use Rattle.td_part.specs.declared.TrbDmaInfo.{TrbDmaInfo}
use Rattle.td_part.specs.Parts.{of_normal, of_data_stage, edtla_after, code_after, report_success, handle_event_data}
use Rattle.walks.specs.Walk.{join, walk}
use Rattle.control_chain.specs.Chain.{edtla_zeroed, move_out, realize_data_stage, realize_normal, realize_trb, realize_chain, output_td}
use Rattle.control_chain.specs.Chain as chain
use Rattle.control_chain.specs.declared.ControlTd.{ControlTd}
use Rattle.standard.specs.Control.{ControlTransfer, control_events, sent_whole}
use Rattle.standard.specs.Xhci.{Trb, event_data, ended, asked, accumulated, edtla, repeated_residual, events_at, events_from}
use Rattle.standard.proofs.XhciLaws.{fate-complete}
use Rattle.conformance.specs.Translate.{told, wrote}
use Rattle.conformance.specs.TranslateControl.{DataTrb, normal_at, event_data_at, DataTd, no_data, data_td, Chain, data_trbs, data_td_trbs, data_of, data_td_of, trbs_of, stages_of}
use Rattle.conformance.proofs.TranslateLaws.{told-when, wrote-when}
use Rattle.conformance.proofs.PartsConform.{trb_of, mod-add}
use Rattle.conformance.proofs.ControlConforms.{chain_from}
use Rattle.conformance.proofs.ControlTheorems.{recoded-success, begun, data_made, told-parts, wrote-parts}

-- the progress behind the TRBs `before`, where n bytes go out in all
record Sent (n : ℕ) (before : List Trb) (w : TdProgress) : Type 0 where
  edtla : w.edtla ≡ edtla repeated_residual n before
  state : w.state ≡ Default

-- what a walk made of the data TRBs ts behind `before`
record SentAgrees (n : ℕ) (before ts : List Trb) (made : Out TdProgress) : Type 0 where
  events : told made.records ≡ events_from repeated_residual ended n before ts
  writes : wrote made.records ≡ []
  state : made.state.state ≡ Default

module _ (e : EndpointId) (s : SlotId) (n : ℕ) where
  abbrev this : ControlTd
  this = output_td e s

  abbrev walked : TdProgress → List DataTrb → Out TdProgress
  walked w ds = chain_from this w (data_trbs ds)

  abbrev Whole : (ds : List DataTrb) → Type 0
  Whole ds = (before : List Trb) (w : TdProgress) → asked before + asked (data_of ds) ≤ n → Sent n before w → SentAgrees n before (data_of ds) (walked w ds)

  -- a TRB whose one event, where it is due, is the standard's, and the TRBs behind it
  sent-cons : (before : List Trb) (b : Trb) (ds : List DataTrb) (out : Out TdProgress)
      → ((rest : List Record) → told (out.records ++ rest) ≡ events_at repeated_residual ended n before b (data_of ds) ++ told rest)
      → ((rest : List Record) → wrote (out.records ++ rest) ≡ wrote rest)
      → SentAgrees n (b ∷ before) (data_of ds) (walked out.state ds) → SentAgrees n before (b ∷ data_of ds) (join out (walked out.state ds))
  sent-cons before b ds out own silent rest = record {
    events = own (walked out.state ds).records ∙ rw rest.events;
    writes = silent (walked out.state ds).records ∙ rest.writes;
    state = rest.state;
  }

  module _ (ds : List DataTrb) (before : List Trb) (w : TdProgress) (at : Sent n before w) (ih : Whole ds) where
    abbrev sent_by : TrbDmaInfo → Out TdProgress
    sent_by d = report_success this.info w (edtla_after w.edtla d.transfer_length) d.interrupt_on_completion d.addr

    sent-dma : (d : TrbDmaInfo) → asked before + (d.transfer_length + asked (data_of ds)) ≤ n → SentAgrees n before (trb_of d ∷ data_of ds) (join (sent_by d) (walked (sent_by d).state ds))
    sent-dma d room =
        let moved_all : min d.transfer_length (n - asked before) ≡ d.transfer_length = omega arith in
        let none_left : d.transfer_length - d.transfer_length ≡ 0 = omega arith in
        sent-cons before (trb_of d) ds (sent_by d)
        (λ rest. rw (fate-complete n before (trb_of d) (data_of ds) (omega arith), moved_all, none_left)
        (told-when d.addr 0 Success e s rest d.interrupt_on_completion false))
        (λ rest. wrote-when d.addr 0 Success e s rest d.interrupt_on_completion false)
        (ih (trb_of d ∷ before) (sent_by d).state (omega arith)
        (record { edtla = rw (at.edtla, moved_all) (mod-add (accumulated repeated_residual n before) d.transfer_length); state = at.state }))

    sent-event : (t : EventDataTrb) (a : ℕ) → asked before + (0 + asked (data_of ds)) ≤ n
        → SentAgrees n before (event_data a t.event_data t.interrupt_on_completion ∷ data_of ds)
        (join (handle_event_data this.info w t) (walked (handle_event_data this.info w t).state ds))
    sent-event t a room =
        let b : Trb = event_data a t.event_data t.interrupt_on_completion in
        let out : Out TdProgress = handle_event_data this.info w t in
        sent-cons before b ds out
        (λ rest. rw (fate-complete n before b (data_of ds) (omega arith), at.edtla, at.state)
        (told-when t.event_data (edtla repeated_residual n before) Success e s rest t.interrupt_on_completion true))
        (λ rest. wrote-when t.event_data w.edtla (code_after w.state) e s rest t.interrupt_on_completion true)
        (ih (b ∷ before) out.state (omega arith) (record { edtla = refl; state = at.state }))

    normal-sent : (t : NormalTrb) (a : ℕ) → realize_normal this w t a ≡ sent_by (of_normal t a)
    unfolding realize_normal move_out
    normal-sent t a = ap (λ state. chain.normal_by_state state this w t a) at.state

    sent-normal : (t : NormalTrb) (a : ℕ) → asked before + (t.transfer_length + asked (data_of ds)) ≤ n
        → SentAgrees n before (trb_of (of_normal t a) ∷ data_of ds) (join (realize_normal this w t a) (walked (realize_normal this w t a).state ds))
    sent-normal t a room = rw (normal-sent t a) (sent-dma (of_normal t a) room)

  whole : (ds : List DataTrb) → Whole ds
  unfolding walk realize_trb
  whole [] before w room at = record { events = refl; writes = refl; state = at.state }
  whole (normal_at t a cycle ∷ ds) before w room at = sent-normal ds before w at (whole ds) t a room
  whole (event_data_at t a cycle ∷ ds) before w room at = sent-event ds before w at (whole ds) t a room

  data-sent : (d : DataTd) (w : TdProgress) → asked (data_td_of d) ≤ n → w.state ≡ Default → SentAgrees n [] (data_td_of d) (chain_from this w (data_td_trbs d))
  unfolding walk realize_trb realize_data_stage move_out
  data-sent no_data w room state = record { events = refl; writes = refl; state = state }
  data-sent (data_td t a cycle ds) w room state = sent-dma ds [] (edtla_zeroed w) (record { edtla = refl; state = state }) (whole ds) (of_data_stage t a) (omega arith)

-- ---- The transfer

module _ (e : EndpointId) (s : SlotId) (c : Chain) where
  abbrev td : ControlTd
  td = output_td e s

  abbrev stages : ControlTransfer
  stages = stages_of c

  sent : SentAgrees (asked stages.data_trbs) [] stages.data_trbs (data_made td c)
  sent = data-sent e s (asked stages.data_trbs) c.data_part (begun td c) (omega arith) refl

  pub told-sent_whole : told (realize_chain td (trbs_of c)).records ≡ control_events repeated_residual stages (sent_whole stages)
  told-sent_whole = told-parts td c ∙ rw (sent.events, sent.state, recoded-success c.status_address c.status.interrupt_on_completion c.final)

  -- nothing is written
  pub wrote_none : wrote (realize_chain td (trbs_of c)).records ≡ []
  wrote_none = wrote-parts td c ∙ sent.writes
