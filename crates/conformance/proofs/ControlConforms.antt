-- The data part of a control IN transfer that succeeded, walked as an IN TD: its events and writes are those of the standard's Data Stage TD.
-- Assumes nothing.
use Prim.Native.Nat.{ℕ, ◌+◌, ◌<◌, ◌≤◌}
use mathlib.Core.Path.{◌≡◌, refl, ap, ◌∙◌}
use mathlib.Core.List.{List, [], ◌∷◌, ◌++◌, append_assoc}
use mathlib.Core.Logic.{⊎_elim}
use native.Mathlib.Omega.{arith}
use borrow.Author.Tests.{le-leb, lt-leb}
use Rattle.trb.specs.Codes.{code_number}
use Rattle.trb.specs.declared.EndpointId.{EndpointId}
use Rattle.trb.specs.declared.EventDataTrb.{EventDataTrb}
use Rattle.trb.specs.declared.NormalTrb.{NormalTrb}
use Rattle.trb.specs.declared.SlotId.{SlotId}
use Rattle.trb.specs.declared.TransferTrb.{TransferTrb}
use Rattle.trb.proofs.TestLaws.{le-or-lt}
use Rattle.call_log.specs.Calls.{Out}
use Rattle.td_part.specs.declared.TdProcessingState.TheVariants.{Default, ShortTransfer}
use Rattle.td_part.specs.declared.TdProgress.{TdProgress}
use Rattle.td_part.specs.declared.TrbDmaInfo.{TrbDmaInfo}
use Rattle.td_part.specs.Parts.{of_normal, of_data_stage, realize_dma, repeat_short, handle_event_data, code_after}
use Rattle.walks.specs.Walk.{join, walk}
use Rattle.control_chain.specs.Chain.{edtla_zeroed, realize_data_stage, realize_normal, realize_trb, never, input_td}
use Rattle.control_chain.specs.Chain as chain
use Rattle.control_chain.specs.declared.ControlTd.{ControlTd}
use Rattle.standard.specs.Xhci.{Trb, event_data, ended, asked, short_residual, repeated_residual, events_from, deliveries_from}
use Rattle.standard.proofs.XhciLaws.{fate-complete}
use Rattle.conformance.specs.Translate.{told, wrote}
use Rattle.conformance.specs.TranslateControl.{DataTrb, normal_at, event_data_at, DataTd, no_data, data_td, data_trbs, data_td_trbs, data_of, data_td_of, final_code}
use Rattle.conformance.proofs.PartsConform.{trb_of, Reached, Shortened, Conforms, full-reached, full-conforms, short-shortened, short-conforms, passed-shortened, passed-conforms, event-reached, event-conforms, event-shortened, event-passed}

-- the walk from the progress w on
abbrev pub chain_from : ControlTd → TdProgress → List TransferTrb → Out TdProgress
chain_from td w ts = walk (realize_trb td) never w ts

-- over a list in two parts
pub chain_from-append : (td : ControlTd) (w : TdProgress) (ts us : List TransferTrb)
    → chain_from td w (ts ++ us) ≡ join (chain_from td w ts) (chain_from td (chain_from td w ts).state us)
unfolding walk
chain_from-append td w [] us = refl
chain_from-append td w (t ∷ ts) us =
    let out : Out TdProgress = realize_trb td w t in
    rw (
      chain_from-append td out.state ts us,
      append_assoc out.records (chain_from td out.state ts).records (chain_from td (chain_from td out.state ts).state us).records,
    )

-- what a walk made of the data TRBs ts behind `before`, and the code that it leaves to an Event Data TRB behind Status
pub record DataAgrees (n requested : ℕ) (before ts : List Trb) (made : Out TdProgress) : Type 0 where
  pub events : told made.records ≡ events_from repeated_residual ended n before ts
  pub writes : wrote made.records ≡ deliveries_from n before ts
  pub code : code_number (code_after made.state.state) ≡ final_code n requested

module _ (e : EndpointId) (s : SlotId) (n requested : ℕ) where
  abbrev this : ControlTd
  this = input_td e s n

  abbrev walked : TdProgress → List DataTrb → Out TdProgress
  walked w ds = chain_from this w (data_trbs ds)

  -- a TRB, and the TRBs behind it
  agrees-cons : (before : List Trb) (b : Trb) (ds : List DataTrb) (out : Out TdProgress) → Conforms ended n before b (data_of ds) out.records
      → DataAgrees n requested (b ∷ before) (data_of ds) (walked out.state ds) → DataAgrees n requested before (b ∷ data_of ds) (join out (walked out.state ds))
  agrees-cons before b ds out own rest = record {
    events = own.events (walked out.state ds).records ∙ rw rest.events;
    writes = own.writes (walked out.state ds).records ∙ rw rest.writes;
    code = rest.code;
  }

  -- ---- Behind a short TRB

  abbrev Later : (ds : List DataTrb) → Type 0
  Later ds = (before : List Trb) (w : TdProgress) → requested ≡ asked before + asked (data_of ds) → Shortened n before w
      → DataAgrees n requested before (data_of ds) (walked w ds)

  normal-later : (missing : ℕ) (t : NormalTrb) (a : ℕ) (w : TdProgress) → w.state ≡ ShortTransfer missing
      → realize_normal this w t a ≡ repeat_short this.info w missing t.interrupt_on_completion a
  unfolding realize_normal
  normal-later missing t a w h = ap (λ state. chain.normal_by_state state this w t a) h

  module _ (a : ℕ) (ds : List DataTrb) (before : List Trb) (w : TdProgress) (at : Shortened n before w) (ih : Later ds) where
    later-normal : (t : NormalTrb) → requested ≡ asked before + (t.transfer_length + asked (data_of ds))
        → DataAgrees n requested before (trb_of (of_normal t a) ∷ data_of ds) (join (realize_normal this w t a) (walked (realize_normal this w t a).state ds))
    later-normal t all =
        let d : TrbDmaInfo = of_normal t a in
        let out : Out TdProgress = repeat_short this.info w (short_residual n before) t.interrupt_on_completion a in
        rw (normal-later (short_residual n before) t a w at.state)
        (agrees-cons before (trb_of d) ds out (passed-conforms this.info before w d (data_of ds) at)
        (ih (trb_of d ∷ before) out.state (omega arith) (passed-shortened this.info before w d (data_of ds) at)))

    later-event : (t : EventDataTrb) → requested ≡ asked before + (0 + asked (data_of ds))
        → DataAgrees n requested before (event_data a t.event_data t.interrupt_on_completion ∷ data_of ds)
        (join (handle_event_data this.info w t) (walked (handle_event_data this.info w t).state ds))
    later-event t all =
        let b : Trb = event_data a t.event_data t.interrupt_on_completion in
        let out : Out TdProgress = handle_event_data this.info w t in
        agrees-cons before b ds out (event-passed this.info before w t a (data_of ds) at)
        (ih (b ∷ before) out.state (omega arith) (event-shortened this.info before w t a (data_of ds) at))

  later : (ds : List DataTrb) → Later ds
  unfolding walk realize_trb
  later [] before w all at = record {
    events = refl;
    writes = refl;
    code = let fewer : n < requested = omega (arith, at.short) in rw (at.state, lt-leb requested n fewer);
  }
  later (normal_at t a cycle ∷ ds) before w all at = later-normal a ds before w at (later ds) t all
  later (event_data_at t a cycle ∷ ds) before w all at = later-event a ds before w at (later ds) t all

  -- ---- Before any was short

  abbrev Whole : (ds : List DataTrb) → Type 0
  Whole ds = (before : List Trb) (w : TdProgress) → requested ≡ asked before + asked (data_of ds) → Reached n before w
      → DataAgrees n requested before (data_of ds) (walked w ds)

  normal-first : (t : NormalTrb) (a : ℕ) (w : TdProgress) → w.state ≡ Default → realize_normal this w t a ≡ realize_dma this.info w (of_normal t a)
  unfolding realize_normal
  normal-first t a w h = ap (λ state. chain.normal_by_state state this w t a) h

  module _ (ds : List DataTrb) (before : List Trb) (w : TdProgress) (at : Reached n before w) (ih : Whole ds) where
    -- a TRB that moves data
    dma-agrees : (d : TrbDmaInfo) → requested ≡ asked before + (d.transfer_length + asked (data_of ds))
        → DataAgrees n requested before (trb_of d ∷ data_of ds) (join (realize_dma this.info w d) (walked (realize_dma this.info w d).state ds))
    dma-agrees d all =
        ⊎_elim
        (λ (fits : d.transfer_length + asked before ≤ n). agrees-cons before (trb_of d) ds (realize_dma this.info w d)
        (full-conforms this.info before w d (data_of ds) at fits ended (fate-complete n before (trb_of d) (data_of ds) fits))
        (ih (trb_of d ∷ before) (realize_dma this.info w d).state (omega arith) (full-reached this.info before w d (data_of ds) at fits)))
        (λ (lacks : n < d.transfer_length + asked before). agrees-cons before (trb_of d) ds (realize_dma this.info w d)
        (short-conforms this.info before w d (data_of ds) at lacks)
        (later ds (trb_of d ∷ before) (realize_dma this.info w d).state (omega arith) (short-shortened this.info before w d (data_of ds) at lacks)))
        (le-or-lt (d.transfer_length + asked before) n)

    whole-normal : (t : NormalTrb) (a : ℕ) → requested ≡ asked before + (t.transfer_length + asked (data_of ds))
        → DataAgrees n requested before (trb_of (of_normal t a) ∷ data_of ds) (join (realize_normal this w t a) (walked (realize_normal this w t a).state ds))
    whole-normal t a all = rw (normal-first t a w at.state) (dma-agrees (of_normal t a) all)

    whole-event : (t : EventDataTrb) (a : ℕ) → requested ≡ asked before + (0 + asked (data_of ds))
        → DataAgrees n requested before (event_data a t.event_data t.interrupt_on_completion ∷ data_of ds)
        (join (handle_event_data this.info w t) (walked (handle_event_data this.info w t).state ds))
    whole-event t a all =
        let b : Trb = event_data a t.event_data t.interrupt_on_completion in
        let out : Out TdProgress = handle_event_data this.info w t in
        agrees-cons before b ds out (event-conforms this.info before w t a (data_of ds) at ended (fate-complete n before b (data_of ds) (omega (arith, at.enough))))
        (ih (b ∷ before) out.state (omega arith) (event-reached this.info before w t a (data_of ds) at))

  whole : (ds : List DataTrb) → Whole ds
  unfolding walk realize_trb
  whole [] before w all at = record {
    events = refl;
    writes = refl;
    code = let enough : requested ≤ n = omega (arith, at.enough) in rw (at.state, le-leb requested n enough);
  }
  whole (normal_at t a cycle ∷ ds) before w all at = whole-normal ds before w at (whole ds) t a all
  whole (event_data_at t a cycle ∷ ds) before w all at = whole-event ds before w at (whole ds) t a all

  -- ---- The data part, from its start

  pub data-agrees : (d : DataTd) (w : TdProgress) → requested ≡ asked (data_td_of d) → w.start ≡ 0 → w.state ≡ Default
      → DataAgrees n requested [] (data_td_of d) (chain_from this w (data_td_trbs d))
  unfolding walk realize_trb realize_data_stage
  data-agrees no_data w all start state = record {
    events = refl;
    writes = refl;
    code = let enough : requested ≤ n = omega arith in rw (state, le-leb requested n enough);
  }
  data-agrees (data_td t a cycle ds) w all start state =
      dma-agrees ds [] (edtla_zeroed w) (record { enough = omega arith; start = start; edtla = refl; state = state }) (whole ds) (of_data_stage t a) (omega arith)
