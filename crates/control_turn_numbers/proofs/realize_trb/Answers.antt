-- `control_turn_numbers::realize_trb` meets its contract, by the kind of the TRB. Assumes nothing.
use mathlib.Core.Path.{◌≡◌, refl, sym, ap, ◌∙◌}
use mathlib.Core.Bool.{Bool}
use borrow.Author.Rules.{rules}
use mathlib.Core.Logic.{⊎_elim}
use Rattle.raw_trb.specs.Layouts.{setup_stage_type, status_stage_type}
use Rattle.trb.specs.declared.DataStageTrb.{DataStageTrb}
use Rattle.trb.specs.declared.EventDataTrb.{EventDataTrb}
use Rattle.trb.specs.declared.NormalTrb.{NormalTrb}
use Rattle.trb.specs.declared.TransferTrbVariant.TheVariants.{SetupStage, DataStage, StatusStage, Normal, EventData}
use Rattle.call_log.proofs.CallLaws.{meets, meets-silent}
use Rattle.held_bytes.specs.Numbers.{normal_of, setup_stage_of, data_stage_of, status_stage_of, event_data_of, variant_of, trb_of}
use Rattle.td_part.specs.Parts.{handle_event_data}
use Rattle.control_chain.specs.Chain.{realize_stage, realize_data_stage, realize_normal}
use Rattle.control_chain.proofs.ChainLaws.{trb-by}
use Rattle.control_turn_numbers.proofs.OtherLaws.{other-silent}
use Rattle.control_turn_numbers.proofs.realize_trb.Goals as goal

pub returns-in-2 : goal.returns-in-2
unfolding variant_of
returns-in-2 c =
    let a = c.args in
    let n = a.numbers in
    let setup : n.kind ≡ setup_stage_type → variant_of n.kind n.flags n.value n.transfer_length ≡ SetupStage (setup_stage_of n.flags n.value) = λ k. rw k in
    let status : n.kind ≡ status_stage_type → variant_of n.kind n.flags n.value n.transfer_length ≡ StatusStage (status_stage_of n.flags) = λ k. rw k in
    ⊎_elim
    (λ k. meets (trb-by a.td a.progress (trb_of n) (setup k) ∙ ap (λ (on : Bool). realize_stage a.td.info a.progress on n.addr) (sym c.bit.ensures)) c.realize_stage.ensures)
    (λ k. meets (trb-by a.td a.progress (trb_of n) (status k) ∙ ap (λ (on : Bool). realize_stage a.td.info a.progress on n.addr) (sym c.bit.ensures)) c.realize_stage.ensures)
    c.in-2.is

pub returns-in-3 : goal.returns-in-3
unfolding variant_of
returns-in-3 c =
    let a = c.args in
    let n = a.numbers in
    let e : variant_of n.kind n.flags n.value n.transfer_length ≡ DataStage (data_stage_of n.flags n.value n.transfer_length) = rw c.in-3.is in
    meets (trb-by a.td a.progress (trb_of n) e ∙ ap (λ (x : DataStageTrb). realize_data_stage a.td a.progress x n.addr) (sym c.data_stage-stage.ensures)) c.realize_data_stage.ensures

pub returns-in-1 : goal.returns-in-1
unfolding variant_of
returns-in-1 c =
    let a = c.args in
    let n = a.numbers in
    let e : variant_of n.kind n.flags n.value n.transfer_length ≡ Normal (normal_of n.flags n.value n.transfer_length) = rw c.in-1.is in
    meets (trb-by a.td a.progress (trb_of n) e ∙ ap (λ (x : NormalTrb). realize_normal a.td a.progress x n.addr) (sym c.normal-normal.ensures)) c.realize_normal.ensures

pub returns-in-7 : goal.returns-in-7
unfolding variant_of
returns-in-7 c =
    let a = c.args in
    let n = a.numbers in
    let e : variant_of n.kind n.flags n.value n.transfer_length ≡ EventData (event_data_of n.flags n.value) = rw c.in-7.is in
    meets (trb-by a.td a.progress (trb_of n) e ∙ ap (λ (x : EventDataTrb). handle_event_data a.td.info a.progress x) (sym c.event_data-event.ensures)) c.handle_event_data_trb.ensures

pub returns-in_default : goal.returns-in_default
returns-in_default c =
    let a = c.args in
    let n = a.numbers in
    meets
    (trb-by a.td a.progress (trb_of n) refl
    ∙ other-silent n.kind n.flags n.value n.transfer_length a.td a.progress n.addr (search rules) (search rules) (search rules) (search rules) (search rules))
    (meets-silent a.progress.records a.log.now refl)
