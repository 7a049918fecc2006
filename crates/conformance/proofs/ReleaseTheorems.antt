-- A control transfer that failed, for guests of release 5, against xHCI 1.2, 4.10.2 and 4.11.2.2: behind the Setup Stage TD's own event, the
-- event of the Status Stage TRB where there is no data stage, and that of the Data Stage TRB, but for its residual, where the transfer
-- failed there. Assumes nothing.
use Rattle.std.specs.Prelude.{Option}
use Prim.Native.Nat.{ℕ, ◌+◌, ◌-◌, ◌<◌, min}
use mathlib.Core.Path.{◌≡◌, refl, ap, ◌∙◌}
use mathlib.Core.Bool.{Bool, true, false, ◌&&◌, true≢false}
use mathlib.Core.List.{List, [], ◌∷◌, ◌++◌}
use native.Mathlib.Omega.{arith}
use borrow.Author.Tests.{leb-false, le-leb}
use lib.Dec.{leb}
use Rattle.trb.specs.Codes.{code_number}
use Rattle.trb.specs.Questions.{first_no}
use Rattle.trb.specs.declared.CompletionCode.{CompletionCode}
use Rattle.trb.specs.declared.ControlRequestProcessingResult.{ControlRequestProcessingResult}
use Rattle.trb.specs.declared.ControlSubmissionState.TheVariants.{AwaitingControlRequest}
use Rattle.trb.specs.declared.DataStageTrb.{DataStageTrb}
use Rattle.trb.specs.declared.TrbProcessingResult.{TrbProcessingResult}
use Rattle.control_block.specs.declared.ControlBlock.{ControlBlock}
use Rattle.control_block.specs.declared.Ending.TheVariants.{Fail}
use Rattle.control_block.specs.declared.GuestRelease.TheVariants.{Release5}
use Rattle.control_block.specs.Blocks.{held_of}
use Rattle.control_block.specs.Endings.{request_ending}
use Rattle.control_block.specs.Facts.{facts_of}
use Rattle.control_block.specs.Stages.{first_at, stage_address, error_address}
use Rattle.control_endpoint.specs.Completion.{completion}
use Rattle.control_endpoint.proofs.ReleaseLaws.{failed-event}
use Rattle.control_questions.specs.Completion.{completion_questions}
use Rattle.standard.specs.Control.{status_stage, data_failed, status_failed, control_events}
use Rattle.standard.specs.Xhci.{Trb, normal, event_data, TransferEvent, transfer_event, Reading, asked, any_on_bus, ended, failed, events, events_from}
use Rattle.standard.proofs.XhciLaws.{fate-beyond}
use Rattle.conformance.specs.Translate.{told}
use Rattle.conformance.specs.TranslateControl.{DataTrb, normal_at, event_data_at, no_data, data_td, Final, no_final, final_at, Chain, trbs_of, data_of, data_td_of, final_of, stages_of, sized}

-- ---- The engine: the TRB of the stage

module _ (c : Chain) (setup : ℕ) where
  stage-status : (f : Final) → c.data_part ≡ no_data → c.final ≡ f → stage_address (trbs_of c) setup ≡ c.status_address
  unfolding first_at
  stage-status no_final none last = rw (none, last)
  stage-status (final_at t a y) none last = rw (none, last)

  stage-data : (t : DataStageTrb) (a : ℕ) (y : Bool) (ds : List DataTrb) → c.data_part ≡ data_td t a y ds → stage_address (trbs_of c) setup ≡ a
  unfolding first_at
  stage-data t a y ds part = rw part

-- ---- The standard: the TRB on which the error falls

module _ (r : Reading) (code : ℕ) where
  status-events : (a : ℕ) (ioc : Bool) (f : Final) → events r (failed code) 0 (status_stage a ioc ∷ final_of f) ≡ transfer_event code false a 0 ∷ []
  status-events a ioc no_final = refl
  status-events a ioc (final_at t b y) = refl

  module _ (m : ℕ) where
    -- no TRB behind it runs
    none-beyond : (before ts : List Trb) → m < asked before → events_from r (failed code) m before ts ≡ []
    none-beyond before [] h = refl
    none-beyond before (t ∷ ts) h = rw (fate-beyond m before t ts (failed code) h) (none-beyond (t ∷ before) ts (omega arith))

    and-false : (b : Bool) → (b && false) ≡ false
    and-false true = refl
    and-false false = refl

    -- Event Data TRBs have no transactions
    none-off-bus : (before : List Trb) (ds : List DataTrb) → any_on_bus (data_of ds) ≡ false → events_from r (failed code) m before (data_of ds) ≡ []
    none-off-bus before [] h = refl
    none-off-bus before (normal_at t a y ∷ ds) h = absurd (true≢false h)
    none-off-bus before (event_data_at t a y ∷ ds) h =
        rw (h, and-false (leb (0 + asked before) m), and-false (leb (asked before) m)) (none-off-bus (event_data a t.event_data t.interrupt_on_completion ∷ before) ds h)

    -- the Data Stage TRB, where its bytes are not all there or it is the TD's last with transactions
    module _ (t : DataStageTrb) (a : ℕ) (y : Bool) (ds : List DataTrb) where
      abbrev size : ℕ
      size = t.transfer_length

      abbrev first : Trb
      first = normal a t.data_pointer size t.interrupt_on_completion t.interrupt_on_short

      none-behind : (all : Bool) → leb size m ≡ all → (all && any_on_bus (data_of ds)) ≡ false → events_from r (failed code) m (first ∷ []) (data_of ds) ≡ []
      none-behind true e falls = none-off-bus (first ∷ []) ds falls
      none-behind false e falls = none-beyond (first ∷ []) (data_of ds) (omega (arith, leb-false size m e))

      data-events : (leb size m && any_on_bus (data_of ds)) ≡ false → events r (failed code) m (data_td_of (data_td t a y ds)) ≡ transfer_event code false a (size - m) ∷ []
      data-events falls =
          let all : size + 0 ≡ size = omega arith in
          let left : size - min size (m - 0) ≡ size - m = omega arith in
          rw (all, falls, le-leb 0 m (omega arith), left)
          (ap (λ (es : List TransferEvent). transfer_event code false a (size - m) ∷ es) (none-behind (leb size m) refl falls))

-- ---- The transfer

-- a completion of a block for release 5 that holds the chain, with a device's answer that fails it
module _ (log : ℕ) (b : ControlBlock) (d : Option ControlRequestProcessingResult) (n : ℕ) (code : CompletionCode) (result : TrbProcessingResult) (c : Chain) where
  module _ (rule : b.release ≡ Release5) (holds : held_of b ≡ trbs_of c) (awaits : b.state ≡ AwaitingControlRequest) (fails : request_ending d n ≡ Fail code result) (none : first_no (completion_questions log (facts_of b) d n) ≡ 0) where
    told_at : (a : ℕ) → stage_address (trbs_of c) b.transfer.request.address ≡ a → told (completion log b d n).records ≡ transfer_event (code_number code) false a 0 ∷ []
    unfolding error_address
    told_at a stage =
        ap told (failed-event log b d n code result awaits fails none)
        ∙ ap (λ (x : ℕ). transfer_event (code_number code) false x 0 ∷ []) (rw (rule, holds) stage)

    module _ (r : Reading) where
      abbrev setup_events : List TransferEvent
      setup_events = events r ended 0 ((stages_of c).setup_trb ∷ [])

      -- no data stage: the status stage failed, and the event is the standard's
      pub told-status_failed : c.data_part ≡ no_data → setup_events ++ told (completion log b d n).records ≡ control_events r (stages_of c) (status_failed (code_number code) 0)
      told-status_failed part =
          rw (
            told_at c.status_address (stage-status c b.transfer.request.address c.final part refl),
            part,
            status-events r (code_number code) c.status_address c.status.interrupt_on_completion c.final,
          )

      -- the data stage failed after m bytes, in its Data Stage TRB: the event is the standard's, but for the residual, which is 0
      pub told-data_failed : (t : DataStageTrb) (a : ℕ) (y : Bool) (ds : List DataTrb) (m : ℕ) → c.data_part ≡ data_td t a y ds → (leb t.transfer_length m && any_on_bus (data_of ds)) ≡ false
          → setup_events ++ sized (t.transfer_length - m) (told (completion log b d n).records) ≡ control_events r (stages_of c) (data_failed (code_number code) m)
      told-data_failed t a y ds m part falls =
          rw (
            told_at a (stage-data c b.transfer.request.address t a y ds part),
            part,
            data-events r (code_number code) m t a y ds falls,
          )
