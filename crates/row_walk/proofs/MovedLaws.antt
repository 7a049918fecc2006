-- A TD's log with its starts moved is the log of the same walk begun further on in the data: of a TD whose data ends as many bytes
-- later, from that start. Each TRB sees the same bytes left, so moves as many. Assumes nothing.
use Prim.Native.Nat.{ℕ, ◌+◌, ◌-◌}
use mathlib.Core.Path.{◌≡◌, refl, sym, ap, ◌∙◌}
use mathlib.Core.Bool.{Bool, true, false, cond}
use mathlib.Core.List.{List, ◌∷◌, map}
use native.Mathlib.Nat.{add_assoc, add-zero}
use native.Mathlib.Omega.{arith}
use lib.ListN.{length, length-map}
use Rattle.trb.specs.declared.CompletionCode.{CompletionCode}
use Rattle.trb.specs.declared.CompletionCode.TheVariants.{Success, ShortPacket, StallError, UsbTransactionError}
use Rattle.trb.specs.declared.EndpointId.{EndpointId}
use Rattle.trb.specs.declared.SlotId.{SlotId}
use Rattle.trb.specs.declared.EventDataTrb.{EventDataTrb}
use Rattle.trb.specs.declared.InTrbProcessingStatus.{InTrbProcessingStatus}
use Rattle.trb.specs.declared.InTrbProcessingStatus.TheVariants as status
use Rattle.trb.specs.declared.NormalTrb.{NormalTrb}
use Rattle.trb.specs.declared.TransferTrb.{TransferTrb}
use Rattle.trb.specs.declared.TransferTrbVariant.{TransferTrbVariant}
use Rattle.trb.specs.declared.TransferTrbVariant.TheVariants.{SetupStage, DataStage, StatusStage, Normal, EventData, NoOp, Isoch, Unrecognized}
use Rattle.trb.specs.declared.TrbProcessingResult.TheVariants as result
use Rattle.call_log.specs.Calls.{Out}
use Rattle.call_log.specs.Records.{when, transfer_event, guest_write}
use Rattle.call_log.specs.declared.Record.{Record}
use Rattle.walks.specs.Walk.{walk}
use Rattle.walks.proofs.GoingLaws.{mapped, walk-mapped}
use Rattle.td_part.specs.declared.TdInfo.{TdInfo}
use Rattle.td_part.specs.declared.TdProgress.{TdProgress}
use Rattle.td_part.specs.declared.TdProcessingState.{TdProcessingState}
use Rattle.td_part.specs.declared.TdProcessingState.TheVariants.{Default, ShortTransfer}
use Rattle.td_part.specs.declared.TrbDmaInfo.{TrbDmaInfo}
use Rattle.td_part.specs.Parts.{of_normal, edtla_after, moved_of, residual_of, code_for, due_for, state_after, code_after, progressed, event_at, put_dma, realize_dma, report_trb, handle_event_data}
use Rattle.in_td.specs.Td.{normals, goes_on, ends_with, ending_normal, is_done, normal_by_state, handle_normal, trb_by_kind, process_trb, process_td, ended, unprocessed, in_td}
use Rattle.in_td.specs.declared.InMode.{InMode}
use Rattle.in_td.specs.declared.TdProcessed.{TdProcessed}
use Rattle.row_walk.specs.Rows.{moved_by, from}

-- ---- The walk over a TD

by-test : {A : Type 0} (P : A → A → Type 0) (b : Bool) (x y u v : A) → P x u → P y v → P (cond b x y) (cond b u v)
by-test P true x y u v p q = p
by-test P false x y u v p q = q

-- by so many bytes, with so many records logged before
module _ (by before : ℕ) where
  -- an event has no start
  moved-when : (due : Bool) (a residual : ℕ) (code : CompletionCode) (flag : Bool) (e : EndpointId) (s : SlotId)
      → map (moved_by by) (when due (transfer_event a residual code flag e s)) ≡ when due (transfer_event a residual code flag e s)
  moved-when true a residual code flag e s = refl
  moved-when false a residual code flag e s = refl

  abbrev onward : TdProgress → TdProgress
  onward w = record { start = by + w.start; edtla = w.edtla; state = w.state; records = before + w.records }

  abbrev pub onwards : TdProcessed → TdProcessed
  onwards p = record { progress = onward p.progress; normals_left = p.normals_left; result = p.result }

  abbrev part_moved : Out TdProgress → Out TdProgress
  part_moved o = mapped onward (moved_by by) o

  abbrev pub td_moved : Out TdProcessed → Out TdProcessed
  td_moved o = mapped onwards (moved_by by) o

  onwards-unprocessed : (left : ℕ) → onwards (unprocessed left) ≡ from by before left
  onwards-unprocessed left = rw (add-zero by, add-zero before)

  progressed-moved : (w : TdProgress) (start edtla : ℕ) (state : TdProcessingState) (rs : List Record)
      → progressed (onward w) (by + start) edtla state (map (moved_by by) rs) ≡ part_moved (progressed w start edtla state rs)
  progressed-moved w start edtla state rs = rw (length-map, add_assoc before w.records (length rs))

  module _ (e : EndpointId) (s : SlotId) (n : ℕ) where
    abbrev near : TdInfo
    near = record { endpoint_id = e; slot_id = s; data_length = n }

    abbrev far : TdInfo
    far = record { endpoint_id = e; slot_id = s; data_length = by + n }

    module _ (w : TdProgress) where
      left-moved : by + n - (by + w.start) ≡ n - w.start
      left-moved = omega arith

      report-moved : (edtla : ℕ) (due : Bool) (a residual : ℕ) (code : CompletionCode)
          → report_trb far (onward w) edtla due a residual code ≡ part_moved (report_trb near w edtla due a residual code)
      report-moved edtla due a residual code =
          ap (progressed (onward w) (by + w.start) edtla w.state) (sym (moved-when due a residual code false e s))
          ∙ progressed-moved w w.start edtla w.state (when due (transfer_event a residual code false e s))

      event_data-moved : (t : EventDataTrb) → handle_event_data far (onward w) t ≡ part_moved (handle_event_data near w t)
      event_data-moved t =
          let event : Record = transfer_event t.event_data w.edtla (code_after w.state) true e s in
          ap (progressed (onward w) (by + w.start) 0 w.state) (sym (moved-when t.interrupt_on_completion t.event_data w.edtla (code_after w.state) true e s))
          ∙ progressed-moved w w.start 0 w.state (when t.interrupt_on_completion event)

      dma-moved : (d : TrbDmaInfo) (due : Bool) (code : CompletionCode) → put_dma far (onward w) d due code ≡ part_moved (put_dma near w d due code)
      unfolding put_dma
      dma-moved d due code =
          let moved : ℕ = moved_of near w d.transfer_length in
          let residual : ℕ = residual_of near w d.transfer_length in
          let write : Record = guest_write d.data_pointer moved w.start e s in
          let event : Record = event_at near d.addr residual code in
          rw (left-moved, add_assoc by w.start moved)
          (ap (λ (rs : List Record). progressed (onward w) (by + (w.start + moved)) (edtla_after w.edtla moved) (state_after w.state residual) (moved_by by write ∷ rs)) (sym (moved-when due d.addr residual code false e s))
          ∙ progressed-moved w (w.start + moved) (edtla_after w.edtla moved) (state_after w.state residual) (write ∷ when due event))

      realized-moved : (d : TrbDmaInfo) → realize_dma far (onward w) d ≡ part_moved (realize_dma near w d)
      unfolding realize_dma
      realized-moved d =
          let residual : ℕ = residual_of near w d.transfer_length in
          rw left-moved (dma-moved d (due_for d residual) (code_for residual))

      ending-moved : (st : InTrbProcessingStatus) (left : ℕ) (m : NormalTrb) (a : ℕ) (cycle : Bool)
          → ending_normal st far left (onward w) m a cycle ≡ td_moved (ending_normal st near left w m a cycle)
      ending-moved status.Success left m a cycle = ap (goes_on left) (realized-moved (of_normal m a))
      ending-moved status.Stall left m a cycle = ap (ends_with (result.StallAt a cycle) left) (dma-moved (of_normal m a) true StallError)
      ending-moved status.TransactionError left m a cycle = ap (ends_with (result.TransactionErrorAt a cycle) left) (dma-moved (of_normal m a) true UsbTransactionError)
      ending-moved status.Disconnect left m a cycle = ap (ends_with result.Disconnect left) (dma-moved (of_normal m a) true UsbTransactionError)

    module _ (mode : InMode) (st : InTrbProcessingStatus) where
      normal-moved : (state : TdProcessingState) (left : ℕ) (w : TdProgress) (m : NormalTrb) (a : ℕ) (cycle : Bool)
          → normal_by_state state (in_td e s mode st (by + n)) left (onward w) m a cycle ≡ td_moved (normal_by_state state (in_td e s mode st n) left w m a cycle)
      normal-moved (ShortTransfer missing) left w m a cycle = ap (goes_on (left - 1)) (report-moved w w.edtla m.interrupt_on_completion a missing ShortPacket)
      normal-moved Default left w m a cycle =
          rw (left-moved w)
          (by-test (λ (x y : Out TdProcessed). x ≡ td_moved y) (is_done (in_td e s mode st n) left (residual_of near w m.transfer_length)) _ _ _ _
          (ap (goes_on (left - 1)) (realized-moved w (of_normal m a))) (ending-moved w st (left - 1) m a cycle))

      trb-moved : (x : TransferTrbVariant) (p : TdProcessed) (a : ℕ) (cycle : Bool)
          → trb_by_kind x (in_td e s mode st (by + n)) (onwards p) a cycle ≡ td_moved (trb_by_kind x (in_td e s mode st n) p a cycle)
      unfolding handle_normal
      trb-moved (Normal m) p a cycle = normal-moved p.progress.state p.normals_left p.progress m a cycle
      trb-moved (EventData t) p a cycle = ap (goes_on p.normals_left) (event_data-moved p.progress t)
      trb-moved (NoOp t) p a cycle = ap (goes_on p.normals_left) (report-moved p.progress p.progress.edtla t.interrupt_on_completion a 0 Success)
      trb-moved (SetupStage t) p a cycle = refl
      trb-moved (DataStage t) p a cycle = refl
      trb-moved (StatusStage t) p a cycle = refl
      trb-moved Isoch p a cycle = refl
      trb-moved Unrecognized p a cycle = refl

      -- 02, R-7: the walk of a TD begun `by` bytes further on, over data that ends as much later, logs the TD's own records with
      -- their starts moved, and comes to the same result
      pub process_td-moved : (ts : List TransferTrb)
          → walk (process_trb (in_td e s mode st (by + n))) ended (from by before (normals ts)) ts ≡ td_moved (process_td (in_td e s mode st n) ts)
      unfolding process_trb
      process_td-moved ts =
          ap (λ (p : TdProcessed). walk (process_trb (in_td e s mode st (by + n))) ended p ts) (sym (onwards-unprocessed (normals ts)))
          ∙ walk-mapped (process_trb (in_td e s mode st n)) (process_trb (in_td e s mode st (by + n))) ended onwards (moved_by by) (λ p. refl)
          (λ p t. trb-moved t.variant p t.addr t.cycle_bit) (unprocessed (normals ts)) ts
