-- What holds of each TRB: it keeps within the device's data, logs at most two records, and counts them. Assumes nothing.
use Prim.Native.Nat.{ℕ}
use mathlib.Core.Path.{refl}
use mathlib.Core.Bool.{Bool}
use native.Mathlib.Omega.{arith}
use Rattle.trb.specs.declared.CompletionCode.{CompletionCode}
use Rattle.trb.specs.declared.EventDataTrb.{EventDataTrb}
use Rattle.call_log.specs.declared.Record.{Record}
use Rattle.call_log.specs.Calls.{Out, silent}
use Rattle.call_log.specs.Records.{when}
use Rattle.call_log.proofs.RecordLaws.{length-when}
use Rattle.walks.proofs.WalkLaws.{Fine, fine-silent}
use Rattle.td_part.specs.declared.TdInfo.{TdInfo}
use Rattle.td_part.specs.declared.TdProgress.{TdProgress}
use Rattle.td_part.specs.declared.TrbDmaInfo.{TrbDmaInfo}
use Rattle.td_part.specs.Parts.{Within, residual_of, code_for, due_for, progressed, event_at, put_dma, realize_dma, report_trb, handle_event_data}

abbrev pub Kept : TdInfo → TdProgress → Out TdProgress → Type 0
Kept td w o = Fine (Within td) (λ (w : TdProgress). w.records) 2 w o

module _ (td : TdInfo) (w : TdProgress) (g : Within td w) where
  pub kept-silent : Kept td w (silent w)
  kept-silent = fine-silent 2 w g

  -- a TRB that logs one record where it is due, and leaves the place in the device's data
  kept-when : (edtla : ℕ) (due : Bool) (r : Record) → Kept td w (progressed w w.start edtla w.state (when due r))
  kept-when edtla due r = record { good = record { within = g.within }; few = omega (arith, length-when due r); counts = refl }

  pub kept-report : (edtla : ℕ) (due : Bool) (a residual : ℕ) (code : CompletionCode) → Kept td w (report_trb td w edtla due a residual code)
  kept-report edtla due a residual code = kept-when _ due _

  pub kept-event_data : (t : EventDataTrb) → Kept td w (handle_event_data td w t)
  kept-event_data t = kept-when _ t.interrupt_on_completion _

  -- a TRB that moves data
  pub kept-dma : (d : TrbDmaInfo) (due : Bool) (code : CompletionCode) → Kept td w (put_dma td w d due code)
  unfolding put_dma
  kept-dma d due code = record {
    good = record { within = omega (arith, g.within) };
    few = omega (arith, length-when due (event_at td d.addr (residual_of td w d.transfer_length) code));
    counts = refl;
  }

  pub kept-realized : (d : TrbDmaInfo) → Kept td w (realize_dma td w d)
  unfolding realize_dma
  kept-realized d = let residual : ℕ = residual_of td w d.transfer_length in kept-dma d (due_for d residual) (code_for residual)
