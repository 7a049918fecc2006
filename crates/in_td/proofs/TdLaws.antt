-- Laws of an IN TD: the cases of its definitions as equations, and what holds of each step of the walk. Assumes nothing.
use Prim.Native.Nat.{ℕ, ◌-◌}
use mathlib.Core.Path.{◌≡◌, ap, ◌∙◌}
use mathlib.Core.Bool.{Bool, true, false, cond}
use Rattle.trb.specs.declared.CompletionCode.{CompletionCode}
use Rattle.trb.specs.declared.CompletionCode.TheVariants.{Success, ShortPacket, StallError, UsbTransactionError}
use Rattle.trb.specs.declared.InTrbProcessingStatus.{InTrbProcessingStatus}
use Rattle.trb.specs.declared.InTrbProcessingStatus.TheVariants as status
use Rattle.trb.specs.declared.NormalTrb.{NormalTrb}
use Rattle.trb.specs.declared.TransferTrb.{TransferTrb}
use Rattle.trb.specs.declared.TransferTrbVariant.{TransferTrbVariant}
use Rattle.trb.specs.declared.TransferTrbVariant.TheVariants.{SetupStage, DataStage, StatusStage, Normal, EventData, NoOp, Isoch, Unrecognized}
use Rattle.trb.specs.declared.TrbProcessingResult.{TrbProcessingResult}
use Rattle.trb.specs.declared.TrbProcessingResult.TheVariants as result
use Rattle.call_log.specs.Calls.{Out, silent}
use Rattle.td_part.specs.declared.TdProcessingState.{TdProcessingState}
use Rattle.td_part.specs.declared.TdProcessingState.TheVariants.{Default, ShortTransfer}
use Rattle.td_part.specs.declared.TdProgress.{TdProgress}
use Rattle.td_part.specs.Parts.{Within, of_normal, residual_of, put_dma, realize_dma, report_trb}
use Rattle.td_part.proofs.PartLaws as parts
use Rattle.walks.proofs.WalkLaws.{Walker, Fine}
use Rattle.in_td.specs.declared.InTd.{InTd}
use Rattle.in_td.specs.declared.TdProcessed.{TdProcessed}
use Rattle.in_td.specs.Td.{goes_on, ends_with, ending_normal, is_done, normal_by_state, handle_normal, trb_by_kind, process_trb, ended}

-- ---- Cases

module _ (td : InTd) (p : TdProcessed) (n : NormalTrb) (a : ℕ) (cycle : Bool) where
  abbrev residual : ℕ
  residual = residual_of td.info p.progress n.transfer_length

  pub normal-in-state : {s : TdProcessingState} → p.progress.state ≡ s → handle_normal td p n a cycle ≡ normal_by_state s td p.normals_left p.progress n a cycle
  unfolding handle_normal
  normal-in-state e = ap (λ (s : TdProcessingState). normal_by_state s td p.normals_left p.progress n a cycle) e

  pub normal-done : p.progress.state ≡ Default → is_done td p.normals_left residual ≡ true
      → handle_normal td p n a cycle ≡ goes_on (p.normals_left - 1) (realize_dma td.info p.progress (of_normal n a))
  normal-done e d = normal-in-state e ∙ rw d

pub trb-by : (td : InTd) (p : TdProcessed) (t : TransferTrb) {x : TransferTrbVariant} → t.variant ≡ x
    → process_trb td p t ≡ trb_by_kind x td p t.addr t.cycle_bit
unfolding process_trb
trb-by td p t e = ap (λ (x : TransferTrbVariant). trb_by_kind x td p t.addr t.cycle_bit) e

-- ---- Each step keeps within the device's data, logs at most two records, and counts them

abbrev counts : TdProcessed → ℕ
counts p = p.progress.records

abbrev Good : InTd → TdProcessed → Type 0
Good td p = Within td.info p.progress

abbrev Kept : InTd → TdProcessed → Out TdProcessed → Type 0
Kept td p o = Fine (Good td) counts 2 p o

by-test : (P : Out TdProcessed → Type 0) (b : Bool) (x y : Out TdProcessed) → P x → P y → P (cond b x y)
by-test P true x y p q = p
by-test P false x y p q = q

module _ (td : InTd) (p : TdProcessed) (g : Good td p) where
  abbrev w : TdProgress
  w = p.progress

  -- whatever the result, and the Normals left
  kept_result : (r : TrbProcessingResult) (left : ℕ) {o : Out TdProgress} → parts.Kept td.info w o → Kept td p (ends_with r left o)
  kept_result r left f = record { good = f.good; few = f.few; counts = f.counts }

  kept-silent : Kept td p (goes_on p.normals_left (silent w))
  kept-silent = kept_result result.Ok p.normals_left (parts.kept-silent td.info w g)

  kept_full : (left : ℕ) (n : NormalTrb) (a : ℕ) → Kept td p (goes_on left (realize_dma td.info w (of_normal n a)))
  kept_full left n a = kept_result result.Ok left (parts.kept-realized td.info w g (of_normal n a))

  kept-failed : (r : TrbProcessingResult) (left : ℕ) (n : NormalTrb) (a : ℕ) (code : CompletionCode) → Kept td p (ends_with r left (put_dma td.info w (of_normal n a) true code))
  kept-failed r left n a code = kept_result r left (parts.kept-dma td.info w g (of_normal n a) true code)

  kept-ending : (st : InTrbProcessingStatus) (left : ℕ) (n : NormalTrb) (a : ℕ) (cycle : Bool) → Kept td p (ending_normal st td.info left w n a cycle)
  kept-ending status.Success left n a cycle = kept_full left n a
  kept-ending status.Stall left n a cycle = kept-failed (result.StallAt a cycle) left n a StallError
  kept-ending status.TransactionError left n a cycle = kept-failed (result.TransactionErrorAt a cycle) left n a UsbTransactionError
  kept-ending status.Disconnect left n a cycle = kept-failed result.Disconnect left n a UsbTransactionError

  kept-report : (left : ℕ) (due : Bool) (a residual : ℕ) (code : CompletionCode) → Kept td p (goes_on left (report_trb td.info w w.edtla due a residual code))
  kept-report left due a residual code = kept_result result.Ok left (parts.kept-report td.info w g w.edtla due a residual code)

  kept-normal : (s : TdProcessingState) (n : NormalTrb) (a : ℕ) (cycle : Bool) → Kept td p (normal_by_state s td p.normals_left w n a cycle)
  kept-normal (ShortTransfer missing) n a cycle = kept-report (p.normals_left - 1) n.interrupt_on_completion a missing ShortPacket
  kept-normal Default n a cycle =
      by-test (Kept td p) (is_done td p.normals_left (residual_of td.info w n.transfer_length)) _ _ (kept_full (p.normals_left - 1) n a)
      (kept-ending td.status (p.normals_left - 1) n a cycle)

  kept_by : (x : TransferTrbVariant) (a : ℕ) (cycle : Bool) → Kept td p (trb_by_kind x td p a cycle)
  unfolding handle_normal
  kept_by (Normal n) a cycle = kept-normal w.state n a cycle
  kept_by (EventData e) a cycle = kept_result result.Ok p.normals_left (parts.kept-event_data td.info w g e)
  kept_by (NoOp n) a cycle = kept-report p.normals_left n.interrupt_on_completion a 0 Success
  kept_by (SetupStage t) a cycle = kept-silent
  kept_by (DataStage t) a cycle = kept-silent
  kept_by (StatusStage t) a cycle = kept-silent
  kept_by Isoch a cycle = kept-silent
  kept_by Unrecognized a cycle = kept-silent

pub kept-trb : (td : InTd) (p : TdProcessed) (t : TransferTrb) → Good td p → Fine (Good td) counts 2 p (process_trb td p t)
unfolding process_trb
kept-trb td p t g = kept_by td p g t.variant t.addr t.cycle_bit

-- the walk over an IN TD
abbrev pub td_walker : InTd → Walker TdProcessed TransferTrb
td_walker td = record { step = process_trb td; stopped = ended; count = counts; most = 2; Good = Good td; fine = λ p t g. kept-trb td p t g }
