-- The records of an IN TD are writes and events, so that carry-out knows the kind of each: every step logs such records, and so does a walk of them.
-- Assumes nothing.
use Prim.Native.Nat.{ℕ, ◌-◌}
use mathlib.Core.Path.{◌≡◌, refl}
use mathlib.Core.Bool.{Bool, true, false, ◌&&◌, cond}
use mathlib.Core.List.{List, [], ◌∷◌, ◌++◌}
use Rattle.trb.specs.declared.InTrbProcessingStatus.{InTrbProcessingStatus}
use Rattle.trb.specs.declared.InTrbProcessingStatus.TheVariants as status
use Rattle.trb.specs.declared.NormalTrb.{NormalTrb}
use Rattle.trb.specs.declared.TransferTrb.{TransferTrb}
use Rattle.trb.specs.declared.TransferTrbVariant.{TransferTrbVariant}
use Rattle.trb.specs.declared.TransferTrbVariant.TheVariants.{SetupStage, DataStage, StatusStage, Normal, EventData, NoOp, Isoch, Unrecognized}
use Rattle.call_log.specs.Records.{when}
use Rattle.call_log.specs.declared.Record.{Record}
use Rattle.log_check.specs.WellFormed.{kind_known, kinds_known}
use Rattle.walks.proofs.WalkLaws.{walk-records}
use Rattle.td_part.specs.declared.TdProcessingState.{TdProcessingState}
use Rattle.td_part.specs.declared.TdProcessingState.TheVariants.{Default, ShortTransfer}
use Rattle.td_part.specs.Parts.{residual_of, put_dma, realize_dma, due_for, of_normal}
use Rattle.in_td.specs.Td.{normals, goes_on, is_done, ending_normal, normal_by_state, handle_normal, trb_by_kind, process_trb, ended, unprocessed, process_td}
use Rattle.in_td.specs.declared.InTd.{InTd}
use Rattle.in_td.specs.declared.TdProcessed.{TdProcessed}

pub kinds-append : (xs ys : List Record) → kinds_known xs ≡ true → kinds_known ys ≡ true → kinds_known (xs ++ ys) ≡ true
kinds-append [] ys h k = k
kinds-append (x ∷ xs) ys h k = by (kind_known x.kind) (kinds_known xs) h (λ rest. kinds-append xs ys rest k)
  where
    by : (a b : Bool) → (a && b) ≡ true → (b ≡ true → kinds_known (xs ++ ys) ≡ true) → (a && kinds_known (xs ++ ys)) ≡ true
    by true b e more = more e
    by false b e more = e

pub kinds-when : (due : Bool) (r : Record) → kind_known r.kind ≡ true → kinds_known (when due r) ≡ true
kinds-when true r e = rw e
kinds-when false r e = refl

module _ (td : InTd) (p : TdProcessed) (a : ℕ) (cycle : Bool) where
  kinds-ending : (st : InTrbProcessingStatus) (left : ℕ) (m : NormalTrb) → kinds_known (ending_normal st td.info left p.progress m a cycle).records ≡ true
  unfolding realize_dma put_dma kind_known
  kinds-ending status.Success left m = kinds-when (due_for (of_normal m a) (residual_of td.info p.progress m.transfer_length)) _ refl
  kinds-ending status.Stall left m = refl
  kinds-ending status.TransactionError left m = refl
  kinds-ending status.Disconnect left m = refl

  kinds-normal : (s : TdProcessingState) (left : ℕ) (m : NormalTrb) → kinds_known (normal_by_state s td left p.progress m a cycle).records ≡ true
  unfolding realize_dma put_dma kind_known
  kinds-normal (ShortTransfer missing) left m = kinds-when m.interrupt_on_completion _ refl
  kinds-normal Default left m = by (is_done td left (residual_of td.info p.progress m.transfer_length))
    where
      by : (done : Bool)
          → kinds_known (cond done (goes_on (left - 1) (realize_dma td.info p.progress (of_normal m a))) (ending_normal td.status td.info (left - 1) p.progress m a cycle)).records
          ≡ true
      by true = kinds-when (due_for (of_normal m a) (residual_of td.info p.progress m.transfer_length)) _ refl
      by false = kinds-ending td.status (left - 1) m

  kinds-trb : (v : TransferTrbVariant) → kinds_known (trb_by_kind v td p a cycle).records ≡ true
  unfolding handle_normal kind_known
  kinds-trb (Normal m) = kinds-normal p.progress.state p.normals_left m
  kinds-trb (EventData t) = kinds-when t.interrupt_on_completion _ refl
  kinds-trb (NoOp t) = kinds-when t.interrupt_on_completion _ refl
  kinds-trb (SetupStage t) = refl
  kinds-trb (DataStage t) = refl
  kinds-trb (StatusStage t) = refl
  kinds-trb Isoch = refl
  kinds-trb Unrecognized = refl

pub kinds-process_td : (td : InTd) (ts : List TransferTrb) → kinds_known (process_td td ts).records ≡ true
unfolding process_trb
kinds-process_td td ts =
    walk-records (process_trb td) ended (λ (p : TdProcessed). Unit {0}) (λ (rs : List Record). kinds_known rs ≡ true)
    refl
    kinds-append
    (λ p t g. (kinds-trb td p t.addr t.cycle_bit t.variant, tt))
    (unprocessed (normals ts)) ts tt
