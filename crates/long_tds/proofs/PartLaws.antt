-- What one TRB does to the EDTLA and to residuals, on IN and on control. Assumes nothing.
use Prim.Native.Nat.{ℕ, ◌+◌, ◌-◌, ◌≤◌}
use mathlib.Core.Path.{◌≡◌, refl}
use mathlib.Core.Bool.{Bool, true, false, cond}
use native.Mathlib.Omega.{arith}
use borrow.Author.Tests.{le-leb, leb-true}
use lib.Dec.{eqb, leb}
use Rattle.trb.specs.Limits.{max_transfer_length}
use Rattle.trb.specs.declared.CompletionCode.{CompletionCode}
use Rattle.trb.specs.declared.CompletionCode.TheVariants.{ShortPacket, Success, StallError, UsbTransactionError}
use Rattle.trb.specs.declared.DataStageTrb.{DataStageTrb}
use Rattle.trb.specs.declared.EventDataTrb.{EventDataTrb}
use Rattle.trb.specs.declared.InTrbProcessingStatus.{InTrbProcessingStatus}
use Rattle.trb.specs.declared.InTrbProcessingStatus.TheVariants as status
use Rattle.trb.specs.declared.NormalTrb.{NormalTrb}
use Rattle.trb.specs.declared.TransferTrb.{TransferTrb}
use Rattle.trb.specs.declared.TransferTrbVariant.{TransferTrbVariant}
use Rattle.trb.specs.declared.TransferTrbVariant.TheVariants.{SetupStage, DataStage, StatusStage, Normal, EventData, NoOp, Isoch, Unrecognized}
use Rattle.trb.specs.Trbs.{transfer_length}
use Rattle.call_log.specs.Calls.{Out, silent}
use Rattle.call_log.specs.Records.{when}
use Rattle.call_log.specs.declared.Record.{Record}
use Rattle.walks.specs.All.{all}
use Rattle.td_part.specs.declared.TdInfo.{TdInfo}
use Rattle.td_part.specs.declared.TdProcessingState.{TdProcessingState}
use Rattle.td_part.specs.declared.TdProcessingState.TheVariants.{Default, ShortTransfer}
use Rattle.td_part.specs.declared.TdProgress.{TdProgress}
use Rattle.td_part.specs.declared.TrbDmaInfo.{TrbDmaInfo}
use Rattle.td_part.specs.Parts.{residual_of, code_for, due_for, state_after, event_at, put_dma, realize_dma, report_trb, handle_event_data, of_normal, of_data_stage}
use Rattle.in_td.specs.Td as in-td
use Rattle.in_td.specs.declared.InTd.{InTd}
use Rattle.in_td.specs.declared.TdProcessed.{TdProcessed}
use Rattle.control_chain.specs.Chain as chain
use Rattle.control_chain.specs.declared.ControlTd.{ControlTd}
use Rattle.long_tds.specs.ByCount.{fitting, residual_fits, kept_fits, Bounded}

-- one TRB more
abbrev Grown : TdProgress → Out TdProgress → Type 0
Grown w o = Bounded 1 w o.state o.records

all-when : (due : Bool) (r : Record) → residual_fits r ≡ true → all residual_fits (when due r) ≡ true
unfolding all
all-when true r e = rw e
all-when false r e = refl

kept-after : (s : TdProcessingState) (residual : ℕ) → kept_fits s ≡ true → residual ≤ max_transfer_length → kept_fits (state_after s residual) ≡ true
kept-after s residual k h = by-test (eqb residual 0)
  where
    by-test : (b : Bool) → kept_fits (cond b s (ShortTransfer residual)) ≡ true
    by-test true = k
    by-test false = le-leb residual max_transfer_length h

module _ (td : TdInfo) (w : TdProgress) (k : kept_fits w.state ≡ true) where
  grown-silent : Grown w (silent w)
  unfolding all
  grown-silent = record { edtla = omega arith; kept = k; residuals = refl }

  -- a TRB that moves data
  grown-dma : (d : TrbDmaInfo) (due : Bool) (code : CompletionCode) → d.transfer_length ≤ max_transfer_length → Grown w (put_dma td w d due code)
  unfolding put_dma all
  grown-dma d due code h = record {
    edtla = omega arith;
    kept = kept-after w.state (residual_of td w d.transfer_length) k (omega arith);
    residuals = all-when due (event_at td d.addr (residual_of td w d.transfer_length) code) (le-leb (residual_of td w d.transfer_length) max_transfer_length (omega arith));
  }

  grown-realized : (d : TrbDmaInfo) → d.transfer_length ≤ max_transfer_length → Grown w (realize_dma td w d)
  unfolding realize_dma
  grown-realized d h =
      grown-dma d (due_for d (residual_of td w d.transfer_length)) (code_for (residual_of td w d.transfer_length)) h

  -- a TRB that moves none
  grown-report : (edtla : ℕ) (due : Bool) (a residual : ℕ) (code : CompletionCode) → edtla ≤ w.edtla + max_transfer_length → leb residual max_transfer_length ≡ true
      → Grown w (report_trb td w edtla due a residual code)
  grown-report edtla due a residual code h fits =
      record { edtla = omega arith; kept = k; residuals = all-when due (event_at td a residual code) fits }

  grown-event_data : (t : EventDataTrb) → Grown w (handle_event_data td w t)
  grown-event_data t = record { edtla = omega arith; kept = k; residuals = all-when t.interrupt_on_completion _ refl }

-- ---- IN

module _ (td : InTd) (left : ℕ) (w : TdProgress) (k : kept_fits w.state ≡ true) where
  abbrev Turn : Out TdProcessed → Type 0
  Turn o = Bounded 1 w o.state.progress o.records

  ending-turn : (st : InTrbProcessingStatus) (n : NormalTrb) (a : ℕ) (cycle : Bool) → n.transfer_length ≤ max_transfer_length
      → Turn (in-td.ending_normal st td.info (left - 1) w n a cycle)
  ending-turn status.Success n a cycle h = grown-realized td.info w k (of_normal n a) h
  ending-turn status.Stall n a cycle h = grown-dma td.info w k (of_normal n a) true StallError h
  ending-turn status.TransactionError n a cycle h = grown-dma td.info w k (of_normal n a) true UsbTransactionError h
  ending-turn status.Disconnect n a cycle h = grown-dma td.info w k (of_normal n a) true UsbTransactionError h

  default-turn : (done : Bool) (n : NormalTrb) (a : ℕ) (cycle : Bool) → n.transfer_length ≤ max_transfer_length
      → Turn (cond done (in-td.goes_on (left - 1) (realize_dma td.info w (of_normal n a))) (in-td.ending_normal td.status td.info (left - 1) w n a cycle))
  default-turn true n a cycle h = grown-realized td.info w k (of_normal n a) h
  default-turn false n a cycle h = ending-turn td.status n a cycle h

  normal-turn : (s : TdProcessingState) (n : NormalTrb) (a : ℕ) (cycle : Bool) → kept_fits s ≡ true → n.transfer_length ≤ max_transfer_length
      → Turn (in-td.normal_by_state s td left w n a cycle)
  normal-turn Default n a cycle fits h = default-turn (in-td.is_done td left (residual_of td.info w n.transfer_length)) n a cycle h
  normal-turn (ShortTransfer missing) n a cycle fits h = grown-report td.info w k w.edtla n.interrupt_on_completion a missing ShortPacket (omega arith) fits

module _ (td : InTd) (p : TdProcessed) (k : kept_fits p.progress.state ≡ true) where
  trb-turn : (v : TransferTrbVariant) (a : ℕ) (cycle : Bool) → leb (transfer_length v) max_transfer_length ≡ true
      → Bounded 1 p.progress (in-td.trb_by_kind v td p a cycle).state.progress (in-td.trb_by_kind v td p a cycle).records
  unfolding in-td.handle_normal
  trb-turn (Normal n) a cycle h = normal-turn td p.normals_left p.progress k p.progress.state n a cycle k (leb-true n.transfer_length max_transfer_length h)
  trb-turn (EventData t) a cycle h = grown-event_data td.info p.progress k t
  trb-turn (NoOp n) a cycle h = grown-report td.info p.progress k p.progress.edtla n.interrupt_on_completion a 0 Success (omega arith) refl
  trb-turn (SetupStage t) a cycle h = grown-silent td.info p.progress k
  trb-turn (DataStage t) a cycle h = grown-silent td.info p.progress k
  trb-turn (StatusStage t) a cycle h = grown-silent td.info p.progress k
  trb-turn Isoch a cycle h = grown-silent td.info p.progress k
  trb-turn Unrecognized a cycle h = grown-silent td.info p.progress k

pub in-turn : (td : InTd) (p : TdProcessed) (t : TransferTrb) → fitting t ≡ true → kept_fits p.progress.state ≡ true
    → Bounded 1 p.progress (in-td.process_trb td p t).state.progress (in-td.process_trb td p t).records
unfolding in-td.process_trb
in-turn td p t h k = trb-turn td p k t.variant t.addr t.cycle_bit h

-- ---- Control

module _ (td : ControlTd) (w : TdProgress) (k : kept_fits w.state ≡ true) where
  data-turn : (input : Bool) (d : TrbDmaInfo) → d.transfer_length ≤ max_transfer_length → Grown w (cond input (realize_dma td.info w d) (chain.move_out td.info w d))
  unfolding chain.move_out
  data-turn true d h = grown-realized td.info w k d h
  data-turn false d h = grown-report td.info w k _ d.interrupt_on_completion d.addr 0 Success (omega arith) refl

  chain-normal : (s : TdProcessingState) (t : NormalTrb) (a : ℕ) → kept_fits s ≡ true → t.transfer_length ≤ max_transfer_length → Grown w (chain.normal_by_state s td w t a)
  chain-normal Default t a fits h = data-turn td.input (of_normal t a) h
  chain-normal (ShortTransfer missing) t a fits h = grown-report td.info w k w.edtla t.interrupt_on_completion a missing ShortPacket (omega arith) fits

  stage-turn : (ioc : Bool) (a : ℕ) → Grown w (chain.realize_stage td.info w ioc a)
  stage-turn ioc a = grown-report td.info w k 0 ioc a 0 Success (omega arith) refl

-- a Data Stage counts from an EDTLA of 0
data-stage-turn : (td : ControlTd) (w : TdProgress) (t : DataStageTrb) (a : ℕ) → kept_fits w.state ≡ true → t.transfer_length ≤ max_transfer_length
    → Grown w (chain.realize_data_stage td w t a)
unfolding chain.realize_data_stage
data-stage-turn td w t a k h =
    let g = data-turn td (chain.edtla_zeroed w) k td.input (of_data_stage t a) h in
    record { edtla = omega (arith, g.edtla); kept = g.kept; residuals = g.residuals }

chain-trb : (td : ControlTd) (w : TdProgress) (v : TransferTrbVariant) (a : ℕ) → kept_fits w.state ≡ true → leb (transfer_length v) max_transfer_length ≡ true → Grown w (chain.trb_by_kind v td w a)
unfolding chain.realize_normal
chain-trb td w (SetupStage t) a k h = stage-turn td w k t.interrupt_on_completion a
chain-trb td w (DataStage t) a k h = data-stage-turn td w t a k (leb-true t.transfer_length max_transfer_length h)
chain-trb td w (StatusStage t) a k h = stage-turn td w k t.interrupt_on_completion a
chain-trb td w (Normal t) a k h = chain-normal td w k w.state t a k (leb-true t.transfer_length max_transfer_length h)
chain-trb td w (EventData t) a k h = grown-event_data td.info w k t
chain-trb td w (NoOp t) a k h = grown-silent td.info w k
chain-trb td w Isoch a k h = grown-silent td.info w k
chain-trb td w Unrecognized a k h = grown-silent td.info w k

pub chain-turn : (td : ControlTd) (w : TdProgress) (t : TransferTrb) → fitting t ≡ true → kept_fits w.state ≡ true
    → Bounded 1 w (chain.realize_trb td w t).state (chain.realize_trb td w t).records
unfolding chain.realize_trb
chain-turn td w t h k = chain-trb td w t.variant t.addr k h
