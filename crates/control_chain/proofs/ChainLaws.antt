-- Laws of the walk over a control transfer: the cases of its definitions as equations, and what holds of each step. Assumes nothing.
use Prim.Native.Nat.{ℕ}
use mathlib.Core.Path.{◌≡◌, ap}
use mathlib.Core.Bool.{Bool, true, false, cond}
use Rattle.trb.specs.declared.CompletionCode.TheVariants.{Success, ShortPacket}
use Rattle.trb.specs.declared.NormalTrb.{NormalTrb}
use Rattle.trb.specs.declared.TransferTrb.{TransferTrb}
use Rattle.trb.specs.declared.TransferTrbVariant.{TransferTrbVariant}
use Rattle.trb.specs.declared.TransferTrbVariant.TheVariants.{SetupStage, DataStage, StatusStage, Normal, EventData, NoOp, Isoch, Unrecognized}
use Rattle.call_log.specs.Calls.{Out}
use Rattle.td_part.specs.declared.TdInfo.{TdInfo}
use Rattle.td_part.specs.declared.TdProcessingState.{TdProcessingState}
use Rattle.td_part.specs.declared.TdProcessingState.TheVariants.{Default, ShortTransfer}
use Rattle.td_part.specs.declared.TdProgress.{TdProgress}
use Rattle.td_part.specs.declared.TrbDmaInfo.{TrbDmaInfo}
use Rattle.td_part.specs.Parts.{Within, of_normal, of_data_stage, edtla_after, realize_dma}
use Rattle.td_part.proofs.PartLaws.{Kept, kept-silent, kept-report, kept-event_data, kept-realized}
use Rattle.walks.proofs.WalkLaws.{Walker}
use Rattle.control_chain.specs.declared.ControlTd.{ControlTd}
use Rattle.control_chain.specs.Chain.{edtla_zeroed, move_out, realize_stage, realize_data_stage, normal_by_state, realize_normal, trb_by_kind, realize_trb, never}

-- ---- Cases

pub normal-in-state : (td : ControlTd) (w : TdProgress) (t : NormalTrb) (a : ℕ) {s : TdProcessingState} → w.state ≡ s
    → realize_normal td w t a ≡ normal_by_state s td w t a
unfolding realize_normal
normal-in-state td w t a e = ap (λ (s : TdProcessingState). normal_by_state s td w t a) e

pub trb-by : (td : ControlTd) (w : TdProgress) (t : TransferTrb) {x : TransferTrbVariant} → t.variant ≡ x
    → realize_trb td w t ≡ trb_by_kind x td w t.addr
unfolding realize_trb
trb-by td w t e = ap (λ (x : TransferTrbVariant). trb_by_kind x td w t.addr) e

-- ---- Each step keeps within the device's data, logs at most two records, and counts them

module _ (td : ControlTd) (w : TdProgress) (g : Within td.info w) where
  kept_move : (b : Bool) (d : TrbDmaInfo) → Kept td.info w (cond b (realize_dma td.info w d) (move_out td.info w d))
  unfolding move_out
  kept_move true d = kept-realized td.info w g d
  kept_move false d = kept-report td.info w g (edtla_after w.edtla d.transfer_length) d.interrupt_on_completion d.addr 0 Success

  kept-normal : (s : TdProcessingState) (t : NormalTrb) (a : ℕ) → Kept td.info w (normal_by_state s td w t a)
  kept-normal Default t a = kept_move td.input (of_normal t a)
  kept-normal (ShortTransfer missing) t a = kept-report td.info w g w.edtla t.interrupt_on_completion a missing ShortPacket

kept-zeroed : (td : TdInfo) (w : TdProgress) {o : Out TdProgress} → Kept td (edtla_zeroed w) o → Kept td w o
kept-zeroed td w f = record { good = f.good; few = f.few; counts = f.counts }

module _ (td : ControlTd) (w : TdProgress) (g : Within td.info w) where
  kept-stage : (due : Bool) (a : ℕ) → Kept td.info w (realize_stage td.info w due a)
  kept-stage due a = kept-report td.info w g 0 due a 0 Success

  kept_by : (x : TransferTrbVariant) (a : ℕ) → Kept td.info w (trb_by_kind x td w a)
  unfolding realize_data_stage realize_normal
  kept_by (SetupStage t) a = kept-stage t.interrupt_on_completion a
  kept_by (DataStage t) a = kept-zeroed td.info w (kept_move td (edtla_zeroed w) (record { within = g.within }) td.input (of_data_stage t a))
  kept_by (StatusStage t) a = kept-stage t.interrupt_on_completion a
  kept_by (Normal t) a = kept-normal td w g w.state t a
  kept_by (EventData t) a = kept-event_data td.info w g t
  kept_by (NoOp t) a = kept-silent td.info w g
  kept_by Isoch a = kept-silent td.info w g
  kept_by Unrecognized a = kept-silent td.info w g

pub kept-trb : (td : ControlTd) (w : TdProgress) (t : TransferTrb) → Within td.info w → Kept td.info w (realize_trb td w t)
unfolding realize_trb
kept-trb td w t g = kept_by td w g t.variant t.addr

-- the walk over a control transfer
abbrev pub chain_walker : ControlTd → Walker TdProgress TransferTrb
chain_walker td = record {
  step = realize_trb td;
  stopped = never;
  count = λ (w : TdProgress). w.records;
  most = 2;
  Good = Within td.info;
  fine = λ w t g. kept-trb td w t g;
}
