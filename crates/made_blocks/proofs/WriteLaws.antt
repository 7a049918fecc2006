-- A control chain writes at most the lengths of its TRBs: a DataStage or Normal writes at most its own length, any other nothing.
-- Assumes nothing.
use Prim.Native.Nat.{ℕ, ◌≤◌}
use mathlib.Core.Path.{◌≡◌, refl}
use mathlib.Core.Bool.{Bool, true, false, cond}
use mathlib.Core.List.{List, [], ◌∷◌}
use native.Mathlib.Omega.{arith}
use Rattle.trb.specs.Trbs.{transfer_length}
use Rattle.trb.specs.declared.CompletionCode.{CompletionCode}
use Rattle.trb.specs.declared.TransferTrb.{TransferTrb}
use Rattle.trb.specs.declared.TransferTrbVariant.{TransferTrbVariant}
use Rattle.trb.specs.declared.TransferTrbVariant.TheVariants.{SetupStage, DataStage, StatusStage, Normal, EventData, NoOp, Isoch, Unrecognized}
use Rattle.trb.specs.declared.NormalTrb.{NormalTrb}
use Rattle.call_log.specs.Records.{when}
use Rattle.call_log.specs.declared.Record.{Record}
use Rattle.walks.specs.Walk.{walk}
use Rattle.td_part.specs.declared.TdInfo.{TdInfo}
use Rattle.td_part.specs.declared.TdProcessingState.{TdProcessingState}
use Rattle.td_part.specs.declared.TdProcessingState.TheVariants.{Default, ShortTransfer}
use Rattle.td_part.specs.declared.TdProgress.{TdProgress}
use Rattle.td_part.specs.declared.TrbDmaInfo.{TrbDmaInfo}
use Rattle.td_part.specs.Parts.{of_normal, of_data_stage, residual_of, code_for, due_for, event_at, put_dma, realize_dma}
use Rattle.account.specs.Guest.{is_write, write_lengths}
use Rattle.account.proofs.GuestLaws.{write_lengths-append}
use Rattle.control_chain.specs.Chain.{edtla_zeroed, move_out, normal_by_state, realize_data_stage, realize_normal, trb_by_kind, realize_trb, never}
use Rattle.control_chain.specs.declared.ControlTd.{ControlTd}
use Rattle.made_blocks.specs.Held.{lengths}

-- an event writes nothing
writes-none : (due : Bool) (r : Record) (m : ℕ) → is_write r ≡ false → write_lengths (when due r) ≤ m
writes-none true r m e = rw e (omega arith)
writes-none false r m e = omega arith

writes-dma : (td : TdInfo) (w : TdProgress) (d : TrbDmaInfo) (due : Bool) (code : CompletionCode) → write_lengths (put_dma td w d due code).records ≤ d.transfer_length
unfolding put_dma
writes-dma td w d due code =
    omega (arith, writes-none due (event_at td d.addr (residual_of td w d.transfer_length) code) 0 refl)

module _ (td : ControlTd) (w : TdProgress) where
  writes-data : (input : Bool) (d : TrbDmaInfo) → write_lengths (cond input (realize_dma td.info w d) (move_out td.info w d)).records ≤ d.transfer_length
  unfolding realize_dma move_out
  writes-data true d =
      let residual : ℕ = residual_of td.info w d.transfer_length in
      writes-dma td.info w d (due_for d residual) (code_for residual)
  writes-data false d = writes-none d.interrupt_on_completion _ _ refl

  writes-normal : (s : TdProcessingState) (t : NormalTrb) (a : ℕ) → write_lengths (normal_by_state s td w t a).records ≤ t.transfer_length
  writes-normal Default t a = writes-data td.input (of_normal t a)
  writes-normal (ShortTransfer missing) t a = writes-none t.interrupt_on_completion _ _ refl

writes-trb : (td : ControlTd) (w : TdProgress) (v : TransferTrbVariant) (a : ℕ) → write_lengths (trb_by_kind v td w a).records ≤ transfer_length v
unfolding realize_data_stage realize_normal
writes-trb td w (SetupStage t) a = writes-none t.interrupt_on_completion _ _ refl
writes-trb td w (DataStage t) a = writes-data td (edtla_zeroed w) td.input (of_data_stage t a)
writes-trb td w (StatusStage t) a = writes-none t.interrupt_on_completion _ _ refl
writes-trb td w (Normal t) a = writes-normal td w w.state t a
writes-trb td w (EventData t) a = writes-none t.interrupt_on_completion _ _ refl
writes-trb td w (NoOp t) a = omega arith
writes-trb td w Isoch a = omega arith
writes-trb td w Unrecognized a = omega arith

pub writes-chain : (td : ControlTd) (w : TdProgress) (ts : List TransferTrb) → write_lengths (walk (realize_trb td) never w ts).records ≤ lengths ts
unfolding walk realize_trb
writes-chain td w [] = omega arith
writes-chain td w (t ∷ ts) =
    let next : TdProgress = (realize_trb td w t).state in
    omega (
      arith,
      write_lengths-append (realize_trb td w t).records (walk (realize_trb td) never next ts).records,
      writes-trb td w t.variant t.addr,
      writes-chain td next ts,
    )
