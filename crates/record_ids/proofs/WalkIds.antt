-- Every record of a walk, IN or control, has the ids of its endpoint (xHCI 1.2, 6.4.2.1): each TRB's records have. Assumes nothing.
use Prim.Native.Nat.{ℕ, ◌-◌}
use mathlib.Core.Path.{refl}
use mathlib.Core.Bool.{Bool, true, false, cond}
use mathlib.Core.List.{List, [], ◌∷◌, ◌++◌}
use Rattle.trb.specs.declared.CompletionCode.{CompletionCode}
use Rattle.trb.specs.declared.CompletionCode.TheVariants.{Success, UsbTransactionError, StallError, ShortPacket}
use Rattle.trb.specs.declared.EndpointId.{EndpointId}
use Rattle.trb.specs.declared.InTrbProcessingStatus.{InTrbProcessingStatus}
use Rattle.trb.specs.declared.InTrbProcessingStatus.TheVariants as status
use Rattle.trb.specs.declared.NormalTrb.{NormalTrb}
use Rattle.trb.specs.declared.SlotId.{SlotId}
use Rattle.trb.specs.declared.TransferTrb.{TransferTrb}
use Rattle.trb.specs.declared.TransferTrbVariant.{TransferTrbVariant}
use Rattle.trb.specs.declared.TransferTrbVariant.TheVariants.{SetupStage, DataStage, StatusStage, Normal, EventData, NoOp, Isoch, Unrecognized}
use Rattle.call_log.specs.Calls.{Out}
use Rattle.call_log.specs.Records.{transfer_event, when}
use Rattle.call_log.specs.declared.Record.{Record}
use Rattle.td_part.specs.declared.TdInfo.{TdInfo}
use Rattle.td_part.specs.declared.TdProcessingState.{TdProcessingState}
use Rattle.td_part.specs.declared.TdProcessingState.TheVariants.{Default, ShortTransfer}
use Rattle.td_part.specs.declared.TdProgress.{TdProgress}
use Rattle.td_part.specs.declared.TrbDmaInfo.{TrbDmaInfo}
use Rattle.td_part.specs.Parts.{of_normal, of_data_stage, at_start, residual_of, code_after, put_dma, realize_dma}
use Rattle.walks.specs.Walk.{walk}
use Rattle.walks.proofs.WalkLaws.{walk-records}
use Rattle.in_td.specs.Td.{normals, goes_on, ending_normal, is_done, normal_by_state, handle_normal, process_trb, process_td, in_td, ended, unprocessed}
use Rattle.in_td.specs.declared.InMode.{InMode}
use Rattle.in_td.specs.declared.TdProcessed.{TdProcessed}
use Rattle.in_td.specs.Td as td
use Rattle.control_chain.specs.Chain.{edtla_zeroed, move_out, move_data, realize_data_stage, realize_normal, realize_trb, realize_chain, never}
use Rattle.control_chain.specs.Endings.{transfer_td}
use Rattle.control_chain.specs.Chain as chain
use Rattle.record_ids.specs.Ids.{AllOf}

module _ (e : EndpointId) (s : SlotId) where
  pub all_append : (rs ss : List Record) → AllOf e s rs → AllOf e s ss → AllOf e s (rs ++ ss)
  all_append [] ss h k = k
  all_append (r ∷ rs) ss h k = (h.0, h.1, all_append rs ss h.2 k)

  pub event-ids : (due : Bool) (a l : ℕ) (code : CompletionCode) (flag : Bool) → AllOf e s (when due (transfer_event a l code flag e s))
  event-ids true a l code flag = (refl, refl, tt)
  event-ids false a l code flag = tt

  -- of any walk whose steps log such records
  pub walk-ids : {S T : Type 0} (step : S → T → Out S) (stopped : S → Bool) → ((p : S) (t : T) → AllOf e s (step p t).records)
      → (p : S) (ts : List T) → AllOf e s (walk step stopped p ts).records
  walk-ids step stopped h p ts = walk-records step stopped (λ p. Unit {0}) (AllOf e s) tt all_append (λ p t g. (h p t, tt)) p ts tt

  module _ (n : ℕ) where
    abbrev info : TdInfo
    info = record { endpoint_id = e; slot_id = s; data_length = n }

    put-ids : (w : TdProgress) (d : TrbDmaInfo) (due : Bool) (code : CompletionCode) → AllOf e s (put_dma info w d due code).records
    unfolding put_dma
    put-ids w d due code = (refl, refl, event-ids due d.addr _ code false)

    realize-ids : (w : TdProgress) (d : TrbDmaInfo) → AllOf e s (realize_dma info w d).records
    unfolding realize_dma
    realize-ids w d = put-ids w d _ _

    -- ---- IN

    module _ (mode : InMode) (st : InTrbProcessingStatus) (left : ℕ) (w : TdProgress) where
      ending-ids : (st : InTrbProcessingStatus) (m : NormalTrb) (a : ℕ) (cycle : Bool) → AllOf e s (ending_normal st info (left - 1) w m a cycle).records
      ending-ids status.Success m a cycle = realize-ids w (of_normal m a)
      ending-ids status.Stall m a cycle = put-ids w (of_normal m a) true StallError
      ending-ids status.TransactionError m a cycle = put-ids w (of_normal m a) true UsbTransactionError
      ending-ids status.Disconnect m a cycle = put-ids w (of_normal m a) true UsbTransactionError

      normal-ids : (state : TdProcessingState) (m : NormalTrb) (a : ℕ) (cycle : Bool) → AllOf e s (normal_by_state state (in_td e s mode st n) left w m a cycle).records
      normal-ids (ShortTransfer missing) m a cycle = event-ids m.interrupt_on_completion a missing ShortPacket false
      normal-ids Default m a cycle = by-test (is_done (in_td e s mode st n) left (residual_of info w m.transfer_length))
        where
          by-test : (b : Bool) → AllOf e s (cond b (goes_on (left - 1) (realize_dma info w (of_normal m a))) (ending_normal st info (left - 1) w m a cycle)).records
          by-test true = realize-ids w (of_normal m a)
          by-test false = ending-ids st m a cycle

    trb-ids : (mode : InMode) (st : InTrbProcessingStatus) (p : TdProcessed) (v : TransferTrbVariant) (a : ℕ) (cycle : Bool) → AllOf e s (td.trb_by_kind v (in_td e s mode st n) p a cycle).records
    unfolding handle_normal
    trb-ids mode st p (Normal m) a cycle = normal-ids mode st p.normals_left p.progress p.progress.state m a cycle
    trb-ids mode st p (EventData t) a cycle = event-ids t.interrupt_on_completion t.event_data p.progress.edtla (code_after p.progress.state) true
    trb-ids mode st p (NoOp t) a cycle = event-ids t.interrupt_on_completion a 0 Success false
    trb-ids mode st p (SetupStage t) a cycle = tt
    trb-ids mode st p (DataStage t) a cycle = tt
    trb-ids mode st p (StatusStage t) a cycle = tt
    trb-ids mode st p Isoch a cycle = tt
    trb-ids mode st p Unrecognized a cycle = tt

    pub process_td-ids : (mode : InMode) (st : InTrbProcessingStatus) (ts : List TransferTrb) → AllOf e s (process_td (in_td e s mode st n) ts).records
    unfolding process_trb
    process_td-ids mode st ts =
        walk-ids (process_trb (in_td e s mode st n)) ended (λ p t. trb-ids mode st p t.variant t.addr t.cycle_bit) (unprocessed (normals ts)) ts

    -- ---- Control, IN and OUT

    module _ (input : Bool) (w : TdProgress) where
      data-ids : (v : TdProgress) (d : TrbDmaInfo) → AllOf e s (move_data (transfer_td e s input n) v d).records
      unfolding move_out
      data-ids v d = by-direction input
        where
          by-direction : (b : Bool) → AllOf e s (cond b (realize_dma info v d) (move_out info v d)).records
          by-direction true = realize-ids v d
          by-direction false = event-ids d.interrupt_on_completion d.addr 0 Success false

      chain-normal-ids : (state : TdProcessingState) (t : NormalTrb) (a : ℕ) → AllOf e s (chain.normal_by_state state (transfer_td e s input n) w t a).records
      chain-normal-ids (ShortTransfer missing) t a = event-ids t.interrupt_on_completion a missing ShortPacket false
      chain-normal-ids Default t a = data-ids w (of_normal t a)

      chain-trb-ids : (v : TransferTrbVariant) (a : ℕ) → AllOf e s (chain.trb_by_kind v (transfer_td e s input n) w a).records
      unfolding realize_normal realize_data_stage
      chain-trb-ids (SetupStage t) a = event-ids t.interrupt_on_completion a 0 Success false
      chain-trb-ids (DataStage t) a = data-ids (edtla_zeroed w) (of_data_stage t a)
      chain-trb-ids (StatusStage t) a = event-ids t.interrupt_on_completion a 0 Success false
      chain-trb-ids (Normal t) a = chain-normal-ids w.state t a
      chain-trb-ids (EventData t) a = event-ids t.interrupt_on_completion t.event_data w.edtla (code_after w.state) true
      chain-trb-ids (NoOp t) a = tt
      chain-trb-ids Isoch a = tt
      chain-trb-ids Unrecognized a = tt

    pub realize_chain-ids : (input : Bool) (ts : List TransferTrb) → AllOf e s (realize_chain (transfer_td e s input n) ts).records
    unfolding realize_trb
    realize_chain-ids input ts = walk-ids (realize_trb (transfer_td e s input n)) never (λ w t. chain-trb-ids input w t.variant t.addr) at_start ts
