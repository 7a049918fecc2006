-- The walk over an IN TD of any length: its events, its writes and its result are the standard's, TRB by TRB. Until a Normal is short the
-- progress is `Reached`, behind it `Shortened`; a failing TRB ends the walk, and the standard has nothing behind it: first as ported, then
-- in strict mode where all bytes came. Assumes nothing.
use Prim.Native.Nat.{ℕ, ◌+◌, ◌-◌, ◌<◌, ◌≤◌, min}
use mathlib.Core.Path.{◌≡◌, refl, sym, ap, ◌∙◌}
use mathlib.Core.Bool.{Bool, true, false, not, cond, ◌||◌, and-false, true≢false}
use mathlib.Core.List.{List, [], ◌∷◌, ◌++◌, append-nil}
use mathlib.Core.Option.{some}
use mathlib.Core.Logic.{⊎_elim}
use native.Mathlib.Nat.{zero-add}
use native.Mathlib.Omega.{arith}
use borrow.Author.Tests.{le-leb, lt-leb, eq-eqb, ne_eqb}
use lib.Dec.{leb, eqb}
use Rattle.trb.specs.Codes.{code_number}
use Rattle.trb.specs.declared.CompletionCode.{CompletionCode}
use Rattle.trb.specs.declared.CompletionCode.TheVariants.{UsbTransactionError, StallError}
use Rattle.trb.specs.declared.EndpointId.{EndpointId}
use Rattle.trb.specs.declared.SlotId.{SlotId}
use Rattle.trb.specs.declared.InTrbProcessingStatus.{InTrbProcessingStatus}
use Rattle.trb.specs.declared.InTrbProcessingStatus.TheVariants as status
use Rattle.trb.specs.declared.NormalTrb.{NormalTrb}
use Rattle.trb.specs.declared.TransferTrb.{TransferTrb}
use Rattle.trb.specs.declared.TransferTrbVariant.{TransferTrbVariant}
use Rattle.trb.specs.declared.TransferTrbVariant.TheVariants.{SetupStage, DataStage, StatusStage, Normal, EventData, NoOp, Isoch, Unrecognized}
use Rattle.trb.specs.declared.TrbProcessingResult.{TrbProcessingResult}
use Rattle.trb.specs.declared.TrbProcessingResult.TheVariants as result
use Rattle.trb.proofs.TestLaws.{le-or-lt}
use Rattle.call_log.specs.Calls.{Out, silent}
use Rattle.td_part.specs.declared.TdProcessingState.TheVariants.{ShortTransfer}
use Rattle.td_part.specs.declared.TdProgress.{TdProgress}
use Rattle.td_part.specs.declared.TdInfo.{TdInfo}
use Rattle.td_part.specs.declared.TrbDmaInfo.{TrbDmaInfo}
use Rattle.td_part.specs.Parts.{of_normal, put_dma, realize_dma, repeat_short, report_success, handle_event_data, at_start}
use Rattle.walks.specs.Walk.{join, walk}
use Rattle.in_td.specs.Td.{is_normal, normals, going_on, goes_on, ends_with, ending_normal, fails_at_last, handle_normal, process_trb, in_td}
use Rattle.in_td.specs.Td as td
use Rattle.in_td.specs.declared.InMode.{InMode}
use Rattle.in_td.specs.declared.InMode.TheVariants.{AsPorted, Strict}
use Rattle.in_td.specs.declared.InTd.{InTd}
use Rattle.in_td.specs.declared.TdProcessed.{TdProcessed}
use Rattle.account.specs.Strict.{is_failure}
use Rattle.standard.specs.Xhci.{Trb, normal, stage, transfer_length, short_residual, event_data, no_op, Outcome, ended, failed, complete, cut, fate, any_on_bus, asked, repeated_residual, events_at, events_from, deliveries_from, halted_from}
use Rattle.standard.proofs.XhciLaws.{fate-complete, fate-cut, fate-beyond, fate-failed-ended}
use Rattle.conformance.specs.Translate.{trb_by_kind, td_of, told, wrote, in_outcome, halt_of, in_halt}
use Rattle.conformance.proofs.PartsConform.{trb_of, Reached, Shortened, Conforms, full-reached, full-conforms, short-shortened, short-conforms, failed-events, failed-writes, passed-shortened, passed-conforms, event-reached, event-conforms, event-shortened, event-passed, no_op-reached, no_op-conforms, no_op-shortened, no_op-passed}

-- what a walk made of the TRBs ts behind `before`
pub record Agrees (st : InTrbProcessingStatus) (o : Outcome) (n : ℕ) (before ts : List Trb) (made : Out TdProcessed) : Type 0 where
  pub events : told made.records ≡ events_from repeated_residual o n before ts
  pub writes : wrote made.records ≡ deliveries_from n before ts
  pub halt : halt_of made.state.result ≡ in_halt st (halted_from o n before ts)

-- ---- Outcomes

-- a failure falls where a short packet would
module _ (n requested : ℕ) (before : List Trb) (b : Trb) (behind : List Trb) (all : requested ≡ asked before + (transfer_length b + asked behind)) where
  fate-failure : (code : ℕ) → fate (cond (leb requested n) ended (failed code)) n before b behind ≡ fate ended n before b behind
  fate-failure code =
      ⊎_elim
      (λ (h : requested ≤ n). rw (le-leb requested n h))
      (λ (h : n < requested). rw (lt-leb requested n h) (fate-failed-ended code n before b behind (omega arith)))
      (le-or-lt requested n)

  fate-in_outcome : (st : InTrbProcessingStatus) → fate (in_outcome AsPorted st n requested) n before b behind ≡ fate ended n before b behind
  fate-in_outcome status.Success = refl
  fate-in_outcome status.Stall = fate-failure 6
  fate-in_outcome status.TransactionError = fate-failure 4
  fate-in_outcome status.Disconnect = fate-failure 4

-- behind the TRB in which the bytes ended a failed transfer has no event, and no transfer has a delivery
none-beyond : (code n : ℕ) (before ts : List Trb) → n < asked before → events_from repeated_residual (failed code) n before ts ≡ []
none-beyond code n before [] h = refl
none-beyond code n before (b ∷ ts) h = rw (fate-beyond n before b ts (failed code) h) (none-beyond code n (b ∷ before) ts (omega arith))

none-delivered : (n : ℕ) (before ts : List Trb) → n ≤ asked before → deliveries_from n before ts ≡ []
none-delivered n before [] h = refl
none-delivered n before (normal a p l ioc isp ∷ ts) h =
    let none-moved : min l (n - asked before) ≡ 0 = omega arith in
    rw none-moved (none-delivered n (normal a p l ioc isp ∷ before) ts (omega arith))
none-delivered n before (stage a ioc ∷ ts) h = none-delivered n (stage a ioc ∷ before) ts (omega arith)
none-delivered n before (event_data a v ioc ∷ ts) h = none-delivered n (event_data a v ioc ∷ before) ts (omega arith)
none-delivered n before (no_op a ioc ∷ ts) h = none-delivered n (no_op a ioc ∷ before) ts (omega arith)

module _ (e : EndpointId) (s : SlotId) (mode : InMode) (st : InTrbProcessingStatus) (n : ℕ) where
  abbrev this : InTd
  this = in_td e s mode st n

  abbrev walked : TdProcessed → List TransferTrb → Out TdProcessed
  walked p ts = walk (process_trb this) td.ended p ts

  -- a TRB behind which the walk goes on, and the TRBs behind it
  agrees-cons : (o : Outcome) (before : List Trb) (b : Trb) (ts : List TransferTrb) (left : ℕ) (out : Out TdProgress)
      → Conforms o n before b (td_of ts) out.records → Agrees st o n (b ∷ before) (td_of ts) (walked (going_on left out.state) ts)
      → Agrees st o n before (b ∷ td_of ts) (join (goes_on left out) (walked (going_on left out.state) ts))
  agrees-cons o before b ts left out own rest = record {
    events = own.events (walked (going_on left out.state) ts).records ∙ rw rest.events;
    writes = own.writes (walked (going_on left out.state) ts).records ∙ rw rest.writes;
    halt = rw own.runs rest.halt;
  }

  -- a TRB of this kind, and the TRBs behind it
  abbrev walked_kind : TransferTrbVariant → ℕ → Bool → ℕ → TdProgress → List TransferTrb → Out TdProcessed
  walked_kind v a cycle left w ts = join (td.trb_by_kind v this (going_on left w) a cycle) (walked (td.trb_by_kind v this (going_on left w) a cycle).state ts)

  -- ---- Behind a short Normal

  abbrev Later : (ts : List TransferTrb) → Type 0
  Later ts = (before : List Trb) (left : ℕ) (w : TdProgress) → Shortened n before w → Agrees st ended n before (td_of ts) (walked (going_on left w) ts)

  normal-later : (missing : ℕ) (m : NormalTrb) (a : ℕ) (cycle : Bool) (left : ℕ) (w : TdProgress) → w.state ≡ ShortTransfer missing
      → handle_normal this (going_on left w) m a cycle ≡ goes_on (left - 1) (repeat_short this.info w missing m.interrupt_on_completion a)
  unfolding handle_normal
  normal-later missing m a cycle left w h = ap (λ state. td.normal_by_state state this left w m a cycle) h

  later-kind : (v : TransferTrbVariant) (a : ℕ) (cycle : Bool) (ts : List TransferTrb) (before : List Trb) (left : ℕ) (w : TdProgress) → Shortened n before w → Later ts
      → Agrees st ended n before (trb_by_kind v a ++ td_of ts) (walked_kind v a cycle left w ts)
  later-kind (Normal m) a cycle ts before left w at ih =
      let d : TrbDmaInfo = of_normal m a in
      let out : Out TdProgress = repeat_short this.info w (short_residual n before) m.interrupt_on_completion a in
      rw (normal-later (short_residual n before) m a cycle left w at.state)
      (agrees-cons ended before (trb_of d) ts (left - 1) out (passed-conforms this.info before w d (td_of ts) at)
      (ih (trb_of d ∷ before) (left - 1) out.state (passed-shortened this.info before w d (td_of ts) at)))
  later-kind (EventData t) a cycle ts before left w at ih =
      let b : Trb = event_data a t.event_data t.interrupt_on_completion in
      let out : Out TdProgress = handle_event_data this.info w t in
      agrees-cons ended before b ts left out (event-passed this.info before w t a (td_of ts) at)
      (ih (b ∷ before) left out.state (event-shortened this.info before w t a (td_of ts) at))
  later-kind (NoOp t) a cycle ts before left w at ih =
      let b : Trb = no_op a t.interrupt_on_completion in
      let out : Out TdProgress = report_success this.info w w.edtla t.interrupt_on_completion a in
      agrees-cons ended before b ts left out (no_op-passed this.info before w t.interrupt_on_completion a (td_of ts) at)
      (ih (b ∷ before) left out.state (no_op-shortened this.info before w t.interrupt_on_completion a (td_of ts) at))
  later-kind (SetupStage t) a cycle ts before left w at ih = ih before left w at
  later-kind (DataStage t) a cycle ts before left w at ih = ih before left w at
  later-kind (StatusStage t) a cycle ts before left w at ih = ih before left w at
  later-kind Isoch a cycle ts before left w at ih = ih before left w at
  later-kind Unrecognized a cycle ts before left w at ih = ih before left w at

  later : (ts : List TransferTrb) → Later ts
  unfolding walk process_trb
  later [] before left w at = record { events = refl; writes = refl; halt = refl }
  later (t ∷ ts) before left w at = later-kind t.variant t.addr t.cycle_bit ts before left w at (later ts)

  -- ---- A Normal before any was short

  module _ (m : NormalTrb) (a : ℕ) (cycle : Bool) (before : List Trb) (left : ℕ) (w : TdProgress) (at : Reached n before w) where
    module _ (fits : m.transfer_length + asked before ≤ n) where
      none-missing : m.transfer_length - min m.transfer_length (n - w.start) ≡ 0
      none-missing = omega (arith, at.start)

      normal-full : fails_at_last mode st left ≡ false → handle_normal this (going_on left w) m a cycle ≡ goes_on (left - 1) (realize_dma this.info w (of_normal m a))
      unfolding handle_normal
      normal-full goes = ap (λ state. td.normal_by_state state this left w m a cycle) at.state ∙ rw (none-missing, goes)

      -- the transfer fails at it
      normal-failed : fails_at_last mode st left ≡ true → handle_normal this (going_on left w) m a cycle ≡ ending_normal st this.info (left - 1) w m a cycle
      unfolding handle_normal
      normal-failed fails = ap (λ state. td.normal_by_state state this left w m a cycle) at.state ∙ rw (none-missing, fails)

    normal-short : n < m.transfer_length + asked before → handle_normal this (going_on left w) m a cycle ≡ ending_normal st this.info (left - 1) w m a cycle
    unfolding handle_normal
    normal-short lacks =
        let some-missing : eqb (m.transfer_length - min m.transfer_length (n - w.start)) 0 ≡ false =
        ne_eqb (m.transfer_length - min m.transfer_length (n - w.start)) 0 (λ q. omega (arith, at.enough, at.start)) in
        ap (λ state. td.normal_by_state state this left w m a cycle) at.state ∙ rw some-missing

  stopped : (p : TdProcessed) (ts : List TransferTrb) → td.ended p ≡ true → walked p ts ≡ silent p
  unfolding walk
  stopped p [] h = refl
  stopped p (t ∷ ts) h = rw h

  -- the walk ends with this result, at a TRB where the standard's endpoint halts, with nothing behind it
  module _ (m : NormalTrb) (a : ℕ) (ts : List TransferTrb) (before : List Trb) (left : ℕ) (w : TdProgress) (at : Reached n before w) where
    abbrev b : Trb
    b = trb_of (of_normal m a)

    ends : (code : CompletionCode) (r : TrbProcessingResult) → fate (failed (code_number code)) n before b (td_of ts) ≡ cut
        → events_from repeated_residual (failed (code_number code)) n (b ∷ before) (td_of ts) ≡ [] → deliveries_from n (b ∷ before) (td_of ts) ≡ []
        → td.is_error r ≡ true → halt_of r ≡ in_halt st (some a)
        → Agrees st (failed (code_number code)) n before (b ∷ td_of ts)
        (join (ends_with r left (put_dma this.info w (of_normal m a) true code)) (walked (ends_with r left (put_dma this.info w (of_normal m a) true code)).state ts))
    ends code r f untold undelivered error same =
        let out : Out TdProgress = put_dma this.info w (of_normal m a) true code in
        rw (stopped (record { progress = out.state; normals_left = left; result = r }) ts error, append-nil out.records) (record {
          events = failed-events this.info before w (of_normal m a) (td_of ts) at code f
              ∙ rw untold (sym (append-nil (events_at repeated_residual (failed (code_number code)) n before b (td_of ts))));
          writes = failed-writes this.info before w (of_normal m a) (td_of ts) at code ∙ rw undelivered;
          halt = rw f same;
        })

-- ---- As ported

-- a short Normal, by the status
module _ (e : EndpointId) (s : SlotId) (n : ℕ) (m : NormalTrb) (a : ℕ) (cycle : Bool) (ts : List TransferTrb) (before : List Trb) (left : ℕ) (w : TdProgress) (at : Reached n before w)
    (lacks : n < m.transfer_length + asked before) (requested : ℕ) (all : requested ≡ asked before + (m.transfer_length + asked (td_of ts))) where
  abbrev this-normal : Trb
  this-normal = trb_of (of_normal m a)

  failed-cut : (code : ℕ) → fate (failed code) n before this-normal (td_of ts) ≡ cut
  failed-cut code = fate-failed-ended code n before this-normal (td_of ts) (omega arith) ∙ fate-cut n before this-normal (td_of ts) at.enough lacks

  fewer : leb requested n ≡ false
  fewer = lt-leb requested n (omega arith)

  short-ends : (st : InTrbProcessingStatus) (code : CompletionCode) (r : TrbProcessingResult) → td.is_error r ≡ true → halt_of r ≡ in_halt st (some a)
      → Agrees st (failed (code_number code)) n before (this-normal ∷ td_of ts)
      (join (ends_with r (left - 1) (put_dma (in_td e s AsPorted st n).info w (of_normal m a) true code))
      (walked e s AsPorted st n (ends_with r (left - 1) (put_dma (in_td e s AsPorted st n).info w (of_normal m a) true code)).state ts))
  short-ends st code r error same =
      ends e s AsPorted st n m a ts before (left - 1) w at code r (failed-cut (code_number code)) (none-beyond (code_number code) n (this-normal ∷ before) (td_of ts) lacks)
      (none-delivered n (this-normal ∷ before) (td_of ts) (omega arith)) error same

  short-agrees : (st : InTrbProcessingStatus)
      → Agrees st (in_outcome AsPorted st n requested) n before (this-normal ∷ td_of ts) (walked_kind e s AsPorted st n (Normal m) a cycle left w ts)
  short-agrees status.Success =
      let i : TdInfo = (in_td e s AsPorted status.Success n).info in
      rw (normal-short e s AsPorted status.Success n m a cycle before left w at lacks)
      (agrees-cons e s AsPorted status.Success n ended before this-normal ts (left - 1) (realize_dma i w (of_normal m a)) (short-conforms i before w (of_normal m a) (td_of ts) at lacks)
      (later e s AsPorted status.Success n ts (this-normal ∷ before) (left - 1) (realize_dma i w (of_normal m a)).state (short-shortened i before w (of_normal m a) (td_of ts) at lacks)))
  short-agrees status.Stall =
      rw (normal-short e s AsPorted status.Stall n m a cycle before left w at lacks, fewer) (short-ends status.Stall StallError (result.StallAt a cycle) refl refl)
  short-agrees status.TransactionError =
      rw (normal-short e s AsPorted status.TransactionError n m a cycle before left w at lacks, fewer)
      (short-ends status.TransactionError UsbTransactionError (result.TransactionErrorAt a cycle) refl refl)
  short-agrees status.Disconnect =
      rw (normal-short e s AsPorted status.Disconnect n m a cycle before left w at lacks, fewer) (short-ends status.Disconnect UsbTransactionError result.Disconnect refl refl)

module _ (e : EndpointId) (s : SlotId) (st : InTrbProcessingStatus) (n requested : ℕ) where
  abbrev info : TdInfo
  info = (in_td e s AsPorted st n).info

  abbrev o : Outcome
  o = in_outcome AsPorted st n requested

  abbrev Whole : (ts : List TransferTrb) → Type 0
  Whole ts = (before : List Trb) (left : ℕ) (w : TdProgress) → requested ≡ asked before + asked (td_of ts) → Reached n before w
      → Agrees st o n before (td_of ts) (walked e s AsPorted st n (going_on left w) ts)

  -- a TRB that is done in full is complete under this outcome
  is-complete : (before : List Trb) (b : Trb) (behind : List Trb) → requested ≡ asked before + (transfer_length b + asked behind)
      → transfer_length b + asked before ≤ n → fate o n before b behind ≡ complete
  is-complete before b behind all fits = fate-in_outcome n requested before b behind all st ∙ fate-complete n before b behind fits

  module _ (a : ℕ) (cycle : Bool) (ts : List TransferTrb) (before : List Trb) (left : ℕ) (w : TdProgress) (at : Reached n before w) (ih : Whole ts) where
    full-agrees : (m : NormalTrb) → requested ≡ asked before + (m.transfer_length + asked (td_of ts)) → m.transfer_length + asked before ≤ n
        → Agrees st o n before (trb_of (of_normal m a) ∷ td_of ts) (walked_kind e s AsPorted st n (Normal m) a cycle left w ts)
    full-agrees m all fits =
        let d : TrbDmaInfo = of_normal m a in
        rw (normal-full e s AsPorted st n m a cycle before left w at fits refl)
        (agrees-cons e s AsPorted st n o before (trb_of d) ts (left - 1) (realize_dma info w d)
        (full-conforms info before w d (td_of ts) at fits o (is-complete before (trb_of d) (td_of ts) all fits))
        (ih (trb_of d ∷ before) (left - 1) (realize_dma info w d).state (omega arith) (full-reached info before w d (td_of ts) at fits)))

    whole-kind : (v : TransferTrbVariant) → requested ≡ asked before + asked (trb_by_kind v a ++ td_of ts)
        → Agrees st o n before (trb_by_kind v a ++ td_of ts) (walked_kind e s AsPorted st n v a cycle left w ts)
    whole-kind (Normal m) all =
        ⊎_elim
        (λ (fits : m.transfer_length + asked before ≤ n). full-agrees m all fits)
        (λ (lacks : n < m.transfer_length + asked before). short-agrees e s n m a cycle ts before left w at lacks requested all st)
        (le-or-lt (m.transfer_length + asked before) n)
    whole-kind (EventData t) all =
        let b : Trb = event_data a t.event_data t.interrupt_on_completion in
        let out : Out TdProgress = handle_event_data info w t in
        agrees-cons e s AsPorted st n o before b ts left out (event-conforms info before w t a (td_of ts) at o (is-complete before b (td_of ts) all (omega (arith, at.enough))))
        (ih (b ∷ before) left out.state (omega arith) (event-reached info before w t a (td_of ts) at))
    whole-kind (NoOp t) all =
        let ioc : Bool = t.interrupt_on_completion in
        let out : Out TdProgress = report_success info w w.edtla ioc a in
        agrees-cons e s AsPorted st n o before (no_op a ioc) ts left out
        (no_op-conforms info before w ioc a (td_of ts) at o (is-complete before (no_op a ioc) (td_of ts) all (omega (arith, at.enough))))
        (ih (no_op a ioc ∷ before) left out.state (omega arith) (no_op-reached info before w ioc a (td_of ts) at))
    whole-kind (SetupStage t) all = ih before left w all at
    whole-kind (DataStage t) all = ih before left w all at
    whole-kind (StatusStage t) all = ih before left w all at
    whole-kind Isoch all = ih before left w all at
    whole-kind Unrecognized all = ih before left w all at

  pub whole : (ts : List TransferTrb) → Whole ts
  unfolding walk process_trb
  whole [] before left w all at = record { events = refl; writes = refl; halt = refl }
  whole (t ∷ ts) before left w all at = whole-kind t.addr t.cycle_bit ts before left w at (whole ts) t.variant all

-- ---- In strict mode, where all bytes came

-- Normals are what a TD has on the bus
bus-kind : (v : TransferTrbVariant) (a : ℕ) (ts : List TransferTrb) → any_on_bus (trb_by_kind v a ++ td_of ts) ≡ (is_normal v || any_on_bus (td_of ts))
bus-kind (SetupStage t) a ts = refl
bus-kind (DataStage t) a ts = refl
bus-kind (StatusStage t) a ts = refl
bus-kind (Normal t) a ts = refl
bus-kind (EventData t) a ts = refl
bus-kind (NoOp t) a ts = refl
bus-kind Isoch a ts = refl
bus-kind Unrecognized a ts = refl

bus-normals : (ts : List TransferTrb) → any_on_bus (td_of ts) ≡ not (eqb (normals ts) 0)
bus-normals [] = refl
bus-normals (t ∷ ts) = bus-kind t.variant t.addr ts ∙ rw (bus-normals ts) (by_kind (is_normal t.variant))
  where
    by_kind : (b : Bool) → (b || not (eqb (normals ts) 0)) ≡ not (eqb (cond b 1 0 + normals ts) 0)
    by_kind true = rw (ne_eqb (1 + normals ts) 0 (λ q. omega arith))
    by_kind false = rw (zero-add (normals ts))

-- behind the TD's last TRB with transactions a failed transfer has no event, and no delivery
module _ (code n : ℕ) where
  untold-off-bus : (before ts : List Trb) → any_on_bus ts ≡ false → events_from repeated_residual (failed code) n before ts ≡ []
  untold-off-bus before [] h = refl
  untold-off-bus before (normal a p l ioc isp ∷ ts) h = absurd (true≢false h)
  untold-off-bus before (stage a ioc ∷ ts) h = absurd (true≢false h)
  untold-off-bus before (event_data a v ioc ∷ ts) h =
      rw (h, and-false (leb (0 + asked before) n), and-false (leb (asked before) n)) (untold-off-bus (event_data a v ioc ∷ before) ts h)
  untold-off-bus before (no_op a ioc ∷ ts) h =
      rw (h, and-false (leb (0 + asked before) n), and-false (leb (asked before) n)) (untold-off-bus (no_op a ioc ∷ before) ts h)

  undelivered-off-bus : (before ts : List Trb) → any_on_bus ts ≡ false → deliveries_from n before ts ≡ []
  undelivered-off-bus before [] h = refl
  undelivered-off-bus before (normal a p l ioc isp ∷ ts) h = absurd (true≢false h)
  undelivered-off-bus before (stage a ioc ∷ ts) h = absurd (true≢false h)
  undelivered-off-bus before (event_data a v ioc ∷ ts) h = undelivered-off-bus (event_data a v ioc ∷ before) ts h
  undelivered-off-bus before (no_op a ioc ∷ ts) h = undelivered-off-bus (no_op a ioc ∷ before) ts h

-- of a transfer that failed with this code, and this result at a TRB
module _ (e : EndpointId) (s : SlotId) (st : InTrbProcessingStatus) (n : ℕ) (code : CompletionCode) (r : ℕ → Bool → TrbProcessingResult)
    (fails : (left : ℕ) → fails_at_last Strict st left ≡ eqb left 1)
    (failure : (i : TdInfo) (left : ℕ) (w : TdProgress) (m : NormalTrb) (a : ℕ) (cycle : Bool) → ending_normal st i left w m a cycle ≡ ends_with (r a cycle) left (put_dma i w (of_normal m a) true code))
    (error : (a : ℕ) (cycle : Bool) → td.is_error (r a cycle) ≡ true) (same : (a : ℕ) (cycle : Bool) → halt_of (r a cycle) ≡ in_halt st (some a)) where
  abbrev strict-info : TdInfo
  strict-info = (in_td e s Strict st n).info

  abbrev o-failed : Outcome
  o-failed = failed (code_number code)

  abbrev AllCame : (ts : List TransferTrb) → Type 0
  AllCame ts = (before : List Trb) (left : ℕ) (w : TdProgress) → left ≡ normals ts → 0 < left → asked before + asked (td_of ts) ≤ n → Reached n before w
      → Agrees st o-failed n before (td_of ts) (walked e s Strict st n (going_on left w) ts)

  -- with a Normal behind it a TRB that is done in full is complete
  complete-before : (before : List Trb) (b : Trb) (ts : List TransferTrb) → 0 < normals ts → transfer_length b + asked before ≤ n → fate o-failed n before b (td_of ts) ≡ complete
  complete-before before b ts more fits = rw (le-leb (transfer_length b + asked before) n fits, bus-normals ts, ne_eqb (normals ts) 0 (λ q. omega arith))

  module _ (a : ℕ) (cycle : Bool) (ts : List TransferTrb) (before : List Trb) (left : ℕ) (w : TdProgress) (at : Reached n before w) (ih : AllCame ts) where
    module _ (m : NormalTrb) (counted : left ≡ 1 + normals ts) (came : asked before + (m.transfer_length + asked (td_of ts)) ≤ n) where
      abbrev d : TrbDmaInfo
      d = of_normal m a

      fits : m.transfer_length + asked before ≤ n
      fits = omega arith

      last-agrees : normals ts ≡ 0 → Agrees st o-failed n before (trb_of d ∷ td_of ts) (walked_kind e s Strict st n (Normal m) a cycle left w ts)
      last-agrees none_left =
          let off-bus : any_on_bus (td_of ts) ≡ false = bus-normals ts ∙ rw none_left in
          let is_cut : fate o-failed n before (trb_of d) (td_of ts) ≡ cut =
          rw (off-bus, and-false (leb (m.transfer_length + asked before) n), le-leb (asked before) n at.enough) in
          rw (normal-failed e s Strict st n m a cycle before left w at fits (fails left ∙ eq-eqb left 1 (omega arith)), failure strict-info (left - 1) w m a cycle)
          (ends e s Strict st n m a ts before (left - 1) w at code (r a cycle) is_cut (untold-off-bus (code_number code) n (trb_of d ∷ before) (td_of ts) off-bus)
          (undelivered-off-bus (code_number code) n (trb_of d ∷ before) (td_of ts) off-bus) (error a cycle) (same a cycle))

      next-agrees : 0 < normals ts → Agrees st o-failed n before (trb_of d ∷ td_of ts) (walked_kind e s Strict st n (Normal m) a cycle left w ts)
      next-agrees more =
          rw (normal-full e s Strict st n m a cycle before left w at fits (fails left ∙ ne_eqb left 1 (λ q. omega arith)))
          (agrees-cons e s Strict st n o-failed before (trb_of d) ts (left - 1) (realize_dma strict-info w d)
          (full-conforms strict-info before w d (td_of ts) at fits o-failed (complete-before before (trb_of d) ts more fits))
          (ih (trb_of d ∷ before) (left - 1) (realize_dma strict-info w d).state (omega arith) (omega arith) (omega arith) (full-reached strict-info before w d (td_of ts) at fits)))

    came-kind : (v : TransferTrbVariant) → left ≡ cond (is_normal v) 1 0 + normals ts → 0 < left → asked before + asked (trb_by_kind v a ++ td_of ts) ≤ n
        → Agrees st o-failed n before (trb_by_kind v a ++ td_of ts) (walked_kind e s Strict st n v a cycle left w ts)
    came-kind (Normal m) counted more came =
        ⊎_elim (λ (h : normals ts ≤ 0). last-agrees m counted came (omega arith)) (λ (h : 0 < normals ts). next-agrees m counted came h) (le-or-lt (normals ts) 0)
    came-kind (EventData t) counted more came =
        let b : Trb = event_data a t.event_data t.interrupt_on_completion in
        let out : Out TdProgress = handle_event_data strict-info w t in
        agrees-cons e s Strict st n o-failed before b ts left out
        (event-conforms strict-info before w t a (td_of ts) at o-failed (complete-before before b ts (omega arith) (omega (arith, at.enough))))
        (ih (b ∷ before) left out.state (omega arith) more (omega arith) (event-reached strict-info before w t a (td_of ts) at))
    came-kind (NoOp t) counted more came =
        let ioc : Bool = t.interrupt_on_completion in
        let out : Out TdProgress = report_success strict-info w w.edtla ioc a in
        agrees-cons e s Strict st n o-failed before (no_op a ioc) ts left out
        (no_op-conforms strict-info before w ioc a (td_of ts) at o-failed (complete-before before (no_op a ioc) ts (omega arith) (omega (arith, at.enough))))
        (ih (no_op a ioc ∷ before) left out.state (omega arith) more (omega arith) (no_op-reached strict-info before w ioc a (td_of ts) at))
    came-kind (SetupStage t) counted more came = ih before left w (omega arith) more came at
    came-kind (DataStage t) counted more came = ih before left w (omega arith) more came at
    came-kind (StatusStage t) counted more came = ih before left w (omega arith) more came at
    came-kind Isoch counted more came = ih before left w (omega arith) more came at
    came-kind Unrecognized counted more came = ih before left w (omega arith) more came at

  all-came : (ts : List TransferTrb) → AllCame ts
  unfolding walk process_trb
  all-came [] before left w counted more came at = absurd (omega arith)
  all-came (t ∷ ts) before left w counted more came at = came-kind t.addr t.cycle_bit ts before left w at (all-came ts) t.variant counted more came

-- before the first TRB
pub at-start : {n : ℕ} → Reached n [] at_start
at-start = record { enough = omega arith; start = refl; edtla = refl; state = refl }

-- by the status
pub failed-whole : (e : EndpointId) (s : SlotId) (st : InTrbProcessingStatus) (n : ℕ) (ts : List TransferTrb) → is_failure st ≡ true → 0 < normals ts → asked (td_of ts) ≤ n
    → Agrees st (in_outcome Strict st n (asked (td_of ts))) n [] (td_of ts) (walked e s Strict st n (going_on (normals ts) at_start) ts)
failed-whole e s status.Success n ts failure some_left came = absurd (true≢false (sym failure))
failed-whole e s status.Stall n ts failure some_left came =
    all-came e s status.Stall n StallError result.StallAt (λ left. refl) (λ i left w m a cycle. refl) (λ a cycle. refl) (λ a cycle. refl) ts [] (normals ts) at_start refl some_left (omega arith) at-start
failed-whole e s status.TransactionError n ts failure some_left came =
    all-came e s status.TransactionError n UsbTransactionError result.TransactionErrorAt (λ left. refl) (λ i left w m a cycle. refl) (λ a cycle. refl) (λ a cycle. refl) ts [] (normals ts) at_start refl some_left (omega arith) at-start
failed-whole e s status.Disconnect n ts failure some_left came =
    all-came e s status.Disconnect n UsbTransactionError (λ a cycle. result.Disconnect) (λ left. refl) (λ i left w m a cycle. refl) (λ a cycle. refl) (λ a cycle. refl) ts [] (normals ts) at_start refl some_left (omega arith) at-start
