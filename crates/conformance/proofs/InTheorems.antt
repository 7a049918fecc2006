-- An IN TD of any length, whatever status and whichever n bytes the device returns, against xHCI 1.2. Assumes nothing.
use Prim.Native.Nat.{ℕ, ◌+◌, ◌<◌, ◌≤◌}
use mathlib.Core.Path.{◌≡◌, refl, ap, ◌∙◌}
use mathlib.Core.Bool.{Bool, true, false, cond, ◌&&◌, and-false}
use mathlib.Core.List.{List, [], ◌∷◌, ◌++◌}
use mathlib.Core.Logic.{⊎_elim}
use native.Mathlib.Omega.{arith}
use borrow.Author.Tests.{le-leb, lt-leb}
use lib.Dec.{leb}
use Rattle.trb.specs.Codes.{code_number}
use Rattle.trb.specs.declared.CompletionCode.TheVariants.{Success, UsbTransactionError, TrbError, StallError, ShortPacket}
use Rattle.trb.specs.declared.EndpointId.{EndpointId}
use Rattle.trb.specs.declared.SlotId.{SlotId}
use Rattle.trb.specs.declared.InTrbProcessingStatus.{InTrbProcessingStatus}
use Rattle.trb.specs.declared.InTrbProcessingStatus.TheVariants as status
use Rattle.trb.specs.declared.TransferTrb.{TransferTrb}
use Rattle.trb.specs.declared.TransferTrbVariant.{TransferTrbVariant}
use Rattle.trb.specs.declared.TransferTrbVariant.TheVariants.{SetupStage, DataStage, StatusStage, Normal, EventData, NoOp, Isoch, Unrecognized}
use Rattle.td_part.specs.Parts.{at_start}
use Rattle.trb.proofs.TestLaws.{le-or-lt}
use Rattle.call_log.specs.Calls.{Out}
use Rattle.in_td.specs.Td.{normals, process_td, in_td}
use Rattle.in_td.specs.declared.InMode.{InMode}
use Rattle.in_td.specs.declared.InMode.TheVariants.{AsPorted, Strict}
use Rattle.in_td.specs.declared.TdProcessed.{TdProcessed}
use Rattle.standard.specs.Xhci.{Trb, Outcome, ended, outcome, asked, repeated_residual, events, deliveries, halted_at, success, usb_transaction_error, trb_error, stall_error, short_packet}
use Rattle.in_td.specs.Normals.{normal_of, length_of, requested}
use Rattle.account.specs.Strict.{is_failure, LogAndResult, log_and_result}
use Rattle.account.proofs.StrictLaws.{last_normal-none, told-strictly}
use Rattle.conformance.specs.Translate.{trb_by_kind, td_of, told, wrote, ending_of, in_outcome, Agreed, HasNormal, halt_of, in_halt}
use Rattle.conformance.proofs.InConforms.{Agrees, whole, at-start, failed-whole}

-- ---- The outcome that 01 gives a transfer is the standard's, for as many bytes as can be

outcome-in_outcome : (mode : InMode) (st : InTrbProcessingStatus) (n : ℕ) (td : List Trb) → Agreed mode st n (asked td) → in_outcome mode st n (asked td) ≡ outcome (ending_of st) n td
outcome-in_outcome mode status.Success n td h = rw (le-leb n (asked td) h)
outcome-in_outcome AsPorted status.Stall n td h = rw (lt-leb (asked td) n h)
outcome-in_outcome AsPorted status.TransactionError n td h = rw (lt-leb (asked td) n h)
outcome-in_outcome AsPorted status.Disconnect n td h = rw (lt-leb (asked td) n h)
outcome-in_outcome Strict status.Stall n td h = refl
outcome-in_outcome Strict status.TransactionError n td h = refl
outcome-in_outcome Strict status.Disconnect n td h = refl

-- ---- S: the bytes that the standard's TD asks for are the bytes requested

asked-kind : (v : TransferTrbVariant) (a : ℕ) (ts : List TransferTrb) → asked (trb_by_kind v a ++ td_of ts) ≡ length_of (normal_of v) + asked (td_of ts)
asked-kind (SetupStage t) a ts = omega arith
asked-kind (DataStage t) a ts = omega arith
asked-kind (StatusStage t) a ts = omega arith
asked-kind (Normal t) a ts = refl
asked-kind (EventData t) a ts = refl
asked-kind (NoOp t) a ts = refl
asked-kind Isoch a ts = omega arith
asked-kind Unrecognized a ts = omega arith

pub asked-requested : (ts : List TransferTrb) → asked (td_of ts) ≡ requested ts
asked-requested [] = refl
asked-requested (t ∷ ts) = asked-kind t.variant t.addr ts ∙ rw (asked-requested ts)

-- ---- Both modes

module _ (e : EndpointId) (s : SlotId) (st : InTrbProcessingStatus) (n : ℕ) (ts : List TransferTrb) where
  abbrev walk-in : InMode → Out TdProcessed
  walk-in mode = process_td (in_td e s mode st n) ts

  as-ported : Agrees st (in_outcome AsPorted st n (asked (td_of ts))) n [] (td_of ts) (walk-in AsPorted)
  as-ported = whole e s st n (asked (td_of ts)) ts [] (normals ts) at_start (omega arith) at-start

  -- a walk in strict mode that told what it tells as ported
  same-agrees : (o : Outcome) → log_and_result (walk-in Strict) ≡ log_and_result (walk-in AsPorted) → Agrees st o n [] (td_of ts) (walk-in AsPorted) → Agrees st o n [] (td_of ts) (walk-in Strict)
  same-agrees o same a = record {
    events = ap (λ (x : LogAndResult). told x.records) same ∙ a.events;
    writes = ap (λ (x : LogAndResult). wrote x.records) same ∙ a.writes;
    halt = ap (λ (x : LogAndResult). halt_of x.result) same ∙ a.halt;
  }

  fewer-same : n < requested ts → log_and_result (walk-in Strict) ≡ log_and_result (walk-in AsPorted)
  fewer-same h = told-strictly e s st n ts ∙ rw (lt-leb (requested ts) n h, and-false (is_failure st))

  strict-failed : is_failure st ≡ true → 0 < normals ts → in_outcome AsPorted st n (asked (td_of ts)) ≡ cond (leb (asked (td_of ts)) n) ended (in_outcome Strict st n (asked (td_of ts)))
      → Agrees st (in_outcome Strict st n (asked (td_of ts))) n [] (td_of ts) (walk-in Strict)
  strict-failed failed counted by_bytes =
      ⊎_elim
      (λ (h : asked (td_of ts) ≤ n). failed-whole e s st n ts failed counted h)
      (λ (h : n < asked (td_of ts)).
      let same_outcome : in_outcome AsPorted st n (asked (td_of ts)) ≡ in_outcome Strict st n (asked (td_of ts)) = rw (by_bytes, lt-leb (asked (td_of ts)) n h) in
      same-agrees (in_outcome Strict st n (asked (td_of ts))) (fewer-same (rw (asked-requested ts) at h)) (rw same_outcome at as-ported))
      (le-or-lt (asked (td_of ts)) n)

agrees : (e : EndpointId) (s : SlotId) (mode : InMode) (st : InTrbProcessingStatus) (n : ℕ) (ts : List TransferTrb) → HasNormal mode st ts
    → Agrees st (in_outcome mode st n (asked (td_of ts))) n [] (td_of ts) (process_td (in_td e s mode st n) ts)
agrees e s AsPorted st n ts h = as-ported e s st n ts
agrees e s Strict status.Success n ts h = same-agrees e s status.Success n ts ended (told-strictly e s status.Success n ts) (as-ported e s status.Success n ts)
agrees e s Strict status.Stall n ts h = strict-failed e s status.Stall n ts refl h refl
agrees e s Strict status.TransactionError n ts h = strict-failed e s status.TransactionError n ts refl h refl
agrees e s Strict status.Disconnect n ts h = strict-failed e s status.Disconnect n ts refl h refl

-- a TD with a Normal is one that a failure in strict mode can have
pub counted-normal : (st : InTrbProcessingStatus) (ts : List TransferTrb) → 0 < normals ts → HasNormal Strict st ts
counted-normal status.Success ts h = tt
counted-normal status.Stall ts h = h
counted-normal status.TransactionError ts h = h
counted-normal status.Disconnect ts h = h

-- without a Normal both modes tell the same
none-same : (e : EndpointId) (s : SlotId) (st : InTrbProcessingStatus) (n : ℕ) (ts : List TransferTrb) → normals ts ≡ 0
    → log_and_result (process_td (in_td e s Strict st n) ts) ≡ log_and_result (process_td (in_td e s AsPorted st n) ts)
none-same e s st n ts none-counted = told-strictly e s st n ts ∙ rw (last_normal-none ts none-counted) (by-test (is_failure st && leb (requested ts) n))
  where
    by-test : (b : Bool) → cond b (log_and_result (process_td (in_td e s AsPorted st n) ts)) (log_and_result (process_td (in_td e s AsPorted st n) ts)) ≡ log_and_result (process_td (in_td e s AsPorted st n) ts)
    by-test true = refl
    by-test false = refl

module _ (e : EndpointId) (s : SlotId) (mode : InMode) (st : InTrbProcessingStatus) (n : ℕ) (ts : List TransferTrb) where
  -- ---- Events: xHCI 1.2, 4.10.1.1, 4.10.2, 4.11.5.2, 6.4.2.1

  pub told-in_outcome : HasNormal mode st ts → told (process_td (in_td e s mode st n) ts).records ≡ events repeated_residual (in_outcome mode st n (asked (td_of ts))) n (td_of ts)
  told-in_outcome some-normal = (agrees e s mode st n ts some-normal).events

  pub told-events : HasNormal mode st ts → Agreed mode st n (asked (td_of ts))
      → told (process_td (in_td e s mode st n) ts).records ≡ events repeated_residual (outcome (ending_of st) n (td_of ts)) n (td_of ts)
  told-events some-normal h = rw (outcome-in_outcome mode st n (td_of ts) h) at (agrees e s mode st n ts some-normal).events

  -- ---- Writes: xHCI 1.2, 4.9.1, 6.4.1.1

  pub wrote-deliveries : wrote (process_td (in_td e s mode st n) ts).records ≡ deliveries n (td_of ts)
  wrote-deliveries = by_mode mode
    where
      by_mode : (x : InMode) → wrote (process_td (in_td e s x st n) ts).records ≡ deliveries n (td_of ts)
      by_mode AsPorted = (as-ported e s st n ts).writes
      by_mode Strict =
          ⊎_elim
          (λ (h : normals ts ≤ 0). (same-agrees e s st n ts (in_outcome AsPorted st n (asked (td_of ts))) (none-same e s st n ts (omega arith)) (as-ported e s st n ts)).writes)
          (λ (h : 0 < normals ts). (agrees e s Strict st n ts (counted-normal st ts h)).writes)
          (le-or-lt (normals ts) 0)

  -- ---- Result: xHCI 1.2, 4.8.3, 4.10.2

  pub halt_of-in_outcome : HasNormal mode st ts → halt_of (process_td (in_td e s mode st n) ts).state.result ≡ in_halt st (halted_at (in_outcome mode st n (asked (td_of ts))) n (td_of ts))
  halt_of-in_outcome some-normal = (agrees e s mode st n ts some-normal).halt

  pub halt_of-halted_at : HasNormal mode st ts → Agreed mode st n (asked (td_of ts))
      → halt_of (process_td (in_td e s mode st n) ts).state.result ≡ in_halt st (halted_at (outcome (ending_of st) n (td_of ts)) n (td_of ts))
  halt_of-halted_at some-normal h = rw (outcome-in_outcome mode st n (td_of ts) h) at (agrees e s mode st n ts some-normal).halt

-- ---- Codes: xHCI 1.2, table 6-90

pub code_number-table : code_number Success ∷ code_number UsbTransactionError ∷ code_number TrbError ∷ code_number StallError ∷ code_number ShortPacket ∷ []
    ≡ success ∷ usb_transaction_error ∷ trb_error ∷ stall_error ∷ short_packet ∷ []
code_number-table = refl
