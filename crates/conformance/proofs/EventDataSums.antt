-- The lengths that the Event Data TRBs of a TD tell add up to the bytes that it moved (xHCI 1.2, 4.11.5.2): none is lost and none told twice.
-- Assumes nothing.
use Prim.Native.Nat.{ℕ, ◌+◌, ◌<◌, ◌^◌, min}
use mathlib.Core.Path.{◌≡◌, refl, ◌∙◌}
use mathlib.Core.Bool.{Bool, true, false, ◌||◌, false≢true}
use mathlib.Core.List.{List, [], ◌∷◌, ◌++◌}
use native.Mathlib.Omega.{arith}
use Rattle.trb.specs.declared.EndpointId.{EndpointId}
use Rattle.trb.specs.declared.SlotId.{SlotId}
use Rattle.trb.specs.declared.InTrbProcessingStatus.TheVariants as status
use Rattle.trb.specs.declared.TransferTrb.{TransferTrb}
use Rattle.in_td.specs.Td.{process_td, in_td}
use Rattle.in_td.specs.declared.InMode.{InMode}
use Rattle.standard.specs.Xhci.{Trb, normal, stage, event_data, no_op, TransferEvent, Fate, complete, cut, beyond, fate, asked, ended, repeated_residual, accumulated, accumulated_in_all, edtla, report, event_if, events_at, events_from}
use Rattle.standard.specs.Xhci as xhci
use Rattle.standard.proofs.XhciLaws.{edtla-accumulated, accumulated_in_all-min}
use Rattle.conformance.specs.Translate.{td_of, told, event_lengths, every_event_data_tells, ends_in_event_data}
use Rattle.conformance.proofs.InTheorems.{told-in_outcome}

event_lengths-append : (es fs : List TransferEvent) → event_lengths (es ++ fs) ≡ event_lengths es + event_lengths fs
event_lengths-append [] fs = omega arith
event_lengths-append (xhci.transfer_event code ed p l ∷ es) fs = omega (arith, event_lengths-append es fs)

-- ---- What one TRB tells

module _ (n : ℕ) (before : List Trb) where
  unflagged : (due : Bool) (code a l : ℕ) → event_lengths (event_if due (xhci.transfer_event code false a l)) ≡ 0
  unflagged true code a l = refl
  unflagged false code a l = refl

  normal-tells : (f : Fate) (a p l : ℕ) (ioc isp : Bool) → event_lengths (report repeated_residual ended f n before (normal a p l ioc isp)) ≡ 0
  normal-tells complete a p l ioc isp = unflagged ioc _ a _
  normal-tells cut a p l ioc isp = unflagged (ioc || isp) _ a _
  normal-tells beyond a p l ioc isp = unflagged ioc _ a _

  no_op-tells : (f : Fate) (a : ℕ) (ioc : Bool) → event_lengths (report repeated_residual ended f n before (no_op a ioc)) ≡ 0
  no_op-tells complete a ioc = unflagged ioc _ a _
  no_op-tells cut a ioc = unflagged (ioc || false) _ a _
  no_op-tells beyond a ioc = unflagged ioc _ a _

  stage-tells : (f : Fate) (a : ℕ) (ioc : Bool) → event_lengths (report repeated_residual ended f n before (stage a ioc)) ≡ 0
  stage-tells complete a ioc = unflagged ioc _ a _
  stage-tells cut a ioc = unflagged (ioc || false) _ a _
  stage-tells beyond a ioc = unflagged ioc _ a _

  event_data-tells : (f : Fate) (a v : ℕ) → event_lengths (report repeated_residual ended f n before (event_data a v true)) ≡ edtla repeated_residual n before
  event_data-tells complete a v = omega arith
  event_data-tells cut a v = omega arith
  event_data-tells beyond a v = omega arith

-- ---- What the TRBs of a TD tell

-- the bytes accumulated behind the last TRB, which no Event Data TRB tells
abbrev left_over : (n : ℕ) (before ts : List Trb) → ℕ
left_over n before [] = accumulated repeated_residual n before
left_over n before (t ∷ ts) = left_over n (t ∷ before) ts

module _ (n : ℕ) where
  -- a TRB, and those behind it
  tells-cons : (before : List Trb) (t : Trb) (ts : List Trb) (own : ℕ) → event_lengths (events_at repeated_residual ended n before t ts) ≡ own
      → event_lengths (events_from repeated_residual ended n before (t ∷ ts)) ≡ own + event_lengths (events_from repeated_residual ended n (t ∷ before) ts)
  tells-cons before t ts own h =
      event_lengths-append (events_at repeated_residual ended n before t ts) (events_from repeated_residual ended n (t ∷ before) ts) ∙ rw h

  tells_all : (before ts : List Trb) → asked before + asked ts < 2 ^ 24 → every_event_data_tells ts ≡ true
      → event_lengths (events_from repeated_residual ended n before ts) + left_over n before ts ≡ accumulated_in_all repeated_residual n before ts
  tells_all before [] h every = omega arith
  tells_all before (normal a p l ioc isp ∷ ts) h every =
      omega (
        arith,
        tells-cons before (normal a p l ioc isp) ts 0 (normal-tells n before (fate ended n before (normal a p l ioc isp) ts) a p l ioc isp),
        tells_all (normal a p l ioc isp ∷ before) ts (omega arith) every,
      )
  tells_all before (stage a ioc ∷ ts) h every =
      omega (
        arith,
        tells-cons before (stage a ioc) ts 0 (stage-tells n before (fate ended n before (stage a ioc) ts) a ioc),
        tells_all (stage a ioc ∷ before) ts (omega arith) every,
      )
  tells_all before (event_data a v true ∷ ts) h every =
      omega (
        arith,
        tells-cons before (event_data a v true) ts (edtla repeated_residual n before) (event_data-tells n before (fate ended n before (event_data a v true) ts) a v),
        edtla-accumulated repeated_residual n before (omega arith),
        tells_all (event_data a v true ∷ before) ts (omega arith) every,
      )
  tells_all before (event_data a v false ∷ ts) h every = absurd (false≢true every)
  tells_all before (no_op a ioc ∷ ts) h every =
      omega (
        arith,
        tells-cons before (no_op a ioc) ts 0 (no_op-tells n before (fate ended n before (no_op a ioc) ts) a ioc),
        tells_all (no_op a ioc ∷ before) ts (omega arith) every,
      )

  left_over-none : (before ts : List Trb) → ends_in_event_data ts ≡ true → left_over n before ts ≡ 0
  left_over-none before [] h = absurd (false≢true h)
  left_over-none before (normal a p l ioc isp ∷ ts) h = left_over-none (normal a p l ioc isp ∷ before) ts h
  left_over-none before (stage a ioc ∷ ts) h = left_over-none (stage a ioc ∷ before) ts h
  left_over-none before (event_data a v ioc ∷ []) h = refl
  left_over-none before (event_data a v ioc ∷ t ∷ ts) h = left_over-none (event_data a v ioc ∷ before) (t ∷ ts) h
  left_over-none before (no_op a ioc ∷ ts) h = left_over-none (no_op a ioc ∷ before) ts h

-- where the device succeeded: every Event Data TRB with IOC, the last TRB one of them, and fewer than 2^24 bytes asked for
pub event_lengths-moved : (e : EndpointId) (s : SlotId) (mode : InMode) (n : ℕ) (ts : List TransferTrb) → asked (td_of ts) < 2 ^ 24
    → every_event_data_tells (td_of ts) ≡ true → ends_in_event_data (td_of ts) ≡ true
    → event_lengths (told (process_td (in_td e s mode status.Success n) ts).records) ≡ min n (asked (td_of ts))
event_lengths-moved e s mode n ts h every last =
    rw (told-in_outcome e s mode status.Success n ts tt)
    (omega (
      arith,
      tells_all n [] (td_of ts) (omega arith) every,
      left_over-none n [] (td_of ts) last,
      accumulated_in_all-min repeated_residual (λ ioc. refl) n (td_of ts),
    ))
