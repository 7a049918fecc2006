-- A passed Normal's own residual in place of the short one's: the events are the same just where each passed Normal with IOC is as long as what the
-- short one misses. Assumes nothing.
use Prim.Native.Nat.{ℕ, ◌+◌, ◌-◌, ◌<◌, ◌≤◌, min}
use mathlib.Core.Path.{◌≡◌, refl, sym, ◌∙◌}
use mathlib.Core.Bool.{Bool, true, false, ◌||◌, false≢true}
use mathlib.Core.List.{List, [], ◌∷◌, ◌++◌}
use mathlib.Core.Logic.{⊎_elim}
use native.Mathlib.Omega.{arith}
use Rattle.trb.specs.declared.EndpointId.{EndpointId}
use Rattle.trb.specs.declared.SlotId.{SlotId}
use Rattle.trb.specs.declared.InTrbProcessingStatus.{InTrbProcessingStatus}
use Rattle.trb.specs.declared.InTrbProcessingStatus.TheVariants as status
use Rattle.trb.specs.declared.TransferTrb.{TransferTrb}
use Rattle.trb.proofs.TestLaws.{le-or-lt}
use Rattle.in_td.specs.Td.{process_td, in_td}
use Rattle.in_td.specs.declared.InMode.{InMode}
use Rattle.standard.specs.Xhci.{Trb, normal, stage, event_data, no_op, TransferEvent, transfer_event, ended, failed, Fate, complete, cut, beyond, fate, asked, short_residual, own_residual, repeated_residual, accumulated, report, ioc_of, isp_of, event_if, event_of, passed_event, success, short_packet, events_at, events_from, events}
use Rattle.standard.proofs.XhciLaws.{fate-complete, fate-cut, fate-beyond}
use Rattle.conformance.specs.Translate.{td_of, told, in_outcome, HasNormal, SamePassed}
use Rattle.conformance.proofs.InTheorems.{told-in_outcome}

-- ---- What does not depend on the reading

module _ (n : ℕ) where
  accumulated-same : (before : List Trb) → accumulated repeated_residual n before ≡ accumulated own_residual n before
  accumulated-same [] = refl
  accumulated-same (normal a p l ioc isp ∷ before) = rw (accumulated-same before)
  accumulated-same (stage a ioc ∷ before) = accumulated-same before
  accumulated-same (event_data a v ioc ∷ before) = refl
  accumulated-same (no_op a ioc ∷ before) = accumulated-same before

  event_of-same : (code : ℕ) (before : List Trb) (b : Trb) → event_of repeated_residual code n before b ≡ event_of own_residual code n before b
  event_of-same code before (normal a p l ioc isp) = refl
  event_of-same code before (stage a ioc) = refl
  event_of-same code before (event_data a v ioc) = rw (accumulated-same before)
  event_of-same code before (no_op a ioc) = refl

  -- of a TRB whose event is the same where it is passed
  report-same : (f : Fate) (before : List Trb) (b : Trb) → passed_event repeated_residual n before b ≡ passed_event own_residual n before b
      → report repeated_residual ended f n before b ≡ report own_residual ended f n before b
  report-same complete before b h = rw (event_of-same success before b)
  report-same cut before b h = rw (event_of-same short_packet before b)
  report-same beyond before b h = rw h

  -- of a transfer that failed: none is passed
  report-failed : (code : ℕ) (f : Fate) (before : List Trb) (b : Trb) → report repeated_residual (failed code) f n before b ≡ report own_residual (failed code) f n before b
  report-failed code complete before b = rw (event_of-same success before b)
  report-failed code cut before b = rw (event_of-same code before b)
  report-failed code beyond before b = refl

  failed-from : (code : ℕ) (before ts : List Trb) → events_from repeated_residual (failed code) n before ts ≡ events_from own_residual (failed code) n before ts
  failed-from code before [] = refl
  failed-from code before (b ∷ ts) = rw (report-failed code (fate (failed code) n before b ts) before b, failed-from code (b ∷ before) ts)

  -- ---- The events are the same

  module _ (before : List Trb) (a p l : ℕ) (ioc isp : Bool) (ts : List Trb) where
    abbrev this : Trb
    this = normal a p l ioc isp

    unpassed-same : asked before ≤ n → events_at repeated_residual ended n before this ts ≡ events_at own_residual ended n before this ts
    unpassed-same h =
        ⊎_elim
        (λ (g : l + asked before ≤ n). rw (fate-complete n before this ts g))
        (λ (g : n < l + asked before). rw (fate-cut n before this ts h g))
        (le-or-lt (l + asked before) n)

    passed-same : n < asked before → (ioc ≡ true → short_residual n before ≡ l) → events_at repeated_residual ended n before this ts ≡ events_at own_residual ended n before this ts
    passed-same h same = rw (fate-beyond n before this ts ended h) (by-ioc ioc same)
      where
        none-moved : l - min l (n - asked before) ≡ l
        none-moved = omega arith

        by-ioc : (b : Bool) → (b ≡ true → short_residual n before ≡ l)
            → event_if b (transfer_event short_packet false a (short_residual n before)) ≡ event_if b (transfer_event short_packet false a (l - min l (n - asked before)))
        by-ioc true h = rw (h refl, none-moved)
        by-ioc false h = refl

  same_from : (before ts : List Trb) → SamePassed n before ts → events_from repeated_residual ended n before ts ≡ events_from own_residual ended n before ts
  same_from before [] h = refl
  same_from before (normal a p l ioc isp ∷ ts) h =
      ⊎_elim
      (λ (g : asked before ≤ n). rw (unpassed-same before a p l ioc isp ts g, same_from (normal a p l ioc isp ∷ before) ts h.1))
      (λ (g : n < asked before). rw (passed-same before a p l ioc isp ts g (λ i. h.0 i g), same_from (normal a p l ioc isp ∷ before) ts h.1))
      (le-or-lt (asked before) n)
  same_from before (stage a ioc ∷ ts) h =
      rw (report-same (fate ended n before (stage a ioc) ts) before (stage a ioc) refl, same_from (stage a ioc ∷ before) ts h)
  same_from before (event_data a v ioc ∷ ts) h =
      rw (
        report-same (fate ended n before (event_data a v ioc) ts) before (event_data a v ioc) (event_of-same short_packet before (event_data a v ioc)),
        same_from (event_data a v ioc ∷ before) ts h,
      )
  same_from before (no_op a ioc ∷ ts) h = rw (report-same (fate ended n before (no_op a ioc) ts) before (no_op a ioc) refl, same_from (no_op a ioc ∷ before) ts h)

  -- ---- And only then

  -- the events behind a TRB
  tail-same : (due : Bool) (e f : TransferEvent) (es fs : List TransferEvent) → event_if due e ++ es ≡ event_if due f ++ fs → es ≡ fs
  tail-same true e f es fs h = cc
  tail-same false e f es fs h = h

  report-tail : (f : Fate) (before : List Trb) (b : Trb) (es fs : List TransferEvent)
      → report repeated_residual ended f n before b ++ es ≡ report own_residual ended f n before b ++ fs → es ≡ fs
  report-tail complete before b es fs h = tail-same (ioc_of b) (event_of repeated_residual success n before b) (event_of own_residual success n before b) es fs h
  report-tail cut before b es fs h = tail-same (ioc_of b || isp_of b) (event_of repeated_residual short_packet n before b) (event_of own_residual short_packet n before b) es fs h
  report-tail beyond before b es fs h = tail-same (ioc_of b) (passed_event repeated_residual n before b) (passed_event own_residual n before b) es fs h

  -- the event of a passed Normal
  passed-only : (before : List Trb) (a p l : ℕ) (ioc isp : Bool) (es fs : List TransferEvent)
      → report repeated_residual ended beyond n before (normal a p l ioc isp) ++ es ≡ report own_residual ended beyond n before (normal a p l ioc isp) ++ fs
      → ioc ≡ true → n < asked before → short_residual n before ≡ l
  passed-only before a p l false isp es fs h i g = absurd (false≢true i)
  passed-only before a p l true isp es fs h i g =
      let same : short_residual n before ≡ l - min l (n - asked before) = cc in
      omega arith

  only-from : (before ts : List Trb) → events_from repeated_residual ended n before ts ≡ events_from own_residual ended n before ts → SamePassed n before ts
  only-from before [] h = tt
  only-from before (normal a p l ioc isp ∷ ts) h = (
    λ i g. passed-only before a p l ioc isp _ _ (rw (fate-beyond n before (normal a p l ioc isp) ts ended g) at h) i g,
    only-from (normal a p l ioc isp ∷ before) ts (report-tail (fate ended n before (normal a p l ioc isp) ts) before (normal a p l ioc isp) _ _ h),
  )
  only-from before (stage a ioc ∷ ts) h =
      only-from (stage a ioc ∷ before) ts (report-tail (fate ended n before (stage a ioc) ts) before (stage a ioc) _ _ h)
  only-from before (event_data a v ioc ∷ ts) h =
      only-from (event_data a v ioc ∷ before) ts (report-tail (fate ended n before (event_data a v ioc) ts) before (event_data a v ioc) _ _ h)
  only-from before (no_op a ioc ∷ ts) h = only-from (no_op a ioc ∷ before) ts (report-tail (fate ended n before (no_op a ioc) ts) before (no_op a ioc) _ _ h)

-- ---- An IN TD

module _ (e : EndpointId) (s : SlotId) (mode : InMode) (n : ℕ) (ts : List TransferTrb) where
  pub told-own_residual : SamePassed n [] (td_of ts) → told (process_td (in_td e s mode status.Success n) ts).records ≡ events own_residual ended n (td_of ts)
  told-own_residual h = told-in_outcome e s mode status.Success n ts tt ∙ same_from n [] (td_of ts) h

  pub own_residual-only : told (process_td (in_td e s mode status.Success n) ts).records ≡ events own_residual ended n (td_of ts) → SamePassed n [] (td_of ts)
  own_residual-only h = only-from n [] (td_of ts) (sym (told-in_outcome e s mode status.Success n ts tt) ∙ h)

  -- of a transfer that failed, with no condition on the flags of the TRBs
  pub told-own_residual-failed : (st : InTrbProcessingStatus) (code : ℕ) → HasNormal mode st ts → in_outcome mode st n (asked (td_of ts)) ≡ failed code
      → told (process_td (in_td e s mode st n) ts).records ≡ events own_residual (failed code) n (td_of ts)
  told-own_residual-failed st code some-normal h = (rw h at (told-in_outcome e s mode st n ts some-normal)) ∙ failed-from n code [] (td_of ts)
