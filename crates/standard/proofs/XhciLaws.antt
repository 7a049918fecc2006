-- Laws of an IN TD: a TRB's fate by its place, what Event Data TRBs tell in all, and what the buffers get in all. Assumes nothing.
use Prim.Native.Nat.{ℕ, zero, suc, ◌+◌, ◌-◌, ◌≤◌, ◌<◌, ◌^◌, min}
use mathlib.Core.Path.{◌≡◌, refl}
use mathlib.Core.Bool.{Bool, true, false, cond}
use mathlib.Core.List.{List, [], ◌∷◌, ◌++◌}
use mathlib.Core.Logic.{◌⊎◌, inl, inr, ⊎_elim}
use native.Mathlib.Omega.{arith}
use borrow.Author.Tests.{leb-true, leb-false, le-leb, lt-leb}
use lib.Dec.{leb}
use Rattle.standard.specs.Xhci.{Trb, normal, stage, event_data, no_op, Reading, transfer_length, on_bus, any_on_bus, asked, accumulated, edtla, accumulated_in_all, Outcome, ended, failed, complete, cut, beyond, fate, Delivery, delivery, deliver_if, deliveries_from, deliveries, delivered_bytes}

-- ---- Fates

module _ (n : ℕ) (before : List Trb) (t : Trb) (behind : List Trb) where
  pub fate-complete : transfer_length t + asked before ≤ n → fate ended n before t behind ≡ complete
  fate-complete h = rw (le-leb (transfer_length t + asked before) n h)

  pub fate-cut : asked before ≤ n → n < transfer_length t + asked before → fate ended n before t behind ≡ cut
  fate-cut h k = rw (lt-leb (transfer_length t + asked before) n k, le-leb (asked before) n h)

  pub fate-beyond : (o : Outcome) → n < asked before → fate o n before t behind ≡ beyond
  fate-beyond ended h =
      let k : n < transfer_length t + asked before = omega arith in
      rw (lt-leb (transfer_length t + asked before) n k, lt-leb (asked before) n h)
  fate-beyond (failed code) h =
      let k : n < transfer_length t + asked before = omega arith in
      rw (lt-leb (transfer_length t + asked before) n k, lt-leb (asked before) n h)

-- TRBs that ask for a byte, or one that does, have transactions.
any_on_bus-asked : (ts : List Trb) → 0 < asked ts → any_on_bus ts ≡ true
any_on_bus-asked [] h = absurd (omega arith)
any_on_bus-asked (normal a p l ioc isp ∷ ts) h = refl
any_on_bus-asked (stage a ioc ∷ ts) h = refl
any_on_bus-asked (event_data a v ioc ∷ ts) h = any_on_bus-asked ts (omega arith)
any_on_bus-asked (no_op a ioc ∷ ts) h = any_on_bus-asked ts (omega arith)

on_bus-transfer_length : (t : Trb) → 0 < transfer_length t → on_bus t ≡ true
on_bus-transfer_length (normal a p l ioc isp) h = refl
on_bus-transfer_length (stage a ioc) h = refl
on_bus-transfer_length (event_data a v ioc) h = absurd (omega arith)
on_bus-transfer_length (no_op a ioc) h = absurd (omega arith)

le-or-lt : (m n : ℕ) → (m ≤ n) ⊎ (n < m)
le-or-lt m n = by-test (leb m n) refl
  where
    by-test : (b : Bool) → leb m n ≡ b → (m ≤ n) ⊎ (n < m)
    by-test true e = inl (leb-true m n e)
    by-test false e = inr (leb-false m n e)

-- An error before the TD's last byte falls where a short packet would.
pub fate-failed-ended : (code n : ℕ) (before : List Trb) (t : Trb) (behind : List Trb)
    → n < asked before + (transfer_length t + asked behind) → fate (failed code) n before t behind ≡ fate ended n before t behind
fate-failed-ended code n before t behind h =
    ⊎_elim
    (λ (k : transfer_length t + asked before ≤ n). rw (le-leb (transfer_length t + asked before) n k, any_on_bus-asked behind (omega arith)))
    (λ (k : n < transfer_length t + asked before). ⊎_elim
    (λ (g : asked before ≤ n). rw (lt-leb (transfer_length t + asked before) n k, le-leb (asked before) n g, on_bus-transfer_length t (omega arith)))
    (λ (g : n < asked before). rw (lt-leb (transfer_length t + asked before) n k, lt-leb (asked before) n g))
    (le-or-lt (asked before) n))
    (le-or-lt (transfer_length t + asked before) n)

-- ---- Event Data

cond-zero-≤ : (b : Bool) (m : ℕ) → cond b 0 m ≤ m
cond-zero-≤ true m = omega arith
cond-zero-≤ false m = omega arith

accumulated-≤-asked : (r : Reading) (n : ℕ) (before : List Trb) → accumulated r n before ≤ asked before
accumulated-≤-asked r n [] = omega arith
accumulated-≤-asked r n (normal a p l ioc isp ∷ before) = omega (arith, accumulated-≤-asked r n before)
accumulated-≤-asked r n (stage a ioc ∷ before) = omega (arith, accumulated-≤-asked r n before)
accumulated-≤-asked r n (event_data a v ioc ∷ before) = omega (arith, cond-zero-≤ (r.clears ioc) (accumulated r n before), accumulated-≤-asked r n before)
accumulated-≤-asked r n (no_op a ioc ∷ before) = omega (arith, accumulated-≤-asked r n before)

-- Below 2^24 bytes the accumulator does not wrap.
pub edtla-accumulated : (r : Reading) (n : ℕ) (before : List Trb) → asked before < 2 ^ 24 → edtla r n before ≡ accumulated r n before
edtla-accumulated r n before h = omega (arith, accumulated-≤-asked r n before)

-- Where every Event Data TRB clears, what they find adds up to the bytes moved: none is lost and none told twice.
module _ (r : Reading) (every : (ioc : Bool) → r.clears ioc ≡ true) (n : ℕ) where
  accumulated-since : (before ts : List Trb) → accumulated_in_all r n before ts + min n (asked before) ≡ accumulated r n before + min n (asked before + asked ts)
  accumulated-since before [] = omega arith
  accumulated-since before (normal a p l ioc isp ∷ ts) = omega (arith, accumulated-since (normal a p l ioc isp ∷ before) ts)
  accumulated-since before (stage a ioc ∷ ts) = omega (arith, accumulated-since (stage a ioc ∷ before) ts)
  accumulated-since before (event_data a v ioc ∷ ts) = omega (arith, rw (every ioc) at (accumulated-since (event_data a v ioc ∷ before) ts))
  accumulated-since before (no_op a ioc ∷ ts) = omega (arith, accumulated-since (no_op a ioc ∷ before) ts)

  pub accumulated_in_all-min : (td : List Trb) → accumulated_in_all r n [] td ≡ min n (asked td)
  accumulated_in_all-min td = omega (arith, accumulated-since [] td)

-- ---- Deliveries

delivered_bytes-deliver_if : (m p s : ℕ) (ds : List Delivery) → delivered_bytes (deliver_if m (delivery p m s) ++ ds) ≡ m + delivered_bytes ds
delivered_bytes-deliver_if zero p s ds = omega arith
delivered_bytes-deliver_if (suc m) p s ds = refl

delivered-since : (n : ℕ) (before ts : List Trb) → delivered_bytes (deliveries_from n before ts) + min n (asked before) ≡ min n (asked before + asked ts)
delivered-since n before [] = omega arith
delivered-since n before (normal a p l ioc isp ∷ ts) =
    omega (
      arith,
      delivered-since n (normal a p l ioc isp ∷ before) ts,
      delivered_bytes-deliver_if (min l (n - asked before)) p (asked before) (deliveries_from n (normal a p l ioc isp ∷ before) ts),
    )
delivered-since n before (stage a ioc ∷ ts) = omega (arith, delivered-since n (stage a ioc ∷ before) ts)
delivered-since n before (event_data a v ioc ∷ ts) = omega (arith, delivered-since n (event_data a v ioc ∷ before) ts)
delivered-since n before (no_op a ioc ∷ ts) = omega (arith, delivered-since n (no_op a ioc ∷ before) ts)

-- The buffers get the bytes moved, each once.
pub delivered_bytes-min : (n : ℕ) (td : List Trb) → delivered_bytes (deliveries n td) ≡ min n (asked td)
delivered_bytes-min n td = omega (arith, delivered-since n [] td)
