-- Laws of lent buffers. Assumes nothing.
use Prim.Native.Nat.{ℕ, zero, suc, ◌≤◌, min}
use mathlib.Core.Path.{◌≡◌, refl, ap}
use mathlib.Core.List.{List, [], ◌∷◌, ◌++◌}
use native.Mathlib.Nat.{zero-min, min-zero, suc-min-suc}
use native.Mathlib.Omega.{arith}
use lib.ListN.{length, take, drop, length-take}
use Rattle.call_text.proofs.RecordLaws.{take_min}
use Rattle.guest_memory.specs.Places.{Memory, memory_of}
use Rattle.call_answer.specs.Called.{Called}
use Rattle.lent_calls.specs.declared.Lent.{Lent}
use Rattle.lent_calls.specs.Lent.{Leaves}

drop_min : (n : ℕ) (l : List ℕ) → drop (min n (length l)) l ≡ drop n l
drop_min zero l = rw zero-min refl
drop_min (suc n) [] = rw min-zero refl
drop_min (suc n) (x ∷ xs) = rw suc-min-suc (drop_min n xs)

module _ {k : ℕ} (n : ℕ) (l : List ℕ) (e : k ≡ min n (length l)) where
  -- as much as there is
  pub take-least : take k l ≡ take n l
  take-least = rw e (take_min n l)

  pub drop-least : drop k l ≡ drop n l
  drop-least = rw e (drop_min n l)

  pub length-least : k ≡ length (take k l)
  length-least = rw (length-take k l) (omega arith)

  pub least-within : {m : ℕ} → length l ≤ m → length (take k l) ≤ m
  least-within h = rw (length-take k l) (omega arith)

-- a call whose log and regions were lent, as far as there is so much
module _ {B : Type 0} (o : Called B) (l : Lent) (log low high : List ℕ) {a b c : ℕ} {log' low' high' : List ℕ}
    (la : a ≡ min l.log (length log)) (lb : b ≡ min l.window.low.len (length low)) (lc : c ≡ min l.window.high.len (length high)) where
  pub leaves : log' ≡ o.log → memory_of l.window.low.start_addr low' l.window.high.start_addr high' ≡ o.memory
      → Leaves o l log (log' ++ drop a log) low (low' ++ drop b low) high (high' ++ drop c high)
  leaves e m = record {
    log = rw (e, drop-least l.log log la);
    low = rw (drop-least l.window.low.len low lb) (ap (λ (x : Memory). x.low ++ drop l.window.low.len low) m);
    high = rw (drop-least l.window.high.len high lc) (ap (λ (x : Memory). x.high ++ drop l.window.high.len high) m);
  }
