-- Laws of the first records of a log. Assumes nothing.
use Prim.Native.Nat.{ℕ, zero, suc, min}
use mathlib.Core.Path.{◌≡◌, refl, ap}
use mathlib.Core.List.{List, [], ◌∷◌}
use native.Mathlib.Nat.{zero-min, min-zero, suc-min-suc}
use lib.ListN.{length, take}

-- as many elements as there are, at most n
pub take_min : (n : ℕ) (l : List ℕ) → take (min n (length l)) l ≡ take n l
take_min zero l = rw zero-min refl
take_min (suc n) [] = rw min-zero refl
take_min (suc n) (x ∷ xs) = rw suc-min-suc (ap (λ (l : List ℕ). x ∷ l) (take_min n xs))
