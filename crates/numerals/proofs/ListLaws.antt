-- Laws of the parts of a list that the code takes. Assumes nothing.
use Prim.Native.Nat.{ℕ, ◌+◌, ◌-◌, ◌<◌}
use mathlib.Core.Path.{◌≡◌, ap, ◌∙◌, sym}
use mathlib.Core.List.{List, ◌∷◌}
use native.Mathlib.Numerals.{add-one}
use lib.ListN.{length, take, drop, get_or, length-drop}
use lib.Seq.{drop-cons, take-length}

-- what stands from index i on
pub drop-next : (l : List ℕ) (i : ℕ) → i < length l → drop i l ≡ get_or l i 0 ∷ drop (i + 1) l
drop-next l i h = rw add-one (drop-cons l i 0 h)

-- a part that ends where the list does
pub take_rest : (l : List ℕ) (i : ℕ) → take (length l - i) (drop i l) ≡ drop i l
take_rest l i = ap (λ (k : ℕ). take k (drop i l)) (sym (length-drop i l)) ∙ take-length (drop i l)
