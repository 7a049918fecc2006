-- The front and the rest of a list, as many as there are. Assumes nothing.
use Prim.Native.Nat.{ℕ, min}
use mathlib.Core.Bool.{Bool, true, false}
use mathlib.Core.Path.{◌≡◌, refl, sym, ap, ◌∙◌}
use mathlib.Core.List.{List}
use native.Mathlib.Omega.{arith}
use lib.Dec.{leb}
use lib.ListN.{length, take, drop, drop_of_length-le}
use lib.Seq.{take_all}
use borrow.Author.Tests.{leb-true, leb-false}

module _ {A : Type 0} (xs : List A) (n m : ℕ) (h : m ≡ min n (length xs)) where
  pub take-least : take m xs ≡ take n xs
  take-least = by (leb n (length xs)) refl
    where
      by : (b : Bool) → leb n (length xs) ≡ b → take m xs ≡ take n xs
      by true few = let same : m ≡ n = omega (arith, leb-true n (length xs) few) in ap (λ (k : ℕ). take k xs) same
      by false many = let all = leb-false n (length xs) many in take_all m xs (omega arith) ∙ sym (take_all n xs (omega arith))

  pub drop-least : drop m xs ≡ drop n xs
  drop-least = by (leb n (length xs)) refl
    where
      by : (b : Bool) → leb n (length xs) ≡ b → drop m xs ≡ drop n xs
      by true few = let same : m ≡ n = omega (arith, leb-true n (length xs) few) in ap (λ (k : ℕ). drop k xs) same
      by false many =
          let all = leb-false n (length xs) many in drop_of_length-le xs {i = m} (omega arith) ∙ sym (drop_of_length-le xs {i = n} (omega arith))
