-- Laws of questions asked in their order. Assumes nothing.
use Prim.Native.Nat.{ℕ, suc}
use mathlib.Core.Bool.{Bool, true, false, false≢true}
use mathlib.Core.List.{List, [], ◌∷◌, ◌++◌}
use mathlib.Core.Path.{◌≡◌, refl, sym}
use native.Mathlib.Omega.{arith}
use lib.Dec.{eqb}
use Rattle.trb.specs.Questions.{first_no}

-- where every answer is yes, so is the first, and so are those behind it
module _ (answer : Bool) (n : ℕ) (qs : List (Bool × ℕ)) (none : first_no ((answer, suc n) ∷ qs) ≡ 0) where
  pub yes-first : answer ≡ true
  unfolding first_no
  yes-first = by_answer answer none
    where
      by_answer : (a : Bool) → first_no ((a, suc n) ∷ qs) ≡ 0 → a ≡ true
      by_answer true e = refl
      by_answer false e = absurd (omega arith)

  pub yes-behind : first_no qs ≡ 0
  unfolding first_no
  yes-behind = by_answer answer none
    where
      by_answer : (a : Bool) → first_no ((a, suc n) ∷ qs) ≡ 0 → first_no qs ≡ 0
      by_answer true e = e
      by_answer false e = absurd (omega arith)

-- questions behind a no are not asked
pub first_no-longer : (qs rs : List (Bool × ℕ)) → eqb (first_no qs) 0 ≡ false → first_no (qs ++ rs) ≡ first_no qs
unfolding first_no
first_no-longer [] rs h = absurd (false≢true (sym h))
first_no-longer ((true, n) ∷ qs) rs h = first_no-longer qs rs h
first_no-longer ((false, n) ∷ qs) rs h = refl
