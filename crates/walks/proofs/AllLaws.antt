-- A test of every element: the library's word for it, and one element more.
-- Assumes nothing.
use mathlib.Core.Path.{◌≡◌, refl, sym, ap, ◌∙◌}
use mathlib.Core.Bool.{Bool, ◌&&◌, and-true, and_assoc}
use mathlib.Core.List.{List, [], ◌∷◌, ◌++◌}
use Rattle.std.specs.List.{list_all}
use Rattle.walks.specs.All.{all}

module _ {T : Type 0} (ok : T → Bool) where
  -- the library's word for the same
  pub list_all-all : (ts : List T) → list_all ok ts ≡ all ok ts
  unfolding all
  list_all-all [] = refl
  list_all-all (t ∷ ts) = ap (λ (b : Bool). ok t && b) (list_all-all ts)

  pub all-more : (ts : List T) (t : T) → all ok (ts ++ (t ∷ [])) ≡ (all ok ts && ok t)
  unfolding all
  all-more [] t = and-true (ok t)
  all-more (x ∷ xs) t = ap (λ (b : Bool). ok x && b) (all-more xs t) ∙ sym (and_assoc (ok x) (all ok xs) (ok t))
