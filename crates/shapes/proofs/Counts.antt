-- R-10: the counts, computed on the definition; the shapes of length 4. Assumes nothing.
use Prim.Native.Nat.{ℕ}
use mathlib.Core.Path.{◌≡◌, refl}
use mathlib.Core.Bool.{true}
use mathlib.Core.List.{[], ◌∷◌, map}
use lib.ListN.{length}
use Rattle.shapes.specs.Letters.{D, E, T, d, e, n, s, t}
use Rattle.shapes.specs.Lists.{precedes, more_data, data_stage, shapes, shapes_up_to}

pub counts : map (λ (m : ℕ). length (shapes m)) (2 ∷ 3 ∷ 4 ∷ 5 ∷ 6 ∷ 7 ∷ 8 ∷ 9 ∷ 10 ∷ 11 ∷ 12 ∷ []) ≡ 1 ∷ 3 ∷ 4 ∷ 8 ∷ 16 ∷ 32 ∷ 64 ∷ 128 ∷ 256 ∷ 512 ∷ 1024 ∷ []
unfolding more_data data_stage shapes
counts = refl

-- 02: length 4 alone is sDet, sDnt, sdTE, sdTe
pub length-four : shapes 4 ≡ (s ∷ D ∷ e ∷ t ∷ []) ∷ (s ∷ D ∷ n ∷ t ∷ []) ∷ (s ∷ d ∷ T ∷ E ∷ []) ∷ (s ∷ d ∷ T ∷ e ∷ []) ∷ []
unfolding more_data data_stage shapes
length-four = refl

-- 02: up to length 5 there are 16
pub up-to-five : length (shapes_up_to 5) ≡ 16
unfolding more_data data_stage shapes shapes_up_to
up-to-five = refl

-- 02: shorter shapes first; by byte value alone sTE would come before st
pub shorter-first : precedes (s ∷ t ∷ []) (s ∷ T ∷ E ∷ []) ≡ true
shorter-first = refl
