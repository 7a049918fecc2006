-- A test of every element of a list. Assumes nothing.
use Rattle.std.specs.Prelude.{Bool, true, ◌&&◌, List, [], ◌∷◌}

unfoldable pub all : {T : Type 0} → (T → Bool) → List T → Bool
all ok [] = true
all ok (t ∷ ts) = ok t && all ok ts
