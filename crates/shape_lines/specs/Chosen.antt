-- The letters of a line that are chosen so far. Assumes nothing.
use Rattle.std.specs.Prelude.{ℕ, List, take, replicate}
use Rattle.shapes.specs.Lists.{max_shape}
use Rattle.shape_lines.specs.declared.Chosen.{Chosen}

-- none yet
abbrev pub no_letter : Chosen
no_letter = record { letters = replicate max_shape 0; size = 0 }

-- the letters themselves
abbrev pub letters_of : Chosen → List ℕ
letters_of c = take c.size c.letters
