-- Text as documents show it, as the bytes that a program prints. Assumes nothing.
use Prim.Native.Char.{code}
use Rattle.std.specs.Prelude.{ℕ, List, [] as []ᴸ, ◌∷◌ as ◌∷ᴸ◌}
use Prim.Native.String.{String, [], ◌∷◌}
use Rattle.log_text.specs.Lines.{line_feed}

-- a line, and the text behind it
unfoldable pub line : String → List ℕ → List ℕ
line [] behind = line_feed ∷ᴸ behind
line (c ∷ cs) behind = code c ∷ᴸ line cs behind

-- lines, one below the other
unfoldable pub lines : List String → List ℕ
lines []ᴸ = []ᴸ
lines (l ∷ᴸ ls) = line l (lines ls)
