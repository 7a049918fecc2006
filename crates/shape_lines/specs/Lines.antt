-- 02, R-10: the shapes as text, one to a line, in a lent buffer. Assumes nothing.
use Rattle.std.specs.Prelude.{ℕ, ◌≡◌, List, [], ◌∷◌, ◌++◌, map, length}
use Rattle.text.specs.declared.Text.{Text}
use Rattle.text.specs.Wrote.{HasRoom, Wrote}
use Rattle.log_text.specs.Lines.{line_feed}
use Rattle.shapes.specs.Letters.{Word, byte_of}
use Rattle.shapes.specs.Lists.{shapes_up_to}

-- a line for each word: the letters p that stand before it, its own, a line feed
abbrev pub lines : List ℕ → List Word → List ℕ
lines p [] = []
lines p (w ∷ ws) = (p ++ (map byte_of w ++ (line_feed ∷ []))) ++ lines p ws

-- 02: shorter shapes first, then by byte value, one to a line
abbrev pub shapes_text : ℕ → List ℕ
shapes_text m = lines [] (shapes_up_to m)

-- the bytes of the longest text, which is that of all shapes
abbrev pub max_text : ℕ
max_text = 24579

-- the text t became t'; where its buffer has room for the bytes, they were written
pub record Laid (bytes : List ℕ) (t t' : Text) : Type 0 where
  pub same : t'.bytes.ghost_name ≡ t.bytes.ghost_name
  pub size : length t'.bytes.now ≡ length t.bytes.now
  pub wrote : HasRoom (length bytes) t → Wrote (length bytes) t bytes t'
