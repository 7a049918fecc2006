-- The lines of an input, and the bytes of an unfinished one. Assumes nothing.
use Rattle.std.specs.Prelude.{ℕ, ◌+◌, ◌-◌, ◌^◌, ◌≤◌, min, ◌≡◌, cond, List, [], ◌∷◌, ◌++◌, eqb, leb, length, take, drop, codes, decimal, Option, Some, None}
use Rattle.std.specs.Io.KnownBytes.{Appends}
use Rattle.text.specs.declared.Text.{Text}
use Rattle.text.specs.Wrote.{HasRoom}
use Rattle.numerals.specs.Widths.{hex_places}
use Rattle.call_number.specs.RawBytes.{raw_places}

-- characters of the longest line that can be good: `u`, an address and a raw TRB, and the spaces between them
abbrev pub max_line : ℕ
max_line = 3 + hex_places + raw_places

abbrev pub line_feed : ℕ
line_feed = 10

-- the bytes up to the first line feed; where there is none, all
unfoldable pub first_line : List ℕ → List ℕ
first_line [] = []
first_line (c ∷ cs) = cond (eqb c line_feed) [] (c ∷ first_line cs)

-- r is the index behind the line that starts at index from
pub record LineEnd (l : List ℕ) (from r : ℕ) : Type 0 where
  pub start : from ≤ r
  pub inside : r ≤ length l
  pub line : r ≡ from + length (first_line (drop from l))

-- a number of lines, or where 64 bits do not hold it, their largest number
abbrev pub counted : ℕ → ℕ
counted n = min n (2 ^ 64 - 1)

-- behind the text t, an answer of at most so many characters starts where t' ends: behind it, or anew where there may be no room
pub record MakesRoom (most : ℕ) (t t' : Text) : Type 0 where
  pub start : t'.end ≡ cond (leb t.end (length t.bytes.now - most)) t.end 0
  pub room : HasRoom most t'

-- of the text t, which was not yet written out, t' is left: what stood before it was added to what was written
pub record KeepsText (t t' : Text) (old new : Option (List ℕ)) : Type 0 where
  pub written : List ℕ
  pub appends : Appends old new written
  pub left : written ++ take t'.end t'.bytes.now ≡ take t.end t.bytes.now

-- what is written behind a run: where it ended at a bad line, `bad line` and its number
abbrev pub bad_line_text : Option ℕ → List ℕ
bad_line_text (Some number) = codes "bad line " ++ decimal number ++ (line_feed ∷ [])
bad_line_text None = []
