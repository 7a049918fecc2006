-- The first line of an input, and the lines behind it. Assumes nothing.
use Prim.Native.Nat.{ℕ, suc, ◌+◌, ◌-◌, ◌≤◌, ◌<◌}
use mathlib.Core.Path.{◌≡◌, refl, ◌∙◌}
use mathlib.Core.Bool.{Bool, true, false, cond}
use mathlib.Core.List.{List, [], ◌∷◌}
use native.Mathlib.Omega.{arith}
use lib.Dec.{eqb}
use lib.ListN.{length, take, drop, length-drop}
use lib.Seq.{drop-drop}
use Rattle.script_lines.specs.Lines.{line_feed, first_line, LineEnd}
use Rattle.script_run.specs.Runs.{Lines, lines_of, Unfed}
use Rattle.script_run.proofs.PieceLaws.{with_byte, lines_of-cons, lines_of-none}
use Rattle.script_pieces.specs.Pieces.{lines_from}

-- a line, and behind it those of another input
abbrev line_then : List ℕ → Lines → Lines
line_then l more = record { whole = l ∷ more.whole; rest = more.rest }

-- the byte c in front of what has this first line
abbrev line_with : Bool → ℕ → List ℕ → List ℕ
line_with k c l = cond k [] (c ∷ l)

-- ---- A first line that a line feed ends

Splits : List ℕ → List ℕ → Type 0
Splits l xs = length l < length xs → lines_of xs ≡ line_then l (lines_of (drop (suc (length l)) xs))

byte-splits : (k : Bool) (c : ℕ) (cs l : List ℕ) → Splits l cs → length (line_with k c l) < suc (length cs)
    → with_byte k c (lines_of cs) ≡ line_then (line_with k c l) (lines_of (drop (suc (length (line_with k c l))) (c ∷ cs)))
unfolding Splits
byte-splits true c cs l ih h = refl
byte-splits false c cs l ih h = rw (ih (omega arith))

splits : (xs : List ℕ) → Splits (first_line xs) xs
unfolding Splits first_line
splits [] h = absurd (omega (arith, h))
splits (c ∷ cs) h = lines_of-cons c cs ∙ byte-splits (eqb c line_feed) c cs (first_line cs) (splits cs) h

-- ---- None

byte-unfed : (k : Bool) (c : ℕ) (cs l : List ℕ) → (length cs ≤ length l → Unfed cs) → suc (length cs) ≤ length (line_with k c l)
    → with_byte k c (lines_of cs) ≡ record { whole = []; rest = c ∷ cs }
byte-unfed true c cs l ih h = absurd (omega (arith, h))
byte-unfed false c cs l ih h = rw (ih (omega arith))

unfed : (xs : List ℕ) → length xs ≤ length (first_line xs) → Unfed xs
unfolding first_line
unfed [] h = lines_of-none
unfed (c ∷ cs) h = lines_of-cons c cs ∙ byte-unfed (eqb c line_feed) c cs (first_line cs) (unfed cs) h

-- ---- Its bytes

byte-take : (k : Bool) (c : ℕ) (cs l : List ℕ) → take (length l) cs ≡ l → take (length (line_with k c l)) (c ∷ cs) ≡ line_with k c l
byte-take true c cs l ih = refl
byte-take false c cs l ih = rw ih

take-first_line : (xs : List ℕ) → take (length (first_line xs)) xs ≡ first_line xs
unfolding first_line
take-first_line [] = refl
take-first_line (c ∷ cs) = byte-take (eqb c line_feed) c cs (first_line cs) (take-first_line cs)

-- ---- In an input, from an index on

module _ (input : List ℕ) (from stop : ℕ) (end : LineEnd input from stop) where
  -- the bytes up to the line's end are the line
  pub line-bytes : take (stop - from) (drop from input) ≡ first_line (drop from input)
  line-bytes =
      let size : stop - from ≡ length (first_line (drop from input)) = omega (arith, end.line) in rw size (take-first_line (drop from input))

  pub lines_next : stop < length input → lines_from input from ≡ line_then (first_line (drop from input)) (lines_from input (stop + 1))
  unfolding Splits
  lines_next h =
      let behind : from + suc (length (first_line (drop from input))) ≡ stop + 1 = omega (arith, end.line) in
      let short : length (first_line (drop from input)) < length (drop from input) = rw (length-drop from input) (omega (arith, end.line)) in
      rw (← behind, ← drop-drop (suc (length (first_line (drop from input)))) from input) (splits (drop from input) short)

  pub lines_none : length input ≤ stop → Unfed (drop from input)
  lines_none h = unfed (drop from input) (rw (length-drop from input) (omega (arith, end.line)))
