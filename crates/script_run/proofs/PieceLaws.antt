-- A run by pieces is the run over the whole input, whatever the pieces. Assumes nothing.
use Prim.Native.Nat.{ℕ}
use mathlib.Core.Path.{◌≡◌, refl, sym, ap, ◌∙◌}
use mathlib.Core.Bool.{Bool, true, false, cond}
use mathlib.Core.List.{List, [], ◌∷◌, ◌++◌, append_assoc, append-nil}
use lib.Dec.{eqb}
use Rattle.script_lines.specs.Lines.{line_feed}
use Rattle.script_run.specs.Runs.{Lines, in_front, lines_of, Unfed, Run, take_line, take_lines, end_of, run_of, Reading, take_piece, take_pieces, joined}

-- lines, and behind them those of another input
abbrev lines_then : Lines → Lines → Lines
lines_then a b = record { whole = a.whole ++ b.whole; rest = b.rest }

-- what the byte c in front of lines makes of them
abbrev pub with_byte : Bool → ℕ → Lines → Lines
with_byte k c l = cond k (record { whole = [] ∷ l.whole; rest = l.rest }) (in_front c l.whole l.rest)

pub lines_of-cons : (c : ℕ) (cs : List ℕ) → lines_of (c ∷ cs) ≡ with_byte (eqb c line_feed) c (lines_of cs)
unfolding lines_of
lines_of-cons c cs = refl

pub lines_of-none : lines_of [] ≡ record { whole = []; rest = [] }
unfolding lines_of
lines_of-none = refl

-- a byte in front of lines that are followed by those of another input
front-then : (c : ℕ) (w : List (List ℕ)) (r : List ℕ) (more : List ℕ → Lines) → more (c ∷ r) ≡ with_byte false c (more r)
    → with_byte false c (lines_then (record { whole = w; rest = r }) (more r)) ≡ lines_then (in_front c w r) (more (in_front c w r).rest)
front-then c [] r more e = sym e
front-then c (l ∷ ls) r more e = refl

byte-then : (k : Bool) (c : ℕ) (l : Lines) (more : List ℕ → Lines) → (k ≡ false → more (c ∷ l.rest) ≡ with_byte false c (more l.rest))
    → with_byte k c (lines_then l (more l.rest)) ≡ lines_then (with_byte k c l) (more (with_byte k c l).rest)
byte-then true c l more e = refl
byte-then false c l more e = front-then c l.whole l.rest more (e refl)

-- the lines of one input behind another: what stands behind the last line feed of the first goes on in the second
pub lines_of-append : (xs ys : List ℕ) → lines_of (xs ++ ys) ≡ lines_then (lines_of xs) (lines_of ((lines_of xs).rest ++ ys))
lines_of-append [] ys = rw lines_of-none refl
lines_of-append (c ∷ cs) ys =
    lines_of-cons c (cs ++ ys)
    ∙ (ap (λ (l : Lines). with_byte (eqb c line_feed) c l) (lines_of-append cs ys)
    ∙ (byte-then (eqb c line_feed) c (lines_of cs) (λ (r : List ℕ). lines_of (r ++ ys)) (λ k. lines_of-cons c ((lines_of cs).rest ++ ys) ∙ ap (λ (b : Bool). with_byte b c (lines_of ((lines_of cs).rest ++ ys))) k)
    ∙ ap (λ (l : Lines). lines_then l (lines_of (l.rest ++ ys))) (sym (lines_of-cons c cs))))

-- ---- Bytes that no line feed ends

front-unfed : (c : ℕ) (w : List (List ℕ)) (r : List ℕ) → eqb c line_feed ≡ false → Unfed r → Unfed (in_front c w r).rest
front-unfed c [] r k e = lines_of-cons c r ∙ rw (k, e)
front-unfed c (l ∷ ls) r k e = e

byte-unfed : (k : Bool) (c : ℕ) (l : Lines) → eqb c line_feed ≡ k → Unfed l.rest → Unfed (with_byte k c l).rest
byte-unfed true c l k e = e
byte-unfed false c l k e = front-unfed c l.whole l.rest k e

pub rest-unfed : (xs : List ℕ) → Unfed (lines_of xs).rest
rest-unfed [] = rw lines_of-none lines_of-none
rest-unfed (c ∷ cs) = rw (lines_of-cons c cs) (byte-unfed (eqb c line_feed) c (lines_of cs) refl (rest-unfed cs))

-- ---- The run

pub take_lines-append : (bytes : List ℕ) (p : Run) (ls ms : List (List ℕ)) → take_lines bytes p (ls ++ ms) ≡ take_lines bytes (take_lines bytes p ls) ms
unfolding take_lines
take_lines-append bytes p [] ms = refl
take_lines-append bytes p (l ∷ ls) ms = take_lines-append bytes (take_line bytes p l) ls ms

module _ (bytes : List ℕ) where
  -- nothing more changes nothing
  pub piece-none : (r : Reading) → Unfed r.held → take_piece bytes r [] ≡ r
  unfolding take_piece take_lines
  piece-none r e = rw (append-nil r.held, e)

  -- one piece behind another is both at once
  pub piece-append : (r : Reading) (xs ys : List ℕ) → take_piece bytes (take_piece bytes r xs) ys ≡ take_piece bytes r (xs ++ ys)
  unfolding take_piece
  piece-append r xs ys =
      let both : lines_of (r.held ++ (xs ++ ys)) ≡ lines_then (lines_of (r.held ++ xs)) (lines_of ((lines_of (r.held ++ xs)).rest ++ ys)) =
      ap lines_of (sym (append_assoc r.held xs ys)) ∙ lines_of-append (r.held ++ xs) ys in
      rw (both, take_lines-append bytes r.run (lines_of (r.held ++ xs)).whole (lines_of ((lines_of (r.held ++ xs)).rest ++ ys)).whole)

  pub pieces-joined : (r : Reading) (ps : List (List ℕ)) → Unfed r.held → take_pieces bytes r ps ≡ take_piece bytes r (joined ps)
  unfolding take_pieces joined take_piece lines_of
  pieces-joined r [] e = sym (piece-none r e)
  pieces-joined r (p ∷ ps) e = pieces-joined (take_piece bytes r p) ps (rest-unfed (r.held ++ p)) ∙ piece-append r p (joined ps)

  -- the run over the whole input, whatever the pieces
  pub run-by-pieces : (p : Run) (ps : List (List ℕ))
      → end_of (take_pieces bytes (record { run = p; held = [] }) ps).run (take_pieces bytes (record { run = p; held = [] }) ps).held ≡ run_of bytes p (joined ps)
  unfolding run_of take_piece
  run-by-pieces p ps = rw (pieces-joined (record { run = p; held = [] }) ps lines_of-none)
