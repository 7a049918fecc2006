-- docs/CALLS.md: a script's run. One call to a line; a line that has no such form, is too long, or that no line feed ends, ends the run with `bad line N`,
-- N counted from 1, and nothing after it is read. Assumes nothing.
use Rattle.std.specs.Prelude.{ℕ, ◌+◌, ◌≤◌, ◌≡◌, Bool, true, false, cond, List, [], ◌∷◌, ◌++◌, eqb, leb, length, take, get_or, Option, None}
use Rattle.text.specs.declared.Text.{Text}
use Rattle.state_text.specs.Widths.{max_answer}
use Rattle.call_script.specs.Calls.{call_of}
use Rattle.call_script.specs.declared.Call.{Call}
use Rattle.script_lines.specs.Lines.{line_feed, max_line}
use Rattle.call_answer.specs.declared.Ran.{Ran}
use Rattle.session.specs.declared.Session.{Session}
use Rattle.session_calls.specs.Answers.{State, Answer, line_answer}

-- ---- Lines

-- the whole lines of an input, each without its line feed, and what stands behind the last one
pub record Lines : Type 0 where
  pub whole : List (List ℕ)
  pub rest : List ℕ

-- a byte that is no line feed stands in front of the first line, or of what no line feed ends
abbrev pub in_front : ℕ → List (List ℕ) → List ℕ → Lines
in_front c [] rest = record { whole = []; rest = c ∷ rest }
in_front c (l ∷ ls) rest = record { whole = (c ∷ l) ∷ ls; rest = rest }

unfoldable pub lines_of : List ℕ → Lines
lines_of [] = record { whole = []; rest = [] }
lines_of (c ∷ cs) =
    cond (eqb c line_feed) (record { whole = [] ∷ (lines_of cs).whole; rest = (lines_of cs).rest }) (in_front c (lines_of cs).whole (lines_of cs).rest)

-- no line feed stands in them
abbrev pub Unfed : List ℕ → Type 0
Unfed l = lines_of l ≡ record { whole = []; rest = l }

-- ---- The run

-- what a run has come to: the script's state, lines taken, the text printed, and whether every line was good
pub record Run : Type 0 where
  pub state : State
  pub lines : ℕ
  pub text : List ℕ
  pub good : Bool

-- the call of a line, if it asks for one
unfoldable pub line_call : List ℕ → Option Call
line_call l = cond (leb (length l) max_line) (call_of l) None

-- a run whose next line was answered so
abbrev pub going_on : Run → Answer → Run
going_on p o = record { state = o.state; lines = p.lines + 1; text = p.text ++ o.text; good = o.good }

-- with these bytes of the device's data; behind a bad line none is taken
unfoldable pub take_line : List ℕ → Run → List ℕ → Run
take_line bytes p l = cond p.good (going_on p (line_answer bytes p.state (line_call l))) p

unfoldable pub take_lines : List ℕ → Run → List (List ℕ) → Run
take_lines bytes p [] = p
take_lines bytes p (l ∷ ls) = take_lines bytes (take_line bytes p l) ls

-- a line that no line feed ends is bad
abbrev pub bad_line : Run → Run
bad_line p = cond p.good (record { state = p.state; lines = p.lines + 1; text = p.text; good = false }) p

unfoldable pub end_of : Run → List ℕ → Run
end_of p [] = p
end_of p (c ∷ cs) = bad_line p

-- the run over an input: its text, and where it is not good, `bad line N` with N the lines taken
unfoldable pub run_of : List ℕ → Run → List ℕ → Run
run_of bytes p input = end_of (take_lines bytes p (lines_of input).whole) (lines_of input).rest

-- ---- One line, in the code

-- a run that printed the first n bytes of the text t
abbrev pub run_with : State → ℕ → List ℕ → ℕ → Bool → Run
run_with s lines t n good = record { state = s; lines = lines; text = take n t; good = good }

-- a line l was taken in the state s, behind the text t: r was returned, the text became t', and the state s'
pub record TakesLine (bytes l : List ℕ) (s : State) (t : Text) (r : Ran Session) (t' : Text) (s' : State) : Type 0 where
  pub taken : (n : ℕ) → run_with s' (n + 1) t'.bytes.now t'.end r.good ≡ take_line bytes (run_with s n t.bytes.now t.end true) l
  pub behind : (k : ℕ) → t'.end ≤ k → get_or t'.bytes.now k 0 ≡ get_or t.bytes.now k 0
  pub within : t'.end ≤ t.end + max_answer
  pub size : length t'.bytes.now ≡ length t.bytes.now
  pub same : t'.bytes.ghost_name ≡ t.bytes.ghost_name

-- ---- The same by pieces

-- a run between two pieces of its input: the bytes of a line that is not yet ended are held
pub record Reading : Type 0 where
  pub run : Run
  pub held : List ℕ

-- the whole lines of what is held and the next piece are taken, and the rest is held
unfoldable pub take_piece : List ℕ → Reading → List ℕ → Reading
take_piece bytes r piece = record {
  run = take_lines bytes r.run (lines_of (r.held ++ piece)).whole;
  held = (lines_of (r.held ++ piece)).rest;
}

unfoldable pub take_pieces : List ℕ → Reading → List (List ℕ) → Reading
take_pieces bytes r [] = r
take_pieces bytes r (p ∷ ps) = take_pieces bytes (take_piece bytes r p) ps

-- the pieces one behind the other
unfoldable pub joined : List (List ℕ) → List ℕ
joined [] = []
joined (p ∷ ps) = p ++ joined ps
