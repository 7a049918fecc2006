-- docs/CALLS.md: a script's run, of which a part of the input is at hand: its whole lines are taken one after the other, as far as there is room for the text. Assumes nothing.
use Rattle.std.specs.Prelude.{ℕ, ◌+◌, ◌*◌, ◌≤◌, ◌≡◌, Bool, true, false, List, [], ◌++◌, length, take, drop}
use Rattle.text.specs.declared.Text.{Text}
use Rattle.text.specs.Wrote.{HasRoom}
use Rattle.state_text.specs.Widths.{max_answer}
use Rattle.session_calls.specs.Answers.{State}
use Rattle.script_run.specs.Runs.{Lines, lines_of, Unfed, Run, run_with, take_lines, end_of, Reading, take_piece}
use Rattle.script_pieces.specs.declared.Taken.{Taken}

-- a run of n lines that goes on, and has printed w
abbrev pub running : State → ℕ → List ℕ → Run
running s n w = record { state = s; lines = n; text = w; good = true }

-- its text starts anew
abbrev pub run_anew : State → ℕ → Run
run_anew s n = running s n []

-- the lines of an input from an index on
abbrev pub lines_from : List ℕ → ℕ → Lines
lines_from input i = lines_of (drop i input)

-- of the input from index from on, in the state s, lines were taken: r was returned, with the text t and the state s'
pub record TakesLines (bytes input : List ℕ) (from : ℕ) (s : State) (r : Taken) (t : Text) (s' : State) : Type 0 where
  -- what was taken, and behind it the lines that are left, come to what all of them come to
  pub run : (n : ℕ) → take_lines bytes (run_with s' (n + r.lines) t.bytes.now t.end r.good) (lines_from input r.next).whole ≡ take_lines bytes (run_anew s n) (lines_from input from).whole
  pub rest : (lines_from input r.next).rest ≡ (lines_from input from).rest
  -- where every line was good and there is room for an answer more, no whole line is left
  pub stopped : r.good ≡ true → HasRoom max_answer t → Unfed (drop r.next input)
  pub inside : r.next ≤ length input
  pub within : t.end ≤ length t.bytes.now
  -- a line's answer has at most so many characters
  pub most : t.end ≤ r.lines * max_answer

-- ---- By pieces

-- the bytes of a buffer that are filled and not yet taken
abbrev pub waiting : List ℕ → ℕ → ℕ → List ℕ
waiting l from filled = drop from (take filled l)

-- a run, and these bytes behind it
abbrev pub read_with : List ℕ → Run → List ℕ → Reading
read_with bytes p input = take_piece bytes (record { run = p; held = [] }) input

-- the input has ended here
abbrev pub ending : Reading → Run
ending r = end_of r.run r.held

-- a run that printed w before
abbrev pub behind_text : List ℕ → Run → Run
behind_text w p = record { state = p.state; lines = p.lines; text = w ++ p.text; good = p.good }

-- a run with so many lines more, good or bad
abbrev pub lines_more : Run → ℕ → Bool → Run
lines_more p n good = record { state = p.state; lines = p.lines + n; text = p.text; good = good }

-- from a run p, with the bytes input behind it, a further piece of input was read, of no byte or some: the run came to p', which goes on with the bytes input', or has ended
pub record Comes (bytes : List ℕ) (p : Run) (input piece : List ℕ) (more : Bool) (p' : Run) (input' : List ℕ) : Type 0 where
  pub goes_on : more ≡ true → read_with bytes p' input' ≡ take_piece bytes (read_with bytes p input) piece
  pub ended : more ≡ false → p' ≡ ending (take_piece bytes (read_with bytes p input) piece)
