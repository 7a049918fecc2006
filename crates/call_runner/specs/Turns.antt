-- docs/CALLS.md: the run of a script that is read piece by piece, from a reader and to a writer. Where a reader's bytes are not known, a piece is any list of bytes.
-- Assumes nothing.
use Rattle.std.specs.Prelude.{ℕ, ◌+◌, ◌≡◌, Bool, true, false, List, ◌++◌, take, Option}
use Rattle.std.specs.Io.KnownBytes.{Appends, Consumes}
use Rattle.session.specs.Sessions.{new_session}
use Rattle.session_calls.specs.Answers.{State}
use Rattle.text.specs.declared.Text.{Text}
use Rattle.script_lines.specs.Lines.{counted}
use Rattle.script_lines.specs.declared.input.Input.{Input}
use Rattle.script_lines.specs.declared.Refilled.{Refilled}
use Rattle.script_lines.specs.declared.Refilled.TheVariants.{Piece, End, Unfinished}
use Rattle.script_run.specs.Runs.{Unfed, Run, run_of}
use Rattle.script_pieces.specs.Pieces.{running, run_anew, waiting, lines_more, Comes}
use Rattle.call_runner.specs.declared.Ahead.{Ahead}
use Rattle.call_runner.specs.declared.Progress.{Progress}

abbrev pub started : Progress
started = record { session = new_session; lines = 0; good = true; more = true }

-- behind what was read: a piece, the end, or a line that no line feed ends or that is too long, which is bad
abbrev pub ahead_of : Refilled → Ahead
ahead_of Piece = record { lines = 0; good = true; more = true }
ahead_of End = record { lines = 0; good = true; more = false }
ahead_of Unfinished = record { lines = 1; good = false; more = false }

-- the bytes of an input that are read and not yet taken
abbrev pub waiting_in : Input → List ℕ
waiting_in i = waiting i.bytes.now i.from i.filled

-- of the input i, which became i': any run that has come so far, good or not, comes on, where without a whole line left whenever it is good and had room. The
-- piece that was read is what the reader lost of the bytes that it had
pub record ReadsOn (good room : Bool) (i : Input) (a : Ahead) (i' : Input) (had has : Option (List ℕ)) : Type 0 where
  pub piece : List ℕ
  pub read : Consumes had has piece
  pub comes : (bytes : List ℕ) (p : Run) → p.good ≡ good → (good ≡ true → room ≡ true → Unfed (waiting_in i))
      → Comes bytes p (waiting_in i) piece a.more (lines_more p a.lines a.good) (waiting_in i')
  pub going : a.more ≡ true → a.good ≡ true

-- a turn in the state s with the input i, from p to r: so many lines were taken, and the text t was printed. Whatever lines n and text w were
-- before, the run comes on. The reader lost the piece that was read, and the writer has the text that was printed
pub record Turns (bytes : List ℕ) (s : State) (i : Input) (p r : Progress) (t : Text) (i' : Input) (s' : State) (had has old new : Option (List ℕ)) : Type 0 where
  pub taken : ℕ
  pub piece : List ℕ
  pub read : Consumes had has piece
  pub printed : Appends old new (take t.end t.bytes.now)
  pub comes : (n : ℕ) (w : List ℕ) → Comes bytes (running s n w) (waiting_in i) piece r.more
      (record { state = s'; lines = n + taken; text = w ++ take t.end t.bytes.now; good = r.good }) (waiting_in i')
  pub lines : r.lines ≡ counted (p.lines + taken)
  pub going : r.more ≡ true → r.good ≡ true

-- of the bytes `input` that were read, which the reader lost: the run over them, its lines and whether it is good; its text is what was printed, which the
-- writer has
pub record RunsInput (bytes : List ℕ) (s : State) (r : Progress) (s' : State) (had has old new : Option (List ℕ)) : Type 0 where
  pub input : List ℕ
  pub read : Consumes had has input
  pub run : Run
  pub printed : Appends old new run.text
  pub ran : r.more ≡ false → run ≡ run_of bytes (run_anew s 0) input
  pub state : run.state ≡ s'
  pub lines : r.lines ≡ counted run.lines
  pub good : run.good ≡ r.good
