-- Lines taken one after the other: the lines taken, and behind them those that are left, come to what all of them come to. Assumes nothing.
use Prim.Native.Nat.{ℕ, ◌+◌, ◌-◌, ◌*◌, ◌^◌, ◌≤◌, ◌<◌}
use mathlib.Core.Path.{◌≡◌, refl, sym, ap, ◌∙◌}
use mathlib.Core.Bool.{Bool, true}
use mathlib.Core.List.{List, ◌∷◌}
use native.Mathlib.Omega.{arith}
use lib.ListN.{length, take, drop}
use Rattle.text.specs.declared.Text.{Text}
use Rattle.text.specs.Wrote.{HasRoom}
use Rattle.state_text.specs.Widths.{max_answer}
use Rattle.script_lines.specs.Lines.{first_line, LineEnd}
use Rattle.call_answer.specs.declared.Ran.{Ran}
use Rattle.session.specs.declared.Session.{Session}
use Rattle.session_calls.specs.Answers.{State}
use Rattle.session_calls.specs.Buffers.{SameBuffers}
use Rattle.session.specs.declared.LentBuffers.{LentBuffers}
use Rattle.script_run.specs.Runs.{Lines, Unfed, Run, run_with, take_line, take_lines, TakesLine}
use Rattle.script_pieces.specs.Pieces.{run_anew, lines_from, TakesLines}
use Rattle.script_pieces.specs.declared.Taken.{Taken}
use Rattle.script_pieces.proofs.LineLaws.{line-bytes, lines_next}

-- of the lines from index from on, those up to index next were taken
pub record Taking (bytes input : List ℕ) (from : ℕ) (s : State) (next lines : ℕ) (good : Bool) (t : Text) (s' : State) : Type 0 where
  pub run : (n : ℕ) → take_lines bytes (run_with s' (n + lines) t.bytes.now t.end good) (lines_from input next).whole ≡ take_lines bytes (run_anew s n) (lines_from input from).whole
  pub rest : (lines_from input next).rest ≡ (lines_from input from).rest
  pub inside : next ≤ length input
  pub few : lines ≤ next
  pub most : t.end ≤ lines * max_answer

take_lines-cons : (bytes : List ℕ) (p : Run) (l : List ℕ) (ls : List (List ℕ)) → take_lines bytes p (l ∷ ls) ≡ take_lines bytes (take_line bytes p l) ls
unfolding take_lines
take_lines-cons bytes p l ls = refl

module _ {bytes input : List ℕ} {from : ℕ} {s : State} where
  -- one line more
  pub taking-turn : {next lines stop : ℕ} {good : Bool} {t t' : Text} {s' s'' : State} {r : Ran Session} → Taking bytes input from s next lines good t s' → good ≡ true
      → LineEnd input next stop → stop < length input → TakesLine bytes (take (stop - next) (drop next input)) s' t r t' s''
      → Taking bytes input from s (stop + 1) (lines + 1) r.good t' s''
  taking-turn {next} {lines} {stop} {good} {t} {t'} {s'} {s''} {r} before g e h one =
      let k : Taking bytes input from s next lines true t s' = rw g at before in
      let split = lines_next input next stop e h in
      record {
        run = λ n.
            let count : n + (lines + 1) ≡ n + lines + 1 = omega arith in
            let left = (lines_from input (stop + 1)).whole in
            rw (count, one.taken (n + lines), line-bytes input next stop e)
            (sym (take_lines-cons bytes (run_with s' (n + lines) t.bytes.now t.end true) (first_line (drop next input)) left)
            ∙ (ap (λ (l : Lines). take_lines bytes (run_with s' (n + lines) t.bytes.now t.end true) l.whole) (sym split) ∙ k.run n));
        rest = ap (λ (l : Lines). l.rest) (sym split) ∙ k.rest;
        inside = omega (arith, h);
        few = omega (arith, k.few, e.start);
        most = omega (arith, k.most, one.within);
      }

  -- no further line is taken
  pub taken-all : {t : Text} {s' : State} {r : Taken} → Taking bytes input from s r.next r.lines r.good t s' → t.end ≤ length t.bytes.now
      → (r.good ≡ true → HasRoom max_answer t → Unfed (drop r.next input)) → TakesLines bytes input from s r t s'
  taken-all k within stopped = record { run = k.run; rest = k.rest; stopped = stopped; inside = k.inside; within = within; most = k.most }

-- the input's length is a number of 64 bits, there is room for an answer, and the text printed lies in its buffer
pub record Bounds (input₀ : List ℕ) (t : Text) : Type 0 where
  pub input : length input₀ < 2 ^ 64
  pub text : max_answer ≤ length t.bytes.now
  pub end : t.end ≤ length t.bytes.now

-- the text lies in the same buffer, of the same length, and the lent buffers are the same
pub record Kept (t₀ : Text) (b₀ : LentBuffers) (t : Text) (b : LentBuffers) : Type 0 where
  pub text : t.bytes.ghost_name ≡ t₀.bytes.ghost_name
  pub size : length t.bytes.now ≡ length t₀.bytes.now
  pub same : SameBuffers b₀ b
