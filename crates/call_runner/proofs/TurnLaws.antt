-- Turns of a run, one behind the other. Assumes nothing.
use Prim.Native.Nat.{ℕ, ◌+◌, ◌<◌}
use mathlib.Core.Path.{◌≡◌, refl, sym, ap, ◌∙◌, subst}
use mathlib.Core.Bool.{Bool, true, false, true≢false}
use mathlib.Core.List.{List, [], ◌++◌, append-nil}
use native.Mathlib.Omega.{arith}
use lib.ListN.{length, take, drop, length-drop}
use lib.ListN.{take-append-drop}
use lib.Seq.{length-take-le, take-take, take-add, drop_at}
use Rattle.text.specs.declared.Text.{Text}
use Rattle.text.specs.Wrote.{HasRoom}
use Rattle.state_text.specs.Widths.{max_answer}
use Rattle.session_calls.specs.Answers.{State}
use Rattle.script_lines.specs.Lines.{counted}
use Rattle.script_lines.specs.Steps.{left, PieceRead, Refills, bytes_behind, refill_bytes}
use Rattle.std.specs.Prelude.{Option}
use Rattle.std.specs.Io.KnownBytes.{Appends, Consumes}
use Rattle.std.proofs.KnownBytes.{Appends-nil, Appends-trans, Consumes-nil, Consumes-trans}
use Rattle.script_lines.specs.declared.input.Input.{Input}
use Rattle.script_lines.specs.declared.Refilled.{Refilled}
use Rattle.script_lines.specs.declared.Refilled.TheVariants.{Piece, End, Unfinished}
use Rattle.script_run.specs.Runs.{Unfed, run_with}
use Rattle.script_pieces.specs.declared.Taken.{Taken}
use Rattle.script_pieces.specs.Pieces.{running, run_anew, TakesLines, waiting, read_with, behind_text, lines_more, Comes}
use Rattle.script_pieces.proofs.ComesLaws.{taken-reads, comes-start, comes-on, comes-to, comes-behind, comes-bad, comes-full, comes-piece, comes-end, comes-unfinished}
use Rattle.call_runner.specs.declared.Ahead.{Ahead}
use Rattle.call_runner.specs.declared.Progress.{Progress}
use Rattle.call_runner.specs.Turns.{started, ahead_of, waiting_in, ReadsOn, Turns, RunsInput}

-- ---- The bytes of a buffer

module _ (i : Input) where
  waiting-part : waiting_in i ≡ take (left i) (drop i.from i.bytes.now)
  waiting-part =
      let sum : i.filled ≡ i.from + left i = omega (arith, i.ordered) in
      ap (λ (m : ℕ). drop i.from (take m i.bytes.now)) sum
      ∙ (ap (drop i.from) (take-add i.from (left i) i.bytes.now) ∙ drop_at (take i.from i.bytes.now) (take (left i) (drop i.from i.bytes.now)) i.from (length-take-le i.from i.bytes.now (omega (arith, i.ordered, i.inside))))

  waiting_none : i.from ≡ i.filled → waiting_in i ≡ []
  waiting_none e = let none : left i ≡ 0 = omega arith in waiting-part ∙ ap (λ (m : ℕ). take m (drop i.from i.bytes.now)) none

  waiting-some : i.from < i.filled → 0 < length (waiting_in i)
  waiting-some e = rw (length-drop i.from (take i.filled i.bytes.now), length-take-le i.filled i.bytes.now i.inside) (omega arith)

  -- what was read stands behind them
  waiting-read : {i' : Input} → PieceRead i i' → waiting_in i' ≡ waiting_in i ++ bytes_behind (left i) i'
  waiting-read {i'} r =
      let all = take i'.filled i'.bytes.now in
      ap (λ (m : ℕ). drop m all) r.start
      ∙ (sym (take-append-drop (left i) all)
      ∙ ap (λ (front : List ℕ). front ++ drop (left i) all) (take-take (left i) i'.filled i'.bytes.now (omega (arith, r.more)) ∙ (r.front ∙ sym waiting-part)))

  module _ {good room : Bool} (g : good ≡ true) (m : room ≡ true) where
    pub reads_on : (e : Refilled) {i' : Input} {had has : Option (List ℕ)} → Refills e i i' → Consumes had has (refill_bytes e (left i) i')
        → ReadsOn good room i (ahead_of e) i' had has
    reads_on Piece {i'} r read = record {
      piece = bytes_behind (left i) i';
      read = read;
      comes = λ bytes p same unfed.
          subst (λ (x : List ℕ). Comes bytes p (waiting_in i) (bytes_behind (left i) i') true (lines_more p 0 true) x) (sym (waiting-read r))
          (comes-piece bytes p (waiting_in i) (same ∙ g) (unfed g m) (bytes_behind (left i) i'));
      going = λ e. refl;
    }
    reads_on End {i'} r read = record {
      piece = [];
      read = read;
      comes = λ bytes p same unfed. comes-end bytes p (waiting_in i) (same ∙ g) (unfed g m) (waiting_in i') (waiting_none r);
      going = λ e. refl;
    }
    reads_on Unfinished {i'} r read = record {
      piece = [];
      read = read;
      comes = λ bytes p same unfed. comes-unfinished bytes p (waiting_in i) (same ∙ g) (unfed g m) (waiting_in i') (waiting-some r);
      going = λ e. absurd (true≢false (sym e));
    }

  module _ (good room : Bool) where
    -- the run is not good any more
    pub reads_nothing : (had : Option (List ℕ)) → good ≡ false → ReadsOn good room i (record { lines = 0; good = false; more = false }) i had had
    reads_nothing had g = record {
      piece = [];
      read = Consumes-nil had;
      comes = λ bytes p same unfed. comes-bad bytes p (waiting_in i) (waiting_in i) (same ∙ g);
      going = λ e. absurd (true≢false (sym e));
    }

    -- the text had no room for all whole lines
    pub reads_later : (had : Option (List ℕ)) → good ≡ true → ReadsOn good room i (record { lines = 0; good = true; more = true }) i had had
    reads_later had g = record {
      piece = [];
      read = Consumes-nil had;
      comes = λ bytes p same unfed. comes-full bytes p (waiting_in i) (same ∙ g);
      going = λ e. refl;
    }

-- ---- A turn

module _ {bytes : List ℕ} {s : State} (i : Input) {j : Input} {r : Taken} {t : Text} {s' : State} {a : Ahead} {room : Bool} {i' : Input} {had has : Option (List ℕ)} where
  pub turn-comes : TakesLines bytes (take i.filled i.bytes.now) i.from s r t s' → waiting_in j ≡ waiting i.bytes.now r.next i.filled → (on : ReadsOn r.good room j a i' had has)
      → (room ≡ true → HasRoom max_answer t) → (n : ℕ) (w : List ℕ)
      → Comes bytes (running s n w) (waiting_in i) on.piece a.more (record { state = s'; lines = n + (r.lines + a.lines); text = w ++ take t.end t.bytes.now; good = a.good }) (waiting_in i')
  turn-comes k rest on roomy n w =
      let q = behind_text w (run_with s' (n + r.lines) t.bytes.now t.end r.good) in
      let sum : n + (r.lines + a.lines) ≡ n + r.lines + a.lines = omega arith in
      let reached = comes-behind (ap (read_with bytes q) rest ∙ taken-reads i.bytes.now i.filled k n w) (on.comes bytes q refl (λ g m. subst Unfed (sym rest) (k.stopped g (roomy m)))) in
      rw sum
      (subst
      (λ (v : List ℕ). Comes bytes (running s n v) (waiting_in i) on.piece a.more (lines_more q a.lines a.good) (waiting_in i'))
      (append-nil w)
      reached)

-- ---- Turns

-- where a turn is left there may be more

-- a run in the state s that has come to r, with the input i: of its lines and its text, those that were taken and printed, and the bytes that were read
pub record Reaches (bytes : List ℕ) (s : State) (r : Progress) (i : Input) (s' : State) (had has old new : Option (List ℕ)) : Type 0 where
  pub lines : ℕ
  pub text : List ℕ
  pub input : List ℕ
  pub read : Consumes had has input
  pub printed : Appends old new text
  pub comes : Comes bytes (run_anew s 0) [] input r.more (record { state = s'; lines = lines; text = text; good = r.good }) (waiting_in i)
  pub count : r.lines ≡ counted lines
  pub going : r.more ≡ true → r.good ≡ true

module _ {bytes : List ℕ} {s : State} where
  pub reaches-start : {i : Input} (had old : Option (List ℕ)) → i.from ≡ i.filled → Reaches bytes s started i s had had old old
  reaches-start {i} had old none = record {
    lines = 0;
    text = [];
    input = [];
    read = Consumes-nil had;
    printed = Appends-nil old;
    comes = subst (λ (x : List ℕ). Comes bytes (run_anew s 0) [] [] true (run_anew s 0) x) (sym (waiting_none i none)) (comes-start (run_anew s 0));
    count = refl;
    going = λ e. refl;
  }

  pub reaches-turn : {p r : Progress} {i i' : Input} {t : Text} {s' s'' : State} {had has has' old new new' : Option (List ℕ)} → Reaches bytes s p i s' had has old new
      → p.more ≡ true → Turns bytes s' i p r t i' s'' has has' new new' → Reaches bytes s r i' s'' had has' old new'
  reaches-turn {p} {r} {i} {i'} {t} {s'} {s''} {had} {has} {has'} {old} {new} {new'} k m turn =
      let n = k.lines in
      let w = k.text in
      record {
        lines = n + turn.taken;
        text = w ++ take t.end t.bytes.now;
        input = k.input ++ turn.piece;
        read = Consumes-trans had has has' k.input turn.piece k.read turn.read;
        printed = Appends-trans old new new' w (take t.end t.bytes.now) k.printed turn.printed;
        comes = comes-on k.comes m (ap (λ (g : Bool). record { state = s'; lines = n; text = w; good = g }) (k.going m)) (turn.comes n w);
        count = omega (arith, k.count, turn.lines);
        going = turn.going;
      }

  pub reaches_end : {r : Progress} {i : Input} {s' : State} {had has old new : Option (List ℕ)} → Reaches bytes s r i s' had has old new → RunsInput bytes s r s' had has old new
  reaches_end {r} {i} {s'} k = record {
    input = k.input;
    read = k.read;
    run = record { state = s'; lines = k.lines; text = k.text; good = r.good };
    printed = k.printed;
    ran = λ e. comes-to k.comes e;
    state = refl;
    lines = k.count;
    good = refl;
  }
