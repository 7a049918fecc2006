-- What a run comes to by pieces. Assumes nothing.
use Prim.Native.Nat.{ℕ, ◌+◌, ◌<◌}
use mathlib.Core.Path.{◌≡◌, refl, sym, ap, ◌∙◌}
use mathlib.Core.Bool.{Bool, true, false, cond, true≢false}
use mathlib.Core.List.{List, [], ◌∷◌, ◌++◌, append_assoc}
use native.Mathlib.Omega.{arith}
use lib.ListN.{length, take}
use Rattle.text.specs.declared.Text.{Text}
use Rattle.session_calls.specs.Answers.{State, Answer, line_answer}
use Rattle.script_run.specs.Runs.{lines_of, Unfed, Run, run_with, line_call, going_on, take_line, take_lines, end_of, run_of, Reading, take_piece}
use Rattle.script_run.proofs.PieceLaws.{rest-unfed, piece-none, piece-append}
use Rattle.script_pieces.specs.declared.Taken.{Taken}
use Rattle.script_pieces.specs.Pieces.{run_anew, lines_from, TakesLines, waiting, read_with, ending, behind_text, lines_more, Comes}

-- ---- The text before

going-behind : (w : List ℕ) (g : Bool) (p : Run) (o : Answer) → cond g (going_on (behind_text w p) o) (behind_text w p) ≡ behind_text w (cond g (going_on p o) p)
going-behind w true p o = rw (append_assoc w p.text o.text)
going-behind w false p o = refl

take_line-behind : (bytes w : List ℕ) (p : Run) (l : List ℕ) → take_line bytes (behind_text w p) l ≡ behind_text w (take_line bytes p l)
unfolding take_line
take_line-behind bytes w p l = going-behind w p.good p (line_answer bytes p.state (line_call l))

-- what was printed before changes nothing
take_lines-behind : (bytes w : List ℕ) (p : Run) (ls : List (List ℕ)) → take_lines bytes (behind_text w p) ls ≡ behind_text w (take_lines bytes p ls)
unfolding take_lines
take_lines-behind bytes w p [] = refl
take_lines-behind bytes w p (l ∷ ls) = rw (take_line-behind bytes w p l) (take_lines-behind bytes w (take_line bytes p l) ls)

-- ---- A run that is not good any more

bad-stays : (g : Bool) (p : Run) (o : Answer) → g ≡ false → cond g (going_on p o) p ≡ p
bad-stays g p o e = rw e

take_lines-bad : (bytes : List ℕ) (p : Run) (ls : List (List ℕ)) → p.good ≡ false → take_lines bytes p ls ≡ p
unfolding take_lines take_line
take_lines-bad bytes p [] e = refl
take_lines-bad bytes p (l ∷ ls) e =
    ap (λ (q : Run). take_lines bytes q ls) (bad-stays p.good p (line_answer bytes p.state (line_call l)) e) ∙ take_lines-bad bytes p ls e

end_of-bad : (p : Run) (rest : List ℕ) → p.good ≡ false → end_of p rest ≡ p
unfolding end_of
end_of-bad p [] e = refl
end_of-bad p (c ∷ cs) e = rw e

-- ---- Bytes in which no line is whole

module _ (bytes : List ℕ) (p : Run) where
  read_with-bad : (input : List ℕ) → p.good ≡ false → (read_with bytes p input).run ≡ p
  unfolding take_piece
  read_with-bad input e = take_lines-bad bytes p (lines_of input).whole e

  read_with-unfed : (input : List ℕ) → Unfed input → read_with bytes p input ≡ record { run = p; held = input }
  unfolding take_piece take_lines
  read_with-unfed input e = rw e

  read_with-rest : (input : List ℕ) → Unfed (read_with bytes p input).held
  unfolding take_piece
  read_with-rest input = rest-unfed input

-- ---- How a run comes on

module _ {bytes : List ℕ} where
  -- lines were taken: what is left behind them comes to what there was
  pub taken-reads : (l : List ℕ) (filled : ℕ) {from : ℕ} {s : State} {r : Taken} {t : Text} {s' : State} → TakesLines bytes (take filled l) from s r t s' → (n : ℕ) (w : List ℕ)
      → read_with bytes (behind_text w (run_with s' (n + r.lines) t.bytes.now t.end r.good)) (waiting l r.next filled) ≡ read_with bytes (behind_text w (run_anew s n)) (waiting l from filled)
  unfolding take_piece
  taken-reads l filled {from} {s} {r} {t} {s'} k n w =
      let lines : take_lines bytes (behind_text w (run_with s' (n + r.lines) t.bytes.now t.end r.good)) (lines_from (take filled l) r.next).whole
      ≡ take_lines bytes (behind_text w (run_anew s n)) (lines_from (take filled l) from).whole =
      take_lines-behind bytes w (run_with s' (n + r.lines) t.bytes.now t.end r.good) (lines_from (take filled l) r.next).whole
      ∙ (ap (behind_text w) (k.run n) ∙ sym (take_lines-behind bytes w (run_anew s n) (lines_from (take filled l) from).whole)) in
      rw (lines, k.rest)

  -- nothing has happened yet
  pub comes-start : (p : Run) → Comes bytes p [] [] true p []
  comes-start p = record { goes_on = λ _. sym (piece-none bytes (read_with bytes p []) (read_with-rest bytes p [])); ended = λ e. absurd (true≢false e) }

  -- two turns one behind the other
  pub comes-on : {p q q' r : Run} {input x between y left : List ℕ} {going more : Bool} → Comes bytes p input x going q between → going ≡ true → q ≡ q'
      → Comes bytes q' between y more r left → Comes bytes p input (x ++ y) more r left
  comes-on {p} {q} {q'} {r} {input} {x} {between} {y} {left} {going} {more} first g same second =
      let reached : read_with bytes q' between ≡ take_piece bytes (read_with bytes p input) x =
      ap (λ (z : Run). read_with bytes z between) (sym same) ∙ first.goes_on g in
      let both : take_piece bytes (read_with bytes q' between) y ≡ take_piece bytes (read_with bytes p input) (x ++ y) =
      ap (λ (z : Reading). take_piece bytes z y) reached ∙ piece-append bytes (read_with bytes p input) x y in
      record { goes_on = λ e. second.goes_on e ∙ both; ended = λ e. second.ended e ∙ ap ending both }

  -- from the start of a run on: what it comes to at its end is the run over all that was read
  pub comes-to : {p r : Run} {piece left : List ℕ} {more : Bool} → Comes bytes p [] piece more r left → more ≡ false → r ≡ run_of bytes p piece
  unfolding run_of take_piece lines_of
  comes-to {p} {r} {piece} k e = k.ended e ∙ ap ending (piece-append bytes (record { run = p; held = [] }) [] piece)

  -- lines were taken in between
  pub comes-behind : {p q r : Run} {input between piece left : List ℕ} {more : Bool} → read_with bytes q between ≡ read_with bytes p input → Comes bytes q between piece more r left
      → Comes bytes p input piece more r left
  comes-behind e k = record { goes_on = λ m. k.goes_on m ∙ rw e; ended = λ m. k.ended m ∙ rw e }

-- ---- What is read

module _ (bytes : List ℕ) (p : Run) (input : List ℕ) where
  none_read : take_piece bytes (read_with bytes p input) [] ≡ read_with bytes p input
  none_read = piece-none bytes (read_with bytes p input) (read_with-rest bytes p input)

  no-line-more : p.lines + 0 ≡ p.lines
  no-line-more = omega arith

  -- behind a bad line nothing is read
  pub comes-bad : (left : List ℕ) → p.good ≡ false → Comes bytes p input [] false (lines_more p 0 false) left
  comes-bad left bad = record {
    goes_on = λ e. absurd (true≢false (sym e));
    ended = λ _. rw (none_read, read_with-bad bytes p input bad, end_of-bad p (read_with bytes p input).held bad, no-line-more) (ap (λ (g : Bool). record { state = p.state; lines = p.lines; text = p.text; good = g }) (sym bad));
  }

  -- no room for a further answer: the lines that are left are taken in the next turn
  pub comes-full : p.good ≡ true → Comes bytes p input [] true (lines_more p 0 true) input
  comes-full good = record {
    goes_on = λ _. rw (none_read, no-line-more) (ap (λ (g : Bool). read_with bytes (record { state = p.state; lines = p.lines; text = p.text; good = g }) input) (sym good));
    ended = λ e. absurd (true≢false e);
  }

  module _ (good : p.good ≡ true) (unfed : Unfed input) where
    whole : read_with bytes p input ≡ record { run = p; held = input }
    whole = read_with-unfed bytes p input unfed

    pub comes-piece : (piece : List ℕ) → Comes bytes p input piece true (lines_more p 0 true) (input ++ piece)
    comes-piece more = record {
      goes_on = λ _. rw (no-line-more, piece-append bytes (record { run = p; held = [] }) input more) (ap (λ (g : Bool). read_with bytes (record { state = p.state; lines = p.lines; text = p.text; good = g }) (input ++ more)) (sym good));
      ended = λ e. absurd (true≢false e);
    }

    pub comes-end : (left : List ℕ) → input ≡ [] → Comes bytes p input [] false (lines_more p 0 true) left
    unfolding end_of
    comes-end left e = record {
      goes_on = λ e. absurd (true≢false (sym e));
      ended = λ _. rw (none_read, whole, e, no-line-more) (ap (λ (g : Bool). record { state = p.state; lines = p.lines; text = p.text; good = g }) (sym good));
    }

    -- a line that is too long, or that no line feed ends
    pub comes-unfinished : (left : List ℕ) → 0 < length input → Comes bytes p input [] false (lines_more p 1 false) left
    unfolding end_of
    comes-unfinished left h = record { goes_on = λ e. absurd (true≢false (sym e)); ended = λ _. rw (none_read, whole) (sym (unfinished input h)) }
      where
        unfinished : (l : List ℕ) → 0 < length l → end_of p l ≡ lines_more p 1 false
        unfinished [] h = absurd (omega (arith, h))
        unfinished (c ∷ cs) h = rw good
