-- `script_pieces::take_lines` meets its contract. The loop's invariant: the lines taken, and behind them those that are left, come to what all of them
-- come to. The measure is the number of bytes left. Assumes nothing.
use mathlib.Core.Path.{sym, ◌∙◌}
use mathlib.Core.Bool.{true≢false}
use native.Mathlib.Omega.{arith}
use Rattle.session_calls.proofs.BufferLaws.{same_on}
use Rattle.script_pieces.proofs.LineLaws.{lines_none}
use Rattle.script_pieces.proofs.TakenLaws.{taking-turn, taken-all}
use Rattle.script_pieces.proofs.take_lines.Goals as goal

pub line_end-stop-requires : goal.line_end-stop-requires
line_end-stop-requires c = c.loop-taken.invariant.1.1.inside

pub returns-then-input-stop-clause-taken : goal.returns-then-input-stop-clause-taken
returns-then-input-stop-clause-taken c =
    let l = c.loop-taken in
    taken-all l.invariant.1.1 l.invariant.0.end (λ good room. lines_none _ _ _ c.line_end-stop.ensures c.if-input-stop.true)

pub returns-then-room-text-clause-taken : goal.returns-then-room-text-clause-taken
returns-then-room-text-clause-taken c =
    let l = c.loop-taken in
    taken-all l.invariant.1.1 l.invariant.0.end (λ good room. absurd (omega (arith, c.if-room-text.true, l.invariant.0.text, l.invariant.1.0.size, room)))

pub overflow_add-taken : goal.overflow_add-taken
overflow_add-taken c = omega (arith, c.loop-taken.invariant.0.input, c.if-input-stop.false)

pub overflow_add-taken-in-loop-taken : goal.overflow_add-taken-in-loop-taken
overflow_add-taken-in-loop-taken c = let l = c.loop-taken in omega (arith, l.invariant.0.input, l.invariant.1.1.few, l.invariant.1.1.inside, c.if-input-stop.false, c.line_end-stop.ensures.start)

pub loop-taken-smaller : goal.loop-taken-smaller
loop-taken-smaller c = omega (arith, c.line_end-stop.ensures.start, c.if-input-stop.false)

pub returns-clause-taken : goal.returns-clause-taken
returns-clause-taken c =
    let l = c.loop-taken in
    taken-all l.invariant.1.1 l.invariant.0.end (λ good room. absurd (true≢false (sym good ∙ c.loop-taken-test.false)))

pub loop-taken-preserved : goal.loop-taken-preserved
loop-taken-preserved c =
    let t = c.take_line-ran in
    let l = c.loop-taken in
    let kept = l.invariant.1.0 in
    let taken = rw kept.same.given at t.ensures.taken in (
      record {
        input = l.invariant.0.input;
        text = omega (arith, l.invariant.0.text, taken.size);
        end = omega (arith, taken.within, c.if-room-text.false, l.invariant.0.text, kept.size, taken.size);
      },
      (
        record { text = taken.same ∙ kept.text; size = taken.size ∙ kept.size; same = same_on kept.same t.ensures.same },
        taking-turn l.invariant.1.1 c.loop-taken-test.true c.line_end-stop.ensures c.if-input-stop.false taken,
      ),
    )
