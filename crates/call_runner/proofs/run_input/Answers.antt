-- `call_runner::run_input` meets its contract. The loop's invariant: the run has come to what is read so far, its bytes that are not yet taken lie in the
-- buffer, and the lent buffers are the same. Assumes nothing.
use Rattle.std.proofs.Common.{refl, sym, ◌∙◌, arith}
use borrow.Author.Tests.{not-false}
use Rattle.session_calls.proofs.BufferLaws.{same_none, same_on}
use Rattle.call_runner.proofs.TurnLaws.{reaches-start, reaches-turn, reaches_end}
use Rattle.call_runner.proofs.run_input.Goals as goal

pub loop-init : goal.loop-init
loop-init g c = record {
  kept = record { text = refl; size = refl; same = same_none _ };
  input = refl;
  reached = rw c.started-progress.ensures (reaches-start _ _ (c.new-input.ensures.from ∙ sym c.new-input.ensures.filled));
}

pub take_turn-requires : goal.take_turn-requires
take_turn-requires g c = omega (arith, c.requires, c.loop.invariant.kept.size)

pub loop-preserved : goal.loop-preserved
loop-preserved g c =
    let t = c.take_turn in
    let i = c.loop.invariant in
    let turn = rw i.kept.same.given at c.in_ok-progress.ensures.turn in
    record {
      kept = record { text = t.ensures.text ∙ i.kept.text; size = t.ensures.size ∙ i.kept.size; same = same_on i.kept.same t.ensures.same };
      input = t.ensures.input ∙ i.input;
      reached = reaches-turn i.reached (not-false _ c.if-not-progress.false) turn;
    }

pub returns-clause-run : goal.returns-clause-run
returns-clause-run g c = reaches_end c.loop.invariant.reached

pub returns-then-not-progress-clause-run : goal.returns-then-not-progress-clause-run
returns-then-not-progress-clause-run g c = reaches_end c.loop.invariant.reached
