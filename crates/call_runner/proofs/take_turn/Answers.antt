-- `call_runner::take_turn` meets its contract: the whole lines that are read are taken, and what is read stands behind the rest. Assumes nothing.
use Rattle.std.proofs.Common.{◌+◌, ◌-◌, length, arith, refl}
use borrow.Author.Tests.{leb-true}
use Rattle.state_text.specs.Widths.{max_answer}
use Rattle.call_runner.proofs.TurnLaws.{turn-comes}
use Rattle.call_runner.proofs.take_turn.Goals as goal

pub returns-clause-turn : goal.returns-clause-turn
returns-clause-turn g c =
    let on = c.in_ok-ahead.ensures.reads in
    let k = c.take_lines-taken in
    record {
      taken = k.result.lines + c.in_ok-ahead.ahead.lines;
      piece = on.piece;
      read = on.read;
      printed = c.in_ok-write_text.ensures;
      comes = turn-comes c.args.input.now (rw c.filled_bytes.ensures at k.ensures.taken) refl on (λ e. omega (arith, leb-true k.new.text.end (length k.new.text.bytes.now - max_answer) e, c.requires, k.ensures.size));
      lines = omega (arith, c.lines_behind.ensures, c.lines_behind-lines.ensures);
      going = on.going;
    }
