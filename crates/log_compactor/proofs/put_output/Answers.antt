-- `log_compactor::put_output` meets its contract: the rows kept are the first bytes that compacting left; a log that is refused gives way to its line.
-- Assumes nothing.
use mathlib.Core.Path.{◌≡◌, sym, ◌∙◌}
use native.Mathlib.Omega.{arith}
use lib.ListN.{length, take}
use lib.Seq.{length-take-le}
use Rattle.compact_laws.proofs.LogLaws.{answer_of-fits}
use Rattle.log_compactor.proofs.OutputLaws.{output-long, output-refused, output-kept}
use Rattle.log_compactor.proofs.put_output.Goals.{Start}
use Rattle.log_compactor.proofs.put_output.Goals as goal

length-log : (s : Start) → length (take s.args.read s.args.buffer.now) ≡ s.args.read
length-log s = length-take-le s.args.read s.args.buffer.now s.requires.read_in_bounds

pub returns-then-read-gt-MAX_LOG : goal.returns-then-read-gt-MAX_LOG
returns-then-read-gt-MAX_LOG c =
    let put = c.put_refused.ensures in
    record {
      bytes = put.bytes ∙ sym (output-long (take c.args.read c.args.buffer.now) (rw (length-log (goal.at.returns-then-read-gt-MAX_LOG c).Start) c.if-read-gt-MAX_LOG.true));
      within = put.within;
    }

pub overflow_mul-result : goal.overflow_mul-result
overflow_mul-result c =
    let fits = answer_of-fits (take c.args.read c.args.buffer.now) c.in-Ok.kept (sym c.in-Ok.is ∙ c.compact.ensures.answer) in
    record { fits = omega (arith, fits, length-log (goal.at.overflow_mul-result c).Start) }

pub returns-in-Ok : goal.returns-in-Ok
returns-in-Ok c =
    let compacts = c.compact.ensures in
    rw compacts.after
    (output-kept (take c.args.read c.args.buffer.now) (rw (length-log (goal.at.returns-in-Ok c).Start) c.if-read-gt-MAX_LOG.false) c.in-Ok.kept (sym c.in-Ok.is ∙ compacts.answer) _)

pub returns-in-Err : goal.returns-in-Err
returns-in-Err c =
    let put = c.put_refused-in-Err.ensures in
    let compacts = c.compact.ensures in
    record {
      bytes = put.bytes
          ∙ sym (output-refused (take c.args.read c.args.buffer.now) (rw (length-log (goal.at.returns-in-Err c).Start) c.if-read-gt-MAX_LOG.false) _ (sym c.in-Err.is ∙ compacts.answer));
      within = put.within;
    }
