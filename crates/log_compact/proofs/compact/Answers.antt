-- `log_compact::compact` meets its contract: of a well-formed log the rows kept stand in front and zeros behind them.
use mathlib.Core.Path.{◌≡◌, ap, ◌∙◌}
use borrow.Author.Rules.{rules}
use Rattle.std.proofs.Common.{Ok}
use Rattle.trb.specs.Questions.{first_no}
use Rattle.log_compact.specs.Compacting.{compact_questions}
use Rattle.log_compact.proofs.TakenLaws.{rows_kept-count, rows_kept-zeroed}
use Rattle.log_compact.proofs.compact.Goals as goal

pub returns : goal.returns
unfolding first_no
returns c =
    let kept = c.keep_rows-kept.ensures in
    let none : first_no (compact_questions c.args.log.now) ≡ 0 = search rules in
    record {
      number = rw none;
      answer = rw none (ap Ok (rows_kept-count kept));
      after = rw none (c.clear_from.ensures ∙ rows_kept-zeroed kept);
    }
