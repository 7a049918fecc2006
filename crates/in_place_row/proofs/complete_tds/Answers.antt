-- `in_place_row::complete_tds` meets its contract. Assumes nothing.
use Rattle.in_place_questions.proofs.LentLaws.{lent-long}
use Rattle.in_place_row.proofs.CallLaws.{completes-short}
use Rattle.in_place_row.proofs.complete_tds.Goals as goal

pub returns-then-block-lt-BLOCK : goal.returns-then-block-lt-BLOCK
returns-then-block-lt-BLOCK c =
    let s = c.args in
    completes-short s.block.now s.row.now s.results.now s.data_length s.regions s.log.now c.if-block-lt-BLOCK.true c.answered_as.ensures

pub returns : goal.returns
returns c = rw (lent-long c.args.log.now c.args.block.now c.if-block-lt-BLOCK.false) c.complete.ensures
