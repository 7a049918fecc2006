-- `log_compact::take_row` meets its contract: each way out is one of the three things that may become of a row. Assumes nothing.
use Rattle.log_compact.proofs.TakenLaws.{row_taken-dropped, row_taken-joined, row_taken-kept}
use borrow.Author.Rules.{rules}
use Rattle.log_compact.proofs.take_row.Goals as goal

pub returns-then-is_empty_write : goal.returns-then-is_empty_write
returns-then-is_empty_write c =
    row_taken-dropped c.args.log.now c.args.kept c.args.index c.requires.0
    (rw (← c.read_record-record.ensures, ← c.is_empty_write.ensures) c.if-is_empty_write.true)

pub join_to_last-requires : goal.join_to_last-requires
join_to_last-requires c = (
  search rules,
  rw (← c.joins_last.ensures) c.if-joins_last.true,
)

pub returns-then-joins_last : goal.returns-then-joins_last
returns-then-joins_last c =
    row_taken-joined c.args.log.now c.args.kept c.args.index c.requires.0 c.requires.1
    (rw (← c.read_record-record.ensures, ← c.is_empty_write.ensures) c.if-is_empty_write.false)
    (rw (← c.read_record-record.ensures, ← c.joins_last.ensures) c.if-joins_last.true)
    (rw (← c.read_record-record.ensures) c.join_to_last.ensures)

pub returns : goal.returns
returns c =
    row_taken-kept c.args.log.now c.args.kept c.args.index c.requires.0 c.requires.1
    (rw (← c.read_record-record.ensures, ← c.is_empty_write.ensures) c.if-is_empty_write.false)
    (rw (← c.read_record-record.ensures, ← c.joins_last.ensures) c.if-joins_last.false)
    c.copy_row.ensures
