-- `log_compact::joins_last` meets its contract: the last of some rows is row number `kept` - 1. Assumes nothing.
use Rattle.std.proofs.Common.{arith}
use Rattle.log_compact.proofs.KeptLaws.{joins_last-rows_in}
use Rattle.log_compact.proofs.joins_last.Goals as goal

pub returns-then-kept-gt0 : goal.returns-then-kept-gt0
returns-then-kept-gt0 c = rw (joins_last-rows_in c.args.kept c.args.log.now c.args.«record» (omega arith), ← c.read_record.ensures) c.joins.ensures
