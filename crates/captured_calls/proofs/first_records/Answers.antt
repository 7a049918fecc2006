-- `captured_calls::first_records` meets its contract: of the log's records those in front. Assumes nothing.
use Rattle.std.proofs.Common.{arith}
use Rattle.captured_calls.proofs.SubmittedLaws.{first-records}
use Rattle.captured_calls.proofs.first_records.Goals as goal

pub returns : goal.returns
returns c = first-records c.args.records c.args.log.now _ _ c.records-rows.ensures.cells (omega (arith, c.min.ensures, c.records-rows.ensures.count))
