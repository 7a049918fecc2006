-- `row_bytes::result_count` meets its contract. Assumes nothing.
use mathlib.Core.Path.{sym}
use Rattle.row_bytes.proofs.CellLaws.{length-results_in}
use Rattle.row_bytes.proofs.result_count.Goals as goal

pub returns : goal.returns
returns c = sym (length-results_in c.args.results.now)
