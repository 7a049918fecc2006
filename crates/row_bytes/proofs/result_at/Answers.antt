-- `row_bytes::result_at` meets its contract. Assumes nothing.
use mathlib.Core.Path.{sym, ◌∙◌}
use Rattle.row_walk.specs.Rows.{past_results}
use Rattle.row_bytes.proofs.CellLaws.{result-in, result-behind}
use Rattle.row_bytes.proofs.result_at.Goals as goal

pub returns-then-i-results : goal.returns-then-i-results
returns-then-i-results c = let s = c.args in c.result_from.ensures ∙ sym (result-in s.results.now s.i past_results c.if-i-results.true)

pub returns-else-i-results : goal.returns-else-i-results
returns-else-i-results c = let s = c.args in sym (result-behind s.results.now s.i past_results c.if-i-results.false)
