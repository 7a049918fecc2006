use Rattle.row_questions.proofs.RowTestLaws.{Testing}
use Rattle.in_row.proofs.complete_tds.Given as goal

abbrev pub invariant-loop-t : goal.invariant-loop-t
invariant-loop-t l = Testing l.regions l.results l.t-items l.test l.t-index
