use Rattle.row_questions.proofs.RowTestLaws.{Testing}
use Rattle.row_bytes.specs.Layout.{results_in}
use Rattle.in_place_row.proofs.KeptLaws.{trbs_of}
use Rattle.in_place_row.proofs.test_row.Given as goal

abbrev pub invariant-loop-place : goal.invariant-loop-place
invariant-loop-place l = Testing l.regions (results_in l.results) (trbs_of l.row) l.test l.place-index
