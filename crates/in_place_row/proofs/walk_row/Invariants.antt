use Rattle.row_walk.proofs.RowLaws.{RowWalked}
use Rattle.row_bytes.specs.Layout.{results_in}
use Rattle.in_place_row.proofs.KeptLaws.{trbs_of}
use Rattle.in_place_row.proofs.walk_row.Given as goal

abbrev pub invariant-loop-i : goal.invariant-loop-i
invariant-loop-i l = RowWalked l.endpoint_id l.slot_id l.mode (trbs_of l.row) (results_in l.results) l.initial.log l.log l.so_far l.first l.i
