use mathlib.Core.Bool.{true}
use Rattle.row_walk.proofs.TdsLaws.{Looked}
use Rattle.row_walk.proofs.look_at_td.Given as goal

abbrev pub invariant-loop-last : goal.invariant-loop-last
invariant-loop-last l = Looked l.row l.first l.asked l.last true
