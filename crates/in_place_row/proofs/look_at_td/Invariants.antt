use Prim.Native.Nat.{◌-◌}
use lib.ListN.{length}
use Rattle.row_walk.proofs.TdsLaws.{Looked}
use Rattle.in_place_row.proofs.KeptLaws.{trbs_of}
use Rattle.in_place_row.proofs.look_at_td.Given as goal

abbrev pub invariant-loop-more : goal.invariant-loop-more
invariant-loop-more l = Looked (trbs_of l.row) l.first l.asked l.end l.more

abbrev pub decreases-loop-more : goal.decreases-loop-more
decreases-loop-more l = length l.row - l.end
