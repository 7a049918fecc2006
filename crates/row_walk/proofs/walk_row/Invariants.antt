use Prim.Native.Nat.{◌-◌}
use mathlib.Core.Path.{◌≡◌}
use mathlib.Core.Bool.{false}
use Rattle.in_td.specs.Td.{ended}
use Rattle.row_walk.proofs.RowLaws.{WalkedFrom, RowWalked}
use Rattle.row_walk.proofs.walk_row.Given as goal

abbrev pub invariant-loop-t : goal.invariant-loop-t
invariant-loop-t l = WalkedFrom l.td l.row l.first l.initial.processed (l.end - l.first) l.initial.log l.log l.processed l.t-index
    × ((ended l.processed ≡ false) × (l.so_far ≡ l.initial.so_far))

abbrev pub invariant-row : goal.invariant-row
invariant-row l = RowWalked l.endpoint_id l.slot_id l.mode l.row l.results l.initial.log l.log l.so_far l.first l.given-index
