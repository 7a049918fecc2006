use mathlib.Core.Path.{◌≡◌}
use mathlib.Core.Bool.{false}
use lib.ListN.{length, take}
use Rattle.walks.proofs.WalkLaws.{Walked}
use Rattle.in_td.specs.Td.{ended}
use Rattle.in_td.proofs.TdLaws.{td_walker}
use Rattle.place_walk.proofs.FullLaws.{trbs}
use Rattle.place_walk.proofs.walk_places.Given as goal

-- the walk over the places that are left
abbrev pub invariant-loop-place : goal.invariant-loop-place
invariant-loop-place l = Walked (td_walker l.td) l.initial.processed (take (length l.place-items) (trbs l.place-items)) l.initial.log l.log l.processed l.place-index
    × (ended l.processed ≡ false)
