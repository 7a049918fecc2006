use mathlib.Core.Path.{◌≡◌}
use lib.ListN.{length, take}
use Rattle.walks.proofs.WalkLaws.{Walked}
use Rattle.td_part.specs.declared.TdProcessingState.TheVariants.{Default}
use Rattle.in_td.specs.Td.{going_on}
use Rattle.in_td.specs.declared.InTd.{InTd}
use Rattle.in_td.proofs.TdLaws.{td_walker}
use Rattle.place_walk.proofs.FullLaws.{trbs}
use Rattle.place_walk.proofs.walk_full.Given as goal

abbrev pub invariant-loop-j : goal.invariant-loop-j
invariant-loop-j l = ((td : InTd) → td.info ≡ l.info
    → Walked (td_walker td) (going_on l.initial.normals_left l.initial.progress) (take (length l.places) (trbs l.places)) l.initial.log l.log (going_on l.normals_left l.progress) l.j)
    × (l.progress.state ≡ Default)
