use Rattle.delivery.proofs.TurnLaws.{Left}
use Rattle.delivery.proofs.writes_inside.Given as goal

abbrev pub invariant-loop-t : goal.invariant-loop-t
invariant-loop-t l = Left l.regions l.trbs l.given l.left l.t-index
