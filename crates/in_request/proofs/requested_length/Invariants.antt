use Rattle.in_request.proofs.RequestedLaws.{Summed}
use Rattle.in_request.proofs.requested_length.Given as goal

abbrev pub invariant-loop-t : goal.invariant-loop-t
invariant-loop-t l = Summed l.trbs l.sum l.t-index
