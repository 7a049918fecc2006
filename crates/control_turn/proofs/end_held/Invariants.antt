use lib.ListN.{length, take}
use Rattle.td_part.specs.Parts.{at_start}
use Rattle.walks.proofs.WalkLaws.{Walked}
use Rattle.control_chain.proofs.EndingLaws.{ending_walker}
use Rattle.control_turn.proofs.end_held.Given as goal

abbrev pub invariant-loop-t : goal.invariant-loop-t
invariant-loop-t l = Walked (ending_walker l.ending l.info) at_start (take (length l.trbs) l.trbs) l.initial.log l.log l.progress l.t-index
