use lib.ListN.{length}
use Rattle.in_td.proofs.TurnLaws.{WalkedTd}
use Rattle.in_turn.proofs.process_td.Given as goal

abbrev pub invariant-loop-t : goal.invariant-loop-t
invariant-loop-t l = WalkedTd l.td (length l.trbs) l.trbs l.initial.log l.log l.so_far l.t-index
