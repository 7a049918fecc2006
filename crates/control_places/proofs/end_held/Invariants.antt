use lib.ListN.{take}
use Rattle.td_part.specs.Parts.{at_start}
use Rattle.walks.proofs.WalkLaws.{Walked}
use Rattle.control_chain.proofs.EndingLaws.{ending_walker}
use Rattle.control_bytes.specs.Layout.{block_of}
use Rattle.control_places.proofs.end_held.Given as goal

abbrev pub invariant-loop-place : goal.invariant-loop-place
invariant-loop-place l = Walked (ending_walker l.ending l.info) at_start (take l.count (block_of l.block).trbs) l.initial.log l.log l.progress l.place-index
