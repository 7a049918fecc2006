use mathlib.Core.List.{map}
use lib.ListN.{drop}
use Rattle.call_log.specs.Records.{decode}
use Rattle.guest_memory.specs.Lent.{lent, SameRegions}
use Rattle.carry_out.proofs.WriteLaws.{Remaining}
use Rattle.carry_out.proofs.perform_writes.Given as goal

abbrev pub invariant-loop-cells : goal.invariant-loop-cells
invariant-loop-cells l =
    SameRegions l.initial.memory l.memory × Remaining l.data (map decode l.cells-items) (lent l.initial.memory) (map decode (drop l.cells-index l.cells-items)) (lent l.memory)
