use Rattle.std.proofs.Common.{length}
use Rattle.capture_reader.proofs.ReadingLaws.{Counting}
use Rattle.capture_reader.proofs.count_records.Given as goal

abbrev pub invariant-loop-rest : goal.invariant-loop-rest
invariant-loop-rest l = Counting l.records l.rest l.count

abbrev pub decreases-loop-rest : goal.decreases-loop-rest
decreases-loop-rest l = length l.rest
