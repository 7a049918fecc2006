use Rattle.std.proofs.Common.{length}
use Rattle.capture_convert.proofs.WritingLaws.{Writing}
use Rattle.capture_convert.proofs.write_records.Given as goal

abbrev pub invariant-loop-rest : goal.invariant-loop-rest
invariant-loop-rest l = Writing l.added.from l.added.to l.records l.initial.out l.out l.rest

abbrev pub decreases-loop-rest : goal.decreases-loop-rest
decreases-loop-rest l = length l.rest
