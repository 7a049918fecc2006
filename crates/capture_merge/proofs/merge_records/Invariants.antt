use Prim.Native.Nat.{◌+◌}
use lib.ListN.{length}
use Rattle.capture_merge.proofs.CopyLaws.{Merging}
use Rattle.capture_merge.proofs.merge_records.Given as goal

abbrev pub invariant-loop-firsts : goal.invariant-loop-firsts
invariant-loop-firsts l = Merging l.extra l.a l.b l.initial.out l.out l.firsts l.seconds

abbrev pub decreases-loop-firsts : goal.decreases-loop-firsts
decreases-loop-firsts l = length l.firsts + length l.seconds
