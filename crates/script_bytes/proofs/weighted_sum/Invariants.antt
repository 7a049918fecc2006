use Rattle.std.proofs.Common.{◌≡◌, drop}
use Rattle.script_bytes.specs.Bytes.{weighted_sum}
use Rattle.script_bytes.proofs.weighted_sum.Given as goal

abbrev pub invariant-loop-k : goal.invariant-loop-k
invariant-loop-k l = weighted_sum l.sum l.k (drop l.k l.bytes) ≡ weighted_sum 0 0 l.bytes
