-- `script_bytes::fill_guest` meets its contract. The loop's invariant: the bytes below `k` follow the rule, and the buffer keeps its length.
-- Assumes nothing.
use Rattle.std.proofs.Common.{arith}
use Rattle.script_bytes.proofs.ByteLaws.{filled_none, filled_more, filled-all}
use Rattle.script_bytes.proofs.fill_guest.Goals as goal

pub loop-k-init : goal.loop-k-init
loop-k-init c = filled_none _ _

pub loop-k-preserved : goal.loop-k-preserved
loop-k-preserved c = filled_more c.guest_byte.result c.loop-k.invariant (omega arith) c.guest_byte.ensures

pub returns : goal.returns
returns c = filled-all c.loop-k.invariant (omega arith)
