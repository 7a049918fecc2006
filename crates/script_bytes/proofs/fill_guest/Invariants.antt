use Rattle.script_bytes.specs.Bytes.{guest_byte}
use Rattle.script_bytes.proofs.ByteLaws.{Filled}
use Rattle.script_bytes.proofs.fill_guest.Given as goal

abbrev pub invariant-loop-k : goal.invariant-loop-k
invariant-loop-k l = Filled (guest_byte l.base) l.initial.window l.window l.k
