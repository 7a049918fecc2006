use Rattle.script_bytes.specs.Bytes.{device_byte}
use Rattle.script_bytes.proofs.ByteLaws.{Filled}
use Rattle.script_bytes.proofs.fill_device.Given as goal

abbrev pub invariant-loop-k : goal.invariant-loop-k
invariant-loop-k l = Filled device_byte l.initial.device l.device l.k
