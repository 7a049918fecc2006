-- `in_bytes::is_normal` meets its contract: the type is read where the place has it. Assumes nothing.
use mathlib.Core.Path.{sym}
use Rattle.in_bytes.proofs.HeldLaws.{normal-place}
use Rattle.in_bytes.proofs.is_normal.Goals as goal

pub returns : goal.returns
returns c = sym (normal-place c.args.place.now)
