-- `call_captures::put_call` meets its contract: the capture that it makes begins at the buffer's start. Assumes nothing.
use Rattle.std.proofs.Common.{refl}
use borrow.Author.Rules.{rules}
use Rattle.captured_calls.proofs.WrittenLaws.{laid-first}
use Rattle.call_captures.proofs.put_call.Goals as goal

pub returns : goal.returns
returns c = laid-first refl c.capture_call.ensures (search rules)
