-- `call_captures::put_result` meets its contract: on no endpoint nothing is laid. Assumes nothing.
use Rattle.captured_calls.proofs.WrittenLaws.{laid-none}
use Rattle.call_captures.proofs.put_result.Goals as goal

pub returns-in-None : goal.returns-in-None
returns-in-None c = rw c.in-None.is laid-none
