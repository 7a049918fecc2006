-- `in_calls::cancel` meets its contract: the endpoint's answer and its records, then the state line. Assumes nothing.
use Rattle.in_calls.proofs.CallLaws.{says-cancelled}
use Rattle.in_calls.proofs.cancel.Goals as goal

pub returns : goal.returns
returns c = says-cancelled _ c.cancel.ensures c.put_answer.ensures c.answered.ensures
