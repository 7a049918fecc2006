-- `control_calls::create` meets its contract: the endpoint's answer and its records, then the state line. Assumes nothing.
use Rattle.control_calls.proofs.CallLaws.{says-created}
use Rattle.control_calls.proofs.create.Goals as goal

pub returns : goal.returns
returns c = says-created _ _ _ _ c.create-created.ensures.met c.put_answer.ensures c.answered.ensures
