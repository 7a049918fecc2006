-- `in_calls::submit` meets its contract: the endpoint's answer and its records, then the state line. Assumes nothing.
use Rattle.in_calls.proofs.CallLaws.{runs-submitted}
use Rattle.in_calls.proofs.submit.Goals as goal

pub returns : goal.returns
returns c = runs-submitted _ _ _ c.submit_trb-submitted.ensures.met c.put_answer.ensures c.answered.ensures
