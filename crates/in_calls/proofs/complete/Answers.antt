-- `in_calls::complete` meets its contract: the endpoint's answer and its records, then the state line. Assumes nothing.
use Rattle.in_calls.proofs.CallLaws.{runs-completed}
use Rattle.in_calls.proofs.complete.Goals as goal

pub returns-clause-answer : goal.returns-clause-answer
returns-clause-answer c = runs-completed _ _ _ _ c.next_completion-completed.ensures.met c.put_completion.ensures.answer c.answered.ensures
