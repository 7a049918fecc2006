-- `in_calls::complete_with` meets its contract: with a result or without. Assumes nothing.
use Rattle.in_calls.specs.Calls.{completion_call}
use Rattle.in_calls.proofs.complete_with.Goals as goal

pub returns-in-None-clause-answer : goal.returns-in-None-clause-answer
unfolding completion_call
returns-in-None-clause-answer c = rw c.in-None.is c.complete.ensures.answer

pub returns-in-Some-clause-answer : goal.returns-in-Some-clause-answer
unfolding completion_call
returns-in-Some-clause-answer c = rw c.in-Some.is c.complete_with_result.ensures.answer
