-- `session_calls::run_in` meets its contract: what is lent is what the session says. Assumes nothing.
use Rattle.session_calls.proofs.AnswerLaws.{answers-in}
use Rattle.session_calls.proofs.run_in.Goals as goal

pub returns-clause-answer : goal.returns-clause-answer
returns-clause-answer c =
    let a = c.args in
    let b = a.buffers.now in
    answers-in a.session b.log.now b.collect.now b.low.now b.high.now b.«data».now a.call c.run_in-ran.ensures c.after_in.ensures
