-- `session_calls::run_control` meets its contract: what is lent is what the session says. Assumes nothing.
use Rattle.session_calls.proofs.AnswerLaws.{answers-control}
use Rattle.session_calls.proofs.run_control.Goals as goal

pub returns-clause-answer : goal.returns-clause-answer
returns-clause-answer c =
    let a = c.args in
    let b = a.buffers.now in
    answers-control a.session b.log.now b.collect.now b.low.now b.high.now b.«data».now a.call c.run_control-ran.ensures c.after_control.ensures
