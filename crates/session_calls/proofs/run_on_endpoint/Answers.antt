-- `session_calls::run_on_endpoint` meets its contract: on no endpoint a call is a bad line. Assumes nothing.
use Rattle.session.specs.Sessions.{bad_quiet}
use Rattle.session_calls.specs.Answers.{state_in}
use Rattle.session_calls.proofs.AnswerLaws.{answers-quiet, answer-nowhere}
use Rattle.session_calls.proofs.run_on_endpoint.Goals as goal

pub returns-in-None-clause-answer : goal.returns-in-None-clause-answer
returns-in-None-clause-answer c =
    let a = c.args in
    let s = state_in a.session a.buffers.now in
    rw (answer-nowhere a.buffers.now.«data».now s a.call c.in-None.is) (answers-quiet s c.requires (bad_quiet a.session) c.bad.ensures)
