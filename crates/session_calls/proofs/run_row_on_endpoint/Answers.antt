-- `session_calls::run_row_on_endpoint` meets its contract: on control and on no endpoint a row is a bad line. Assumes nothing.
use Rattle.session.specs.Sessions.{bad_quiet}
use Rattle.session_calls.specs.Answers.{state_in}
use Rattle.session_calls.proofs.AnswerLaws.{answers-quiet, row-nowhere, row-control}
use Rattle.session_calls.proofs.run_row_on_endpoint.Goals as goal

pub returns-in-Some-Control-clause-answer : goal.returns-in-Some-Control-clause-answer
returns-in-Some-Control-clause-answer c =
    let a = c.args in
    let s = state_in a.session a.buffers.now in
    let k = c.in-Some-Control in
    rw (row-control a.buffers.now.«data».now s a.bytes k.field-0 k.is (rw k.is at k.field-0-is)) (answers-quiet s c.requires (bad_quiet a.session) c.bad.ensures)

pub returns-in-None-clause-answer : goal.returns-in-None-clause-answer
returns-in-None-clause-answer c =
    let a = c.args in
    let s = state_in a.session a.buffers.now in
    rw (row-nowhere a.buffers.now.«data».now s a.bytes c.in-None.is) (answers-quiet s c.requires (bad_quiet a.session) c.bad-in-None.ensures)
