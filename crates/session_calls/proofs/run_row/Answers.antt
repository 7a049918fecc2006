-- `session_calls::run_row` meets its contract: the row is that of the session, which has none afterwards. Assumes nothing.
use Rattle.session_calls.proofs.AnswerLaws.{answers-row}
use Rattle.session_calls.proofs.run_row.Goals as goal

pub returns-clause-answer : goal.returns-clause-answer
returns-clause-answer c =
    let a = c.args in
    let b = a.buffers.now in
    answers-row a.session b.log.now b.collect.now b.low.now b.high.now b.«data».now a.bytes c.run_row-ran.ensures c.without_row.ensures
    c.after_in.ensures
