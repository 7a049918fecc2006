-- `session_calls::create_control` meets its contract: no row is written down afterwards. Assumes nothing.
use Rattle.session_calls.proofs.AnswerLaws.{answers-control-creation}
use Rattle.session_calls.proofs.create_control.Goals as goal

pub returns : goal.returns
returns c log low high =
    let a = c.args in
    answers-control-creation a.session log a.collect.now low high c.without_row.ensures a.endpoint_id a.slot_id a.release
    c.create.ensures c.after_control.ensures
