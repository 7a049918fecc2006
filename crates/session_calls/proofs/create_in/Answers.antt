-- `session_calls::create_in` meets its contract: no row is written down afterwards. Assumes nothing.
use Rattle.session_calls.proofs.AnswerLaws.{answers-in-creation}
use Rattle.session_calls.proofs.create_in.Goals as goal

pub returns : goal.returns
returns c log collect low high =
    let a = c.args in
    answers-in-creation a.session log collect low high c.without_row.ensures a.endpoint_id a.slot_id a.mode c.create.ensures
    c.after_in.ensures
