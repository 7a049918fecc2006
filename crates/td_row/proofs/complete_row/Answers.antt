-- `td_row::complete_row` meets its contract: the test and the TD are what the questions and the row make them, and so the refusal, or
-- what the walk made of the log, is what completion does. Assumes nothing.
use Rattle.std.proofs.Common.{◌∙◌, sym, length}
use Rattle.td_row.proofs.AnswerLaws.{answers}
use Rattle.td_row.proofs.complete_row.Goals as goal

pub process_td-processed-requires : goal.process_td-processed-requires
process_td-processed-requires c =
    let a = c.args in
    let fits = (answers a.endpoint_id a.slot_id a.mode a.row.now a.log.now a.res (length a.data.now) c.test_held-tested.result _ c.test_held-tested.ensures (sym c.in-Ok.is ∙ c.ask-asked.ensures)).0 in
    record { normals = rw c.test_held-tested.ensures fits.0; room = fits.1 }

pub returns-in-Err-clause-met : goal.returns-in-Err-clause-met
returns-in-Err-clause-met c =
    let a = c.args in
    (answers a.endpoint_id a.slot_id a.mode a.row.now a.log.now a.res (length a.data.now) c.test_held-tested.result _ c.test_held-tested.ensures (sym c.in-Err.is ∙ c.ask-asked.ensures)).0

pub returns-in-Ok-clause-met : goal.returns-in-Ok-clause-met
returns-in-Ok-clause-met c =
    let a = c.args in
    ((answers a.endpoint_id a.slot_id a.mode a.row.now a.log.now a.res (length a.data.now) c.test_held-tested.result _ c.test_held-tested.ensures (sym c.in-Ok.is ∙ c.ask-asked.ensures)).1
    c.process_td-processed.result c.process_td-processed.new.log c.process_td-processed.ensures).0

pub returns-in-Ok-clause-account : goal.returns-in-Ok-clause-account
returns-in-Ok-clause-account c =
    let a = c.args in
    ((answers a.endpoint_id a.slot_id a.mode a.row.now a.log.now a.res (length a.data.now) c.test_held-tested.result _ c.test_held-tested.ensures (sym c.in-Ok.is ∙ c.ask-asked.ensures)).1
    c.process_td-processed.result c.process_td-processed.new.log c.process_td-processed.ensures).1
