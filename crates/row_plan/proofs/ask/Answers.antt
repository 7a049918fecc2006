-- `row_plan::ask` meets its contract: the questions are completion's, of the row's facts, and the TD is by their answer. Assumes nothing.
use Rattle.std.proofs.Common.{◌≡◌, ◌≤◌, sym, Err, arith, rules}
use Rattle.trb.specs.Limits.{max_data}
use Rattle.trb.proofs.AnswerLaws.{refusal_of-number, refusal_number-positive}
use Rattle.in_questions.proofs.PassedLaws.{passed-completion}
use Rattle.row_plan.specs.Plans.{row_facts, row_plan}
use Rattle.row_plan.proofs.ask.Goals as goal

pub returns-in_err-ask_completion : goal.returns-in_err-ask_completion
unfolding row_plan
returns-in_err-ask_completion c =
    let told : c.from_residual.result ≡ Err c.in_err-ask_completion.field-0.0 = grind arith in
    rw (told, ← c.in_err-ask_completion.ensures, refusal_number-positive c.in_err-ask_completion.field-0.0, refusal_of-number c.in_err-ask_completion.field-0.0)

-- question 9
pub overflow_cast-data_length : goal.overflow_cast-data_length
overflow_cast-data_length c =
    let a = c.args in
    let short : a.data_length ≤ max_data = (passed-completion a.log_length (row_facts a.endpoint_id a.slot_id a.row_length a.found) a.res a.data_length (sym (c.in_ok-ask_completion.ensures))).short in
    search rules

pub returns : goal.returns
unfolding row_plan
returns c = rw (c.td_of.ensures, c.status_of-status.ensures, ← c.in_ok-ask_completion.ensures)
