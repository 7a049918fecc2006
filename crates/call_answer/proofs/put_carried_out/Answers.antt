-- `call_answer::put_carried_out` meets its contract: carry-out's line stands behind the records' lines. Assumes nothing.
use Rattle.text.proofs.WroteLaws.{wrote-append}
use Rattle.call_answer.proofs.put_carried_out.Goals as goal

pub returns-clause-answer : goal.returns-clause-answer
returns-clause-answer c =
    let shown = c.first_records-shown.ensures in
    let carried = c.carry_out-answer.ensures.answer in
    record {
      text = wrote-append (rw shown at c.put_records.ensures) (rw (c.number_of.ensures, carried.answer, shown) at c.put_carried_out.ensures);
      after = rw (carried.answer, shown) at carried.after;
    }
