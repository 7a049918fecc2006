-- `call_answer::put_row` meets its contract: the records' lines and carry-out's line stand behind the first line. Assumes nothing.
use mathlib.Core.List.{append_assoc}
use mathlib.Core.Path.{refl}
use lib.Dec.{lit≤}
use Rattle.text.proofs.WroteLaws.{wrote-append, wrote-within}
use Rattle.call_answer.specs.Answers.{row_text, completion_memory}
use Rattle.call_answer.proofs.put_row.Goals as goal

pub returns-in-Ok-clause-answer : goal.returns-in-Ok-clause-answer
unfolding row_text completion_memory
returns-in-Ok-clause-answer c =
    let carried = c.put_carried_out.ensures.answer in
    rw c.in-Ok.is (record { text = rw append_assoc (wrote-append (rw (c.count.ensures, c.count-in-Ok.ensures) at c.put_row_completed.ensures) carried.text); after = carried.after })

pub returns-in-Err-clause-answer : goal.returns-in-Err-clause-answer
unfolding row_text completion_memory
returns-in-Err-clause-answer c =
    rw c.in-Err.is
    (record { text = wrote-within (lit≤ tt) (rw c.from.ensures at c.put_refused.ensures); after = refl })
