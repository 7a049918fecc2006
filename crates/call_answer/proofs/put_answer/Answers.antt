-- `call_answer::put_answer` meets its contract: the records' lines stand behind the first line. Assumes nothing.
use lib.Dec.{lit≤}
use Rattle.text.proofs.WroteLaws.{wrote-append, wrote-within}
use Rattle.call_answer.specs.Answers.{answer_text}
use Rattle.call_answer.proofs.put_answer.Goals as goal

pub returns-in-Ok : goal.returns-in-Ok
unfolding answer_text
returns-in-Ok c =
    rw c.in-Ok.is
    (wrote-append (rw c.count.ensures at c.put_accepted.ensures) (rw c.first_records.ensures at c.put_records.ensures))

pub returns-in-Err : goal.returns-in-Err
unfolding answer_text
returns-in-Err c = rw c.in-Err.is (wrote-within (lit≤ tt) (rw c.from.ensures at c.put_refused.ensures))
