-- `call_answer::put_completion` meets its contract: the records' lines and carry-out's line stand behind the first line. Assumes nothing.
use mathlib.Core.List.{append_assoc}
use mathlib.Core.Path.{refl}
use lib.Dec.{lit≤}
use Rattle.text.proofs.WroteLaws.{wrote-append, wrote-within}
use Rattle.call_answer.specs.Answers.{completion_text, completion_memory}
use Rattle.call_answer.proofs.put_completion.Goals as goal

pub returns-in-Ok-clause-answer : goal.returns-in-Ok-clause-answer
unfolding completion_text completion_memory
returns-in-Ok-clause-answer c =
    let carried = c.put_carried_out.ensures.answer in
    rw c.in-Ok.is (record { text = rw append_assoc (wrote-append (rw c.count.ensures at c.put_completed.ensures) carried.text); after = carried.after })

pub returns-in-Err-clause-answer : goal.returns-in-Err-clause-answer
unfolding completion_text completion_memory
returns-in-Err-clause-answer c =
    rw c.in-Err.is
    (record { text = wrote-within (lit≤ tt) (rw c.from.ensures at c.put_refused.ensures); after = refl })
