-- `capture_reader::count_records` meets its contract. The loop's invariant: each record passed is one that the writer makes, and what is left gives what the whole
-- gives. Assumes nothing.
use Rattle.std.proofs.Common.{◌∙◌, sym, refl, arith}
use Rattle.capture_reader.proofs.ReadingLaws.{count-broken, count-step, count-ends}
use Rattle.capture_reader.proofs.count_records.Goals as goal

pub returns-then-not-is_record : goal.returns-then-not-is_record
returns-then-not-is_record c =
    count-broken c.loop-rest.invariant (grind arith) (sym c.is_record.ensures.answer ∙ c.if-not-is_record.true)

pub loop-rest-preserved : goal.loop-rest-preserved
loop-rest-preserved c =
    rw c.split_record.ensures.left
    (count-step c.loop-rest.invariant (grind arith) (sym c.is_record.ensures.answer ∙ c.if-not-is_record.false) refl (grind arith))

pub returns : goal.returns
returns c = count-ends c.loop-rest.invariant (grind arith)
