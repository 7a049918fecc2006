-- `capture_convert::write_records` meets its contract. The loop's invariant: the records left are what is left to write. Assumes nothing.
use Rattle.std.proofs.Common.{◌<◌, length, refl, arith}
use Rattle.text.proofs.WroteLaws.{remaining-all}
use Rattle.capture_convert.proofs.WritingLaws.{first-resizable, first-sized, room-here, writing_step, writing-ends}
use Rattle.capture_convert.proofs.write_records.Goals.{In-loop-rest}
use Rattle.capture_convert.proofs.write_records.Goals as goal

-- a record is left
more : (c : In-loop-rest) → 0 < length c.loop-rest.rest.now
more c = grind arith

pub loop-rest-init : goal.loop-rest-init
loop-rest-init c = record { left = c.requires.0; todo = remaining-all _ _ c.requires.1 }

pub write_record-requires : goal.write_record-requires
write_record-requires c =
    let h = more (goal.at.write_record-requires c).In-loop-rest in
    (first-resizable c.loop-rest.rest.now h c.loop-rest.invariant.left, room-here c.loop-rest.invariant h)

pub split_record-requires : goal.split_record-requires
split_record-requires c =
    let h = more (goal.at.split_record-requires c).In-loop-rest in
    let size = first-sized c.loop-rest.rest.now h c.loop-rest.invariant.left in
    (omega (arith, size.long), omega (arith, size.long, size.sum))

pub loop-rest-preserved : goal.loop-rest-preserved
loop-rest-preserved c =
    rw c.split_record.ensures.left
    (writing_step c.loop-rest.invariant (more (goal.at.loop-rest-preserved c).In-loop-rest) refl c.write_record.ensures)

pub returns : goal.returns
returns c = writing-ends c.loop-rest.invariant (grind arith)
