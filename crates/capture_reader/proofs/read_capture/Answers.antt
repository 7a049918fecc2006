-- `capture_reader::read_capture` meets its contract: the file header, then the records behind it. Assumes nothing.
use Rattle.std.proofs.Common.{◌∙◌, sym}
use Rattle.capture_file.proofs.ReadingLaws.{part-from}
use Rattle.capture_reader.proofs.ReadingLaws.{reads-headless, reads-headed}
use Rattle.capture_reader.proofs.read_capture.Goals as goal

pub returns-then-not-is_head : goal.returns-then-not-is_head
returns-then-not-is_head c = reads-headless c.args.input.now (sym c.is_head.ensures.answer ∙ c.if-not-is_head.true)

pub returns : goal.returns
returns c =
    let l = c.args.input.now in
    rw (c.count_records.ensures, part-from l 24) (reads-headed l (sym c.is_head.ensures.answer ∙ c.if-not-is_head.false))
