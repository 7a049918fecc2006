-- `capture_writer::write_file_header` meets its contract: 14 where the buffer is short of 24 bytes, else the header over its start. Assumes nothing.
use mathlib.Core.Path.{refl, sym}
use lib.ListN.{length}
use Rattle.capture_record.specs.Calls.{writer_head}
use Rattle.capture_record.proofs.CallLaws.{length-writer_head}
use Rattle.capture_writer.proofs.WritingLaws.{writes, writes-not, short-head, whole-head}
use Rattle.capture_writer.proofs.write_file_header.Goals as goal

pub returns-then-output-lt-FILE_HEADER_LENGTH : goal.returns-then-output-lt-FILE_HEADER_LENGTH
returns-then-output-lt-FILE_HEADER_LENGTH c =
    let d = c.args.output.now in
    writes-not _ writer_head d 14 refl (short-head (length d) c.if-output-lt-FILE_HEADER_LENGTH.true)

pub returns : goal.returns
returns c =
    let d = c.args.output.now in
    rw (c.copy_into.ensures, c.file_head-cells.ensures) (writes _ writer_head d 24 (sym length-writer_head) (whole-head (length d) c.if-output-lt-FILE_HEADER_LENGTH.false))
