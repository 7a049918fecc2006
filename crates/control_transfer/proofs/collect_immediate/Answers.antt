-- `control_transfer::collect_immediate` meets its contract: the lowest of the eight bytes are those of the smaller width. Assumes nothing.
use mathlib.Core.Path.{◌≡◌}
use borrow.Author.Rules.{rules}
use Rattle.buffers.specs.LittleEndian.{le_bytes}
use Rattle.control_transfer.proofs.DataLaws.{take-le_bytes}
use Rattle.control_transfer.proofs.collect_immediate.Goals as goal

pub returns : goal.returns
returns c =
    let cells : c.to_le_bytes-cells.result ≡ le_bytes 8 c.args.pointer = search rules in
    rw (cells, take-le_bytes c.args.count 8 c.args.pointer c.requires.1) at c.copy_into.ensures
