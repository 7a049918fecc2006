-- `control_transfer::collect_data` meets its contract: what is collected fits, by question 7; otherwise the buffer stays. Assumes nothing.
use Rattle.std.proofs.Common.{sym, ◌∙◌, arith}
use Rattle.buffers.proofs.PatchLaws.{patch-none}
use Rattle.control_transfer.proofs.TransferLaws.{collectable-size}
use Rattle.control_transfer.proofs.collect_data.Goals as goal

pub collect_transfer_data-requires : goal.collect_transfer_data-requires
collect_transfer_data-requires c =
    let size = collectable-size c.args.outcome c.args.input c.args.collected c.args.«data» c.requires.1 (sym c.is_collected.ensures ∙ c.if-is_collected.true) in
    omega (arith, size, c.requires.0)

pub returns-else-is_collected : goal.returns-else-is_collected
returns-else-is_collected c =
    let s = c.args in
    rw (← c.is_collected.ensures, c.if-is_collected.false) (sym (patch-none s.collect.now s.collected))
