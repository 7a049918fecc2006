-- `control_transfer::collect_memory` meets its contract: the part that is handed back is no longer than the range. Assumes nothing.
use Rattle.std.proofs.Common.{ℕ, List, length, ap, arith}
use Rattle.guest_memory.specs.Lent.{seen}
use Rattle.guest_memory.proofs.PlaceLaws.{length-bytes_at}
use Rattle.control_transfer.proofs.collect_memory.Goals as goal

pub copy_into-requires : goal.copy_into-requires
copy_into-requires c =
    let m = seen c.args.memory.now in
    omega (arith, c.requires, ap (λ (l : List ℕ). length l) c.get_slice-part.ensures, length-bytes_at m c.args.pointer c.args.count)
