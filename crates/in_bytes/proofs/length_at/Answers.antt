-- `in_bytes::length_at` meets its contract. Assumes nothing.
use Prim.Native.Nat.{◌+◌, ◌%◌}
use mathlib.Core.Path.{sym, ap}
use mathlib.Core.List.{List}
use lib.ListN.{take}
use lib.Seq.{drop-drop}
use Prim.Native.Nat.{ℕ}
use Rattle.std.proofs.lemmas.Nat.{and_mask}
use Rattle.trb.specs.Limits.{max_transfer_length}
use Rattle.buffers.specs.LittleEndian.{le_number}
use Rattle.in_bytes.proofs.length_at.Goals as goal

pub returns : goal.returns
returns c =
    let s = c.args in
    rw (c.le32.ensures, and_mask _ 17) (sym (ap (λ (l : List ℕ). le_number (take 4 l) % (max_transfer_length + 1)) (drop-drop 16 s.at s.block.now)))
