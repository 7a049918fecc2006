-- `control_bytes::put_counts` meets its contract: the bytes laid over the block are those of the numbers. Assumes nothing.
use Prim.Native.Nat.{ℕ}
use mathlib.Core.Path.{ap, ◌∙◌}
use mathlib.Core.List.{List}
use native.Mathlib.Omega.{arith}
use Rattle.buffers.specs.Patch.{patch}
use Rattle.control_bytes.proofs.PartLaws.{counts-headed}
use Rattle.control_bytes.proofs.put_counts.Goals as goal

pub returns : goal.returns
returns c =
    let b = c.args.block.now in
    counts-headed b c.args.collected c.args.request_length c.args.held c.requires.0 (omega arith) (omega arith) (omega (arith, c.requires.1)) _ (c.copy_into.ensures ∙ ap (λ (vs : List ℕ). patch b 32 vs) c.count_cells-cells.ensures)
