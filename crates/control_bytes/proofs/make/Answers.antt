-- `control_bytes::make` meets its contract. Assumes nothing.
use Prim.Native.Nat.{ℕ}
use mathlib.Core.Path.{ap, ◌∙◌}
use mathlib.Core.List.{List}
use Rattle.buffers.specs.Patch.{patch}
use Rattle.control_bytes.proofs.HeadLaws.{made}
use Rattle.control_bytes.proofs.make.Goals as goal

pub returns : goal.returns
returns c =
    made c.args.block.now c.args.endpoint_id c.args.slot_id c.args.release c.requires _
    (c.copy_into.ensures ∙ ap (λ (cells : List ℕ). patch c.args.block.now 0 cells) c.fresh_head-cells.ensures)
