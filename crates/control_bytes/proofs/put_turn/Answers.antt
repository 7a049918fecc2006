-- `control_bytes::put_turn` meets its contract: the bytes laid over the block are those of its turn. Assumes nothing.
use Prim.Native.Nat.{ℕ}
use mathlib.Core.Path.{ap, ◌∙◌}
use mathlib.Core.List.{List}
use Rattle.buffers.specs.Patch.{patch}
use Rattle.control_bytes.proofs.PartLaws.{turn-headed}
use Rattle.control_bytes.proofs.put_turn.Goals as goal

pub returns : goal.returns
returns c =
    let b = c.args.block.now in
    turn-headed b c.args.phase c.args.state c.args.direction c.requires c.turn_cells.ensures.address _ (c.copy_into.ensures ∙ ap (λ (vs : List ℕ). patch b 4 vs) c.turn_cells.ensures.cells)
