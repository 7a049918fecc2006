-- `control_bytes::put_head` meets its contract: the bytes laid over the block are those of the head. Assumes nothing.
use Prim.Native.Nat.{ℕ}
use mathlib.Core.Path.{ap, ◌∙◌}
use mathlib.Core.List.{List}
use native.Mathlib.Omega.{arith}
use Rattle.buffers.specs.Patch.{patch}
use Rattle.control_bytes.specs.Head.{Fit}
use Rattle.control_bytes.proofs.HeadLaws.{headed}
use Rattle.control_bytes.proofs.put_head.Goals as goal

pub returns : goal.returns
returns c =
    let b = c.args.block.now in
    let w = c.args.transfer in
    let fit : Fit w c.args.state c.args.held = record {
      state-address = c.encoded.ensures.address;
      address = omega (arith, c.well_formed.1.0);
      value = omega (arith, c.well_formed.1.0);
      index = omega (arith, c.well_formed.1.0);
      collected = omega (arith, c.well_formed.1.0);
      request-length = omega (arith, c.well_formed.1.0);
      held-few = omega (arith, c.requires.1);
    } in
    headed b w c.args.state c.args.held c.requires.0 fit _ (c.copy_into.ensures ∙ ap (λ (vs : List ℕ). patch b 4 vs) c.encoded.ensures.cells)
