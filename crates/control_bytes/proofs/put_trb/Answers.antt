-- `control_bytes::put_trb` meets its contract. Assumes nothing.
use native.Mathlib.Omega.{arith}
use Rattle.control_bytes.proofs.PlaceLaws.{placed_by}
use Rattle.control_bytes.proofs.put_trb.Goals as goal

pub returns : goal.returns
returns c =
    let g = c.well_formed.1.1.0 in
    placed_by c.args.block.now c.args.i c.args.numbers _ c.requires.block_length_in_bounds.0 c.requires.block_length_in_bounds.1 (omega (arith, g)) (omega (arith, g)) (omega (arith, g)) c.requires.numbers_value.0 c.requires.numbers_value.1 c.put_place.ensures
