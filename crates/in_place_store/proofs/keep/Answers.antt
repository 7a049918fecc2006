-- `in_place_store::keep` meets its contract. Assumes nothing.
use Rattle.in_place_store.proofs.ChangeLaws.{becomes-due}
use Rattle.in_place_store.proofs.keep.Goals as goal

pub returns : goal.returns
returns c = becomes-due c.args.block.now c.requires
