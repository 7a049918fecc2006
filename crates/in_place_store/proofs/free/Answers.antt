-- `in_place_store::free` meets its contract. Assumes nothing.
use Rattle.in_place_store.proofs.ChangeLaws.{becomes-freed}
use Rattle.in_place_store.proofs.free.Goals as goal

pub returns : goal.returns
returns c =
    let a = c.args in
    becomes-freed a.block.now c.blank_places.new.block c.put_head.new.block c.held-held.result c.places_held.result c.requires c.held-held.ensures c.places_held.ensures c.blank_places.ensures c.put_head.ensures
