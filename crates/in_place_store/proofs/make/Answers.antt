-- `in_place_store::make` meets its contract. Assumes nothing.
use Rattle.in_place_store.proofs.ChangeLaws.{becomes-fresh}
use Rattle.in_place_store.proofs.make.Goals as goal

pub returns : goal.returns
returns c =
    let a = c.args in
    becomes-fresh a.block.now c.put_ids.new.block c.blank_places.new.block c.put_head.new.block a.endpoint_id a.slot_id a.mode c.requires c.put_ids.ensures c.blank_places.ensures c.put_head.ensures
