-- `in_place_store::drop_held` meets its contract. Assumes nothing.
use Rattle.in_place_store.proofs.ChangeLaws.{becomes-dropped}
use borrow.Author.Rules.{rules}
use Rattle.in_place_store.proofs.drop_held.Goals as goal

pub returns : goal.returns
returns c =
    let a = c.args in
    becomes-dropped a.block.now c.put_address.new.block c.blank_places.new.block c.put_head.new.block c.held-held.result c.places_held.result a.addr
    c.requires c.held-held.ensures c.places_held.ensures (search rules) c.put_address.ensures c.blank_places.ensures c.put_head.ensures
