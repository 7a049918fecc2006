-- `in_place_store::store` meets its contract. Assumes nothing.
use Prim.Native.Nat.{◌<◌, ◌^◌}
use native.Mathlib.Omega.{arith}
use Rattle.in_place_store.proofs.ChangeLaws.{becomes-stored}
use borrow.Author.Rules.{rules}
use Rattle.in_place_store.proofs.store.Goals.{Start}
use Rattle.in_place_store.proofs.store.Goals as goal

-- the numbers fit their bytes
fit : (s : Start) → let n = s.args.numbers in (n.addr < 256 ^ 8) × ((n.value < 256 ^ 8) × (n.transfer_length < 256 ^ 4))
fit s = (search rules, (search rules, search rules))

pub returns : goal.returns
returns c =
    let a = c.args in
    becomes-stored a.block.now c.put_trb.new.block c.put_head.new.block c.held-held.result a.numbers a.state
    c.requires.block_length_in_bounds.0 c.held-held.ensures (omega (arith, c.held-held.ensures, c.requires.block_length_in_bounds.1)) (fit (goal.at.returns c).Start).0 (fit (goal.at.returns c).Start).1.0 (fit (goal.at.returns c).Start).1.1 c.requires.numbers_bound.0 c.requires.numbers_bound.1 c.put_trb.ensures c.put_head.ensures
