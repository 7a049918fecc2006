-- `in_turn::process_td` meets its contract: after each TRB, what the walk has made of those before it. Assumes nothing.
use mathlib.Core.Path.{◌≡◌}
use mathlib.Core.List.{List}
use native.Mathlib.Omega.{arith}
use lib.ListN.{length, take}
use lib.Seq.{take-length}
use Rattle.trb.specs.declared.TransferTrb.{TransferTrb}
use Rattle.in_td.specs.Td.{normals}
use Rattle.in_td.proofs.TurnLaws.{walked_td-none, walked_td-turn, walked_td-room, walked_td-end}
use Rattle.in_turn.proofs.process_td.Goals as goal

whole : (ts : List TransferTrb) → normals (take (length ts) ts) ≡ normals ts
whole ts = rw take-length

pub loop-t-init : goal.loop-t-init
loop-t-init c =
    let ts = c.args.trbs.now in
    rw (c.unprocessed-so_far.ensures, c.requires.normals, ← whole ts) (walked_td-none c.args.td (length ts) ts c.args.log.now)

pub next_trb-so_far-requires : goal.next_trb-so_far-requires
next_trb-so_far-requires c =
    let ts = c.args.trbs.now in
    walked_td-room c.args.td (length ts) ts c.args.log.now c.loop-t.log c.loop-t.so_far c.loop-t.t-index c.loop-t.invariant (omega arith) c.loop-t-test.true c.requires.room

pub loop-t-preserved : goal.loop-t-preserved
loop-t-preserved c =
    let ts = c.args.trbs.now in
    walked_td-turn c.args.td (length ts) ts c.args.log.now c.loop-t.log c.loop-t.so_far c.loop-t.t-index c.loop-t.invariant (omega arith) c.loop-t-test.true c.requires.room
    c.next_trb-so_far.new.log c.next_trb-so_far.result c.next_trb-so_far.ensures

pub returns : goal.returns
returns c =
    let ts = c.args.trbs.now in
    let p = walked_td-end c.args.td (length ts) ts c.args.log.now c.loop-t.log c.loop-t.so_far c.loop-t.t-index c.loop-t.invariant (omega arith) c.loop-t-test.false in
    rw take-length at p
