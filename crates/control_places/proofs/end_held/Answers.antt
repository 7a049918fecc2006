-- `control_places::end_held` meets its contract: the loop keeps to the walk. Assumes nothing.
use Prim.Native.Nat.{◌+◌, ◌*◌, ◌<◌, ◌≤◌}
use mathlib.Core.Path.{refl, sym, ap, ◌∙◌}
use native.Mathlib.Omega.{arith}
use lib.ListN.{length, take}
use Rattle.trb.specs.Limits.{record_length}
use Rattle.trb.specs.declared.TransferTrb.{TransferTrb}
use Rattle.held.specs.Places.{past_end}
use Rattle.call_log.proofs.CallLaws.{meets}
use Rattle.td_part.specs.Parts.{at_start}
use Rattle.walks.proofs.WalkLaws.{walked_none, walked-turn, walked_end}
use Rattle.control_chain.specs.Endings.{next_trb}
use Rattle.control_chain.proofs.EndingLaws.{ending_walker}
use Rattle.control_bytes.specs.Layout.{block_of}
use Rattle.control_bytes.proofs.FactLaws.{length-trbs, trb-in}
use Rattle.control_places.proofs.end_held.Goals.{Start, In-loop-place}
use Rattle.control_places.proofs.end_held.Goals as goal

few : (s : Start) → s.args.count ≤ length (block_of s.args.block.now).trbs
few s = omega (arith, s.requires.1.1, length-trbs s.args.block.now)

room : (s : Start) → record_length * (0 + 2 * s.args.count) ≤ length s.args.log.now
room s = omega (arith, s.requires.1)

pub loop-place-init : goal.loop-place-init
loop-place-init c =
    let a = c.args in
    rw c.at_start_of_td-progress.ensures
    (walked_none (ending_walker a.ending a.info) at_start (take a.count (block_of a.block.now).trbs) a.log.now (record { within = omega arith }))

pub held_places-place-items-requires : goal.held_places-place-items-requires
held_places-place-items-requires c = (c.requires.0, (c.requires.1.1.0, omega (arith, c.requires.1.1)))

-- a turn reads one of the first `count` places
more : (c : In-loop-place) → c.loop-place.place-index < c.args.count
more c = omega (arith, c.loop-place-test.true, c.held_places-place-items.ensures.count)

pub next_trb-progress-requires : goal.next_trb-progress-requires
next_trb-progress-requires c =
    let w = c.loop-place.invariant in
    (omega (arith, w.room, w.long, room (goal.at.next_trb-progress-requires c).Start, more (goal.at.next_trb-progress-requires c).In-loop-place), w.good)

pub loop-place-preserved : goal.loop-place-preserved
loop-place-preserved c =
    let a = c.args in
    let b = a.block.now in
    let less = more (goal.at.loop-place-preserved c).In-loop-place in
    let e = trb-in b a.count c.loop-place.place-index c.held_places-place-items.result.now c.held_places-place-items.ensures.trbs less c.loop-place-test.true ∙ sym c.numbers_in-numbers.ensures in
    walked-turn (ending_walker a.ending a.info) (block_of b).trbs a.count (few (goal.at.loop-place-preserved c).Start) at_start a.log.now c.loop-place.log c.next_trb-progress.new.log c.loop-place.progress c.next_trb-progress.result c.loop-place.place-index past_end c.loop-place.invariant refl less (room (goal.at.loop-place-preserved c).Start)
    (meets (ap (λ (x : TransferTrb). next_trb a.ending a.info c.loop-place.progress x) e) c.next_trb-progress.ensures)

pub shape_of-log : goal.shape_of-log
shape_of-log c = c.loop-place.invariant.long

pub returns : goal.returns
returns c =
    let a = c.args in
    walked_end (ending_walker a.ending a.info) (block_of a.block.now).trbs a.count (few (goal.at.returns c).Start) at_start a.log.now c.loop-place.log c.loop-place.progress c.loop-place.place-index c.loop-place.invariant (omega (arith, c.loop-place-test.false, c.held_places-place-items.ensures.count))
