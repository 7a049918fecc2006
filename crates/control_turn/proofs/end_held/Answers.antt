-- `control_turn::end_held` meets its contract: the loop keeps to the walk. Assumes nothing.
use Prim.Native.Nat.{◌+◌, ◌*◌, ◌≤◌}
use mathlib.Core.Path.{refl}
use native.Mathlib.Omega.{arith}
use lib.ListN.{length, take}
use lib.Seq.{take-length}
use Rattle.trb.specs.Limits.{record_length}
use Rattle.held.specs.Places.{past_end}
use Rattle.td_part.specs.Parts.{at_start}
use Rattle.walks.proofs.WalkLaws.{walked_none, walked-turn, walked_end}
use Rattle.control_chain.proofs.EndingLaws.{ending_walker}
use Rattle.control_turn.proofs.end_held.Goals.{Start}
use Rattle.control_turn.proofs.end_held.Goals as goal

room : (s : Start) → record_length * (0 + 2 * length s.args.trbs.now) ≤ length s.args.log.now
room s = omega (arith, s.requires)

pub loop-t-init : goal.loop-t-init
loop-t-init c =
    let a = c.args in
    let ts = a.trbs.now in
    rw c.at_start_of_td-progress.ensures (walked_none (ending_walker a.ending a.info) at_start (take (length ts) ts) a.log.now (record { within = omega arith }))

pub next_trb-progress-requires : goal.next_trb-progress-requires
next_trb-progress-requires c =
    let w = c.loop-t.invariant in
    (omega (arith, w.room, w.long, room (goal.at.next_trb-progress-requires c).Start, c.loop-t-test.true), w.good)

pub loop-t-preserved : goal.loop-t-preserved
loop-t-preserved c =
    let a = c.args in
    let ts = a.trbs.now in
    let r = c.next_trb-progress in
    walked-turn (ending_walker a.ending a.info) ts (length ts) (omega arith) at_start a.log.now c.loop-t.log r.new.log c.loop-t.progress r.result c.loop-t.t-index past_end c.loop-t.invariant refl c.loop-t-test.true (room (goal.at.loop-t-preserved c).Start) r.ensures

pub returns : goal.returns
returns c =
    let a = c.args in
    let ts = a.trbs.now in
    let p = walked_end (ending_walker a.ending a.info) ts (length ts) (omega arith) at_start a.log.now c.loop-t.log c.loop-t.progress c.loop-t.t-index c.loop-t.invariant c.loop-t-test.false in
    rw take-length at p
