-- `delivery::writes_inside` meets its contract: the loop keeps to question 11 of the TRBs. Assumes nothing.
use mathlib.Core.Path.{refl, sym, ◌∙◌}
use native.Mathlib.Omega.{arith}
use lib.ListN.{length}
use lib.Seq.{take-length}
use Rattle.delivery.proofs.TurnLaws.{left_out, left-next, left_end}
use Rattle.delivery.proofs.writes_inside.Goals as goal

pub loop-t-init : goal.loop-t-init
loop-t-init c = refl

-- what the laws of the loop say, with as many TRBs as there are
pub loop-t-preserved : goal.loop-t-preserved
loop-t-preserved c =
    let ts = c.args.trbs.now in
    let inside = sym (rw c.bytes_taken-count.ensures at c.write_inside.ensures) ∙ c.if-not-write_inside.false in
    let next = left-next c.args.regions ts (length ts) (omega arith) c.args.given c.loop-t.left c.loop-t.t-index (rw take-length c.loop-t.invariant) c.loop-t-test.true inside in
    rw c.bytes_taken-count.ensures (rw take-length at next)

pub returns-then-not-write_inside : goal.returns-then-not-write_inside
returns-then-not-write_inside c =
    let ts = c.args.trbs.now in
    let outside = sym (rw c.bytes_taken-count.ensures at c.write_inside.ensures) ∙ c.if-not-write_inside.true in
    let out = left_out c.args.regions ts (length ts) (omega arith) c.args.given c.loop-t.left c.loop-t.t-index (rw take-length c.loop-t.invariant) c.loop-t-test.true outside in
    rw take-length at out

pub returns : goal.returns
returns c =
    let ts = c.args.trbs.now in
    let end = left_end c.args.regions ts (length ts) (omega arith) c.args.given c.loop-t.left c.loop-t.t-index (rw take-length c.loop-t.invariant) c.loop-t-test.false in
    rw take-length at end
