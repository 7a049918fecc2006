-- `row_walk::look_at_td` meets its contract: the loop keeps to what is left of the TD, and ends behind its last TRB. Assumes nothing.
use Prim.Native.Nat.{ℕ, ◌+◌, ◌<◌, ◌≤◌}
use native.Mathlib.Omega.{arith}
use Rattle.held.specs.Places.{past_end}
use Rattle.row_walk.proofs.TdsLaws.{looked-none, looked-turn, looked-fits, looked-few, looked-end}
use Rattle.row_walk.proofs.look_at_td.Goals as goal

le_trans_lt : {a b c : ℕ} → a ≤ b → b < c → a < c
le_trans_lt h k = omega arith

pub loop-last-init : goal.loop-last-init
loop-last-init c = rw c.nothing_asked-asked.ensures (looked-none c.args.row.now c.args.first c.requires.0)

pub asked_more-asked-requires : goal.asked_more-asked-requires
asked_more-asked-requires c =
    let l = c.loop-last in
    let ts = c.args.row.now in
    let h = looked-fits ts c.args.first l.asked l.last past_end l.invariant in
    let k = looked-few ts c.args.first l.asked l.last past_end l.invariant in
    (le_trans_lt h c.requires.1.1.1, omega (arith, k, c.requires.1.0))

pub returns-then-not-chain_of : goal.returns-then-not-chain_of
returns-then-not-chain_of c =
    let l = c.loop-last in
    let ts = c.args.row.now in
    let looked = rw (← c.asked_more-asked.ensures, ← c.chain_of.ensures, c.if-not-chain_of.true) at (looked-turn ts c.args.first l.asked l.last past_end l.invariant c.requires.1.1.0) in
    let f = looked-end ts c.args.first c.asked_more-asked.result (l.last + 1) c.requires.0 looked in
    (λ j. record { asked = record { length = f.sum j; normals = f.count j }; end = f.size j })

pub loop-last-preserved : goal.loop-last-preserved
loop-last-preserved c =
    let l = c.loop-last in
    rw (← c.asked_more-asked.ensures, ← c.chain_of.ensures, c.if-not-chain_of.false) at (looked-turn c.args.row.now c.args.first l.asked l.last past_end l.invariant c.requires.1.1.0)
