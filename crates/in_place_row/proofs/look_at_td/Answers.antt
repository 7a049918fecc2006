-- `in_place_row::look_at_td` meets its contract: the loop keeps to what is left of the TD, and ends behind its last TRB. Assumes nothing.
use Prim.Native.Nat.{ℕ, ◌<◌, ◌≤◌}
use mathlib.Core.Path.{◌≡◌, refl, sym, ◌∙◌}
use mathlib.Core.Bool.{true}
use native.Mathlib.Omega.{arith}
use lib.ListN.{length, get_or}
use Rattle.held.specs.Places.{past_end}
use Rattle.row_walk.proofs.TdsLaws.{Looked, looked-none, looked-turn, looked-fits, looked-few, looked-end}
use Rattle.in_place_row.proofs.KeptLaws.{trbs_of, as_many, read_at}
use Rattle.in_place_row.proofs.look_at_td.Goals.{After-trb_in-t, In-loop-more, Start}
use Rattle.in_place_row.proofs.look_at_td.Goals as goal

le_trans_lt : {a b c : ℕ} → a ≤ b → b < c → a < c
le_trans_lt h k = omega arith

-- the call
inside : (s : Start) → s.args.first < length (trbs_of s.args.row.now)
inside s = omega (arith, s.requires.0, as_many s.args.row.now)

-- where its next TRB is looked at
module _ (c : In-loop-more) where
  looking : Looked (trbs_of c.args.row.now) c.args.first c.loop-more.asked c.loop-more.end true
  looking = rw c.loop-more-test.true at c.loop-more.invariant

  more : c.loop-more.end < length c.args.row.now
  more = omega (arith, looking.inside refl, as_many c.args.row.now)

read : (c : After-trb_in-t) → c.loop-more.end < length c.args.row.now → c.trb_in-t.result ≡ get_or (trbs_of c.args.row.now) c.loop-more.end past_end
read c h = c.trb_in-t.ensures ∙ sym (read_at c.args.row.now c.loop-more.end h)

pub loop-more-init : goal.loop-more-init
loop-more-init c = rw c.nothing_asked-asked.ensures (looked-none (trbs_of c.args.row.now) c.args.first (inside (goal.at.loop-more-init c).Start))

pub asked_more-asked-requires : goal.asked_more-asked-requires
asked_more-asked-requires c =
    let g = goal.at.asked_more-asked-requires c in
    let l = c.loop-more in
    let ts = trbs_of c.args.row.now in
    let h = looked-fits ts c.args.first l.asked l.end past_end (looking g.In-loop-more) in
    let k = looked-few ts c.args.first l.asked l.end past_end (looking g.In-loop-more) in
    rw (read g.After-trb_in-t (more g.In-loop-more)) (le_trans_lt h c.requires.1.1.1, omega (arith, k, c.requires.1.0, as_many c.args.row.now))

pub overflow_add-end : goal.overflow_add-end
overflow_add-end c = omega (arith, more (goal.at.overflow_add-end c).In-loop-more, c.requires.1.0)

pub loop-more-smaller : goal.loop-more-smaller
loop-more-smaller c = omega (arith, more (goal.at.loop-more-smaller c).In-loop-more)

pub loop-more-preserved : goal.loop-more-preserved
loop-more-preserved c =
    let g = goal.at.loop-more-preserved c in
    let l = c.loop-more in
    rw (c.asked_more-asked.ensures, c.chain_of-more.ensures, read g.After-trb_in-t (more g.In-loop-more))
    (looked-turn (trbs_of c.args.row.now) c.args.first l.asked l.end past_end (looking g.In-loop-more) c.requires.1.1.0)

pub returns : goal.returns
returns c =
    let f = looked-end (trbs_of c.args.row.now) c.args.first c.loop-more.asked c.loop-more.end (inside (goal.at.returns c).Start) (rw c.loop-more-test.false at c.loop-more.invariant) in
    (λ j. record { asked = record { length = f.sum j; normals = f.count j }; end = f.size j })
