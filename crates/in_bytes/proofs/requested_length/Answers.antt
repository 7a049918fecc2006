-- `in_bytes::requested_length` meets its contract. The loop's invariant: the sum so far and what the rest requests are what all request. Assumes nothing.
use Prim.Native.Nat.{◌+◌}
use mathlib.Core.Path.{◌≡◌}
use native.Mathlib.Nat.{zero-add}
use native.Mathlib.Omega.{arith}
use lib.ListN.{drop}
use Rattle.in_bytes.proofs.HeldLaws.{requested-few, requested-in, requested-next, requested-none}
use Rattle.in_bytes.proofs.requested_length.Goals.{After-normal_length-sum}
use Rattle.in_bytes.proofs.requested_length.Goals as goal

-- what is left, in a turn: the TRB that is read, and the rest
turn : (c : After-normal_length-sum) →
    requested-in (drop c.loop-place.place-index c.args.places.now) ≡ c.normal_length-sum.result + requested-in (drop (c.loop-place.place-index + 1) c.args.places.now)
turn c = rw c.normal_length-sum.ensures (requested-next c.args.places.now c.loop-place.place-index c.loop-place-test.true)

pub loop-place-init : goal.loop-place-init
loop-place-init c = zero-add _

pub overflow_add-sum : goal.overflow_add-sum
overflow_add-sum c = omega (arith, turn (goal.at.overflow_add-sum c).After-normal_length-sum, requested-few c.args.places.now, c.loop-place.invariant, c.requires)

pub loop-place-preserved : goal.loop-place-preserved
loop-place-preserved c = omega (arith, turn (goal.at.loop-place-preserved c).After-normal_length-sum, c.loop-place.invariant)

pub returns : goal.returns
returns c = omega (arith, c.loop-place.invariant, requested-none c.args.places.now c.loop-place.place-index c.loop-place-test.false)
