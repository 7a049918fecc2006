-- `numerals::first_place` meets its contract. Assumes nothing.
use native.Mathlib.Omega.{arith}
use Rattle.numerals.proofs.PlaceLaws.{first-place-reached}
use Rattle.numerals.proofs.first_place.Goals as goal

pub returns : goal.returns
returns c = rw c.powers_within.ensures (first-place-reached c.args.n (omega arith))
