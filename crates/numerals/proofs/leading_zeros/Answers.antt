-- `numerals::leading_zeros` meets its contract: behind the zeros that all digits but the last begin with, trimmed digits begin. Assumes nothing.
use Prim.Native.Nat.{◌-◌}
use mathlib.Core.Path.{◌≡◌}
use native.Mathlib.Omega.{arith}
use lib.ListN.{length, take, length-take}
use lib.Dec.{eqb}
use Rattle.std.specs.List.{prefix_len, take_while}
use Rattle.numerals.proofs.DigitLaws.{drop-zeros}
use Rattle.numerals.proofs.leading_zeros.Goals as goal

pub returns : goal.returns
returns c =
    let ds = c.args.digits.now in
    let front = take (length ds - 1) ds in
    let count : c.zeros.result ≡ length (take_while (λ d. eqb d 0) front) = rw c.saturating_sub-last.ensures at c.zeros.ensures in
    (omega (arith, count, length-take (prefix_len (λ d. eqb d 0) front) front, length-take (length ds - 1) ds), rw count (drop-zeros ds))
