-- `written_numbers::put_digits` meets its contract. The loop's invariant: the characters of the digits from `digit-index` on remain to be written.
-- Assumes nothing.
use mathlib.Core.Path.{◌≡◌}
use mathlib.Core.List.{[]}
use native.Mathlib.Omega.{arith}
use lib.ListN.{drop, length-map, drop_of_length-le}
use Rattle.numerals.specs.Digits.{digit_char}
use Rattle.numerals.proofs.ListLaws.{drop-next}
use Rattle.numerals.proofs.DigitLaws.{get_or-AllBelow}
use Rattle.text.proofs.WroteLaws.{remaining-less, remaining-none}
use Rattle.written_numbers.proofs.put_digits.Goals as goal

pub digit_char-requires : goal.digit_char-requires
digit_char-requires c = get_or-AllBelow c.args.digits.now _ c.requires.all_below (omega arith)

pub loop-digit-preserved : goal.loop-digit-preserved
loop-digit-preserved c =
    let ds = c.args.digits.now in
    (remaining-less _ _ (rw (drop-next ds c.loop-digit.digit-index (omega arith)) at c.loop-digit.invariant) (rw c.digit_char.ensures at c.put_char.ensures))

pub returns : goal.returns
returns c =
    let ds = c.args.digits.now in
    let none : drop c.loop-digit.digit-index ds ≡ [] = drop_of_length-le ds {i = c.loop-digit.digit-index} (omega arith) in
    remaining-none (omega (arith, length-map ds digit_char)) (rw none at c.loop-digit.invariant)
