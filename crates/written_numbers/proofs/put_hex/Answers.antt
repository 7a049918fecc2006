-- `written_numbers::put_hex` meets its contract: the digits are those of `hex_of`, each below the base, and they are written without leading zeros.
-- Assumes nothing.
use native.Mathlib.Omega.{arith}
use Rattle.numerals.specs.Digits.{hex_of}
use Rattle.numerals.specs.Widths.{hex_places}
use Rattle.numerals.proofs.DigitLaws.{length_digits, AllBelow-digits}
use Rattle.written_numbers.proofs.put_hex.Goals as goal

pub put_trimmed-requires : goal.put_trimmed-requires
put_trimmed-requires c =
    let n = c.args.n in
    rw c.hex_digits-digits.ensures record { has_room = omega (arith, length_digits 16 hex_places n); all_below = AllBelow-digits 16 hex_places n (omega arith) }

pub returns : goal.returns
unfolding hex_of
returns c = rw (c.hex_digits-digits.ensures, length_digits 16 hex_places c.args.n) at c.put_trimmed.ensures
