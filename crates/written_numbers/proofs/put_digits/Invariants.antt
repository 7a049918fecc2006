use mathlib.Core.List.{map}
use lib.ListN.{drop}
use Rattle.numerals.specs.Digits.{digit_char}
use Rattle.text.proofs.WroteLaws.{Remaining}
use Rattle.written_numbers.proofs.put_digits.Given as goal

abbrev pub invariant-loop-digit : goal.invariant-loop-digit
invariant-loop-digit l = Remaining l.initial.text (map digit_char l.digits) l.text (map digit_char (drop l.digit-index l.digits))
