use Prim.Native.Nat.{◌%◌, ◌<◌, ◌≤◌, ◌^◌}
use mathlib.Core.Path.{◌≡◌}
use mathlib.Core.List.{map}
use Rattle.numerals.specs.Digits.{digit_char, digits, decimal_of}
use Rattle.numerals.specs.Widths.{decimal_places}
use Rattle.text.proofs.WroteLaws.{Remaining}
use Rattle.written_numbers.proofs.put_decimal.Given as goal

abbrev pub invariant-loop-place : goal.invariant-loop-place
invariant-loop-place l = ((0 < l.place) × (l.place ≤ decimal_places)) × (l.rest ≡ l.n % 10 ^ l.place) × Remaining l.initial.text (decimal_of l.n) l.text (map digit_char (digits 10 l.place l.n))
