use Prim.Native.Nat.{◌<◌, ◌^◌}
use mathlib.Core.Path.{◌≡◌}
use lib.ListN.{drop}
use Rattle.call_number.specs.Numbers.{digits_from}
use Rattle.call_number.proofs.read_digits.Given as goal

abbrev pub invariant-loop-character : goal.invariant-loop-character
invariant-loop-character l = (l.value < 16 ^ l.character-index) × (digits_from l.value (drop l.character-index l.field) ≡ digits_from 0 l.field)
