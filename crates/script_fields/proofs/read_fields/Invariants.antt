use Prim.Native.Nat.{◌≤◌}
use mathlib.Core.Path.{◌≡◌}
use lib.ListN.{length}
use Rattle.script_fields.specs.Fields.{max_numbers, fields_of, behind_letter}
use Rattle.script_fields.proofs.read_fields.Given as goal

abbrev pub invariant-loop-space : goal.invariant-loop-space
invariant-loop-space l = (l.fields.count ≤ max_numbers) × (behind_letter l.fields l.rest ≡ fields_of l.line)

abbrev pub decreases-loop-space : goal.decreases-loop-space
decreases-loop-space l = length l.rest
