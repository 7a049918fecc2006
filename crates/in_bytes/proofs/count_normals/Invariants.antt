use Prim.Native.Nat.{◌+◌}
use mathlib.Core.Path.{◌≡◌}
use lib.ListN.{drop}
use Rattle.in_bytes.proofs.HeldLaws.{normals-in}
use Rattle.in_bytes.proofs.count_normals.Given as goal

abbrev pub invariant-loop-place : goal.invariant-loop-place
invariant-loop-place l = l.count + normals-in (drop l.place-index l.places) ≡ normals-in l.places
