use Prim.Native.Nat.{◌+◌}
use mathlib.Core.Path.{◌≡◌}
use lib.ListN.{drop}
use Rattle.in_bytes.proofs.HeldLaws.{requested-in}
use Rattle.in_bytes.proofs.requested_length.Given as goal

abbrev pub invariant-loop-place : goal.invariant-loop-place
invariant-loop-place l = l.sum + requested-in (drop l.place-index l.places) ≡ requested-in l.places
