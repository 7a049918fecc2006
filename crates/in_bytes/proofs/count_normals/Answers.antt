-- `in_bytes::count_normals` meets its contract. The loop's invariant: those counted and those left are all that there are. Assumes nothing.
use Prim.Native.Nat.{ℕ, ◌+◌, ◌≤◌}
use mathlib.Core.Path.{◌≡◌, refl}
use mathlib.Core.Bool.{Bool, true, false, cond}
use mathlib.Core.List.{List, map}
use mir.Val.{bool_byte}
use native.Mathlib.Nat.{zero-add}
use native.Mathlib.Omega.{arith}
use lib.ListN.{length, length-map, drop}
use Rattle.held.specs.declared.EndpointKind.TheVariants.{In}
use Rattle.in_block.proofs.TestLaws.{normals-length}
use Rattle.held_bytes.specs.Places.{place_of}
use Rattle.in_bytes.proofs.HeldLaws.{normals-in, normals-next, normals-none}
use Rattle.in_bytes.proofs.count_normals.Goals.{After-is_normal}
use Rattle.in_bytes.proofs.count_normals.Goals as goal

as-byte : (b : Bool) → bool_byte b ≡ cond b 1 0
as-byte true = refl
as-byte false = refl

-- what is left, in a turn: the TRB that is read, and the rest
turn : (c : After-is_normal) → normals-in (drop c.loop-place.place-index c.args.places.now) ≡ bool_byte c.is_normal.result + normals-in (drop (c.loop-place.place-index + 1) c.args.places.now)
turn c = rw (as-byte c.is_normal.result, c.is_normal.ensures) (normals-next c.args.places.now c.loop-place.place-index c.loop-place-test.true)

few : (cells : List (List ℕ)) → normals-in cells ≤ length cells
few cells = omega (arith, normals-length (map (place_of In) cells), length-map cells (place_of In))

pub loop-place-init : goal.loop-place-init
loop-place-init c = zero-add _

pub overflow_add-count : goal.overflow_add-count
overflow_add-count c = omega (arith, turn c, few c.args.places.now, c.loop-place.invariant, c.requires)

pub loop-place-preserved : goal.loop-place-preserved
loop-place-preserved c = omega (arith, turn c, c.loop-place.invariant)

pub returns : goal.returns
returns c = omega (arith, c.loop-place.invariant, normals-none c.args.places.now c.loop-place.place-index c.loop-place-test.false)
