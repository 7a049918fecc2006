-- `carry_out::perform_write` meets its contract: a write in range lies in the device's data and at a place of one region, the other region is unchanged, and
-- no other record changes either. Assumes nothing.
use Prim.Native.Nat.{ℕ, ◌+◌, ◌-◌, ◌≤◌}
use mathlib.Core.Path.{◌≡◌, sym, ap, ◌∙◌}
use mathlib.Core.List.{List}
use native.Mathlib.Omega.{arith}
use lib.ListN.{length, take, drop, length-take}
use Rattle.guest_memory.specs.Places.{memory_of}
use Rattle.guest_memory.proofs.PlaceLaws.{placed-low, placed-high}
use Rattle.carry_out.specs.Writes.{after_record}
use Rattle.carry_out.proofs.WriteLaws.{write_in_range-end}
use Rattle.carry_out.proofs.perform_write.Goals as goal

-- the bytes of the device that are moved
back : (k n : ℕ) → k + n - k ≡ n
back k n = omega arith

few : (k n : ℕ) (bytes : List ℕ) → length (take (k + n - k) (drop k bytes)) ≤ n
few k n bytes = omega (arith, back k n, length-take (k + n - k) (drop k bytes))

pub slice_bounds-bytes-end : goal.slice_bounds-bytes-end
slice_bounds-bytes-end c = write_in_range-end _ _ c.args.«record» (sym c.moves_bytes.ensures ∙ c.if-moves_bytes.true) c.requires

pub copy_into-requires : goal.copy_into-requires
copy_into-requires c =
    let r = c.args.«record» in
    let placed = placed-low _ _ _ _ (rw (c.place_range.ensures, c.regions-regions.ensures) at c.in-InLow.is) in
    omega (arith, placed.fits, few r.start r.length c.args.data.now)

pub copy_into-requires-in-InHigh : goal.copy_into-requires-in-InHigh
copy_into-requires-in-InHigh c =
    let r = c.args.«record» in
    let placed = placed-high _ _ _ _ (rw (c.place_range.ensures, c.regions-regions.ensures) at c.in-InHigh.is) in
    omega (arith, placed.fits, few r.start r.length c.args.data.now)

pub returns-in-Outside-clause-after : goal.returns-in-Outside-clause-after
unfolding after_record
returns-in-Outside-clause-after c = rw (← c.moves_bytes.ensures, c.if-moves_bytes.true, ← c.regions-regions.ensures, ← c.place_range.ensures, c.in-Outside.is)

pub returns-in-InLow-clause-after : goal.returns-in-InLow-clause-after
unfolding after_record
returns-in-InLow-clause-after c =
    rw (← c.moves_bytes.ensures, c.if-moves_bytes.true, ← c.regions-regions.ensures, ← c.place_range.ensures, c.in-InLow.is)
    (ap (λ (low : List ℕ). memory_of c.args.memory.now.low_base low c.args.memory.now.high_base c.args.memory.now.high.now) (rw back at c.copy_into.ensures))

pub returns-in-InHigh-clause-after : goal.returns-in-InHigh-clause-after
unfolding after_record
returns-in-InHigh-clause-after c =
    rw (← c.moves_bytes.ensures, c.if-moves_bytes.true, ← c.regions-regions.ensures, ← c.place_range.ensures, c.in-InHigh.is)
    (ap (λ (high : List ℕ). memory_of c.args.memory.now.low_base c.args.memory.now.low.now c.args.memory.now.high_base high) (rw back at c.copy_into-in-InHigh.ensures))

pub returns-else-moves_bytes-clause-after : goal.returns-else-moves_bytes-clause-after
unfolding after_record
returns-else-moves_bytes-clause-after c = rw (← c.moves_bytes.ensures, c.if-moves_bytes.false)
