-- `guest_memory::get_slice` meets its contract: the part that is handed back starts at the place found and ends in that region. Assumes nothing.
use Prim.Native.Nat.{ℕ, ◌+◌, ◌-◌}
use mathlib.Core.Path.{◌≡◌, sym, ◌∙◌}
use native.Mathlib.Omega.{arith}
use Rattle.guest_memory.specs.Places.{bytes_at}
use Rattle.guest_memory.proofs.PlaceLaws.{placed-low, placed-high}
use Rattle.guest_memory.proofs.get_slice.Goals as goal

back : (k n : ℕ) → k + n - k ≡ n
back k n = omega arith

pub overflow_add-result : goal.overflow_add-result
overflow_add-result c =
    let found = rw c.regions.ensures at (sym c.place_range.ensures ∙ c.in-InLow.is) in
    omega (arith, (placed-low _ _ _ _ found).fits)

pub slice_bounds-result-end-in-InLow : goal.slice_bounds-result-end-in-InLow
slice_bounds-result-end-in-InLow c =
    let found = rw c.regions.ensures at (sym c.place_range.ensures ∙ c.in-InLow.is) in
    omega (arith, (placed-low _ _ _ _ found).fits)

pub overflow_add-result-in-InHigh : goal.overflow_add-result-in-InHigh
overflow_add-result-in-InHigh c =
    let found = rw c.regions.ensures at (sym c.place_range.ensures ∙ c.in-InHigh.is) in
    omega (arith, (placed-high _ _ _ _ found).fits)

pub slice_bounds-result-end-in-InHigh : goal.slice_bounds-result-end-in-InHigh
slice_bounds-result-end-in-InHigh c =
    let found = rw c.regions.ensures at (sym c.place_range.ensures ∙ c.in-InHigh.is) in
    omega (arith, (placed-high _ _ _ _ found).fits)

pub returns-in-Outside : goal.returns-in-Outside
unfolding bytes_at
returns-in-Outside c =
    rw (← c.regions.ensures, ← c.place_range.ensures, c.in-Outside.is)

pub returns-in-InLow : goal.returns-in-InLow
unfolding bytes_at
returns-in-InLow c =
    rw (back, ← c.regions.ensures, ← c.place_range.ensures, c.in-InLow.is)

pub returns-in-InHigh : goal.returns-in-InHigh
unfolding bytes_at
returns-in-InHigh c =
    rw (back, ← c.regions.ensures, ← c.place_range.ensures, c.in-InHigh.is)
