-- `guest_memory::offset_in` meets its contract: below the region, past its end, and else by whether the range ends in it. Assumes nothing.
use Rattle.std.specs.Prelude.{None, Some}
use Rattle.std.specs.Bool.{then_some}
use Prim.Native.Nat.{ℕ, ◌-◌, ◌≤◌}
use mathlib.Core.Path.{◌≡◌, refl, ◌∙◌}
use mathlib.Core.Bool.{Bool, true, false, cond}
use native.Mathlib.Omega.{arith}
use lib.Dec.{leb}
use borrow.Author.Tests.{leb-true, leb-false}
use Rattle.guest_memory.specs.declared.Region.{Region}
use Rattle.guest_memory.specs.Places.{in_region}
use Rattle.guest_memory.proofs.PlaceLaws.{in_region-below, in_region-past, in_region-in}
use Rattle.guest_memory.proofs.offset_in.Goals as goal

-- behind its start and ahead of its end, a range is in the region where it is no longer than what is left there
by-end : (r : Region) (pointer n left : ℕ) → r.start_addr ≤ pointer → pointer - r.start_addr ≤ r.len → left ≡ r.len - (pointer - r.start_addr)
    → then_some (leb n left) (pointer - r.start_addr) ≡ cond (in_region r pointer n) (Some (pointer - r.start_addr)) None
by-end r pointer n left low high e = by-test (leb n left) refl
  where
    by-test : (t : Bool) → leb n left ≡ t → then_some t (pointer - r.start_addr) ≡ cond (in_region r pointer n) (Some (pointer - r.start_addr)) None
    by-test true fits = let h = leb-true n left fits in rw (in_region-in r pointer n low (omega (arith, h, e, low, high)))
    by-test false past = let h = leb-false n left past in rw (in_region-past r pointer n (omega (arith, h, e, low, high)))

pub returns-in_err-offset : goal.returns-in_err-offset
returns-in_err-offset c = rw (in_region-below c.args.region c.args.pointer c.args.count (omega (arith, c.in_err-offset.ensures))) c.from_residual.ensures

pub returns-in_err-left : goal.returns-in_err-left
returns-in_err-left c = rw (in_region-past c.args.region c.args.pointer c.args.count (omega (arith, c.in_ok-offset.ensures, c.in_err-left.ensures))) c.from_residual-in_err-left.ensures

pub returns : goal.returns
returns c =
    let start = c.in_ok-offset.ensures in
    let left = c.in_ok-left.ensures in
    let at : c.in_ok-offset.offset ≡ c.args.pointer - c.args.region.start_addr = start.1 in
    c.then_some.ensures ∙ rw at (by-end c.args.region c.args.pointer c.args.count c.in_ok-left.left start.0 (rw at at left.0) (rw at at left.1))
