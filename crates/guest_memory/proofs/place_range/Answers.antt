-- `guest_memory::place_range` meets its contract: the low region is asked first. Assumes nothing.
use Rattle.std.specs.Prelude.{None, Some}
use Prim.Native.Nat.{ℕ, ◌-◌}
use mathlib.Core.Path.{◌≡◌, refl, sym, ap, ◌∙◌}
use mathlib.Core.Bool.{Bool, true, false, cond}
use Rattle.guest_memory.specs.Places.{in_region}
use Rattle.guest_memory.specs.declared.Place.TheVariants.{InLow, InHigh}
use Rattle.guest_memory.proofs.PlaceLaws.{place_of-low, place_of-high, place_of-outside}
use Rattle.guest_memory.proofs.place_range.Goals as goal

told : (t : Bool) (x at : ℕ) → Some at ≡ cond t (Some x) None → (t ≡ true) × (at ≡ x)
told true x at e = (refl, cc)
told false x at e = cc

untold : (t : Bool) (x : ℕ) → None ≡ cond t (Some x) None → t ≡ false
untold true x e = cc
untold false x e = refl

pub returns-in-Some : goal.returns-in-Some
returns-in-Some c =
    let rs = c.args.regions in
    let low = told (in_region rs.low c.args.pointer c.args.count) (c.args.pointer - rs.low.start_addr) c.in-Some.start c.in-Some.ensures in
    ap InLow low.1 ∙ sym (place_of-low rs c.args.pointer c.args.count low.0)

pub returns-in-Some-offset_in : goal.returns-in-Some-offset_in
returns-in-Some-offset_in c =
    let rs = c.args.regions in
    let low = untold (in_region rs.low c.args.pointer c.args.count) (c.args.pointer - rs.low.start_addr) c.in_default.ensures in
    let high = told (in_region rs.high c.args.pointer c.args.count) (c.args.pointer - rs.high.start_addr) c.in-Some-offset_in.start c.in-Some-offset_in.ensures in
    ap InHigh high.1 ∙ sym (place_of-high rs c.args.pointer c.args.count low high.0)

pub returns-in_default-offset_in : goal.returns-in_default-offset_in
returns-in_default-offset_in c =
    let rs = c.args.regions in
    let low = untold (in_region rs.low c.args.pointer c.args.count) (c.args.pointer - rs.low.start_addr) c.in_default.ensures in
    let high = untold (in_region rs.high c.args.pointer c.args.count) (c.args.pointer - rs.high.start_addr) c.in_default-offset_in.ensures in
    sym (place_of-outside rs c.args.pointer c.args.count low high)
