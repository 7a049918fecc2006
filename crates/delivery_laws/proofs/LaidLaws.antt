-- The heart: writes in range, carried out in order, are their bytes laid. A write's bytes, laid one after the other over the region that holds them, are the
-- bytes laid at once; and what the guest reads at an address is the byte that was laid there last. Assumes nothing.
use Prim.Native.Nat.{ℕ, zero, suc, ◌+◌, ◌-◌, ◌≤◌, ◌<◌}
use mathlib.Core.Bool.{Bool, true, false, not, cond, ◌&&◌, ◌||◌, true≢false}
use mathlib.Core.Path.{◌≡◌, refl, sym, ap, ◌∙◌}
use mathlib.Core.List.{List, [], ◌∷◌, ◌++◌}
use native.Mathlib.Omega.{arith}
use lib.Dec.{ltb, leb}
use lib.ListN.{length, take, drop, get_or}
use lib.Seq.{drop-cons}
use borrow.Author.Tests.{ltb-false, leb-true}
use Rattle.trb.proofs.TestLaws.{and_left, and_right}
use Rattle.buffers.specs.Patch.{patch}
use Rattle.buffers.proofs.PatchLaws.{length-patch, patch-none, patch-append}
use Rattle.call_log.specs.declared.Record.{Record}
use Rattle.guest_memory.specs.declared.Place.{Place}
use Rattle.guest_memory.specs.declared.Place.TheVariants.{Outside, InLow, InHigh}
use Rattle.guest_memory.specs.declared.Regions.{Regions}
use Rattle.guest_memory.specs.Regions.{guest_regions, share_an_address}
use Rattle.guest_memory.specs.Places.{place_of, is_inside, Memory, memory_of, regions_of}
use Rattle.guest_memory.proofs.PlaceLaws.{in_region-in, place_of-low, place_of-high, not-in-low, placed-low, placed-high}
use Rattle.account.specs.Guest.{range, numbered, stands_for, is_write}
use Rattle.account.specs.Guest as guest
use Rattle.carry_out.specs.Writes.{moves_bytes, write_in_range, writes_in_range, moved, laid_at, after_record, written}
use Rattle.carry_out.proofs.WriteLaws.{writes_in_range-cons, regions_of-after_record}
use Rattle.delivery_laws.specs.Laid.{laid_byte, laid}

-- ---- One region

module _ (bytes : List ℕ) (base size : ℕ) (side : List ℕ → Memory)
    (one : (l : List ℕ) (k a : ℕ) → length l ≡ size → base ≤ a → a < base + size → laid_byte bytes (side l) (k, a) ≡ side (patch l (a - base) (get_or bytes k 0 ∷ []))) where
  -- a range of the region: its bytes laid one after the other are laid at once
  laid-side : (n s a : ℕ) (l : List ℕ) → length l ≡ size → s + n ≤ length bytes → base ≤ a → a + n ≤ base + size
      → laid bytes (side l) (numbered s (range a n)) ≡ side (patch l (a - base) (take n (drop s bytes)))
  laid-side zero s a l len end low high = ap side (sym (patch-none l (a - base)))
  laid-side (suc n) s a l len end low high =
      let v : ℕ = get_or bytes s 0 in
      let l' : List ℕ = patch l (a - base) (v ∷ []) in
      let len' : length l' ≡ size = length-patch l (a - base) (v ∷ []) (omega arith) ∙ len in
      let next : suc a - base ≡ a - base + length (v ∷ []) = omega arith in
      ap (λ (m : Memory). laid bytes m (numbered (suc s) (range (suc a) n))) (one l s a len low (omega arith))
      ∙ laid-side n (suc s) (suc a) l' len' (omega arith) (omega arith) (omega arith)
      ∙ ap side
      (ap (λ (k : ℕ). patch l' k (take n (drop (suc s) bytes))) next
      ∙ patch-append l (a - base) (v ∷ []) (take n (drop (suc s) bytes)) (omega arith)
      ∙ ap (λ (vs : List ℕ). patch l (a - base) (take (suc n) vs)) (sym (drop-cons bytes s 0 (omega arith))))

-- ---- One write

module _ (bytes : List ℕ) (m : Memory) where
  -- a range of the low region
  laid-low : (n s a : ℕ) → s + n ≤ length bytes → m.low_base ≤ a → a + n ≤ m.low_base + length m.low
      → laid bytes m (numbered s (range a n)) ≡ laid_at (InLow (a - m.low_base)) (take n (drop s bytes)) m
  unfolding laid_byte
  laid-low n s a =
      laid-side bytes m.low_base (length m.low) (λ (l : List ℕ). memory_of m.low_base l m.high_base m.high)
      (λ l k b len from to.
      let regions : Regions = guest_regions m.low_base (length l) m.high_base (length m.high) in
      rw (place_of-low regions b 1 (in_region-in regions.low b 1 from (omega arith))))
      n s a m.low refl

  -- a range of the high one, which shares no address with the low one
  laid-high : share_an_address (regions_of m) ≡ false → (n s a : ℕ) → s + n ≤ length bytes → m.high_base ≤ a → a + n ≤ m.high_base + length m.high
      → laid bytes m (numbered s (range a n)) ≡ laid_at (InHigh (a - m.high_base)) (take n (drop s bytes)) m
  unfolding laid_byte
  laid-high apart n s a =
      laid-side bytes m.high_base (length m.high) (λ (l : List ℕ). memory_of m.low_base m.low m.high_base l)
      (λ l k b len from to.
      let regions : Regions = guest_regions m.low_base (length m.low) m.high_base (length l) in
      let inside = in_region-in regions.high b 1 from (omega arith) in
      let apart' : share_an_address regions ≡ false = rw len apart in
      rw (place_of-high regions b 1 (not-in-low regions b 1 apart' (omega arith) inside) inside))
      n s a m.high refl

  -- what a write in range leaves is its bytes laid
  after_record-laid : share_an_address (regions_of m) ≡ false → (r : Record) → write_in_range (length bytes) (regions_of m) r ≡ true
      → after_record bytes m r ≡ laid bytes m (cond (is_write r) (stands_for r) [])
  unfolding after_record moves_bytes write_in_range
  after_record-laid apart r inside = by (is_write r) (ltb 0 r.length) (place_of (regions_of m) r.address r.length) refl refl refl inside
    where
      by : (write some : Bool) (p : Place) → is_write r ≡ write → ltb 0 r.length ≡ some → place_of (regions_of m) r.address r.length ≡ p
          → (not (write && some) || (leb (r.start + r.length) (length bytes) && is_inside p)) ≡ true
          → cond (write && some) (laid_at p (moved bytes r) m) m ≡ laid bytes m (cond write (stands_for r) [])
      by false some p w s e h = refl
      by true false p w s e h = let none : r.length ≡ 0 = omega (arith, ltb-false 0 r.length s) in rw none
      by true true Outside w s e h = absurd (true≢false (sym (and_right (leb (r.start + r.length) (length bytes)) false h)))
      by true true (InLow at) w s e h =
          let placed = placed-low (regions_of m) r.address r.length at e in
          let end = leb-true (r.start + r.length) (length bytes) (and_left (leb (r.start + r.length) (length bytes)) true h) in
          rw placed.index (sym (laid-low r.length r.start r.address end placed.low (omega arith)))
      by true true (InHigh at) w s e h =
          let placed = placed-high (regions_of m) r.address r.length at e in
          let end = leb-true (r.start + r.length) (length bytes) (and_left (leb (r.start + r.length) (length bytes)) true h) in
          rw placed.index (sym (laid-high apart r.length r.start r.address end placed.low (omega arith)))

-- ---- The heart

pub laid-append : (bytes : List ℕ) (m : Memory) (ps qs : List (ℕ × ℕ)) → laid bytes m (ps ++ qs) ≡ laid bytes (laid bytes m ps) qs
laid-append bytes m [] qs = refl
laid-append bytes m (p ∷ ps) qs = laid-append bytes (laid_byte bytes m p) ps qs

-- writes in range, carried out in order, are their bytes laid
pub written-laid : (bytes : List ℕ) (m : Memory) (rs : List Record) → share_an_address (regions_of m) ≡ false → writes_in_range (length bytes) (regions_of m) rs ≡ true
    → written bytes m rs ≡ laid bytes m (guest.bytes rs)
written-laid bytes m [] apart inside = refl
written-laid bytes m (r ∷ rs) apart inside =
    let both = writes_in_range-cons (length bytes) (regions_of m) r rs inside in
    let same : regions_of (after_record bytes m r) ≡ regions_of m = regions_of-after_record bytes m r in
    written-laid bytes (after_record bytes m r) rs (rw same apart) (rw same both.1)
    ∙ ap (λ (m' : Memory). laid bytes m' (guest.bytes rs)) (after_record-laid bytes m apart r both.0)
    ∙ sym (laid-append bytes m (cond (is_write r) (stands_for r) []) (guest.bytes rs))
