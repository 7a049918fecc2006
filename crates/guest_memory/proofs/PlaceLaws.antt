-- Laws of places: when a range is in a region and when outside, what a place tells, and the bytes there. Assumes nothing.
use Prim.Native.Nat.{ℕ, ◌+◌, ◌-◌, ◌≤◌, ◌<◌}
use mathlib.Core.Path.{◌≡◌, refl, sym, ◌∙◌}
use mathlib.Core.Bool.{Bool, true, false, ◌&&◌, cond, true≢false}
use native.Mathlib.Omega.{arith}
use lib.Dec.{leb, eqb}
use lib.ListN.{length, drop, length-take, length-drop}
use lib.Seq.{length-take-le}
use borrow.Author.Tests.{le-leb, lt-leb, leb-true, eqb-true}
use Rattle.guest_memory.specs.declared.Place.{Place}
use Rattle.guest_memory.specs.declared.Place.TheVariants.{Outside, InLow, InHigh}
use Rattle.guest_memory.specs.declared.Region.{Region}
use Rattle.guest_memory.specs.declared.Regions.{Regions}
use Rattle.guest_memory.specs.Regions.{end_of, share_an_address}
use Rattle.guest_memory.specs.Places.{in_region, place_of, is_inside, range_inside, Memory, regions_of, bytes_in, bytes_at}
use Rattle.guest_memory.proofs.RegionLaws.{both_yes, holds-in, shares}

-- ---- In one region

-- the n bytes from pointer on are the n bytes of the region from index at on
pub record Placed (r : Region) (pointer n at : ℕ) : Type 0 where
  pub low : r.start_addr ≤ pointer
  pub index : at ≡ pointer - r.start_addr
  pub fits : at + n ≤ r.len

module _ (r : Region) (pointer n : ℕ) where
  pub in_region-below : pointer < r.start_addr → in_region r pointer n ≡ false
  unfolding in_region
  in_region-below h = simp (lt-leb r.start_addr pointer h)

  pub in_region-past : end_of r < pointer + n → in_region r pointer n ≡ false
  unfolding in_region
  in_region-past h = rw (lt-leb (pointer + n) (end_of r) h) (outside (leb r.start_addr pointer))
    where
      outside : (t : Bool) → (t && false) ≡ false
      outside true = refl
      outside false = refl

  pub in_region-in : r.start_addr ≤ pointer → pointer + n ≤ end_of r → in_region r pointer n ≡ true
  unfolding in_region
  in_region-in low high = simp (le-leb r.start_addr pointer low, le-leb (pointer + n) (end_of r) high)

  pub in_region-start : in_region r pointer n ≡ true → r.start_addr ≤ pointer
  unfolding in_region
  in_region-start e = leb-true r.start_addr pointer (both_yes (leb r.start_addr pointer) (leb (pointer + n) (end_of r)) e).0

  pub in_region-end : in_region r pointer n ≡ true → pointer + n ≤ end_of r
  unfolding in_region
  in_region-end e = leb-true (pointer + n) (end_of r) (both_yes (leb r.start_addr pointer) (leb (pointer + n) (end_of r)) e).1

  placed_at : (at : ℕ) → in_region r pointer n ≡ true → at ≡ pointer - r.start_addr → Placed r pointer n at
  placed_at at e index = record { low = in_region-start e; index = index; fits = omega (arith, index, in_region-start e, in_region-end e) }

-- ---- In two regions

module _ (rs : Regions) (pointer n : ℕ) where
  pub place_of-low : in_region rs.low pointer n ≡ true → place_of rs pointer n ≡ InLow (pointer - rs.low.start_addr)
  unfolding place_of
  place_of-low e = simp e

  pub place_of-high : in_region rs.low pointer n ≡ false → in_region rs.high pointer n ≡ true → place_of rs pointer n ≡ InHigh (pointer - rs.high.start_addr)
  unfolding place_of
  place_of-high e f = simp (e, f)

  pub place_of-outside : in_region rs.low pointer n ≡ false → in_region rs.high pointer n ≡ false → place_of rs pointer n ≡ Outside
  unfolding place_of
  place_of-outside e f = simp (e, f)

  -- 02, R-1: a range that crosses from one region into the other is outside, even where they touch
  pub place_of-crossing : pointer < rs.high.start_addr → end_of rs.low < pointer + n → place_of rs pointer n ≡ Outside
  place_of-crossing below past = place_of-outside (in_region-past rs.low pointer n past) (in_region-below rs.high pointer n below)

  -- regions that share no address: bytes that are in the high one are not in the low one
  pub not-in-low : share_an_address rs ≡ false → 0 < n → in_region rs.high pointer n ≡ true → in_region rs.low pointer n ≡ false
  not-in-low apart some e = by-test (in_region rs.low pointer n) refl
    where
      by-test : (t : Bool) → in_region rs.low pointer n ≡ t → t ≡ false
      by-test false f = refl
      by-test true f =
          let in_low = holds-in rs.low pointer (in_region-start rs.low pointer n f) (omega (arith, in_region-end rs.low pointer n f)) in
          let in_high = holds-in rs.high pointer (in_region-start rs.high pointer n e) (omega (arith, in_region-end rs.high pointer n e)) in
          absurd (true≢false (sym (shares rs (record { address = pointer; in_low = in_low; in_high = in_high })) ∙ apart))

  -- what a place tells
  pub placed-low : (at : ℕ) → place_of rs pointer n ≡ InLow at → Placed rs.low pointer n at
  unfolding place_of
  placed-low at e = told (in_region rs.low pointer n) (in_region rs.high pointer n) refl e
    where
      told : (s t : Bool) → in_region rs.low pointer n ≡ s
          → cond s (InLow (pointer - rs.low.start_addr)) (cond t (InHigh (pointer - rs.high.start_addr)) Outside) ≡ InLow at
          → Placed rs.low pointer n at
      told true t f e = let index : at ≡ pointer - rs.low.start_addr = cc in placed_at rs.low pointer n at f index
      told false true f e = let z : ◌≡◌ {A = ℕ} 0 1 = cc in omega arith
      told false false f e = let z : ◌≡◌ {A = ℕ} 0 1 = cc in omega arith

  pub placed-high : (at : ℕ) → place_of rs pointer n ≡ InHigh at → Placed rs.high pointer n at
  unfolding place_of
  placed-high at e = told (in_region rs.low pointer n) (in_region rs.high pointer n) refl e
    where
      told : (s t : Bool) → in_region rs.high pointer n ≡ t
          → cond s (InLow (pointer - rs.low.start_addr)) (cond t (InHigh (pointer - rs.high.start_addr)) Outside) ≡ InHigh at
          → Placed rs.high pointer n at
      told false true f e = let index : at ≡ pointer - rs.high.start_addr = cc in placed_at rs.high pointer n at f index
      told false false f e = let z : ◌≡◌ {A = ℕ} 0 1 = cc in omega arith
      told true t f e = let z : ◌≡◌ {A = ℕ} 0 1 = cc in omega arith

-- ---- The bytes of a range

length-bytes_in : (m : Memory) (n : ℕ) (p : Place) → length (bytes_in p n m) ≤ n
length-bytes_in m n Outside = omega arith
length-bytes_in m n (InLow at) = omega (arith, length-take n (drop at m.low))
length-bytes_in m n (InHigh at) = omega (arith, length-take n (drop at m.high))

-- no more than the range has
pub length-bytes_at : (m : Memory) (pointer n : ℕ) → length (bytes_at m pointer n) ≤ n
unfolding bytes_at
length-bytes_at m pointer n = length-bytes_in m n (place_of (regions_of m) pointer n)

-- where question 6 is answered yes, as many as the range has
pub length-inside : (m : Memory) (pointer n : ℕ) → range_inside (regions_of m) pointer n ≡ true → length (bytes_at m pointer n) ≡ n
unfolding bytes_at range_inside
length-inside m pointer n e = by-test (eqb n 0) refl
  where
    by_place : (p : Place) → place_of (regions_of m) pointer n ≡ p → is_inside p ≡ true → length (bytes_in p n m) ≡ n
    by_place Outside f inside = absurd (true≢false (sym inside))
    by_place (InLow at) f inside =
        length-take-le n (drop at m.low) (simp length-drop (omega (arith, (placed-low (regions_of m) pointer n at f).fits)))
    by_place (InHigh at) f inside =
        length-take-le n (drop at m.high) (simp length-drop (omega (arith, (placed-high (regions_of m) pointer n at f).fits)))

    by-test : (t : Bool) → eqb n 0 ≡ t → length (bytes_in (place_of (regions_of m) pointer n) n m) ≡ n
    by-test true none = omega (arith, eqb-true n 0 none, length-bytes_in m n (place_of (regions_of m) pointer n))
    by-test false some = by_place (place_of (regions_of m) pointer n) refl (rw some at e)
