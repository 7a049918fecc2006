-- A part of a range in a region is in a region: so every byte of a write in range has its address in guest memory, and where every Normal's range lies in one
-- of the regions, whatever part of it is written does. Assumes nothing.
use Prim.Native.Nat.{ℕ, zero, suc, ◌+◌, ◌-◌, ◌≤◌, min}
use mathlib.Core.Path.{◌≡◌, refl, sym}
use mathlib.Core.Bool.{Bool, true, false, not, cond, ◌&&◌, ◌||◌, true≢false}
use mathlib.Core.List.{List, [], ◌∷◌, ◌++◌}
use native.Mathlib.Omega.{arith}
use lib.Dec.{leb, ltb}
use borrow.Author.Tests.{ne_eqb, ltb-false}
use Rattle.trb.specs.declared.TransferTrb.{TransferTrb}
use Rattle.trb.specs.declared.TransferTrbVariant.{TransferTrbVariant}
use Rattle.trb.specs.declared.TransferTrbVariant.TheVariants.{SetupStage, DataStage, StatusStage, Normal, EventData, NoOp, Isoch, Unrecognized}
use Rattle.trb.proofs.TestLaws.{and_left, and_right}
use Rattle.call_log.specs.declared.Record.{Record}
use Rattle.walks.specs.All.{all}
use Rattle.guest_memory.specs.declared.Place.{Place}
use Rattle.guest_memory.specs.declared.Place.TheVariants.{Outside, InLow, InHigh}
use Rattle.guest_memory.specs.declared.Regions.{Regions}
use Rattle.guest_memory.specs.Places.{in_region, place_of, is_inside, range_inside}
use Rattle.guest_memory.proofs.PlaceLaws.{in_region-in, place_of-low, place_of-high, placed-low, placed-high}
use Rattle.carry_out.specs.Writes.{moves_bytes, write_in_range, writes_in_range}
use Rattle.carry_out.proofs.WriteLaws.{writes_in_range-cons}
use Rattle.in_td.specs.Normals.{normal_of, normal_length}
use Rattle.account.specs.Guest.{range, numbered, stands_for, is_write}
use Rattle.account.specs.Guest as guest
use Rattle.in_request.specs.Requests.{in_guest_memory}
use Rattle.delivery_laws.specs.Laid.{all_inside}
use Rattle.delivery_laws.specs.Ranges.{InRegions, write_inside, writes_inside}

-- ---- A part of a range

module _ (regions : Regions) where
  module _ (b c : ℕ) where
    inside-low : in_region regions.low b c ≡ true → is_inside (place_of regions b c) ≡ true
    inside-low h = rw (place_of-low regions b c h)

    inside-high : in_region regions.high b c ≡ true → is_inside (place_of regions b c) ≡ true
    inside-high h = by (in_region regions.low b c) refl
      where
        by : (t : Bool) → in_region regions.low b c ≡ t → is_inside (place_of regions b c) ≡ true
        by true e = inside-low e
        by false e = rw (place_of-high regions b c e h)

    inside-part : (a n : ℕ) → a ≤ b → b + c ≤ a + n → is_inside (place_of regions a n) ≡ true → is_inside (place_of regions b c) ≡ true
    inside-part a n from to inside = by (place_of regions a n) refl inside
      where
        by : (q : Place) → place_of regions a n ≡ q → is_inside q ≡ true → is_inside (place_of regions b c) ≡ true
        by Outside e h = absurd (true≢false (sym h))
        by (InLow at) e h = let p = placed-low regions a n at e in inside-low (in_region-in regions.low b c (omega arith) (omega arith))
        by (InHigh at) e h = let p = placed-high regions a n at e in inside-high (in_region-in regions.high b c (omega arith) (omega arith))

  -- the first c of n bytes
  range_inside-first : (a n c : ℕ) → c ≤ n → range_inside regions a n ≡ true → range_inside regions a c ≡ true
  unfolding range_inside
  range_inside-first a n zero h inside = refl
  range_inside-first a n (suc c) h inside =
      rw (ne_eqb (suc c) 0 (λ q. omega arith)) (inside-part a (suc c) a n (omega arith) (omega arith) (rw (ne_eqb n 0 (λ q. omega arith)) at inside))

  -- ---- Every byte of a log's writes

  all_inside-append : (ps qs : List (ℕ × ℕ)) → all_inside regions ps ≡ true → all_inside regions qs ≡ true → all_inside regions (ps ++ qs) ≡ true
  all_inside-append [] qs h k = k
  all_inside-append (p ∷ ps) qs h k =
      rw (and_left (is_inside (place_of regions p.1 1)) (all_inside regions ps) h)
      (all_inside-append ps qs (and_right (is_inside (place_of regions p.1 1)) (all_inside regions ps) h) k)

  all_inside-range : (n s a : ℕ) → is_inside (place_of regions a n) ≡ true → all_inside regions (numbered s (range a n)) ≡ true
  all_inside-range zero s a inside = refl
  all_inside-range (suc n) s a inside =
      rw (inside-part a 1 a (suc n) (omega arith) (omega arith) inside)
      (all_inside-range n (suc s) (suc a) (inside-part (suc a) n a (suc n) (omega arith) (omega arith) inside))

  all_inside-record : (n : ℕ) (r : Record) → write_in_range n regions r ≡ true → all_inside regions (cond (is_write r) (stands_for r) []) ≡ true
  unfolding write_in_range moves_bytes
  all_inside-record n r h = by (is_write r) (ltb 0 r.length) refl h
    where
      by : (write some : Bool) → ltb 0 r.length ≡ some
          → (not (write && some) || (leb (r.start + r.length) n && is_inside (place_of regions r.address r.length))) ≡ true
          → all_inside regions (cond write (stands_for r) []) ≡ true
      by false some s h = refl
      by true false s h = let none : r.length ≡ 0 = omega (arith, ltb-false 0 r.length s) in rw none
      by true true s h =
          all_inside-range r.length r.start r.address
          (and_right (leb (r.start + r.length) n) (is_inside (place_of regions r.address r.length)) h)

  pub all_inside-bytes : (n : ℕ) (rs : List Record) → writes_in_range n regions rs ≡ true → all_inside regions (guest.bytes rs) ≡ true
  all_inside-bytes n [] h = refl
  all_inside-bytes n (r ∷ rs) h =
      let both = writes_in_range-cons n regions r rs h in
      all_inside-append (cond (is_write r) (stands_for r) []) (guest.bytes rs) (all_inside-record n r both.0) (all_inside-bytes n rs both.1)

  -- ---- Every write of a TD

  inside-normal : (left : ℕ) (v : TransferTrbVariant) → in_guest_memory v regions ≡ true → write_inside regions left (normal_of v) ≡ true
  inside-normal left (SetupStage t) h = refl
  inside-normal left (DataStage t) h = refl
  inside-normal left (StatusStage t) h = refl
  inside-normal left (Normal t) h = range_inside-first t.data_pointer t.transfer_length (min t.transfer_length left) (omega arith) h
  inside-normal left (EventData t) h = refl
  inside-normal left (NoOp t) h = refl
  inside-normal left Isoch h = refl
  inside-normal left Unrecognized h = refl

  -- whatever number of bytes comes, where every Normal's range lies in one of the regions
  pub in_regions-writes_inside : (left : ℕ) (ts : List TransferTrb) → InRegions regions ts → writes_inside regions left ts ≡ true
  unfolding all
  in_regions-writes_inside left [] h = refl
  in_regions-writes_inside left (t ∷ ts) h =
      let ok : TransferTrb → Bool = λ (u : TransferTrb). in_guest_memory u.variant regions in
      rw (inside-normal left t.variant (and_left (ok t) (all ok ts) h))
      (in_regions-writes_inside (left - normal_length t) ts (and_right (ok t) (all ok ts) h))
