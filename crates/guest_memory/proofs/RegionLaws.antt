-- Laws of regions: which addresses one holds, and that two share an address exactly where there is one that both hold. Assumes nothing.
use Prim.Native.Nat.{ℕ, ◌-◌, ◌≤◌, ◌<◌}
use mathlib.Core.Path.{◌≡◌, refl, sym}
use mathlib.Core.Bool.{Bool, true, false, ◌&&◌, ◌||◌, true≢false}
use native.Mathlib.Omega.{arith}
use lib.Dec.{leb, ltb}
use borrow.Author.Tests.{le-leb, lt-leb, leb-true, leb-false, lt-ltb, le-ltb, ltb-true, ltb-false}
use Rattle.guest_memory.specs.declared.Region.{Region}
use Rattle.guest_memory.specs.declared.Regions.{Regions}
use Rattle.guest_memory.specs.Regions.{end_of, holds, shares_at, share_an_address}

-- ---- Two answers

pub both_yes : (a b : Bool) → (a && b) ≡ true → (a ≡ true) × (b ≡ true)
both_yes true b e = (refl, e)
both_yes false b e = absurd (true≢false (sym e))

-- ---- One region

module _ (r : Region) (a : ℕ) where
  pub holds-below : a < r.start_addr → holds r a ≡ false
  unfolding holds
  holds-below h = simp (lt-leb r.start_addr a h)

  -- counted from the region's base
  pub holds-from : r.start_addr ≤ a → holds r a ≡ ltb (a - r.start_addr) r.len
  unfolding holds
  holds-from h = rw (le-leb r.start_addr a h) (by-test (ltb (a - r.start_addr) r.len) refl)
    where
      by-test : (t : Bool) → ltb (a - r.start_addr) r.len ≡ t → ltb a (end_of r) ≡ t
      by-test true e = lt-ltb a (end_of r) (omega (arith, ltb-true (a - r.start_addr) r.len e))
      by-test false e = le-ltb a (end_of r) (omega (arith, ltb-false (a - r.start_addr) r.len e))

  pub holds-in : r.start_addr ≤ a → a < end_of r → holds r a ≡ true
  unfolding holds
  holds-in low high = simp (le-leb r.start_addr a low, lt-ltb a (end_of r) high)

  pub holds-start : holds r a ≡ true → r.start_addr ≤ a
  unfolding holds
  holds-start e = leb-true r.start_addr a (both_yes (leb r.start_addr a) (ltb a (end_of r)) e).0

  pub holds-end : holds r a ≡ true → a < end_of r
  unfolding holds
  holds-end e = ltb-true a (end_of r) (both_yes (leb r.start_addr a) (ltb a (end_of r)) e).1

-- ---- Two regions

-- an address that both hold
pub record Shared (rs : Regions) : Type 0 where
  pub address : ℕ
  pub in_low : holds rs.low address ≡ true
  pub in_high : holds rs.high address ≡ true

module _ (rs : Regions) where
  shared_at : (a : ℕ) → shares_at rs a ≡ true → Shared rs
  unfolding shares_at
  shared_at a e =
      let both = both_yes (holds rs.low a) (holds rs.high a) e in
      record { address = a; in_low = both.0; in_high = both.1 }

  -- where the regions share an address, there is one that both hold
  pub shared : share_an_address rs ≡ true → Shared rs
  unfolding share_an_address
  shared e = by-test (shares_at rs rs.low.start_addr) refl e
    where
      by-test : (t : Bool) → shares_at rs rs.low.start_addr ≡ t → (t || shares_at rs rs.high.start_addr) ≡ true → Shared rs
      by-test true here e = shared_at rs.low.start_addr here
      by-test false here e = shared_at rs.high.start_addr e

  -- where both hold an address, both hold the start of the one that starts last
  pub shares : Shared rs → share_an_address rs ≡ true
  unfolding share_an_address shares_at
  shares s = by-test (leb rs.low.start_addr rs.high.start_addr) refl
    where
      inside : (a : ℕ) → a ≤ s.address → rs.low.start_addr ≤ a → rs.high.start_addr ≤ a → (holds rs.low a && holds rs.high a) ≡ true
      inside a h low high =
          simp (
            holds-in rs.low a low (omega (arith, holds-end rs.low s.address s.in_low)),
            holds-in rs.high a high (omega (arith, holds-end rs.high s.address s.in_high)),
          )

      second : (t : Bool) → (t || true) ≡ true
      second true = refl
      second false = refl

      by-test : (t : Bool) → leb rs.low.start_addr rs.high.start_addr ≡ t
          → ((holds rs.low rs.low.start_addr && holds rs.high rs.low.start_addr)
          || (holds rs.low rs.high.start_addr && holds rs.high rs.high.start_addr))
          ≡ true
      by-test true e =
          rw (inside rs.high.start_addr (holds-start rs.high s.address s.in_high) (leb-true rs.low.start_addr rs.high.start_addr e) (omega arith))
          (second (holds rs.low rs.low.start_addr && holds rs.high rs.low.start_addr))
      by-test false e =
          simp (inside rs.low.start_addr (holds-start rs.low s.address s.in_low) (omega arith) (omega (arith, leb-false rs.low.start_addr rs.high.start_addr e)))

  -- 02, R-1: a region may be empty; an empty one shares none
  unshared : (Shared rs → ⊥) → share_an_address rs ≡ false
  unshared none = by-test (share_an_address rs) refl
    where
      by-test : (t : Bool) → share_an_address rs ≡ t → t ≡ false
      by-test true e = absurd (none (shared e))
      by-test false e = refl

  pub empty-low : rs.low.len ≡ 0 → share_an_address rs ≡ false
  empty-low e = unshared (λ s. omega (arith, e, holds-start rs.low s.address s.in_low, holds-end rs.low s.address s.in_low))

  pub empty-high : rs.high.len ≡ 0 → share_an_address rs ≡ false
  empty-high e = unshared (λ s. omega (arith, e, holds-start rs.high s.address s.in_high, holds-end rs.high s.address s.in_high))

  -- regions one of which ends where or before the other starts
  pub apart : end_of rs.low ≤ rs.high.start_addr → share_an_address rs ≡ false
  apart h = unshared (λ s. omega (arith, h, holds-end rs.low s.address s.in_low, holds-start rs.high s.address s.in_high))
