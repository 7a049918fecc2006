-- What the guest reads of bytes that were laid: at an address that is named, the byte that was laid there last; at any other, what was there before.
-- Assumes nothing.
use Prim.Native.Nat.{ℕ, zero, suc, ◌+◌, ◌≤◌, ◌<◌}
use mathlib.Core.Bool.{true, false, true≢false}
use mathlib.Core.Logic.{⊎_elim}
use mathlib.Core.Path.{◌≡◌, refl, sym, ap, ◌∙◌}
use mathlib.Core.List.{List, [], ◌∷◌}
use native.Mathlib.Nat.{add-zero, add-suc, suc-add, le_of_suc-le-suc, not-suc-le-zero}
use native.Mathlib.Omega.{arith}
use lib.Dec.{eqb}
use lib.ListN.{length, take, drop, get_or}
use lib.Seq.{drop-cons}
use borrow.Author.Tests.{eqb-false}
use Rattle.trb.proofs.TestLaws.{and_left, and_right, or-false-left, or-false-right, le-or-lt}
use Rattle.buffers.specs.Patch.{patch}
use Rattle.buffers.proofs.PatchLaws.{length-patch, drop-patch, get_or-patch-before, get_or-patch-behind}
use Rattle.guest_memory.specs.declared.Place.{Place}
use Rattle.guest_memory.specs.declared.Place.TheVariants.{Outside, InLow, InHigh}
use Rattle.guest_memory.specs.Regions.{guest_regions}
use Rattle.guest_memory.specs.Places.{place_of, is_inside, Memory, regions_of, bytes_in, bytes_at}
use Rattle.guest_memory.proofs.PlaceLaws.{placed-low, placed-high}
use Rattle.account.specs.Guest.{numbered}
use Rattle.carry_out.specs.Writes.{laid_at}
use Rattle.delivery_laws.specs.Laid.{laid_byte, laid, byte_at, is_among, all_inside, NoneTwice}

-- ---- One byte of a region

module _ (l : List ℕ) (j v : ℕ) (fits : j + 1 ≤ length l) where
  -- the byte laid there
  read_same : take 1 (drop j (patch l j (v ∷ []))) ≡ v ∷ []
  read_same = rw (drop-patch l j (v ∷ []) (omega arith))

  -- and any other
  read-other : (i : ℕ) → i + 1 ≤ length l → (i ≡ j → ⊥) → take 1 (drop i (patch l j (v ∷ []))) ≡ take 1 (drop i l)
  read-other i h differ =
      let len : length (patch l j (v ∷ [])) ≡ length l = length-patch l j (v ∷ []) fits in
      let same : get_or (patch l j (v ∷ [])) i 0 ≡ get_or l i 0 =
      ⊎_elim
      (λ (past : suc j ≤ i). get_or-patch-behind l j (v ∷ []) fits i (omega arith))
      (λ (near : i < suc j). get_or-patch-before l j (v ∷ []) fits i (by_near near))
      (le-or-lt (suc j) i) in
      rw (drop-cons (patch l j (v ∷ [])) i 0 (omega arith), drop-cons l i 0 (omega arith), same)
    where
      by_near : i < suc j → i < j
      by_near near = ⊎_elim (λ (h : j ≤ i). absurd (differ (omega arith))) (λ (h : i < j). h) (le-or-lt j i)

-- ---- One byte of guest memory

module _ (bytes : List ℕ) (m : Memory) (p : ℕ × ℕ) where
  abbrev v : ℕ
  v = get_or bytes p.0 0

  -- laying a byte keeps the regions
  regions_of-laid_byte : regions_of (laid_byte bytes m p) ≡ regions_of m
  unfolding laid_byte
  regions_of-laid_byte = by (place_of (regions_of m) p.1 1) refl
    where
      by : (q : Place) → place_of (regions_of m) p.1 1 ≡ q → regions_of (laid_at q (v ∷ []) m) ≡ regions_of m
      by Outside e = refl
      by (InLow at) e =
          ap (λ (k : ℕ). guest_regions m.low_base k m.high_base (length m.high))
          (length-patch m.low at (v ∷ []) (placed-low (regions_of m) p.1 1 at e).fits)
      by (InHigh at) e =
          ap (λ (k : ℕ). guest_regions m.low_base (length m.low) m.high_base k)
          (length-patch m.high at (v ∷ []) (placed-high (regions_of m) p.1 1 at e).fits)

  -- at its place there is the byte
  laid-there : is_inside (place_of (regions_of m) p.1 1) ≡ true → bytes_in (place_of (regions_of m) p.1 1) 1 (laid_byte bytes m p) ≡ v ∷ []
  unfolding laid_byte
  laid-there h = by (place_of (regions_of m) p.1 1) refl h
    where
      by : (q : Place) → place_of (regions_of m) p.1 1 ≡ q → is_inside q ≡ true → bytes_in q 1 (laid_at q (v ∷ []) m) ≡ v ∷ []
      by Outside e h = absurd (true≢false (sym h))
      by (InLow at) e h = read_same m.low at v (placed-low (regions_of m) p.1 1 at e).fits
      by (InHigh at) e h = read_same m.high at v (placed-high (regions_of m) p.1 1 at e).fits

  byte_at-same : is_inside (place_of (regions_of m) p.1 1) ≡ true → byte_at (laid_byte bytes m p) p.1 ≡ v ∷ []
  unfolding bytes_at
  byte_at-same inside = rw regions_of-laid_byte (laid-there inside)

  module _ (a : ℕ) (differ : a ≡ p.1 → ⊥) where
    -- at any other address there is what was there
    laid-elsewhere : bytes_in (place_of (regions_of m) a 1) 1 (laid_byte bytes m p) ≡ bytes_in (place_of (regions_of m) a 1) 1 m
    unfolding laid_byte
    laid-elsewhere = by (place_of (regions_of m) a 1) (place_of (regions_of m) p.1 1) refl refl
      where
        by : (q s : Place) → place_of (regions_of m) a 1 ≡ q → place_of (regions_of m) p.1 1 ≡ s → bytes_in q 1 (laid_at s (v ∷ []) m) ≡ bytes_in q 1 m
        by Outside s e f = refl
        by (InLow i) Outside e f = refl
        by (InLow i) (InLow j) e f =
            let there = placed-low (regions_of m) p.1 1 j f in
            let here = placed-low (regions_of m) a 1 i e in
            read-other m.low j v there.fits i here.fits (λ h. differ (omega arith))
        by (InLow i) (InHigh j) e f = refl
        by (InHigh i) Outside e f = refl
        by (InHigh i) (InLow j) e f = refl
        by (InHigh i) (InHigh j) e f =
            let there = placed-high (regions_of m) p.1 1 j f in
            let here = placed-high (regions_of m) a 1 i e in
            read-other m.high j v there.fits i here.fits (λ h. differ (omega arith))

    byte_at-other : byte_at (laid_byte bytes m p) a ≡ byte_at m a
    unfolding bytes_at
    byte_at-other = rw regions_of-laid_byte laid-elsewhere

-- ---- The device's bytes from number k on, at these addresses

module _ (bytes : List ℕ) where
  pub regions_of-laid : (m : Memory) (ps : List (ℕ × ℕ)) → regions_of (laid bytes m ps) ≡ regions_of m
  regions_of-laid m [] = refl
  regions_of-laid m (p ∷ ps) = regions_of-laid (laid_byte bytes m p) ps ∙ regions_of-laid_byte bytes m p

  -- an address that is not named
  pub byte_at-unnamed : (m : Memory) (k : ℕ) (xs : List ℕ) (a : ℕ) → is_among a xs ≡ false → byte_at (laid bytes m (numbered k xs)) a ≡ byte_at m a
  byte_at-unnamed m k [] a none = refl
  byte_at-unnamed m k (x ∷ xs) a none =
      byte_at-unnamed (laid_byte bytes m (k, x)) (suc k) xs a (or-false-right (eqb a x) (is_among a xs) none)
      ∙ byte_at-other bytes m (k, x) a (eqb-false a x (or-false-left (eqb a x) (is_among a xs) none))

  -- addresses that are named once
  pub byte_at-named : (m : Memory) (k : ℕ) (xs : List ℕ) → NoneTwice xs → all_inside (regions_of m) (numbered k xs) ≡ true → (i : ℕ) → i < length xs
      → byte_at (laid bytes m (numbered k xs)) (get_or xs i 0) ≡ get_or bytes (k + i) 0 ∷ []
  byte_at-named m k [] once inside i h = absurd (not-suc-le-zero h)
  byte_at-named m k (x ∷ xs) once inside zero h =
      byte_at-unnamed (laid_byte bytes m (k, x)) (suc k) xs x once.0
      ∙ byte_at-same bytes m (k, x) (and_left (is_inside (place_of (regions_of m) x 1)) (all_inside (regions_of m) (numbered (suc k) xs)) inside)
      ∙ rw add-zero
  byte_at-named m k (x ∷ xs) once inside (suc i) h =
      let rest = and_right (is_inside (place_of (regions_of m) x 1)) (all_inside (regions_of m) (numbered (suc k) xs)) inside in
      byte_at-named (laid_byte bytes m (k, x)) (suc k) xs once.1 (rw (regions_of-laid_byte bytes m (k, x)) rest) i (le_of_suc-le-suc h)
      ∙ rw (suc-add, add-suc)
