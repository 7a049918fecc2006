-- What carrying out a record leaves at each address of guest memory. 01, IN endpoint: a write of m bytes from start s at address a stands for byte s + i
-- at a + i, i below m. Assumes nothing.
use Prim.Native.Nat.{ℕ, ◌+◌, ◌-◌, ◌≤◌, ◌<◌}
use mathlib.Core.Bool.{true, false}
use mathlib.Core.Logic.{◌⊎◌, ⊎_elim}
use mathlib.Core.Path.{◌≡◌, refl, ap, ◌∙◌}
use mathlib.Core.List.{List}
use native.Mathlib.Omega.{arith}
use lib.ListN.{length, drop, get_or, length-take, length-drop}
use lib.Seq.{length-take-le, get_or-take, get_or-drop}
use Rattle.buffers.specs.Patch.{patch}
use Rattle.buffers.proofs.PatchLaws.{get_or-patch-in, get_or-patch-before, get_or-patch-behind}
use Rattle.call_log.specs.declared.Record.{Record}
use Rattle.guest_memory.specs.declared.Place.TheVariants.{InLow, InHigh}
use Rattle.guest_memory.specs.Regions.{share_an_address}
use Rattle.guest_memory.specs.Places.{in_region, Memory, regions_of}
use Rattle.guest_memory.proofs.PlaceLaws.{in_region-start, in_region-end, place_of-low, place_of-high, not-in-low}
use Rattle.carry_out.specs.Writes.{moves_bytes, moved, laid_at, after_record}
use Rattle.carry_out.proofs.WriteLaws.{after_record-cases}

-- ---- One region

module _ (bytes : List ℕ) (r : Record) (base : ℕ) (region : List ℕ) where
  -- the device's byte number start + i stands at address + i
  laid_in : r.start + r.length ≤ length bytes → base ≤ r.address → r.address + r.length ≤ base + length region → (i : ℕ) → i < r.length
      → get_or (patch region (r.address - base) (moved bytes r)) (r.address + i - base) 0 ≡ get_or bytes (r.start + i) 0
  laid_in end low high i h =
      let count : length (moved bytes r) ≡ r.length = length-take-le r.length (drop r.start bytes) (simp length-drop (omega arith)) in
      let index : r.address + i - base ≡ r.address - base + i = omega arith in
      rw index
      (get_or-patch-in region (r.address - base) (moved bytes r) (omega arith) i (omega arith)
      ∙ get_or-take r.length (drop r.start bytes) i 0 h
      ∙ get_or-drop r.start bytes i 0)

  -- whatever stands at an address that is not in the write's range stays
  laid_out : (at : ℕ) → base ≤ r.address → at ≡ r.address - base → at + r.length ≤ length region → (k : ℕ)
      → (base + k < r.address) ⊎ (r.address + r.length ≤ base + k) → get_or (patch region at (moved bytes r)) k 0 ≡ get_or region k 0
  laid_out at low index fits k out =
      let short : length (moved bytes r) ≤ r.length = omega (arith, length-take r.length (drop r.start bytes)) in
      ⊎_elim
      (λ h. get_or-patch-before region at (moved bytes r) (omega arith) k (omega arith))
      (λ h. get_or-patch-behind region at (moved bytes r) (omega arith) k (omega arith))
      out

-- ---- Guest memory

module _ (bytes : List ℕ) (m : Memory) (r : Record) where
  -- a write in the low region: its bytes stand there, and the high region is unchanged
  pub after_record-low : moves_bytes r ≡ true → in_region (regions_of m).low r.address r.length ≡ true
      → after_record bytes m r ≡ laid_at (InLow (r.address - m.low_base)) (moved bytes r) m
  unfolding after_record
  after_record-low moves inside = rw (moves, place_of-low (regions_of m) r.address r.length inside)

  pub after_record-low-in : moves_bytes r ≡ true → r.start + r.length ≤ length bytes → in_region (regions_of m).low r.address r.length ≡ true
      → (i : ℕ) → i < r.length → get_or (after_record bytes m r).low (r.address + i - m.low_base) 0 ≡ get_or bytes (r.start + i) 0
  after_record-low-in moves end inside i h =
      ap (λ (m' : Memory). get_or m'.low (r.address + i - m.low_base) 0) (after_record-low moves inside)
      ∙ laid_in bytes r m.low_base m.low end (in_region-start (regions_of m).low _ _ inside) (in_region-end (regions_of m).low _ _ inside) i h

  -- a write in the high region, which shares no address with the low one: likewise
  pub after_record-high : share_an_address (regions_of m) ≡ false → moves_bytes r ≡ true → 0 < r.length → in_region (regions_of m).high r.address r.length ≡ true
      → after_record bytes m r ≡ laid_at (InHigh (r.address - m.high_base)) (moved bytes r) m
  unfolding after_record
  after_record-high apart moves some inside =
      rw (moves, place_of-high (regions_of m) r.address r.length (not-in-low (regions_of m) r.address r.length apart some inside) inside)

  pub after_record-high-in : share_an_address (regions_of m) ≡ false → moves_bytes r ≡ true → r.start + r.length ≤ length bytes
      → in_region (regions_of m).high r.address r.length ≡ true
      → (i : ℕ) → i < r.length → get_or (after_record bytes m r).high (r.address + i - m.high_base) 0 ≡ get_or bytes (r.start + i) 0
  after_record-high-in apart moves end inside i h =
      ap (λ (m' : Memory). get_or m'.high (r.address + i - m.high_base) 0) (after_record-high apart moves (omega arith) inside)
      ∙ laid_in bytes r m.high_base m.high end (in_region-start (regions_of m).high _ _ inside) (in_region-end (regions_of m).high _ _ inside) i h

  -- any record: whatever stands at an address that is not in its range stays
  pub after_record-low-out : (k : ℕ) → (m.low_base + k < r.address) ⊎ (r.address + r.length ≤ m.low_base + k)
      → get_or (after_record bytes m r).low k 0 ≡ get_or m.low k 0
  after_record-low-out k out =
      after_record-cases bytes m r (λ (m' : Memory). get_or m'.low k 0 ≡ get_or m.low k 0) refl
      (λ at p. laid_out bytes r m.low_base m.low at p.low p.index p.fits k out)
      (λ at p. refl)

  pub after_record-high-out : (k : ℕ) → (m.high_base + k < r.address) ⊎ (r.address + r.length ≤ m.high_base + k)
      → get_or (after_record bytes m r).high k 0 ≡ get_or m.high k 0
  after_record-high-out k out =
      after_record-cases bytes m r (λ (m' : Memory). get_or m'.high k 0 ≡ get_or m.high k 0) refl
      (λ at p. refl)
      (λ at p. laid_out bytes r m.high_base m.high at p.low p.index p.fits k out)
