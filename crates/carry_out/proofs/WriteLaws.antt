-- Laws of a log's writes: what a write in range tells, what a record leaves of guest memory, and one record after the other. Assumes nothing.
use Prim.Native.Nat.{ℕ, ◌+◌, ◌≤◌}
use mathlib.Core.Bool.{Bool, true, false, cond, ◌&&◌}
use mathlib.Core.Path.{◌≡◌, refl, ap, ◌∙◌}
use mathlib.Core.List.{List, [], ◌∷◌, ◌++◌, map}
use native.Mathlib.Omega.{arith}
use lib.Dec.{leb}
use lib.ListN.{length, drop, length-take}
use borrow.Author.Tests.{leb-true}
use Rattle.std.specs.List.{list_all}
use Rattle.trb.proofs.TestLaws.{and_left, and_right}
use Rattle.buffers.proofs.PatchLaws.{length-patch}
use Rattle.call_log.specs.declared.Record.{Record}
use Rattle.call_log.specs.Records.{decode}
use Rattle.guest_memory.specs.declared.Place.{Place}
use Rattle.guest_memory.specs.declared.Place.TheVariants.{Outside, InLow, InHigh}
use Rattle.guest_memory.specs.declared.Regions.{Regions}
use Rattle.guest_memory.specs.Regions.{guest_regions}
use Rattle.guest_memory.specs.Places.{place_of, is_inside, Memory, regions_of}
use Rattle.guest_memory.proofs.PlaceLaws.{Placed, placed-low, placed-high}
use Rattle.carry_out.specs.Writes.{moves_bytes, write_in_range, writes_in_range, moved, laid_at, after_record, written}

module _ (n : ℕ) (regions : Regions) (r : Record) where
  -- each of the writes lies in range where all do
  pub writes_in_range-cons : (rs : List Record) → writes_in_range n regions (r ∷ rs) ≡ true → (write_in_range n regions r ≡ true) × (writes_in_range n regions rs ≡ true)
  writes_in_range-cons rs e = (and_left (write_in_range n regions r) (writes_in_range n regions rs) e, and_right (write_in_range n regions r) (writes_in_range n regions rs) e)

  -- a write in range lies in the device's data
  pub write_in_range-end : moves_bytes r ≡ true → write_in_range n regions r ≡ true → r.start + r.length ≤ n
  unfolding write_in_range
  write_in_range-end moves e =
      leb-true (r.start + r.length) n
      (and_left (leb (r.start + r.length) n) (is_inside (place_of regions r.address r.length)) (rw moves at e))

-- of records by their bytes
pub writes_in_range-cells : (n : ℕ) (regions : Regions) (cells : List (List ℕ))
    → list_all (λ l. write_in_range n regions (decode l)) cells ≡ writes_in_range n regions (map decode cells)
writes_in_range-cells n regions [] = refl
writes_in_range-cells n regions (l ∷ cells) = ap (λ b. write_in_range n regions (decode l) && b) (writes_in_range-cells n regions cells)

module _ (bytes : List ℕ) (m : Memory) (r : Record) where
  -- what holds of the memory, and of the memory with a placed write's bytes laid over either region, holds of it after a record
  pub after_record-cases : (P : Memory → Type 0) → P m
      → ((at : ℕ) → Placed (regions_of m).low r.address r.length at → P (laid_at (InLow at) (moved bytes r) m))
      → ((at : ℕ) → Placed (regions_of m).high r.address r.length at → P (laid_at (InHigh at) (moved bytes r) m))
      → P (after_record bytes m r)
  unfolding after_record
  after_record-cases P same low high = by (moves_bytes r) (place_of (regions_of m) r.address r.length) refl
    where
      by : (moves : Bool) (p : Place) → place_of (regions_of m) r.address r.length ≡ p → P (cond moves (laid_at p (moved bytes r) m) m)
      by false p e = same
      by true Outside e = same
      by true (InLow at) e = low at (placed-low (regions_of m) r.address r.length at e)
      by true (InHigh at) e = high at (placed-high (regions_of m) r.address r.length at e)

  -- a record keeps the regions
  pub regions_of-after_record : regions_of (after_record bytes m r) ≡ regions_of m
  regions_of-after_record =
      after_record-cases (λ (m' : Memory). regions_of m' ≡ regions_of m) refl
      (λ at p.
      ap (λ (k : ℕ). guest_regions m.low_base k m.high_base (length m.high))
      (length-patch m.low at (moved bytes r) (omega (arith, p.fits, length-take r.length (drop r.start bytes)))))
      (λ at p.
      ap (λ (k : ℕ). guest_regions m.low_base (length m.low) m.high_base k)
      (length-patch m.high at (moved bytes r) (omega (arith, p.fits, length-take r.length (drop r.start bytes)))))

-- of all records, carried out on a memory: rs are left to be carried out on what it has become
pub record Remaining (bytes : List ℕ) (all : List Record) (m : Memory) (rs : List Record) (m' : Memory) : Type 0 where
  pub size : regions_of m' ≡ regions_of m
  pub in_range : writes_in_range (length bytes) (regions_of m) rs ≡ true
  pub same : written bytes m' rs ≡ written bytes m all

module _ {bytes : List ℕ} {all : List Record} {m : Memory} {r : Record} {rs : List Record} {m' : Memory} where
  -- the next of them lies in range
  pub remaining-in_range : Remaining bytes all m (r ∷ rs) m' → write_in_range (length bytes) (regions_of m') r ≡ true
  remaining-in_range h = rw h.size (writes_in_range-cons (length bytes) (regions_of m) r rs h.in_range).0

  -- and once it is carried out, the others are left
  pub remaining-next : Remaining bytes all m (r ∷ rs) m' → Remaining bytes all m rs (after_record bytes m' r)
  remaining-next h = record {
    size = regions_of-after_record bytes m' r ∙ h.size;
    in_range = (writes_in_range-cons (length bytes) (regions_of m) r rs h.in_range).1;
    same = h.same;
  }

module _ (bytes : List ℕ) where
  pub regions_of-written : (m : Memory) (rs : List Record) → regions_of (written bytes m rs) ≡ regions_of m
  regions_of-written m [] = refl
  regions_of-written m (r ∷ rs) = regions_of-written (after_record bytes m r) rs ∙ regions_of-after_record bytes m r

  -- the records rs, and then ss
  pub written-append : (m : Memory) (rs ss : List Record) → written bytes m (rs ++ ss) ≡ written bytes (written bytes m rs) ss
  written-append m [] ss = refl
  written-append m (r ∷ rs) ss = written-append (after_record bytes m r) rs ss
