-- What the guest reads of the frames of several TDs, laid one after the other: at an address that no TD names, what was there before; where no address is named
-- twice, each TD's own bytes. Assumes nothing.
use Prim.Native.Nat.{ℕ, zero, suc, ◌+◌, ◌<◌, min}
use mathlib.Core.Bool.{true, false, ◌||◌, or_assoc}
use mathlib.Core.Path.{◌≡◌, refl, sym, ◌∙◌}
use mathlib.Core.List.{List, [], ◌∷◌, ◌++◌}
use native.Mathlib.Nat.{le_of_suc-le-suc, not-suc-le-zero}
use native.Mathlib.Omega.{arith}
use lib.Dec.{eqb}
use lib.ListN.{length, get_or}
use lib.Seq.{get_or-take, length-take-le}
use Rattle.trb.proofs.TestLaws.{or-false-left, or-false-right}
use Rattle.guest_memory.specs.declared.Regions.{Regions}
use Rattle.guest_memory.specs.Places.{Memory, regions_of}
use Rattle.in_td.specs.Normals.{requested}
use Rattle.account.specs.Guest.{places, numbered}
use Rattle.account.proofs.GuestLaws.{length-places}
use Rattle.row_walk.specs.Rows.{RowTd}
use Rattle.delivery_laws.specs.Laid.{byte_at, is_among, all_inside, NoneTwice}
use Rattle.delivery_laws.proofs.ReadLaws.{regions_of-laid, byte_at-unnamed}
use Rattle.delivery_laws.proofs.DeliveryLaws.{frame-each}
use Rattle.row_delivery.specs.Frames.{places_of, frame_over, AtPlaces, frames_over, all_places, EachAtPlaces}

-- ---- Addresses of two lists

among-append : (a : ℕ) (xs ys : List ℕ) → is_among a (xs ++ ys) ≡ (is_among a xs || is_among a ys)
among-append a [] ys = refl
among-append a (x ∷ xs) ys = rw (among-append a xs ys) (sym (or_assoc (eqb a x) (is_among a xs) (is_among a ys)))

module _ (a : ℕ) (xs ys : List ℕ) (none : is_among a (xs ++ ys) ≡ false) where
  not_first : is_among a xs ≡ false
  not_first = or-false-left (is_among a xs) (is_among a ys) (sym (among-append a xs ys) ∙ none)

  not-second : is_among a ys ≡ false
  not-second = or-false-right (is_among a xs) (is_among a ys) (sym (among-append a xs ys) ∙ none)

once-first : (xs ys : List ℕ) → NoneTwice (xs ++ ys) → NoneTwice xs
once-first [] ys once = tt
once-first (x ∷ xs) ys once = (not_first x xs ys once.0, once-first xs ys once.1)

once-second : (xs ys : List ℕ) → NoneTwice (xs ++ ys) → NoneTwice ys
once-second [] ys once = once
once-second (x ∷ xs) ys once = once-second xs ys once.1

-- an address of the first list is none of the second's
once-apart : (xs ys : List ℕ) → NoneTwice (xs ++ ys) → (i : ℕ) → i < length xs → is_among (get_or xs i 0) ys ≡ false
once-apart [] ys once i h = absurd (not-suc-le-zero h)
once-apart (x ∷ xs) ys once zero h = not-second x xs ys once.0
once-apart (x ∷ xs) ys once (suc i) h = once-apart xs ys once.1 i (le_of_suc-le-suc h)

-- ---- Frames

-- one of the regions holds each place of each TD
unfoldable pub PlacesInside : Regions → ℕ → List RowTd → Type 0
PlacesInside regions start [] = Unit {0}
PlacesInside regions start (x ∷ xs) = (all_inside regions (numbered start (places_of x)) ≡ true) × PlacesInside regions (start + x.given.length) xs

module _ (bytes : List ℕ) where
  pub regions_of-frame : (start : ℕ) (x : RowTd) (m : Memory) → regions_of (frame_over bytes start x m) ≡ regions_of m
  regions_of-frame start x m = regions_of-laid bytes m (numbered start (places_of x))

  -- an address that no TD names
  pub frames-unnamed : (start : ℕ) (xs : List RowTd) (m : Memory) (a : ℕ) → is_among a (all_places xs) ≡ false → byte_at (frames_over bytes start xs m) a ≡ byte_at m a
  unfolding frames_over all_places
  frames-unnamed start [] m a none = refl
  frames-unnamed start (x ∷ xs) m a none =
      frames-unnamed (start + x.given.length) xs (frame_over bytes start x m) a (not-second a (places_of x) (all_places xs) none)
      ∙ byte_at-unnamed bytes m start (places_of x) a (not_first a (places_of x) (all_places xs) none)

  -- addresses that are named once within the row
  pub frames-each : (start : ℕ) (xs : List RowTd) (m : Memory) → PlacesInside (regions_of m) start xs → NoneTwice (all_places xs)
      → EachAtPlaces bytes (frames_over bytes start xs m) start xs
  unfolding frames_over all_places EachAtPlaces PlacesInside
  frames-each start [] m inside once = tt
  frames-each start (x ∷ xs) m inside once = (
    own,
    frames-each (start + x.given.length) xs (frame_over bytes start x m) (rw (regions_of-frame start x m) inside.1) (once-second (places_of x) (all_places xs) once),
  )
    where
      own : AtPlaces bytes (frames_over bytes (start + x.given.length) xs (frame_over bytes start x m)) start x
      own i less =
          let count : ℕ = min x.given.length (requested x.trbs) in
          let size : length (places_of x) ≡ count = length-take-le count (places x.trbs) (omega (arith, length-places x.trbs)) in
          let apart : is_among (get_or (places x.trbs) i 0) (all_places xs) ≡ false =
          rw (← get_or-take count (places x.trbs) i 0 less) (once-apart (places_of x) (all_places xs) once i (omega arith)) in
          frames-unnamed (start + x.given.length) xs (frame_over bytes start x m) (get_or (places x.trbs) i 0) apart
          ∙ frame-each bytes m start x.given.length x.trbs inside.0 (once-first (places_of x) (all_places xs) once) i less
