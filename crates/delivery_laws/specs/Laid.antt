-- What the device's bytes make of guest memory, byte by byte. A pair (k, a) says that the device's byte number k belongs at the guest address a, as in the
-- account's `numbered` and `bytes`. Assumes nothing.
use Rattle.std.specs.Prelude.{ℕ, Bool, true, false, ◌&&◌, ◌||◌, ◌≡◌, List, [], ◌∷◌, eqb, get_or}
use Rattle.guest_memory.specs.declared.Regions.{Regions}
use Rattle.guest_memory.specs.Places.{place_of, is_inside, Memory, regions_of, bytes_at}
use Rattle.carry_out.specs.Writes.{laid_at}

-- 01, IN endpoint: the device's byte k at its place a, in the region that holds this address; where none does, nothing changes
unfoldable pub laid_byte : List ℕ → Memory → ℕ × ℕ → Memory
laid_byte bytes m p = laid_at (place_of (regions_of m) p.1 1) (get_or bytes p.0 0 ∷ []) m

-- one after the other
abbrev pub laid : List ℕ → Memory → List (ℕ × ℕ) → Memory
laid bytes m [] = m
laid bytes m (p ∷ ps) = laid bytes (laid_byte bytes m p) ps

-- the byte that the guest reads at an address: a list of one, or of none where no region holds the address
abbrev pub byte_at : Memory → ℕ → List ℕ
byte_at m a = bytes_at m a 1

-- does one of the regions hold each place?
abbrev pub all_inside : Regions → List (ℕ × ℕ) → Bool
all_inside regions [] = true
all_inside regions (p ∷ ps) = is_inside (place_of regions p.1 1) && all_inside regions ps

-- is the address one of these?
abbrev pub is_among : ℕ → List ℕ → Bool
is_among a [] = false
is_among a (b ∷ bs) = eqb a b || is_among a bs

-- no address is named twice
abbrev pub NoneTwice : List ℕ → Type 0
NoneTwice [] = Unit {0}
NoneTwice (a ∷ rest) = (is_among a rest ≡ false) × NoneTwice rest
