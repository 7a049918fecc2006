-- Where a range of guest addresses lies in guest memory, and the bytes there. Assumes nothing.
use Rattle.std.specs.Prelude.{ℕ, ◌+◌, ◌-◌, Bool, true, false, ◌&&◌, cond, List, [], leb, eqb, length, take, drop}
use Rattle.guest_memory.specs.declared.Place.{Place}
use Rattle.guest_memory.specs.declared.Place.TheVariants.{Outside, InLow, InHigh}
use Rattle.guest_memory.specs.declared.Region.{Region}
use Rattle.guest_memory.specs.declared.Regions.{Regions}
use Rattle.guest_memory.specs.Regions.{guest_regions, end_of}

-- ---- Places

-- 01, Submission: does pointer to pointer + length lie in the region, in whole numbers?
unfoldable pub in_region : Region → ℕ → ℕ → Bool
in_region r pointer n = leb r.start_addr pointer && leb (pointer + n) (end_of r)

-- 02, R-1: which region a range of n bytes was found in, and from which index of its bytes on. A range that crosses from one into the other is outside,
-- even where they touch; one of 0 bytes is in the first region from whose base to whose end its pointer is.
unfoldable pub place_of : Regions → ℕ → ℕ → Place
place_of rs pointer n =
    cond (in_region rs.low pointer n) (InLow (pointer - rs.low.start_addr))
    (cond (in_region rs.high pointer n) (InHigh (pointer - rs.high.start_addr)) Outside)

-- a yes to that question
abbrev pub is_inside : Place → Bool
is_inside Outside = false
is_inside (InLow at) = true
is_inside (InHigh at) = true

-- 01, Submission: a range of nonzero length is asked
unfoldable pub range_inside : Regions → ℕ → ℕ → Bool
range_inside rs pointer n = cond (eqb n 0) true (is_inside (place_of rs pointer n))

-- ---- Bytes

-- guest memory: the bytes of two regions, and their bases
pub record Memory : Type 0 where
  pub low_base : ℕ
  pub low : List ℕ
  pub high_base : ℕ
  pub high : List ℕ

abbrev pub memory_of : ℕ → List ℕ → ℕ → List ℕ → Memory
memory_of low_base low high_base high = record { low_base = low_base; low = low; high_base = high_base; high = high }

-- its regions by their numbers
abbrev pub regions_of : Memory → Regions
regions_of m = guest_regions m.low_base (length m.low) m.high_base (length m.high)

-- the n bytes at a place
abbrev pub bytes_in : Place → ℕ → Memory → List ℕ
bytes_in Outside n m = []
bytes_in (InLow at) n m = take n (drop at m.low)
bytes_in (InHigh at) n m = take n (drop at m.high)

-- 02, R-1: the bytes of whichever region holds the n bytes from pointer on
unfoldable pub bytes_at : Memory → ℕ → ℕ → List ℕ
bytes_at m pointer n = bytes_in (place_of (regions_of m) pointer n) n m
