-- 02, R-1: guest memory comes as two regions, each with a base. A region is the addresses from its base to base + length, in whole numbers, so that it may
-- be empty and may pass 2^64; either may be the lower. Assumes nothing.
use Rattle.std.specs.Prelude.{ℕ, ◌+◌, Bool, ◌&&◌, ◌||◌, leb, ltb}
use Rattle.guest_memory.specs.declared.Region.{Region}
use Rattle.guest_memory.specs.declared.Regions.{Regions}

-- two regions of these bases and lengths
abbrev pub guest_regions : ℕ → ℕ → ℕ → ℕ → Regions
guest_regions low_base low_len high_base high_len = record {
  low = record { start_addr = low_base; len = low_len };
  high = record { start_addr = high_base; len = high_len };
}

-- the first address behind a region
abbrev pub end_of : Region → ℕ
end_of r = r.start_addr + r.len

-- an address of a region
unfoldable pub holds : Region → ℕ → Bool
holds r a = leb r.start_addr a && ltb a (end_of r)

-- an address of both
unfoldable pub shares_at : Regions → ℕ → Bool
shares_at rs a = holds rs.low a && holds rs.high a

-- 02, R-1: the two regions share an address; the first one that they share is where one of them starts
unfoldable pub share_an_address : Regions → Bool
share_an_address rs = shares_at rs rs.low.start_addr || shares_at rs rs.high.start_addr
