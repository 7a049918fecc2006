-- 02, R-9: regions of guest memory that touch. Assumes nothing.
use Rattle.std.specs.Prelude.{Bool, ◌&&◌, ◌||◌, eqb, ltb}
use Rattle.guest_memory.specs.declared.Region.{Region}
use Rattle.guest_memory.specs.declared.Regions.{Regions}
use Rattle.guest_memory.specs.Regions.{end_of}

-- r ends where s starts; an empty region has no bytes that could, and touches none
unfoldable pub meets_at_end : Region → Region → Bool
meets_at_end r s = ltb 0 r.len && ltb 0 s.len && eqb (end_of r) s.start_addr

-- one of them ends where the other starts
unfoldable pub touch : Regions → Bool
touch rs = meets_at_end rs.low rs.high || meets_at_end rs.high rs.low
