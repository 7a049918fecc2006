-- Guest memory as a call is lent it: what lies there, and whether it is still the memory that was lent. Assumes nothing.
use Rattle.std.specs.Prelude.{◌≡◌}
use Rattle.guest_memory.specs.declared.GuestView.{GuestView}
use Rattle.guest_memory.specs.declared.GuestMemory.{GuestMemory}
use Rattle.guest_memory.specs.Places.{Memory, memory_of}

-- what a view shows
abbrev pub seen : GuestView → Memory
seen v = memory_of v.low_base v.low.now v.high_base v.high.now

-- what lies in lent memory
abbrev pub lent : GuestMemory → Memory
lent m = memory_of m.low_base m.low.now m.high_base m.high.now

-- the same two regions, whatever lies there now
pub record SameRegions (m m' : GuestMemory) : Type 0 where
  pub low_base : m'.low_base ≡ m.low_base
  pub low : m'.low.ghost_name ≡ m.low.ghost_name
  pub high_base : m'.high_base ≡ m.high_base
  pub high : m'.high.ghost_name ≡ m.high.ghost_name
