-- The writes of a log: whether they lie in range, and what they leave in guest memory. `bytes` is the device's data. Assumes nothing.
use Rattle.std.specs.Prelude.{ℕ, ◌+◌, ◌/◌, Bool, true, not, cond, ◌&&◌, ◌||◌, List, [], ◌∷◌, eqb, ltb, leb, length, take, drop}
use Rattle.buffers.specs.Patch.{patch}
use Rattle.trb.specs.Limits.{record_length}
use Rattle.call_log.specs.declared.Record.{Record}
use Rattle.call_log.specs.Records.{write_kind}
use Rattle.call_log.specs.Logs.{records_in}
use Rattle.guest_memory.specs.declared.Place.{Place}
use Rattle.guest_memory.specs.declared.Place.TheVariants.{Outside, InLow, InHigh}
use Rattle.guest_memory.specs.declared.Regions.{Regions}
use Rattle.guest_memory.specs.Places.{place_of, is_inside, Memory, memory_of, regions_of}

-- the records of a log
abbrev pub records_of : List ℕ → List Record
records_of l = records_in (length l / record_length) l

-- 01, Carry-out: a write of nonzero length
unfoldable pub moves_bytes : Record → Bool
moves_bytes r = eqb r.kind write_kind && ltb 0 r.length

-- 01, Carry-out: does a write of nonzero length lie in the device's data, n bytes, and in the window? 02, R-1: in one of the regions
unfoldable pub write_in_range : ℕ → Regions → Record → Bool
write_in_range n regions r =
    not (moves_bytes r) || (leb (r.start + r.length) n && is_inside (place_of regions r.address r.length))

-- 01, Carry-out: does each write of nonzero length?
abbrev pub writes_in_range : ℕ → Regions → List Record → Bool
writes_in_range n regions [] = true
writes_in_range n regions (r ∷ rs) = write_in_range n regions r && writes_in_range n regions rs

-- guest memory with the bytes vs laid over it at a place: the other region is unchanged
abbrev pub laid_at : Place → List ℕ → Memory → Memory
laid_at Outside vs m = m
laid_at (InLow at) vs m = memory_of m.low_base (patch m.low at vs) m.high_base m.high
laid_at (InHigh at) vs m = memory_of m.low_base m.low m.high_base (patch m.high at vs)

-- 01, The log: bytes written, from where in the device's data the write starts
abbrev pub moved : List ℕ → Record → List ℕ
moved bytes r = take r.length (drop r.start bytes)

-- 01, The log: at the guest address; any other record changes nothing
unfoldable pub after_record : List ℕ → Memory → Record → Memory
after_record bytes m r =
    cond (moves_bytes r) (laid_at (place_of (regions_of m) r.address r.length) (moved bytes r) m) m

-- 01, Modules: performs a log's writes on guest memory; the log's order is the order of effect
abbrev pub written : List ℕ → Memory → List Record → Memory
written bytes m [] = m
written bytes m (r ∷ rs) = written bytes (after_record bytes m r) rs
