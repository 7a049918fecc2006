-- Why the regions must not touch, computed on the definitions. Assumes nothing.
use Rattle.std.specs.Prelude.{ℕ, true, false, ◌≡◌, refl, List, [], ◌∷◌, map, Err, Ok}
use Rattle.trb.specs.Answers.{refusal_of}
use Rattle.trb.specs.Questions.{first_no}
use Rattle.trb.specs.declared.Refusal.TheVariants.{WriteOutOfRange}
use Rattle.buffers.specs.Patch.{patch}
use Rattle.call_log.specs.Logs.{encode_all}
use Rattle.log_check.specs.WellFormed.{kind_known, well_formed}
use Rattle.guest_memory.specs.declared.Regions.{Regions}
use Rattle.guest_memory.specs.Regions.{guest_regions, holds, shares_at, share_an_address}
use Rattle.guest_memory.specs.Places.{in_region, place_of}
use Rattle.carry_out.specs.Writes.{moves_bytes, write_in_range}
use Rattle.carry_out.specs.CarryOut.{answer_of}
use Rattle.kept_records.specs.Rows.{with_length}
use Rattle.kept_records.specs.Compact.{empty_write, same_endpoint_writes, goes_on, joins, joined, compacted}
use Rattle.kept_records.specs.Examples.{write}
use Rattle.log_compact.specs.Compacting.{kept_bytes}
use Rattle.compact_laws.specs.Touching.{meets_at_end, touch}

-- two regions of 512 bytes, the second where the first ends; and a byte further on
abbrev touching : Regions
touching = guest_regions 0x8000 512 0x8200 512

abbrev beside : Regions
beside = guest_regions 0x8000 512 0x8201 512

-- a write at the end of the first, and one that goes on in the second
abbrev across : List ℕ
across = encode_all (write 0x8000 512 0 ∷ write 0x8200 88 512 ∷ [])

pub touch-computed : map touch (touching ∷ beside ∷ []) ≡ true ∷ false ∷ []
unfolding touch meets_at_end
touch-computed = refl

-- why regions must not touch: both writes lie in range, but the joined one crosses from one region into the other, which is outside
pub across-accepted : answer_of across 600 touching ≡ Ok tt
unfolding first_no refusal_of encode_all well_formed kind_known moves_bytes write_in_range place_of in_region share_an_address shares_at holds
across-accepted = refl

pub kept-refused : answer_of (kept_bytes across) 600 touching ≡ Err WriteOutOfRange
unfolding first_no refusal_of encode_all well_formed kind_known moves_bytes write_in_range place_of in_region share_an_address shares_at holds compacted empty_write joins same_endpoint_writes goes_on joined with_length patch
kept-refused = refl
