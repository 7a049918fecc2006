-- No torn frame: what guest memory is at the event that the guest relies on. 00, demand 3, speaks of a log's write records; this is the same claim of the
-- bytes of guest memory. Assumes nothing.
use Rattle.std.specs.Prelude.{ℕ, ◌*◌, ◌<◌, min, false, ◌≡◌, List, [], ◌∷◌, length, take, get_or, Ok}
use Rattle.trb.specs.Limits.{record_length}
use Rattle.trb.specs.declared.TransferTrb.{TransferTrb}
use Rattle.guest_memory.specs.Places.{Memory, regions_of}
use Rattle.carry_out.specs.Writes.{records_of}
use Rattle.carry_out.specs.CarryOut.{Carried}
use Rattle.in_td.specs.Normals.{requested}
use Rattle.account.specs.Guest.{places, count_before, numbered}
use Rattle.delivery_laws.specs.Laid.{laid, byte_at, is_among, NoneTwice}

-- the places of the device's first min(n, S) bytes
abbrev pub first_places : ℕ → List TransferTrb → List ℕ
first_places n ts = take (min n (requested ts)) (places ts)

-- a log up to the event that the guest relies on or, if there is none, up to the last event
abbrev pub up_to_event : List ℕ → List ℕ
up_to_event log = take (record_length * count_before (records_of log)) log

-- of the device's bytes, the list held, a completion's log, and guest memory m that became m'
pub record Delivered (bytes : List ℕ) (m : Memory) (ts : List TransferTrb) (log : List ℕ) (m' : Memory) : Type 0 where
  -- carry-out accepts the log up to that event, and leaves m'
  pub at_event : Carried (up_to_event log) bytes m (Ok tt) m'
  -- it accepts the whole log, and leaves m' too: at the event the frame is already final
  pub at_end : Carried log bytes m (Ok tt) m'
  -- m' is m with the device's first min(n, S) bytes laid at their places
  pub frame : m' ≡ laid bytes m (numbered 0 (first_places (length bytes) ts))
  -- where no address is named twice, byte i is at place i
  pub each : NoneTwice (first_places (length bytes) ts) → (i : ℕ) → i < min (length bytes) (requested ts) → byte_at m' (get_or (places ts) i 0) ≡ get_or bytes i 0 ∷ []
  -- every other byte is what it was
  pub others : (a : ℕ) → is_among a (first_places (length bytes) ts) ≡ false → byte_at m' a ≡ byte_at m a
  -- and so are the regions
  pub regions : regions_of m' ≡ regions_of m
