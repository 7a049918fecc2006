-- No torn frame, of a row of TDs: what guest memory is at the event that the guest relies on in each TD that was started. Assumes nothing.
use Rattle.std.specs.Prelude.{ℕ, ◌+◌, ◌<◌, min, false, ◌≡◌, List, [], ◌∷◌, ◌++◌, length, take, get_or, Ok}
use Rattle.call_log.specs.First.{first_records}
use Rattle.call_log.specs.declared.Record.{Record}
use Rattle.guest_memory.specs.Places.{Memory, regions_of}
use Rattle.carry_out.specs.Writes.{records_of}
use Rattle.carry_out.specs.CarryOut.{Carried}
use Rattle.in_td.specs.Normals.{requested}
use Rattle.account.specs.Guest.{places, Distinct, IspOnNormals, LastNormalWithIoc, count_before, numbered}
use Rattle.row_walk.specs.Accounts.{joined}
use Rattle.row_walk.specs.Rows.{RowTd}
use Rattle.delivery_laws.specs.Laid.{laid, byte_at, is_among, NoneTwice}
use Rattle.delivery_laws.specs.Delivered.{first_places}

-- ---- One TD

-- the places of the first min(n, S) bytes that the device gave for it
abbrev pub places_of : RowTd → List ℕ
places_of x = first_places x.given.length x.trbs

-- m with these bytes laid at their places; in the joined data they begin at byte `start`
abbrev pub frame_over : List ℕ → ℕ → RowTd → Memory → Memory
frame_over bytes start x m = laid bytes m (numbered start (places_of x))

-- byte i of its data is at its place i
abbrev pub AtPlaces : List ℕ → Memory → ℕ → RowTd → Type 0
AtPlaces bytes m start x =
    (i : ℕ) → i < min x.given.length (requested x.trbs) → byte_at m (get_or (places x.trbs) i 0) ≡ get_or bytes (start + i) 0 ∷ []

-- of the joined data, guest memory m ahead of the row, the row's log, in which k records stand ahead of this TD's own ones, and guest memory as the TDs ahead
-- left it
pub record DeliveredTd (bytes : List ℕ) (m : Memory) (log : List ℕ) (k start : ℕ) (left : Memory) (x : RowTd) (own : List Record) : Type 0 where
  -- 00, demand 3's conditions: carry-out accepts the row's log up to the event that the guest relies on in this TD or, if there is none, up to its last event;
  -- then this TD's frame is laid on what the TDs ahead left
  pub at_event : Distinct x.trbs → IspOnNormals x.trbs → LastNormalWithIoc x.trbs
      → Carried (first_records (k + count_before own) log) bytes m (Ok tt) (frame_over bytes start x left)
  -- up to the end of this TD's log it leaves the same: what comes behind that event changes nothing
  pub at_end : Carried (first_records (k + length own) log) bytes m (Ok tt) (frame_over bytes start x left)
  -- where the TD names no address twice, byte i is at place i
  pub each : NoneTwice (places_of x) → AtPlaces bytes (frame_over bytes start x left) start x
  -- every other byte is what the TDs ahead left
  pub others : (a : ℕ) → is_among a (places_of x) ≡ false → byte_at (frame_over bytes start x left) a ≡ byte_at left a

-- ---- The row

-- m with the frame of each TD laid, one after the other
unfoldable pub frames_over : List ℕ → ℕ → List RowTd → Memory → Memory
frames_over bytes start [] m = m
frames_over bytes start (x ∷ xs) m = frames_over bytes (start + x.given.length) xs (frame_over bytes start x m)

-- the places of all of them
unfoldable pub all_places : List RowTd → List ℕ
all_places [] = []
all_places (x ∷ xs) = places_of x ++ all_places xs

-- each TD's bytes are at their places
unfoldable pub EachAtPlaces : List ℕ → Memory → ℕ → List RowTd → Type 0
EachAtPlaces bytes m start [] = Unit {0}
EachAtPlaces bytes m start (x ∷ xs) = AtPlaces bytes m start x × EachAtPlaces bytes m (start + x.given.length) xs

-- each TD of which there is a log is delivered; those behind were not started
unfoldable pub EachDelivered : List ℕ → Memory → List ℕ → ℕ → ℕ → Memory → List RowTd → List (List Record) → Type 0
EachDelivered bytes m log k start left xs [] = Unit {0}
EachDelivered bytes m log k start left [] (own ∷ logs) = ⊥
EachDelivered bytes m log k start left (x ∷ xs) (own ∷ logs) =
    DeliveredTd bytes m log k start left x own × EachDelivered bytes m log (k + length own) (start + x.given.length) (frame_over bytes start x left) xs logs

-- of the joined data, the TDs of a row, of which so many were started, the row's log, and guest memory m that became m'
pub record RowDelivered (bytes : List ℕ) (m : Memory) (xs : List RowTd) (started : ℕ) (log : List ℕ) (m' : Memory) : Type 0 where
  -- the row's log falls into those of the TDs that were started
  pub logs : List (List Record)
  pub split : records_of log ≡ joined logs
  pub count : length logs ≡ started
  -- at each TD's event, that TD's bytes are there
  pub at_events : EachDelivered bytes m log 0 0 m xs logs
  -- carry-out accepts the whole log, and leaves m'
  pub at_end : Carried log bytes m (Ok tt) m'
  -- m' is m with the frame of each TD that was started laid, one after the other
  pub frames : m' ≡ frames_over bytes 0 (take started xs) m
  -- where no address is named twice within the row, each TD's bytes are at their places to the end
  pub each : NoneTwice (all_places (take started xs)) → EachAtPlaces bytes m' 0 (take started xs)
  -- every byte that no TD that was started names is what it was
  pub others : (a : ℕ) → is_among a (all_places (take started xs)) ≡ false → byte_at m' a ≡ byte_at m a
  -- and so are the regions
  pub regions : regions_of m' ≡ regions_of m
