-- 02, R-2: a reader gives each capture record's times, header fields and payload again. Assumes nothing.
use Rattle.std.specs.Prelude.{ℕ, ◌+◌, ◌%◌, ◌≡◌, List, [], ◌∷◌, length, take, drop}
use Rattle.capture_record.specs.Events.{header_of}
use Rattle.capture_record.specs.Calls.{CaptureCall, delivered_by}
use Rattle.capture_reader.specs.Reading.{NumberedRecord, read_at}

-- what is to be read of a call's record at index `at`: the times, every header field, the payload's place, and where the next record starts
abbrev pub given_call : ℕ → CaptureCall → NumberedRecord
given_call at c = record {
  number = 0;
  seconds = c.seconds;
  microseconds = c.microseconds;
  header = header_of c.device c.seconds c.microseconds c.event (length c.payload % 4294967296);
  payload_start = at + 64;
  payload_length = length (delivered_by c);
  next = at + 64 + length (delivered_by c);
}

-- of one call, the record read at index `at` of l
pub record GivesCall (l : List ℕ) (at : ℕ) (c : CaptureCall) : Type 0 where
  pub fields : read_at l at ≡ given_call at c
  pub payload : take (length (delivered_by c)) (drop (at + 64) l) ≡ delivered_by c

-- from index `at` on, from record to record to the end of l, the calls in their order
abbrev pub GivesBack : List ℕ → ℕ → List CaptureCall → Type 0
GivesBack l at [] = at ≡ length l
GivesBack l at (c ∷ cs) = GivesCall l at c × GivesBack l (at + 64 + length (delivered_by c)) cs
