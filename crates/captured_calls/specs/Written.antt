-- 02, R-2: the bytes that calls of the writer leave in a lent buffer, one behind the other. Assumes nothing.
use Rattle.std.specs.Prelude.{ℕ, ◌+◌, ◌-◌, ◌≤◌, ◌≡◌, List, [], ◌∷◌, ◌++◌, length}
use Rattle.trb.specs.Questions.{after_questions}
use Rattle.buffers.specs.Patch.{patch}
use Rattle.capture_file.specs.Records.{layout}
use Rattle.capture_record.specs.Calls.{CaptureCall, record_of}
use Rattle.capture_writer.specs.Writing.{record_questions}
use Rattle.captured_calls.specs.declared.capture.Capture.{Capture}

-- a call of the writer leaves its record where `room` bytes are left; a refused one leaves nothing
unfoldable pub written_one : ℕ → CaptureCall → List ℕ
written_one room c = after_questions (record_questions c room) (λ n. []) (layout (record_of c))

-- each leaves it behind those before, in what they left of the room
unfoldable pub written_all : ℕ → List CaptureCall → List ℕ
written_all room [] = []
written_all room (c ∷ cs) = written_one room c ++ written_all (room - length (written_one room c)) cs

-- the records lie in the buffer, as the type of a capture says
abbrev pub Fits : Capture → Type 0
Fits c = c.end ≤ length c.bytes.now

-- the capture c became c': these calls of the writer were made, and no others, and what they wrote stands behind the records, in the same buffer; what
-- records say is as it was
pub record Laid (cs : List CaptureCall) (c c' : Capture) : Type 0 where
  pub end : c'.end ≡ c.end + length (written_all (length c.bytes.now - c.end) cs)
  pub bytes : c'.bytes.now ≡ patch c.bytes.now c.end (written_all (length c.bytes.now - c.end) cs)
  pub size : length c'.bytes.now ≡ length c.bytes.now
  pub fits : Fits c'
  pub same : c'.bytes.ghost_name ≡ c.bytes.ghost_name
  pub setting : c'.setting ≡ c.setting

-- of a function that was lent `output`: it made these calls of the writer, and no others, returned how many bytes they wrote, and left output'
pub record Lays (cs : List CaptureCall) (output : List ℕ) (r : ℕ) (output' : List ℕ) : Type 0 where
  pub end : r ≡ length (written_all (length output) cs)
  pub after : output' ≡ patch output 0 (written_all (length output) cs)
  pub inside : r ≤ length output
