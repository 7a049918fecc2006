-- 02, R-2: the writer's questions, its answers and the buffer afterwards. Assumes nothing.
use Rattle.std.specs.Prelude.{ℕ, ◌+◌, Bool, ◌&&◌, ◌≡◌, List, [], ◌∷◌, ◌++◌, leb, length, Result, Ok, Err}
use Rattle.trb.specs.Questions.{first_no, after_questions}
use Rattle.buffers.specs.Patch.{patch}
use Rattle.capture_file.specs.Records.{head, layout}
use Rattle.capture_record.specs.declared.CaptureEvent.{CaptureEvent}
use Rattle.capture_record.specs.declared.UsbDevice.{UsbDevice}
use Rattle.capture_record.specs.declared.UsbHeader.{UsbHeader}
use Rattle.capture_record.specs.Headers.{header_bytes}
use Rattle.capture_record.specs.Events.{snap_length, max_microseconds}
use Rattle.capture_record.specs.Calls.{CaptureCall, captured_by, record_of, writer_head}
use Rattle.capture_writer.specs.declared.NotWritten.{NotWritten}
use Rattle.capture_writer.specs.declared.NotWritten.TheVariants.{OutputTooShort, OutOfRange}

abbrev pub call_of : UsbDevice → ℕ → ℕ → CaptureEvent → List ℕ → CaptureCall
call_of d seconds microseconds e payload = record { device = d; seconds = seconds; microseconds = microseconds; event = e; payload = payload }

-- ---- Questions, in this order, over a buffer of `room` bytes

-- 02, R-2: 14 when the capture buffer cannot take the whole file header
abbrev pub head_questions : ℕ → List (Bool × ℕ)
head_questions room = (leb (length writer_head) room, 14) ∷ []

-- 02, R-2: 24 first, when the microseconds pass 999,999 or the captured length passes the snap length; 14 last, when the buffer cannot take the whole record
abbrev pub record_questions : CaptureCall → ℕ → List (Bool × ℕ)
record_questions c room =
    (leb c.microseconds max_microseconds && leb (captured_by c) snap_length, 24) ∷ (leb (length (layout (record_of c))) room, 14) ∷ []

-- ---- Answers, and the buffer afterwards

-- the number of the question that said no, or 0, and how many bytes were written
pub record Written : Type 0 where
  pub number : ℕ
  pub length : ℕ

abbrev pub refused_with : ℕ → Written
refused_with n = record { number = n; length = 0 }

abbrev pub refusal_number : NotWritten → ℕ
refusal_number OutputTooShort = 14
refusal_number OutOfRange = 24

-- an answer in numbers
abbrev pub in_numbers : Result ℕ NotWritten → Written
in_numbers (Ok n) = record { number = 0; length = n }
in_numbers (Err e) = refused_with (refusal_number e)

-- a call that writes these bytes over the buffer's start, if every question is answered yes
abbrev pub answer_of : List (Bool × ℕ) → List ℕ → Written
answer_of qs bytes = after_questions qs refused_with (record { number = 0; length = length bytes })

-- 02, R-2: unchanged on both
abbrev pub output_after : List (Bool × ℕ) → List ℕ → List ℕ → List ℕ
output_after qs bytes output = after_questions qs (λ n. output) (patch output 0 bytes)

-- of a call with such questions: it answered r and left output'
pub record WritesIf (qs : List (Bool × ℕ)) (bytes output : List ℕ) (r : Written) (output' : List ℕ) : Type 0 where
  pub number : r.number ≡ first_no qs
  pub answer : r ≡ answer_of qs bytes
  pub after : output' ≡ output_after qs bytes output

abbrev pub WritesHead : List ℕ → Written → List ℕ → Type 0
WritesHead output r output' = WritesIf (head_questions (length output)) writer_head output r output'

abbrev pub Writes : CaptureCall → List ℕ → Written → List ℕ → Type 0
Writes c output r output' = WritesIf (record_questions c (length output)) (layout (record_of c)) output r output'

-- ---- Writing

-- the bytes of a record with this header and this delivered payload
unfoldable pub record_bytes : ℕ → ℕ → UsbHeader → List ℕ → List ℕ
record_bytes seconds microseconds h payload = head seconds microseconds (48 + length payload) (48 + length payload) ++ header_bytes h ++ payload
