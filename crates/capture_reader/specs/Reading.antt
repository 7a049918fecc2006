-- 02, R-2: what the reader gives of a file, and of a record in it. Assumes nothing.
use Rattle.std.specs.Prelude.{ℕ, ◌+◌, Bool, cond, ◌&&◌, ◌≡◌, List, [], ◌∷◌, Option, Some, None, leb, eqb, length, drop}
use Rattle.trb.specs.Questions.{first_no, after_questions}
use Rattle.buffers.specs.LittleEndian.{le_field}
use Rattle.capture_file.specs.Records.{CaptureRecord}
use Rattle.capture_file.specs.Reading.{record_at, records_in, whole_record, whole_records, every}
use Rattle.capture_record.specs.declared.UsbHeader.{UsbHeader}
use Rattle.capture_record.specs.Headers.{no_setup, header_in, usb_header}
use Rattle.capture_record.specs.Events.{snap_length}
use Rattle.capture_record.specs.Calls.{writer_head}
use Rattle.capture_reader.specs.declared.CapturedRecord.{CapturedRecord}
use Rattle.capture_header.specs.Made.{made}

-- ---- A file

-- are the first 24 bytes those of the writer's file header? Eight at a time
unfoldable pub made_head : List ℕ → Bool
made_head l =
    leb 24 (length l)
    && (eqb (le_field 0 8 l) (le_field 0 8 writer_head) && (eqb (le_field 8 8 l) (le_field 8 8 writer_head) && eqb (le_field 16 8 l) (le_field 16 8 writer_head)))

-- whole records, one behind the other, each of which the writer makes
unfoldable pub made_records : List ℕ → Bool
made_records l = whole_records 0 snap_length l && every made (records_in 0 l)

unfoldable pub made_file : List ℕ → Bool
made_file l = made_head l && made_records (drop 24 l)

-- 02, R-2: 22 when the reader's input is no file the writer can make, no records given
abbrev pub read_questions : List ℕ → List (Bool × ℕ)
read_questions l = (made_file l, 22) ∷ []

-- what a file gives in numbers: 0 or 22, and the number of its records
pub record CaptureCount : Type 0 where
  pub number : ℕ
  pub records : ℕ

abbrev pub count_refused : CaptureCount
count_refused = record { number = 22; records = 0 }

abbrev pub counted : ℕ → CaptureCount
counted n = record { number = 0; records = n }

abbrev pub in_count : Option ℕ → CaptureCount
in_count None = count_refused
in_count (Some n) = counted n

-- what is counted of the records behind a file header
unfoldable pub count_of : List ℕ → CaptureCount
count_of l = cond (made_records l) (counted (length (records_in 0 l))) count_refused

abbrev pub read_answer : List ℕ → CaptureCount
read_answer l = after_questions (read_questions l) (λ n. record { number = n; records = 0 }) (counted (length (records_in 0 (drop 24 l))))

-- of a call of read_capture with the bytes l: it answered r
pub record ReadsCapture (l : List ℕ) (r : CaptureCount) : Type 0 where
  pub number : r.number ≡ first_no (read_questions l)
  pub answer : r ≡ read_answer l

-- ---- The record at a position

-- does l start with a record that the writer makes?
unfoldable pub made_record : List ℕ → Bool
made_record l = whole_record 0 snap_length l && made (record_at 0 l)

-- what the record at a position gives in numbers: 0 or 22, and the record
pub record NumberedRecord : Type 0 where
  pub number : ℕ
  pub seconds : ℕ
  pub microseconds : ℕ
  pub header : UsbHeader
  pub payload_start : ℕ
  pub payload_length : ℕ
  pub next : ℕ

-- its times, its header fields, where its payload stands, and where the next record starts
abbrev pub given_back : ℕ → CaptureRecord → NumberedRecord
given_back at r = record {
  number = 0;
  seconds = r.seconds;
  microseconds = r.microseconds;
  header = header_in r.link;
  payload_start = at + 64;
  payload_length = length r.payload;
  next = at + 64 + length r.payload;
}

abbrev pub no_header : UsbHeader
no_header = usb_header (record { bus_number = 0; device_address = 0 }) 0 0 0 0 0 0 0 0 0 0 0 no_setup

-- 02, R-2: 22, and nothing of a record
abbrev pub nothing_read : NumberedRecord
nothing_read =
    record { number = 22; seconds = 0; microseconds = 0; header = no_header; payload_start = 0; payload_length = 0; next = 0 }

abbrev pub in_numbers : Option CapturedRecord → NumberedRecord
in_numbers None = nothing_read
in_numbers (Some r) = record {
  number = 0;
  seconds = r.time.seconds;
  microseconds = r.time.microseconds;
  header = r.header;
  payload_start = r.payload_start;
  payload_length = r.payload_length;
  next = r.next;
}

-- the record that starts at index `at` of l
unfoldable pub read_at : List ℕ → ℕ → NumberedRecord
read_at l at = cond (made_record (drop at l)) (given_back at (record_at 0 (drop at l))) nothing_read
