-- The reader computed on files of one record of each kind: which of its bytes may be another, and where a file may be cut. Assumes nothing.
use Rattle.std.specs.Prelude.{ℕ, zero, suc, ◌+◌, ◌-◌, ◌%◌, false, ◌≡◌, refl, List, [], ◌∷◌, ◌++◌, map, length, take, get_or, set, replicate}
use Rattle.trb.specs.Questions.{first_no}
use Rattle.trb.specs.declared.InTrbProcessingStatus.TheVariants as device
use Rattle.trb.specs.declared.UsbRequest.{UsbRequest}
use Rattle.capture_file.specs.Records.{head, layout, layout_all}
use Rattle.capture_file.specs.Files.{file_head}
use Rattle.capture_file.specs.Reading.{captured_at, original_at, delivered_at, from_each, record_at, records_in, whole_record, whole_records}
use Rattle.capture_record.specs.declared.CaptureEvent.{CaptureEvent}
use Rattle.capture_record.specs.declared.CaptureEvent.TheVariants.{InSubmission, InCompletion, ControlSubmission, ControlCompletionIn, ControlCompletionOut, ControlError, TrbError}
use Rattle.capture_record.specs.declared.InPipe.{InPipe}
use Rattle.capture_record.specs.declared.InTransferType.TheVariants.{Bulk}
use Rattle.capture_record.specs.declared.TransferError.TheVariants.{Stall}
use Rattle.capture_record.specs.Headers.{header_bytes, header_in}
use Rattle.capture_record.specs.Calls.{CaptureCall, capture}
use Rattle.capture_header.specs.Made.{event_named, count_named, made_again, same_header, made}
use Rattle.capture_reader.specs.Reading.{made_head, made_records, made_file, read_questions}

-- bus 258, device 5, at 0x0A0B0C0D seconds and 999,998 microseconds
abbrev at : CaptureEvent → List ℕ → CaptureCall
at e payload =
    record { device = record { bus_number = 258; device_address = 5 }; seconds = 0x0A0B0C0D; microseconds = 999998; event = e; payload = payload }

abbrev bulk : ℕ → InPipe
bulk id = record { endpoint_id = record { 0 = id }; transfer_type = Bulk }

abbrev request : ℕ → ℕ → ℕ → ℕ → ℕ → UsbRequest
request type code value index length =
    record { address = 0x2000; request_type = type; request = code; value = value; index = index; length = length }

abbrev two : List ℕ
two = 0x55 ∷ 0x53 ∷ []

-- a call, and the bytes of its file that may be one more, as first index and number
pub record Example : Type 0 where
  pub call : CaptureCall
  pub free : List (ℕ × ℕ)

abbrev pub examples : List Example
examples =
    -- identifier, endpoint, device, bus and the requested length
    record { call = at (InSubmission (bulk 3) 0x1000 200) []; free = (40, 8) ∷ (50, 4) ∷ (72, 4) ∷ [] }
    -- identifier, endpoint, device, bus and the payload
    ∷ record { call = at (InCompletion (bulk 3) 0x1000 device.Success) two; free = (40, 8) ∷ (50, 4) ∷ (88, 2) ∷ [] }
    -- on an even id the number of bytes, of which none stands there
    ∷ record { call = at (InCompletion (bulk 4) 0x1000 device.Disconnect) two; free = (40, 8) ∷ (50, 4) ∷ (72, 4) ∷ [] }
    -- the upper half of the request length, and the setup bytes but for the request type's bit 7 and the length
    ∷ record { call = at (ControlSubmission (request 0x80 6 0x0100 0 0x10012)) []; free = (40, 8) ∷ (51, 3) ∷ (74, 2) ∷ (80, 6) ∷ [] }
    -- all setup bytes and the payload
    ∷ record { call = at (ControlSubmission (request 0x21 9 0x0200 0x0103 5)) two; free = (40, 8) ∷ (51, 3) ∷ (80, 10) ∷ [] }
    -- the transfer type too: bulk on endpoint byte 1 completes alike
    ∷ record { call = at (ControlCompletionIn 0x2000) two; free = (40, 8) ∷ (49, 1) ∷ (51, 3) ∷ (88, 2) ∷ [] }
    ∷ record { call = at (ControlCompletionOut 0x2000 9) []; free = (40, 8) ∷ (49, 1) ∷ (51, 3) ∷ (72, 4) ∷ [] }
    -- the collected count and all setup bytes
    ∷ record { call = at (ControlError false Stall (request 0x21 9 0x0200 0x0103 5) 7) []; free = (40, 8) ∷ (51, 3) ∷ (72, 4) ∷ (80, 8) ∷ [] }
    ∷ record { call = at (TrbError 0x2000) []; free = (40, 8) ∷ (51, 3) ∷ [] }
    ∷ []

-- the answer to a file whose byte k is one more, for each k below n
abbrev changed : List ℕ → ℕ → List ℕ
changed l zero = []
changed l (suc k) = changed l k ++ first_no (read_questions (set l k ((get_or l k 0 + 1) % 256))) ∷ []

-- 0 at the indices of these runs, and 22 elsewhere, for each index from k on
abbrev answers : ℕ → ℕ → List (ℕ × ℕ) → List ℕ
answers size k [] = replicate (size - k) 22
answers size k (r ∷ rs) = replicate (r.0 - k) 22 ++ replicate r.1 0 ++ answers size (r.0 + r.1) rs

abbrev file_of : Example → List ℕ
file_of e = capture (e.call ∷ [])

abbrev found : Example → List ℕ
found e = first_no (read_questions (file_of e)) ∷ changed (file_of e) (length (file_of e))

abbrev expected : Example → List ℕ
expected e = 0 ∷ answers (length (file_of e)) 0 e.free

pub found-expected : map found examples ≡ map expected examples
unfolding first_no head layout layout_all file_head captured_at original_at delivered_at from_each record_at records_in whole_record whole_records header_bytes header_in capture event_named count_named made_again same_header made made_head made_records made_file
found-expected = refl

-- every cut of a file of two records: 22 but where a record ends
abbrev pair : List ℕ
pair = capture (at (InCompletion (bulk 3) 0x1000 device.Success) two ∷ at (TrbError 0x2000) [] ∷ [])

abbrev cuts_up_to : ℕ → List ℕ
cuts_up_to zero = []
cuts_up_to (suc k) = cuts_up_to k ++ first_no (read_questions (take k pair)) ∷ []

pub cuts : cuts_up_to 155 ≡ replicate 24 22 ++ (0 ∷ replicate 65 22) ++ (0 ∷ replicate 63 22) ++ (0 ∷ [])
unfolding first_no head layout layout_all file_head captured_at original_at delivered_at from_each record_at records_in whole_record whole_records header_bytes header_in capture event_named count_named made_again same_header made made_head made_records made_file
cuts = refl
