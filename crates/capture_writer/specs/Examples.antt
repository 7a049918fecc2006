-- The writer computed on calls of every kind, byte by byte, and each refusal at its boundary. Assumes nothing.
use Rattle.std.specs.Prelude.{ℕ, ◌≡◌, refl, List, [], ◌∷◌, ◌++◌, map, true, false, replicate}
use Rattle.trb.specs.Questions.{first_no}
use Rattle.trb.specs.declared.InTrbProcessingStatus.TheVariants as device
use Rattle.trb.specs.declared.UsbRequest.{UsbRequest}
use Rattle.buffers.specs.Patch.{patch}
use Rattle.capture_file.specs.Records.{head, layout}
use Rattle.capture_file.specs.Files.{file_head}
use Rattle.capture_record.specs.declared.CaptureEvent.{CaptureEvent}
use Rattle.capture_record.specs.declared.CaptureEvent.TheVariants.{InSubmission, InCompletion, ControlSubmission, ControlCompletionIn, ControlCompletionOut, ControlError, TrbError}
use Rattle.capture_record.specs.declared.InPipe.{InPipe}
use Rattle.capture_record.specs.declared.InTransferType.TheVariants.{Interrupt, Bulk}
use Rattle.capture_record.specs.declared.TransferError.TheVariants.{Disconnect, Stall, TransactionError}
use Rattle.capture_record.specs.Headers.{header_bytes}
use Rattle.capture_record.specs.Calls.{CaptureCall, record_of, writer_head}
use Rattle.capture_writer.specs.Writing.{Written, call_of, head_questions, record_questions, answer_of, output_after}

-- bus 258, device 5, at 0x0A0B0C0D seconds and so many microseconds
abbrev at : ℕ → CaptureEvent → List ℕ → CaptureCall
at microseconds e payload = call_of (record { bus_number = 258; device_address = 5 }) 0x0A0B0C0D microseconds e payload

abbrev bulk : ℕ → InPipe
bulk id = record { endpoint_id = record { 0 = id }; transfer_type = Bulk }

abbrev interrupt : ℕ → InPipe
interrupt id = record { endpoint_id = record { 0 = id }; transfer_type = Interrupt }

abbrev request : ℕ → ℕ → ℕ → ℕ → ℕ → UsbRequest
request type code value index length =
    record { address = 0x2000; request_type = type; request = code; value = value; index = index; length = length }

-- ---- Bytes

-- at 999,999 microseconds: seconds, microseconds, captured length, original length
abbrev front : ℕ → List ℕ
front n = 0x0D ∷ 0x0C ∷ 0x0B ∷ 0x0A ∷ 0x3F ∷ 0x42 ∷ 0x0F ∷ 0 ∷ n ∷ 0 ∷ 0 ∷ 0 ∷ n ∷ 0 ∷ 0 ∷ 0 ∷ []

-- identifier, event type, transfer type, endpoint address, device, bus, setup flag, data flag, times again, status
abbrev link : ℕ → ℕ → ℕ → ℕ → ℕ → ℕ → List ℕ → List ℕ
link id event transfer endpoint setup flag status =
    (0 ∷ id ∷ replicate 6 0) ++ (event ∷ transfer ∷ endpoint ∷ 5 ∷ 2 ∷ 1 ∷ setup ∷ flag ∷ 0x0D ∷ 0x0C ∷ 0x0B ∷ 0x0A ∷ 0 ∷ 0 ∷ 0 ∷ 0 ∷ 0x3F ∷ 0x42 ∷ 0x0F ∷ 0 ∷ [])
    ++ status

-- length and delivered length
abbrev lengths : ℕ → ℕ → List ℕ
lengths n m = n ∷ 0 ∷ 0 ∷ 0 ∷ m ∷ 0 ∷ 0 ∷ 0 ∷ []

abbrev none : List ℕ
none = replicate 8 0

abbrev zero32 : List ℕ
zero32 = replicate 4 0

abbrev below : ℕ → List ℕ
below low = low ∷ 0xFF ∷ 0xFF ∷ 0xFF ∷ []

-- ---- Examples

pub record Example : Type 0 where
  pub call : CaptureCall
  pub room : ℕ
  pub number : ℕ
  pub length : ℕ
  pub made : List ℕ

-- written to a buffer of just that size
abbrev done : CaptureEvent → List ℕ → ℕ → List ℕ → Example
done e payload size made = record { call = at 999999 e payload; room = size; number = 0; length = size; made = made }

abbrev refused : ℕ → CaptureCall → ℕ → Example
refused n c room = record { call = c; room = room; number = n; length = 0; made = replicate room 7 }

abbrev two : List ℕ
two = 0x55 ∷ 0x53 ∷ []

abbrev pub examples : List Example
examples =
    -- IN: S on an odd and on an even id; C with its payload, and on an even id without
    done (InSubmission (bulk 3) 0x1000 200) [] 64 (front 48 ++ link 0x10 83 3 0x81 45 60 zero32 ++ lengths 200 0 ++ none)
    ∷ done (InSubmission (interrupt 4) 0x1000 200) [] 64 (front 48 ++ link 0x10 83 1 2 45 0 zero32 ++ lengths 200 0 ++ none)
    ∷ done (InCompletion (bulk 3) 0x1000 device.Success) two 66 (front 50 ++ link 0x10 67 3 0x81 45 0 zero32 ++ lengths 2 2 ++ none ++ two)
    ∷ done (InCompletion (bulk 255) 0x1000 device.Success) [] 64 (front 48 ++ link 0x10 67 3 0xFF 45 0 zero32 ++ lengths 0 0 ++ none)
    ∷ done (InCompletion (interrupt 3) 0x1000 device.Stall) two 66 (front 50 ++ link 0x10 67 1 0x81 45 0 (below 0xE0) ++ lengths 2 2 ++ none ++ two)
    ∷ done (InCompletion (bulk 5) 0x1000 device.TransactionError) two 66 (front 50 ++ link 0x10 67 3 0x82 45 0 (below 0xB9) ++ lengths 2 2 ++ none ++ two)
    ∷ done (InCompletion (bulk 4) 0x1000 device.Disconnect) two 64 (front 48 ++ link 0x10 67 3 2 45 62 (below 0xED) ++ lengths 2 0 ++ none)
    -- control: S IN with its length, of which the setup bytes have the low half; S OUT with 0 and what was collected
    ∷ done (ControlSubmission (request 0x80 6 0x0100 0 0x10012)) two 64
    (front 48 ++ link 0x20 83 2 0x80 0 60 zero32 ++ (0x12 ∷ 0 ∷ 1 ∷ 0 ∷ zero32) ++ (0x80 ∷ 6 ∷ 0 ∷ 1 ∷ 0 ∷ 0 ∷ 0x12 ∷ 0 ∷ []))
    ∷ done (ControlSubmission (request 0x21 9 0x0200 0x0103 5)) two 66
    (front 50 ++ link 0x20 83 2 0 0 0 zero32 ++ lengths 0 2 ++ (0x21 ∷ 9 ∷ 0 ∷ 2 ∷ 3 ∷ 1 ∷ 5 ∷ 0 ∷ two))
    -- C IN with its payload, C OUT with the request length
    ∷ done (ControlCompletionIn 0x2000) two 66 (front 50 ++ link 0x20 67 2 0x80 45 0 zero32 ++ lengths 2 2 ++ none ++ two)
    ∷ done (ControlCompletionOut 0x2000 9) two 64 (front 48 ++ link 0x20 67 2 0 45 62 zero32 ++ lengths 9 0 ++ none)
    -- E with setup bytes, the block's direction and the collected count
    ∷ done (ControlError true Disconnect (request 0x80 6 0x0100 0 18) 0) [] 64
    (front 48 ++ link 0x20 69 2 0x80 0 69 (below 0xED) ++ lengths 0 0 ++ (0x80 ∷ 6 ∷ 0 ∷ 1 ∷ 0 ∷ 0 ∷ 18 ∷ 0 ∷ []))
    ∷ done (ControlError false Stall (request 0x21 9 0 0 0) 7) two 64
    (front 48 ++ link 0x20 69 2 0 0 69 (below 0xE0) ++ lengths 7 0 ++ (0x21 ∷ 9 ∷ replicate 6 0))
    ∷ done (ControlError false TransactionError (request 0x21 9 0 0 0) 7) two 64
    (front 48 ++ link 0x20 69 2 0 0 69 (below 0xB9) ++ lengths 7 0 ++ (0x21 ∷ 9 ∷ replicate 6 0))
    -- E for a bad TRB
    ∷ done (TrbError 0x2000) [] 64 (front 48 ++ link 0x20 69 2 0 45 69 (below 0xEA) ++ lengths 0 0 ++ none)
    -- 24 first, 14 last
    ∷ refused 24 (at 1000000 (TrbError 0x2000) []) 64
    ∷ refused 24 (at 1000000 (TrbError 0x2000) []) 0
    ∷ refused 14 (at 999999 (TrbError 0x2000) []) 63
    ∷ refused 14 (at 0 (ControlCompletionIn 0x2000) two) 65
    ∷ []

pub record Result : Type 0 where
  pub number : ℕ
  pub answer : Written
  pub output : List ℕ

abbrev found : Example → Result
found e = record {
  number = first_no (record_questions e.call e.room);
  answer = answer_of (record_questions e.call e.room) (layout (record_of e.call));
  output = output_after (record_questions e.call e.room) (layout (record_of e.call)) (replicate e.room 7);
}

abbrev expected : Example → Result
expected e = record { number = e.number; answer = record { number = e.number; length = e.length }; output = e.made }

pub found-expected : map found examples ≡ map expected examples
unfolding first_no patch head layout header_bytes
found-expected = refl

-- the file header, with a byte to spare, and where a byte is missing
pub head-written : output_after (head_questions 25) writer_head (replicate 25 7)
    ≡ 0xD4 ∷ 0xC3 ∷ 0xB2 ∷ 0xA1 ∷ 2 ∷ 0 ∷ 4 ∷ 0 ∷ 0 ∷ 0 ∷ 0 ∷ 0 ∷ 0 ∷ 0 ∷ 0 ∷ 0 ∷ 0 ∷ 0 ∷ 0 ∷ 8 ∷ 189 ∷ 0 ∷ 0 ∷ 0 ∷ 7 ∷ []
unfolding first_no patch file_head
head-written = refl

pub head-refused : answer_of (head_questions 23) writer_head ≡ record { number = 14; length = 0 }
unfolding first_no file_head
head-refused = refl
