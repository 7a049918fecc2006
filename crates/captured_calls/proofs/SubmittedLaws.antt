-- The records of a log, one by one. Assumes nothing.
use Prim.Native.Nat.{ℕ, zero, suc, ◌+◌, ◌/◌, ◌<◌, ◌≤◌}
use mathlib.Core.Path.{◌≡◌, refl, ap, ◌∙◌}
use mathlib.Core.List.{List, [], ◌∷◌, ◌++◌, map}
use native.Mathlib.Omega.{arith}
use lib.ListN.{length, take, drop, get_or}
use lib.Seq.{drop-cons}
use native.Mathlib.Numerals.{add-one}
use Rattle.std.specs.Simd.{first_chunks}
use Rattle.trb.specs.Limits.{record_length}
use Rattle.call_log.specs.Records.{decode}
use Rattle.call_log.proofs.RecordLaws.{records_in-chunks}
use Rattle.call_log.specs.declared.Record.{Record}
use Rattle.std.proofs.Common.{Option}
use Rattle.capture_record.specs.declared.CaptureEvent.{CaptureEvent}
use Rattle.capture_calls.specs.Captures.{Captured, writer_call, request_captures}
use Rattle.captured_calls.specs.Submitted.{log_count, logged_records}

-- of a log's records those in front
take-first_chunks : {A : Type 0} (k m n : ℕ) (xs : List A) → m ≤ n → take m (first_chunks k n xs) ≡ first_chunks k m xs
take-first_chunks k zero n xs h = refl
take-first_chunks k (suc m) zero xs h = absurd (omega (arith, h))
take-first_chunks {A = A} k (suc m) (suc n) xs h = ap (λ (l : List (List A)). take k xs ∷ l) (take-first_chunks k m n (drop k xs) (omega (arith, h)))

pub first-records : (records : ℕ) (log : List ℕ) (cells : List (List ℕ)) (m : ℕ) → cells ≡ first_chunks record_length (length log / record_length) log
    → m ≡ log_count records log → map decode (take m cells) ≡ logged_records records log
first-records records log cells m e count =
    rw (e, count)
    (ap (map decode) (take-first_chunks record_length (log_count records log) (length log / record_length) log (omega arith))
    ∙ records_in-chunks (log_count records log) log)

-- the next of the requests, and those behind it
pub requests-next : (c : Captured) (event : Record → Option CaptureEvent) (payload : List ℕ) (cells : List (List ℕ)) (i : ℕ) → i < length cells
    → {e : Option CaptureEvent} → e ≡ event (decode (get_or cells i []))
    → request_captures c event payload (map decode (drop i cells)) ≡ writer_call c e payload ++ request_captures c event payload (map decode (drop (i + 1) cells))
requests-next c event payload cells i h said = rw (said, add-one, drop-cons cells i [] h) refl
