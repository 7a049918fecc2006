-- 02, R-2: what a capture says of a call, and the requests of a log. Assumes nothing.
use Rattle.std.specs.Prelude.{ℕ, ◌/◌, ◌≡◌, min, List, Option, length}
use Rattle.trb.specs.Limits.{record_length}
use Rattle.trb.specs.declared.EndpointId.{EndpointId}
use Rattle.call_log.specs.declared.Record.{Record}
use Rattle.call_log.specs.Logs.{records_in}
use Rattle.capture_record.specs.declared.InPipe.{InPipe}
use Rattle.capture_record.specs.declared.CaptureEvent.{CaptureEvent}
use Rattle.capture_calls.specs.Captures.{Captured, request_captures}
use Rattle.captured_calls.specs.declared.capture.Capture.{Capture}
use Rattle.captured_calls.specs.declared.Setting.{Setting}
use Rattle.captured_calls.specs.Written.{Laid}

abbrev pub captured_of : Setting → Captured
captured_of s = record { device = s.stamp.device; seconds = s.stamp.time.seconds; microseconds = s.stamp.time.microseconds }

abbrev pub pipe_of : Setting → EndpointId → InPipe
pipe_of s e = record { endpoint_id = e; transfer_type = s.transfer_type }

-- a call that answers `answered` of a record answers the event that `events` gives it
abbrev pub Tells : (Record → Option CaptureEvent → Type 0) → (Record → Option CaptureEvent) → Type 0
Tells answered events = (r : Record) (e : Option CaptureEvent) → answered r e → e ≡ events r

-- the first records of a log, or as many as it has room for
abbrev pub log_count : ℕ → List ℕ → ℕ
log_count records log = min records (length log / record_length)

abbrev pub logged_records : ℕ → List ℕ → List Record
logged_records records log = records_in (log_count records log) log

-- of a function that lays the requests among the records rs, each with this payload: whatever events the calls answered, their records are laid
abbrev pub RequestsLaid : (Record → Option CaptureEvent → Type 0) → List ℕ → List Record → Capture → Capture → Type 0
RequestsLaid answered payload rs c c' =
    (events : Record → Option CaptureEvent) → Tells answered events → Laid (request_captures (captured_of c.setting) events payload rs) c c'
