-- 02, R-2 of R-7: what a row of TDs in a single call gives to a capture. Assumes nothing.
use Rattle.std.specs.Prelude.{ℕ, ◌+◌, Bool, cond, List, [], ◌∷◌, ◌++◌, Option, Some, None, eqb, take, drop, map, get_or}
use Rattle.trb.specs.declared.InTrbProcessingStatus.{InTrbProcessingStatus}
use Rattle.trb.specs.declared.TdBasedNormalSubmissionState.TheVariants.{AwaitingRealTransfer}
use Rattle.call_log.specs.Records.{request_kind, decode}
use Rattle.call_log.specs.declared.Record.{Record}
use Rattle.row_walk.specs.Rows.{RowTd, has_normal}
use Rattle.capture_record.specs.declared.InPipe.{InPipe}
use Rattle.capture_record.specs.Calls.{CaptureCall}
use Rattle.capture_calls.specs.Events.{in_request_event, in_completion_event}
use Rattle.capture_calls.specs.Captures.{Captured, writer_call}

-- the requests of a log, in their order: 02, R-7: each TD that was started has logged its own, if it has a Normal
unfoldable pub requests_in : List Record → List Record
requests_in [] = []
requests_in (r ∷ rs) = cond (eqb r.kind request_kind) (r ∷ requests_in rs) (requests_in rs)

-- of records by their bytes: the first request is number r, or there is none
abbrev pub request_at : Option ℕ → List (List ℕ) → List Record
request_at None cells = []
request_at (Some r) cells = decode (get_or cells r []) ∷ requests_in (map decode (drop (r + 1) cells))

-- a TD that has logged this request: its submission, then its completion with its identifier, its status and its own bytes
abbrev pub td_capture : Captured → InPipe → Record → InTrbProcessingStatus → List ℕ → List CaptureCall
td_capture c p q status bytes =
    writer_call c (in_request_event p q) [] ++ writer_call c (in_completion_event p AwaitingRealTransfer q.address (Some status)) bytes

-- a TD with a Normal: the first of these requests is its own, and without one it was not started
abbrev pub started_capture : Captured → InPipe → List Record → InTrbProcessingStatus → List ℕ → List CaptureCall
started_capture c p [] status bytes = []
started_capture c p (q ∷ qs) status bytes = td_capture c p q status bytes

-- a TD that has a Normal, or has none and gives nothing
abbrev pub td_captures : Captured → InPipe → Bool → List Record → InTrbProcessingStatus → List ℕ → List CaptureCall
td_captures c p normal qs status bytes = cond normal (started_capture c p qs status bytes) []

-- the requests of the TDs behind it
abbrev pub requests_behind : Bool → List Record → List Record
requests_behind normal qs = cond normal (drop 1 qs) qs

-- the TDs of a row one behind the other, each with its part of the joined data
unfoldable pub row_captures : Captured → InPipe → List RowTd → List Record → List ℕ → List CaptureCall
row_captures c p [] qs bytes = []
row_captures c p (x ∷ xs) qs bytes =
    td_captures c p (has_normal x.trbs) qs x.given.status (take x.given.length bytes)
    ++ row_captures c p xs (requests_behind (has_normal x.trbs) qs) (drop x.given.length bytes)
