use mathlib.Core.List.{map}
use lib.ListN.{drop}
use Rattle.std.proofs.Common.{Option}
use Rattle.call_log.specs.Records.{decode}
use Rattle.call_log.specs.declared.Record.{Record}
use Rattle.capture_record.specs.declared.CaptureEvent.{CaptureEvent}
use Rattle.capture_calls.specs.Captures.{request_captures}
use Rattle.captured_calls.specs.Submitted.{captured_of, Tells}
use Rattle.captured_calls.proofs.WrittenLaws.{Remaining}
use Rattle.captured_calls.proofs.put_requests.Given as goal

abbrev pub invariant-loop-cells : goal.invariant-loop-cells
invariant-loop-cells g l =
    (events : Record → Option CaptureEvent) → Tells (goal.F-post g l.event) events
    → Remaining l.initial.capture (request_captures (captured_of l.initial.capture.setting) events l.payload (map decode l.rows)) l.capture
    (request_captures (captured_of l.initial.capture.setting) events l.payload (map decode (drop l.cells-index l.rows)))
