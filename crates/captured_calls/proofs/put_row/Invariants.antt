use mathlib.Core.List.{map}
use Rattle.call_log.specs.Records.{decode}
use Rattle.row_walk.specs.Rows.{row_tds}
use Rattle.captured_calls.specs.Submitted.{captured_of, pipe_of}
use Rattle.captured_calls.specs.Rows.{requests_in, row_captures}
use Rattle.captured_calls.proofs.WrittenLaws.{Remaining}
use Rattle.captured_calls.proofs.RowLaws.{row_left}
use Rattle.captured_calls.proofs.put_row.Given as goal

abbrev pub invariant-loop-given : goal.invariant-loop-given
invariant-loop-given l =
    Remaining l.initial.capture
    (row_captures (captured_of l.initial.capture.setting) (pipe_of l.initial.capture.setting l.endpoint_id) (row_tds l.row l.results) (requests_in (map decode l.logged)) l.data)
    l.capture
    (row_left (captured_of l.initial.capture.setting) (pipe_of l.initial.capture.setting l.endpoint_id) l.results l.trbs l.given-index l.rows l.bytes)
