-- `call_captures::capture_call` meets its contract: submission, completion and row by their functions, and any other call gives nothing. Assumes nothing.
use Rattle.std.specs.Prelude.{map}
use Rattle.call_log.specs.Records.{decode}
use Rattle.captured_calls.proofs.WrittenLaws.{laid-none}
use Rattle.call_captures.proofs.OtherCalls.{call_captures-other}
use Rattle.call_captures.proofs.capture_call.Goals as goal

pub returns-in_default : goal.returns-in_default
returns-in_default c =
    let m = c.args.made.now in
    let d = c.in_default in
    rw (call_captures-other c.args.capture.now.setting m.before m.after (map decode m.rows.now) m.collect.now m.«data».now m.call d.not-Submit d.not-Complete d.not-CompleteRow) laid-none
