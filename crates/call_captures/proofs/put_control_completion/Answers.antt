-- `call_captures::put_control_completion` meets its contract: a record where the completion was accepted, and nothing otherwise. Assumes nothing.
use mathlib.Core.Path.{sym, ◌∙◌}
use Rattle.captured_calls.proofs.WrittenLaws.{laid-none}
use Rattle.call_captures.proofs.put_control_completion.Goals as goal

pub returns-then-not-submission_due : goal.returns-then-not-submission_due
returns-then-not-submission_due c = rw (sym c.submission_due.ensures ∙ c.if-not-submission_due.true) laid-none
