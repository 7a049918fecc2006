-- `call_captures::put_in_completion` meets its contract: a record where the completion was accepted, and nothing otherwise. A block has a first place.
-- Assumes nothing.
use mathlib.Core.Path.{sym, ◌∙◌}
use native.Mathlib.Omega.{arith}
use Rattle.held.specs.Places.{past_end}
use Rattle.captured_calls.proofs.WrittenLaws.{laid-none}
use Rattle.call_captures.proofs.PlaceLaws.{first_address-get_or}
use Rattle.call_captures.proofs.put_in_completion.Goals as goal

pub returns-then-not-submission_due : goal.returns-then-not-submission_due
returns-then-not-submission_due c = rw (sym c.submission_due.ensures ∙ c.if-not-submission_due.true) laid-none

pub returns : goal.returns
returns c = rw (sym c.submission_due.ensures ∙ c.if-not-submission_due.false, first_address-get_or c.args.made.now.before.in_block.trbs past_end (omega arith)) c.put_in_completion.ensures
