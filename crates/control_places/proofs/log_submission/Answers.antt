-- `control_places::log_submission` meets its contract, by whether there is something to log. Assumes nothing.
use mathlib.Core.Path.{sym, ◌∙◌}
use Rattle.control_bytes.specs.Layout.{block_of}
use Rattle.control_places.proofs.LoggedLaws.{silent-submission}
use Rattle.control_places.proofs.log_submission.Goals as goal

pub returns-then-is_silent : goal.returns-then-is_silent
returns-then-is_silent c =
    let a = c.args in
    silent-submission a.outcome (block_of a.block.now) a.log.now (sym c.is_silent.ensures ∙ c.if-is_silent.true)
