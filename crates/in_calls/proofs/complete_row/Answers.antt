-- `in_calls::complete_row` meets its contract: the endpoint's answer and its records, then the state line. Assumes nothing.
use mathlib.Core.Path.{ap}
use Rattle.guest_memory.specs.Places.{regions_of}
use Rattle.in_calls.proofs.CallLaws.{runs-row}
use Rattle.in_calls.proofs.complete_row.Goals as goal

pub returns-clause-answer : goal.returns-clause-answer
returns-clause-answer c =
    let met = rw (ap regions_of c.view.ensures) at c.complete_tds-completed.ensures.met in
    runs-row _ _ c.args.row _ met c.put_row.ensures.answer c.answered.ensures
