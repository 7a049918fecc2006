-- Where no earlier TRB was refused, the answer is that of its questions.
use mathlib.Core.Path.{sym, ◌∙◌}
use Rattle.std.proofs.Common.{rules}
use Rattle.in_questions.specs.Questions.{trb_questions}
use Rattle.row_questions.proofs.RowTestLaws.{answered-is, also-yes}
use Rattle.row_questions.proofs.ask_also.Goals as goal

pub returns : goal.returns
returns c =
    let a = c.args in
    let qs = trb_questions a.held a.variant a.regions in
    answered-is qs c.ask_of_trb.result c.ask_of_trb.ensures ∙ sym (also-yes a.asked qs (search rules))
