-- `in_place_questions::ask_completion` meets its contract. Assumes nothing.
use mathlib.Core.Path.{ap, ◌∙◌}
use Rattle.trb.specs.Questions.{first_no}
use Rattle.in_place_questions.proofs.FactLaws.{completion-same}
use Rattle.in_place_questions.proofs.ask_completion.Goals as goal

pub returns : goal.returns
returns c =
    let s = c.args in
    c.ask_completion.ensures ∙ ap first_no (completion-same _ _ c.facts_of-facts.ensures s.log_length s.res s.data_length)
