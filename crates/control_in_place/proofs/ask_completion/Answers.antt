-- `control_in_place::ask_completion` meets its contract. Assumes nothing.
use mathlib.Core.Path.{ap, ◌∙◌}
use Rattle.trb.specs.Questions.{first_no}
use Rattle.control_block.specs.declared.BlockFacts.{BlockFacts}
use Rattle.control_questions.specs.Completion.{completion_questions}
use Rattle.control_in_place.proofs.ask_completion.Goals as goal

pub returns : goal.returns
returns c =
    let a = c.args in
    c.ask_completion.ensures ∙ ap (λ (f : BlockFacts). first_no (completion_questions a.log_length f a.res a.data_length)) c.facts-facts.ensures
