-- `in_place_questions::ask_submission` meets its contract. Assumes nothing.
use mathlib.Core.Path.{ap, ◌∙◌}
use Rattle.trb.specs.Questions.{first_no}
use Rattle.held_bytes.specs.Numbers.{trb_of}
use Rattle.in_place_questions.proofs.FactLaws.{submission-same}
use Rattle.in_place_questions.proofs.ask_submission.Goals as goal

pub returns : goal.returns
returns c =
    let s = c.args in
    c.ask_submission.ensures ∙ ap first_no (submission-same _ _ c.facts_of-facts.ensures s.log_length (trb_of s.numbers) s.regions)
