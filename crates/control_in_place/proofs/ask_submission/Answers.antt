-- `control_in_place::ask_submission` meets its contract. Assumes nothing.
use Rattle.std.proofs.Common.{◌≡◌, ◌∙◌, sym, ap, Err, arith}
use Rattle.trb.specs.Answers.{number_of}
use Rattle.trb.specs.Questions.{first_no}
use Rattle.held_bytes.specs.Numbers.{trb_of}
use Rattle.phase_table.specs.Table.{trb_outcome}
use Rattle.control_questions.specs.Submission.{submission_questions}
use Rattle.control_bytes.specs.Layout.{block_of}
use Rattle.control_endpoint.specs.Submission.{questions_of}
use Rattle.control_in_place.proofs.ask_submission.Goals.{After-ask_submission}
use Rattle.control_in_place.proofs.ask_submission.Goals as goal

becomes : (k : After-ask_submission) → let a = k.args in k.outcome_of-outcome.result ≡ trb_outcome (block_of a.block.now).transfer.phase (trb_of a.t.numbers).variant
becomes k = let a = k.args in k.outcome_of-outcome.ensures ∙ (λ j. trb_outcome (k.facts-facts.ensures j).phase (trb_of a.t.numbers).variant)

number : (k : After-ask_submission) → let a = k.args in
    number_of k.ask_submission.result ≡ first_no (questions_of a.log_length a.collect_length (block_of a.block.now) (trb_of a.t.numbers) a.regions)
number k =
    let a = k.args in
    k.ask_submission.ensures (trb_of a.t.numbers) a.t.by_kind
    ∙ (λ j. first_no (submission_questions a.log_length a.collect_length (k.facts-facts.ensures j) (becomes k j) (trb_of a.t.numbers) a.regions))

pub returns-in_err-ask_submission : goal.returns-in_err-ask_submission
returns-in_err-ask_submission c =
    let told : c.from_residual.result ≡ Err c.in_err-ask_submission.field-0.0 = grind arith in
    rw told (record { outcome = tt; number = ap number_of (sym c.in_err-ask_submission.was) ∙ number (goal.at.returns-in_err-ask_submission c).After-ask_submission })

pub returns : goal.returns
returns c =
    let k = (goal.at.returns c).After-ask_submission in
    record { outcome = becomes k; number = ap number_of (sym c.in_ok-ask_submission.was) ∙ number k }
