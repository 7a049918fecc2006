-- `delivery::ask` meets its contract: behind 1 and 13 the number is that of a completion's questions, and where each was answered with yes, question 11 is told
-- by the TRBs held. Assumes nothing.
use Rattle.std.proofs.Common.{◌≡◌, arith, rules, ap}
use Rattle.trb.specs.Answers.{number_of, is_accepted}
use Rattle.trb.specs.Questions.{first_no}
use Rattle.in_block.specs.Facts.{facts_of}
use Rattle.in_questions.specs.Questions.{completion_questions}
use Rattle.delivery.proofs.QuestionLaws.{number-no, known, number-yes}
use Rattle.delivery.proofs.ask.Goals.{After-ask_completion}
use Rattle.delivery.proofs.ask.Goals as goal

number : (c : After-ask_completion) → let s = c.args in
    number_of c.ask_completion.result ≡ first_no (completion_questions s.log_length (facts_of s.block.now) s.res s.data_length)
number c = rw c.facts_of.ensures at c.ask_completion.ensures

pub returns-in_err-ask_completion : goal.returns-in_err-ask_completion
returns-in_err-ask_completion c =
    let s = c.args in
    let same : c.from_residual-in_err-ask_completion.result ≡ c.ask_completion.result = grind arith in
    rw same
    (number-no s.log_length s.block.now s.res s.data_length s.regions (search rules) (search rules) _ (number (goal.at.returns-in_err-ask_completion c).After-ask_completion)
    (ap is_accepted c.in_err-ask_completion.was))

pub overflow_cast-data_length : goal.overflow_cast-data_length
overflow_cast-data_length c =
    let s = c.args in
    let k = (known s.log_length s.block.now s.res s.data_length s.regions (search rules) (search rules) _ (number (goal.at.overflow_cast-data_length c).After-ask_completion) (ap is_accepted c.in_ok-ask_completion.was)).short in
    search rules

pub returns : goal.returns
returns c =
    let s = c.args in
    rw c.ask-3.ensures
    (number-yes s.log_length s.block.now s.res s.data_length s.regions (search rules) (search rules) _ (number (goal.at.returns c).After-ask_completion) (ap is_accepted c.in_ok-ask_completion.was)
    c.writes_inside.result (rw (c.bytes_given-given.ensures, c.held_of.ensures) at c.writes_inside.ensures))
