-- `control_in_place::complete` meets its contract: by the answer to the questions. Assumes nothing.
use Rattle.std.specs.Prelude.{Ok}
use mathlib.Core.Path.{◌≡◌, sym, ap, ◌∙◌}
use lib.ListN.{length}
use Rattle.trb.specs.Answers.{number_of}
use Rattle.trb.specs.Questions.{first_no}
use Rattle.trb.specs.declared.ControlSubmissionState.{ControlSubmissionState}
use Rattle.control_block.specs.Endings.{ending_of}
use Rattle.control_block.specs.Facts.{facts_of}
use Rattle.control_questions.specs.Completion.{completion_questions}
use Rattle.control_questions.proofs.CompletionLaws.{Passed, passed}
use Rattle.control_bytes.specs.Layout.{block_of}
use Rattle.control_in_place.proofs.CallLaws.{completion-refused, completion-accepted}
use borrow.Author.Rules.{rules}
use Rattle.control_in_place.proofs.complete.Goals.{After-ask_completion-asked}
use Rattle.control_in_place.proofs.complete.Goals as goal

module _ (k : After-ask_completion-asked) (told : k.ask_completion-asked.result ≡ Ok tt) where
  none : let a = k.args in first_no (completion_questions (length a.log.now) (facts_of (block_of a.block.now)) a.res a.data_length) ≡ 0
  none = sym k.ask_completion-asked.ensures ∙ ap number_of told

  pass : let a = k.args in Passed (length a.log.now) (facts_of (block_of a.block.now)) a.data_length
  pass = let a = k.args in passed (facts_of (block_of a.block.now)) a.res a.data_length (length a.log.now) none

pub overflow_cast-data_length : goal.overflow_cast-data_length
overflow_cast-data_length c = let few = (pass (goal.at.overflow_cast-data_length c).After-ask_completion-asked c.in-Ok.is).data-short in search rules

pub log_completion-records-requires : goal.log_completion-records-requires
log_completion-records-requires c =
    let ok = pass (goal.at.log_completion-records-requires c).After-ask_completion-asked c.in-Ok.is in
    (c.requires, (ok.log-long, ok.held))

pub returns-in-Err : goal.returns-in-Err
returns-in-Err c =
    let a = c.args in
    completion-refused a.block.now a.res a.data_length a.log.now _ (ap number_of (sym c.in-Err.is) ∙ c.ask_completion-asked.ensures)

pub returns-in-Ok : goal.returns-in-Ok
returns-in-Ok c =
    let a = c.args in
    completion-accepted a.block.now a.res a.data_length a.log.now c.ending_of-ending.result c.result_of-ended.result c.log_completion-records.result _ _
    (c.ending_of-ending.ensures ∙ ap (λ (s : ControlSubmissionState). ending_of s a.res a.data_length) c.state-state.ensures) (none (goal.at.returns-in-Ok c).After-ask_completion-asked c.in-Ok.is) c.result_of-ended.ensures
    c.log_completion-records.ensures c.end_transfer.ensures
