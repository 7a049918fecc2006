-- `in_place::complete` meets its contract: a no leaves all as it was; each ending leaves what the definition says of it. Demand 3 follows from what the log is. Assumes nothing.
use Rattle.std.specs.Prelude.{Err}
use mathlib.Core.Path.{◌≡◌, refl, sym, ap, ◌∙◌}
use mathlib.Core.Bool.{true}
use native.Mathlib.Omega.{arith}
use lib.ListN.{length}
use Rattle.trb.specs.Answers.{number_of, is_accepted}
use Rattle.trb.specs.Questions.{first_no}
use Rattle.trb.specs.declared.TdBasedNormalSubmissionState.{TdBasedNormalSubmissionState}
use Rattle.trb.specs.declared.TrbProcessingResult.TheVariants as result
use Rattle.trb.proofs.AnswerLaws.{answered-all}
use Rattle.call_log.proofs.LogLaws.{logged_none}
use Rattle.in_block.specs.Facts.{facts_of}
use Rattle.in_block.specs.Outcomes.{ending_of}
use Rattle.in_block.specs.declared.Ending.TheVariants.{KeepCollecting}
use Rattle.in_questions.specs.Questions.{completion_questions}
use Rattle.in_questions.proofs.PassedLaws.{PassedCompletion, passed-completion}
use Rattle.in_bytes.specs.Layout.{block_of}
use Rattle.in_place_questions.proofs.AnswerLaws.{ok-if}
use Rattle.in_place.proofs.CallLaws.{completes-refused, completes-accepted, transferred-met, transferred-becomes}
use borrow.Author.Rules.{rules}
use Rattle.in_place.proofs.complete.Goals.{After-ask_completion-asked, After-ending_of, In_default}
use Rattle.in_place.proofs.complete.Goals as goal

-- behind the questions
module _ (c : After-ask_completion-asked) where
  number : number_of c.ask_completion-asked.result ≡ first_no (completion_questions (length c.args.log.now) (facts_of (block_of c.args.block.now)) c.args.res c.args.data_length)
  number = c.ask_completion-asked.ensures

  known : is_accepted c.ask_completion-asked.result ≡ true → let s = c.args in PassedCompletion (length s.log.now) (facts_of (block_of s.block.now)) s.res s.data_length
  known e =
      let s = c.args in
      passed-completion (length s.log.now) (facts_of (block_of s.block.now)) s.res s.data_length (answered-all c.ask_completion-asked.result (completion_questions (length c.args.log.now) (facts_of (block_of c.args.block.now)) c.args.res c.args.data_length) number e)

passed : (c : In_default) → is_accepted c.ask_completion-asked.result ≡ true
passed c = ap is_accepted (ok-if _ c.in_default.not-Err)

ended : (o : After-ending_of) → let s = o.args in ending_of (block_of s.block.now).state s.res s.data_length ≡ o.ending_of.result
ended o =
    let s = o.args in
    sym (o.ending_of.ensures ∙ ap (λ (x : TdBasedNormalSubmissionState). ending_of x s.res s.data_length) o.state_of-state.ensures)

pub returns-in-Err : goal.returns-in-Err
returns-in-Err c =
    let s = c.args in
    completes-refused s.res s.data_length s.log.now s.block.now (Err c.in-Err.refusal) result.Ok (sym (ap number_of c.in-Err.is) ∙ number (goal.at.returns-in-Err c).After-ask_completion-asked) refl c.completed_as.ensures

pub overflow_cast-data_length : goal.overflow_cast-data_length
overflow_cast-data_length c = let short = (known (goal.at.overflow_cast-data_length c).After-ask_completion-asked (passed (goal.at.overflow_cast-data_length c).In_default)).short in search rules

pub returns-in-KeepCollecting : goal.returns-in-KeepCollecting
returns-in-KeepCollecting c =
    let s = c.args in
    completes-accepted s.res s.data_length s.log.now s.block.now c.ask_completion-asked.result (number (goal.at.returns-in-KeepCollecting c).After-ask_completion-asked) (passed (goal.at.returns-in-KeepCollecting c).In_default) KeepCollecting (ended (goal.at.returns-in-KeepCollecting c).After-ending_of ∙ c.in-KeepCollecting.is) result.Ok 0 c.completed_as-in-KeepCollecting.ensures
    (record { state = refl; log = sym (logged_none s.log.now 0); fits = tt }) c.keep.ensures

pub walk-processed-requires : goal.walk-processed-requires
walk-processed-requires c =
    let g = goal.at.walk-processed-requires c in
    let yes-all = passed g.In_default in
    ((known g.After-ask_completion-asked yes-all).log-long, omega (arith, c.held_places-places.ensures.count))

pub returns-in-Transfer : goal.returns-in-Transfer
returns-in-Transfer c =
    let s = c.args in
    let w = c.walk-processed in
    completes-accepted s.res s.data_length s.log.now s.block.now c.ask_completion-asked.result (number (goal.at.returns-in-Transfer c).After-ask_completion-asked) (passed (goal.at.returns-in-Transfer c).In_default) _ (ended (goal.at.returns-in-Transfer c).After-ending_of ∙ c.in-Transfer.is) w.result.result w.result.progress.records c.completed_as-in-Transfer.ensures
    (transferred-met s.block.now s.log.now w.new.log c.td_of-td.result _ _ w.result c.td_of-td.ensures (rw c.held_places-places.ensures.trbs at w.ensures)) (transferred-becomes s.block.now c.free.new.block _ _ c.free.ensures)

pub report_unsupported-requires : goal.report_unsupported-requires
report_unsupported-requires c = (known (goal.at.report_unsupported-requires c).After-ask_completion-asked (passed (goal.at.report_unsupported-requires c).In_default)).log-long

pub returns-in-ReportUnsupported : goal.returns-in-ReportUnsupported
unfolding block_of
returns-in-ReportUnsupported c =
    let s = c.args in
    let put = rw (c.slot_id-slot_id.ensures, c.endpoint_id-endpoint_id.ensures) at c.report_unsupported.ensures in
    completes-accepted s.res s.data_length s.log.now s.block.now c.ask_completion-asked.result (number (goal.at.returns-in-ReportUnsupported c).After-ask_completion-asked) (passed (goal.at.returns-in-ReportUnsupported c).In_default) _ (ended (goal.at.returns-in-ReportUnsupported c).After-ending_of ∙ c.in-ReportUnsupported.is) result.TrbError 1 c.completed_as-in-ReportUnsupported.ensures
    (record { state = refl; log = put.log; fits = put.fits }) c.free-in-ReportUnsupported.ensures
