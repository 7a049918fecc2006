-- `in_place_submission::submit` meets its contract: a no leaves all as it was; each outcome leaves what the definition says of it. Assumes nothing.
use Rattle.std.specs.Prelude.{Err, Ok}
use Prim.Native.Nat.{◌<◌, ◌≤◌}
use mathlib.Core.Path.{◌≡◌, refl, sym, ap, ◌∙◌}
use mathlib.Core.Bool.{true}
use native.Mathlib.Omega.{arith}
use lib.ListN.{length}
use Rattle.trb.specs.Answers.{number_of, is_accepted}
use Rattle.trb.specs.Limits.{max_held, max_transfer_length}
use Rattle.trb.specs.Trbs.{transfer_length}
use Rattle.trb.specs.Questions.{first_no}
use Rattle.trb.proofs.AnswerLaws.{answered-all}
use Rattle.call_log.proofs.LogLaws.{logged_none}
use Rattle.held.specs.Sound.{supported}
use Rattle.held.specs.declared.EndpointKind.TheVariants.{In}
use Rattle.in_block.specs.Blocks.{held_of}
use Rattle.in_block.specs.Facts.{held_test, facts_of}
use Rattle.in_block.specs.Outcomes.{outcome_of}
use Rattle.in_block.specs.declared.Outcome.{Outcome}
use Rattle.in_block.specs.declared.Outcome.TheVariants.{Drop, Collect, CompleteLocally, Request}
use Rattle.in_questions.specs.Questions.{submission_questions}
use Rattle.in_questions.proofs.PassedLaws.{PassedSubmission, passed-submission}
use Rattle.in_endpoint.proofs.SubmissionLaws.{holds, supported-held}
use Rattle.held_bytes.specs.Numbers.{trb_of}
use Rattle.in_bytes.specs.Layout.{block_length, held_count, block_of}
use Rattle.in_place_questions.proofs.AnswerLaws.{ok-if}
use Rattle.in_place_submission.proofs.SubmissionLaws.{submits-refused, submits-accepted, request-said, held-some}
use Rattle.in_place_submission.proofs.submit.Goals.{After-ask_submission-asked, After-outcome_of, In_default}
use Rattle.in_place_submission.proofs.submit.Goals as goal

-- behind the questions
module _ (c : After-ask_submission-asked) where
  number : number_of c.ask_submission-asked.result ≡ first_no (submission_questions (length c.args.log.now) (facts_of (block_of c.args.block.now)) (trb_of c.args.numbers) c.args.regions)
  number = c.ask_submission-asked.ensures

  known : is_accepted c.ask_submission-asked.result ≡ true → PassedSubmission (length c.args.log.now) (facts_of (block_of c.args.block.now)) (trb_of c.args.numbers)
  known e =
      let s = c.args in
      passed-submission (length s.log.now) (facts_of (block_of s.block.now)) (trb_of s.numbers) s.regions (answered-all c.ask_submission-asked.result (submission_questions (length c.args.log.now) (facts_of (block_of c.args.block.now)) (trb_of c.args.numbers) c.args.regions) number e)

passed : (c : In_default) → is_accepted c.ask_submission-asked.result ≡ true
passed c = ap is_accepted (ok-if _ c.in_default.not-Err)

-- what becomes of the TRB
module _ (o : After-outcome_of) where
  taken : outcome_of (held_test (held_of (block_of o.args.block.now))) (trb_of o.args.numbers) ≡ o.outcome_of.result
  unfolding block_of
  taken = sym o.outcome_of.ensures

  -- a TRB that is held has a place
  holding : PassedSubmission (length o.args.log.now) (facts_of (block_of o.args.block.now)) (trb_of o.args.numbers) → (x : Outcome) → o.outcome_of.result ≡ x → holds x ≡ true → let s = o.args in let v = (trb_of s.numbers).variant in
      ((block_length ≤ length s.block.now) × (held_count s.block.now < max_held)) × ((transfer_length v ≤ max_transfer_length) × (supported In v ≡ true))
  unfolding block_of
  holding k x e h =
      let kind = supported-held (held_test (held_of (block_of o.args.block.now))) (trb_of o.args.numbers) x (taken ∙ e) h in
      ((o.requires, k.room kind), (k.short, kind))

pub returns-in-Err : goal.returns-in-Err
returns-in-Err c =
    let s = c.args in
    submits-refused (length s.log.now) (trb_of s.numbers) s.regions s.log.now s.block.now (Err c.in-Err.refusal)
    (sym (ap number_of c.in-Err.is) ∙ number (goal.at.returns-in-Err c).After-ask_submission-asked) refl c.answered_as.ensures

pub returns-in-Drop : goal.returns-in-Drop
returns-in-Drop c =
    let s = c.args in
    submits-accepted (length s.log.now) (trb_of s.numbers) s.regions s.log.now s.block.now (Ok tt) (sym (ap number_of (ok-if _ c.in_default.not-Err)) ∙ number (goal.at.returns-in-Drop c).After-ask_submission-asked) refl
    Drop (taken (goal.at.returns-in-Drop c).After-outcome_of ∙ c.in-Drop.is) c.answered_as-in-Drop.ensures c.drop_held.ensures refl (sym (logged_none s.log.now 0)) tt

pub store-requires : goal.store-requires
store-requires c =
    let h = holding (goal.at.store-requires c).After-outcome_of (known (goal.at.store-requires c).After-ask_submission-asked (passed (goal.at.store-requires c).In_default)) Collect c.in-Collect.is refl in
    record { block_length_in_bounds = h.0; numbers_bound = h.1 }

pub returns-in-Collect : goal.returns-in-Collect
returns-in-Collect c =
    let s = c.args in
    submits-accepted (length s.log.now) (trb_of s.numbers) s.regions s.log.now s.block.now (Ok tt) (sym (ap number_of (ok-if _ c.in_default.not-Err)) ∙ number (goal.at.returns-in-Collect c).After-ask_submission-asked) refl
    Collect (taken (goal.at.returns-in-Collect c).After-outcome_of ∙ c.in-Collect.is) c.answered_as-in-Collect.ensures c.store.ensures refl (sym (logged_none s.log.now 0)) tt

pub store-requires-in-CompleteLocally : goal.store-requires-in-CompleteLocally
store-requires-in-CompleteLocally c =
    let h = holding (goal.at.store-requires-in-CompleteLocally c).After-outcome_of (known (goal.at.store-requires-in-CompleteLocally c).After-ask_submission-asked (passed (goal.at.store-requires-in-CompleteLocally c).In_default)) CompleteLocally c.in-CompleteLocally.is refl in
    record { block_length_in_bounds = h.0; numbers_bound = h.1 }

pub returns-in-CompleteLocally : goal.returns-in-CompleteLocally
returns-in-CompleteLocally c =
    let s = c.args in
    submits-accepted (length s.log.now) (trb_of s.numbers) s.regions s.log.now s.block.now (Ok tt) (sym (ap number_of (ok-if _ c.in_default.not-Err)) ∙ number (goal.at.returns-in-CompleteLocally c).After-ask_submission-asked) refl
    CompleteLocally (taken (goal.at.returns-in-CompleteLocally c).After-outcome_of ∙ c.in-CompleteLocally.is) c.answered_as-in-CompleteLocally.ensures c.store-in-CompleteLocally.ensures refl (sym (logged_none s.log.now 0)) tt

pub store-requires-in-Request : goal.store-requires-in-Request
store-requires-in-Request c =
    let h = holding (goal.at.store-requires-in-Request c).After-outcome_of (known (goal.at.store-requires-in-Request c).After-ask_submission-asked (passed (goal.at.store-requires-in-Request c).In_default)) Request c.in-Request.is refl in
    record { block_length_in_bounds = h.0; numbers_bound = h.1 }

pub log_request-requires : goal.log_request-requires
log_request-requires c = (
  omega (arith, c.store-in-Request.ensures.long, c.requires),
  ((known (goal.at.log_request-requires c).After-ask_submission-asked (passed (goal.at.log_request-requires c).In_default)).log-long, held-some (block_of c.args.block.now) (trb_of c.args.numbers) c.store-in-Request.new.block c.store-in-Request.ensures.block),
)

pub returns-in-Request : goal.returns-in-Request
returns-in-Request c =
    let s = c.args in
    let put = request-said (block_of s.block.now) (trb_of s.numbers) c.store-in-Request.new.block s.log.now c.log_request.new.log c.store-in-Request.ensures.block c.log_request.ensures in
    submits-accepted (length s.log.now) (trb_of s.numbers) s.regions s.log.now s.block.now (Ok tt) (sym (ap number_of (ok-if _ c.in_default.not-Err)) ∙ number (goal.at.returns-in-Request c).After-ask_submission-asked) refl
    Request (taken (goal.at.returns-in-Request c).After-outcome_of ∙ c.in-Request.is) c.answered_as-in-Request.ensures c.store-in-Request.ensures refl put.log put.fits
