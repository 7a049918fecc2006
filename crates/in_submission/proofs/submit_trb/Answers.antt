-- `in_submission::submit_trb` meets its contract: a no leaves all as it was; each outcome leaves what the definition says of it. Assumes nothing.
use Rattle.std.specs.Prelude.{Ok}
use Prim.Native.Nat.{ℕ, ◌+◌, ◌<◌}
use mathlib.Core.Path.{◌≡◌, refl, sym, ap, ◌∙◌}
use mathlib.Core.Bool.{true}
use mathlib.Core.Logic.{◌⊎◌, ⊎_elim}
use lib.ListN.{length, set, length-take, length-set}
use native.Mathlib.Omega.{arith}
use Rattle.trb.specs.Answers.{number_of, is_accepted}
use Rattle.trb.specs.Limits.{max_held}
use Rattle.trb.specs.Questions.{first_no}
use Rattle.trb.specs.Answers.{Answer}
use Rattle.trb.specs.declared.TransferTrb.{TransferTrb}
use Rattle.call_log.specs.Calls.{Meets}
use Rattle.trb.proofs.AnswerLaws.{refused-is, answered-yes, answered-no}
use Rattle.call_log.proofs.CallLaws.{meets, meets-silent}
use Rattle.call_log.proofs.LogLaws.{logged_none}
use Rattle.guest_memory.specs.Places.{regions_of}
use Rattle.guest_memory.specs.Lent.{seen}
use Rattle.in_block.specs.Blocks.{held_of, with_state, stored}
use Rattle.in_block.specs.Facts.{held_test, facts_of}
use Rattle.in_block.specs.Outcomes.{outcome_of, state_after}
use Rattle.in_block.specs.declared.Outcome.{Outcome}
use Rattle.in_block.specs.declared.Outcome.TheVariants.{Collect, CompleteLocally, Request}
use Rattle.in_questions.specs.Questions.{submission_questions}
use Rattle.in_questions.proofs.PassedLaws.{PassedSubmission, passed-submission}
use Rattle.in_block.specs.declared.InBlock.{InBlock}
use Rattle.in_endpoint.specs.Returned.{Submitted}
use Rattle.in_endpoint.specs.Submission.{refused, accepted, submitted_as, submission}
use Rattle.in_endpoint.proofs.SubmissionLaws.{requested-stored, holds, supported-held, submitted_as-by}
use Rattle.in_submission.proofs.submit_trb.Goals.{After-ask_submission-answer, After-state_after-state}
use Rattle.in_submission.proofs.submit_trb.Goals as goal

number : (c : After-ask_submission-answer) → number_of c.ask_submission-answer.result
    ≡ first_no (submission_questions (length c.args.log.now) (facts_of c.args.block) c.args.t (regions_of (seen c.args.memory.now)))
number c = rw (c.facts_of-facts.ensures, c.regions-regions.ensures) at c.ask_submission-answer.ensures

-- once each question was answered with yes
module _ (c : After-state_after-state) where
  asked : number_of c.ask_submission-answer.result
      ≡ first_no (submission_questions (length c.args.log.now) (facts_of c.args.block) c.args.t (regions_of (seen c.args.memory.now)))
  asked = rw (c.facts_of-facts.ensures, c.regions-regions.ensures) at c.ask_submission-answer.ensures

  yes : c.ask_submission-answer.result ≡ Ok tt
  yes = c.in-Ok.is

  known : PassedSubmission (length c.args.log.now) (facts_of c.args.block) c.args.t
  known = passed-submission _ _ _ _ (sym asked ∙ ap number_of yes)

  outcome-is : c.outcome_of-outcome.result ≡ outcome_of (held_test (held_of c.args.block)) c.args.t
  outcome-is = rw c.facts_of-facts.ensures at c.outcome_of-outcome.ensures

  -- what the submission comes to
  taken : submission (length c.args.log.now) c.args.block c.args.t (regions_of (seen c.args.memory.now))
      ≡ submitted_as c.outcome_of-outcome.result c.args.block c.args.t
  unfolding submission
  taken =
      let b = c.args.block in
      let t = c.args.t in
      answered-yes _ (refused b) (submitted_as (outcome_of (held_test (held_of b)) t) b t) c.ask_submission-answer.result asked (ap is_accepted yes)
      ∙ submitted_as-by b t (sym outcome-is)

  -- a TRB that is held has a place
  room : (o : Outcome) → c.outcome_of-outcome.result ≡ o → holds o ≡ true → c.args.block.held < max_held
  room o e h = known.room (supported-held (held_test (held_of c.args.block)) c.args.t o (sym outcome-is ∙ e) h)

pub returns-in-Err : goal.returns-in-Err
unfolding submission
returns-in-Err c =
    let s = c.args in
    let b = s.block in
    let asked = number (goal.at.returns-in-Err c).After-ask_submission-answer in
    let failed = ap is_accepted c.in-Err.is in
    record {
      number = asked;
      met = meets (answered-no _ (refused b) (submitted_as (outcome_of (held_test (held_of b)) s.t) b s.t) c.ask_submission-answer.result asked failed)
          (record { state = rw (refused-is c.ask_submission-answer.result failed); log = sym (logged_none s.log.now 0); fits = tt });
    }

-- ---- The outcomes

abbrev accepted-as : Answer → ℕ → InBlock → Submitted
accepted-as a n b = record { answer = a; records = n; block = b }

-- the answer is yes, and one that leaves the log as it was is met by the state that it leaves
module _ (c : After-state_after-state) where
  abbrev t : TransferTrb
  t = c.args.t

  -- of a TRB that is held, and that goes no further
  abbrev Stays : Type 0
  Stays = (c.outcome_of-outcome.result ≡ Collect) ⊎ (c.outcome_of-outcome.result ≡ CompleteLocally)

  room-stays : Stays → c.args.block.held < max_held
  room-stays h = ⊎_elim (λ (e : c.outcome_of-outcome.result ≡ Collect). room c Collect e refl) (λ e. room c CompleteLocally e refl) h

  -- the block that the TRB is held in, in the state that it leaves
  abbrev left : InBlock
  left = with_state (stored c.args.block t) c.state_after-state.result

  kept : (o : Outcome) → c.outcome_of-outcome.result ≡ o
      → ◌≡◌ {A = Submitted} (record { answer = c.ask_submission-answer.result; records = 0; block = left }) (accepted 0 (with_state (stored c.args.block t) (state_after o t.addr)))
  kept o e =
      let state : c.state_after-state.result ≡ state_after o t.addr = c.state_after-state.ensures ∙ ap (λ (x : Outcome). state_after x t.addr) e in
      λ j. accepted-as (yes c j) 0 (with_state (stored c.args.block t) (state j))

  stays : Stays → Meets (submitted_as c.outcome_of-outcome.result c.args.block t) 0 c.args.log.now (record { answer = c.ask_submission-answer.result; records = 0; block = left }) c.args.log.now
  stays h =
      ⊎_elim (λ (e : c.outcome_of-outcome.result ≡ Collect). meets (submitted_as-by c.args.block t e) (meets-silent 0 c.args.log.now (kept Collect e)))
      (λ e. meets (submitted_as-by c.args.block t e) (meets-silent 0 c.args.log.now (kept CompleteLocally e))) h

pub store-requires : goal.store-requires
store-requires c = room-stays (goal.at.store-requires c).After-state_after-state c.in-Collect.is

pub store-requires-in-Request : goal.store-requires-in-Request
store-requires-in-Request c = room (goal.at.store-requires-in-Request c).After-state_after-state Request c.in-Request.is refl

pub log_request-requires : goal.log_request-requires
log_request-requires c =
    let o = (goal.at.log_request-requires c).After-state_after-state in
    let place = room o Request c.in-Request.is refl in
    let k = known o in
    let s = c.args in
    rw (c.held_of-td.ensures, c.store-in-Request.ensures)
    (k.log-long, (omega (arith, length-take (s.block.held + 1) (set s.block.trbs s.block.held s.t), length-set s.block.trbs s.block.held s.t), requested-stored s.block s.t k.sound place k.short))

pub returns-in-Drop : goal.returns-in-Drop
returns-in-Drop c =
    let o = (goal.at.returns-in-Drop c).After-state_after-state in
    record {
      number = asked o;
      met = meets (taken o ∙ submitted_as-by c.args.block c.args.t c.in-Drop.is)
          (meets-silent 0 c.args.log.now (rw (yes o, c.empty.ensures, c.state_after-state.ensures, c.in-Drop.is)));
    }

pub returns-in-Collect : goal.returns-in-Collect
returns-in-Collect c =
    let o = (goal.at.returns-in-Collect c).After-state_after-state in
    record { number = asked o; met = meets (taken o) (rw c.store.ensures (stays o c.in-Collect.is)) }

pub returns-in-Request : goal.returns-in-Request
returns-in-Request c =
    let o = (goal.at.returns-in-Request c).After-state_after-state in
    let p = rw (c.held_of-td.ensures, c.store-in-Request.ensures) at c.log_request.ensures in
    record {
      number = asked o;
      met = meets (taken o ∙ submitted_as-by c.args.block c.args.t c.in-Request.is)
          (record { state = rw (yes o, c.store-in-Request.ensures, c.state_after-state.ensures, c.in-Request.is); log = p.log; fits = p.fits });
    }
