-- Laws of a row that was accepted: the block, which holds nothing, is emptied as it stands; and the account of each TD that was started.
-- Assumes nothing.
use Rattle.std.specs.Prelude.{Ok}
use Prim.Native.Nat.{ℕ}
use mathlib.Core.Path.{◌≡◌, refl, sym, ap, ◌∙◌}
use mathlib.Core.Bool.{Bool, true, false, true≢false}
use mathlib.Core.List.{List}
use native.Mathlib.Numerals.{unary_clauses}
use lib.Dec.{eqb}
use lib.ListN.{length}
use borrow.Author.Tests.{eqb-true}
use Rattle.trb.specs.Answers.{number_of, is_accepted as is_passed, said}
use Rattle.trb.specs.Questions.{first_no}
use Rattle.trb.specs.Answers.{Answer, CompletionAnswer}
use Rattle.trb.specs.declared.TdBasedNormalSubmissionState.{TdBasedNormalSubmissionState}
use Rattle.trb.specs.declared.TdBasedNormalSubmissionState.TheVariants.{SubmissionDue, CollectingTd, AwaitingRealTransfer, AwaitingLocalCompletion, UnsupportedTrb}
use Rattle.trb.specs.declared.TransferTrb.{TransferTrb}
use Rattle.trb.specs.declared.TrbProcessingResult.TheVariants as result
use Rattle.trb.proofs.AnswerLaws.{answered-yes, answered-no, answered-all}
use Rattle.trb.proofs.TestLaws.{and_left, and_right}
use Rattle.call_log.specs.Calls.{Out, Meets}
use Rattle.call_log.proofs.CallLaws.{meets}
use Rattle.call_log.proofs.LogLaws.{logged_none}
use Rattle.guest_memory.specs.declared.Regions.{Regions}
use Rattle.held.specs.Places.{cleared}
use Rattle.in_block.specs.Blocks.{in_block, emptied}
use Rattle.in_block.specs.Facts.{submission_due, facts_of}
use Rattle.in_block.specs.declared.InBlock.{InBlock}
use Rattle.in_endpoint.specs.Completion.{completion_answer, is_accepted}
use Rattle.in_endpoint.proofs.CompletionLaws.{completion_answer-number, completion_answer-accepted, completion_answer-refused}
use Rattle.row_walk.specs.Rows.{process_row}
use Rattle.row_walk.proofs.AccountLaws.{row-accounted}
use Rattle.row_walk.specs.declared.RowProgress.{RowProgress}
use Rattle.row_walk.specs.declared.TdResult.{TdResult}
use Rattle.row_questions.specs.Questions.{row_due, row_questions}
use Rattle.row_questions.proofs.QuestionLaws.{PassedRow, passed-row}
use Rattle.in_row.specs.Completion.{refused, walked, row_completion, CompletesTds}
use Rattle.in_row.specs.declared.TdsCompleted.{TdsCompleted}

-- ---- The block

due-is : (x : TdBasedNormalSubmissionState) → submission_due x ≡ true → x ≡ SubmissionDue
due-is SubmissionDue e = refl
due-is CollectingTd e = absurd (true≢false (sym e))
due-is AwaitingRealTransfer e = absurd (true≢false (sym e))
due-is AwaitingLocalCompletion e = absurd (true≢false (sym e))
due-is (UnsupportedTrb a) e = absurd (true≢false (sym e))

cleared-none : (xs : List TransferTrb) → cleared 0 xs ≡ xs
unfolding cleared
cleared-none xs = simp unary_clauses refl

module _ (b : InBlock) (due : row_due (facts_of b) ≡ true) where
  -- question 3
  pub state-due : b.state ≡ SubmissionDue
  state-due = due-is b.state (and_left (submission_due b.state) (eqb b.held 0) due)

  pub none-held : b.held ≡ 0
  none-held = eqb-true b.held 0 (and_right (submission_due b.state) (eqb b.held 0) due)

  -- a block that holds nothing, a submission due, is emptied as it stands
  pub emptied-same : emptied b SubmissionDue ≡ b
  emptied-same =
      ap (λ (n : ℕ). in_block b.endpoint_id b.slot_id b.mode SubmissionDue 0 (cleared n b.trbs)) none-held
      ∙ ap (λ (xs : List TransferTrb). in_block b.endpoint_id b.slot_id b.mode SubmissionDue 0 xs) (cleared-none b.trbs)
      ∙ ap (λ (n : ℕ). in_block b.endpoint_id b.slot_id b.mode SubmissionDue n b.trbs) (sym none-held)
      ∙ ap (λ (x : TdBasedNormalSubmissionState). in_block b.endpoint_id b.slot_id b.mode x b.held b.trbs) (sym state-due)

-- ---- The promise, by the answer to the questions

module _ (b : InBlock) (k : ℕ) (ts : List TransferTrb) (m : ℕ) (rs : List TdResult) (n : ℕ) (regions : Regions) (l : List ℕ) (a : Answer) (e : number_of a ≡ first_no (row_questions (length l) regions (facts_of b) k ts m rs n)) where
  abbrev questions : List (Bool × ℕ)
  questions = row_questions (length l) regions (facts_of b) k ts m rs n

  abbrev done : Out RowProgress
  done = process_row b.endpoint_id b.slot_id b.mode ts rs

  pub known-row : is_passed a ≡ true → PassedRow (length l) regions (facts_of b) k ts m rs n
  known-row accepts = passed-row (length l) regions (facts_of b) k ts m rs n (answered-all a questions e accepts)

  abbrev accepted-as : RowProgress → TdsCompleted
  accepted-as w = record { answer = completion_answer a w.result; finished = w.finished; records = w.records; block = b }

  module _ (accepts : is_passed a ≡ true) (w : RowProgress) (l' : List ℕ) (met : Meets done 0 l w l') where
    same-state : accepted-as w ≡ (walked b done).state
    same-state =
        ap (λ (x : CompletionAnswer). record { answer = x; finished = w.finished; records = w.records; block = b }) (completion_answer-accepted a w.result accepts)
        ∙ ap (λ (v : RowProgress). record { answer = Ok v.result; finished = v.finished; records = v.records; block = b }) met.state
        ∙ ap (λ (c : InBlock). record { answer = Ok done.state.result; finished = done.state.finished; records = done.state.records; block = c }) (sym (emptied-same b (known-row accepts).due))

    completes-met : Meets (row_completion (length l) b k ts m rs n regions) 0 l (accepted-as w) l'
    unfolding row_completion
    completes-met = meets (answered-yes questions (refused b) (walked b done) a e accepts) (record { state = same-state; log = met.log; fits = met.fits })

    pub accepted-row : CompletesTds b k ts m rs n regions l (accepted-as w) l'
    accepted-row = record {
      number = completion_answer-number a w.result ∙ e;
      met = completes-met;
      result = ap (λ (x : TdsCompleted). said x.answer) completes-met.state;
      account = λ z. rw (completion_answer-accepted a w.result accepts) (row-accounted b.endpoint_id b.slot_id b.mode ts rs l l' w met);
    }

  abbrev refused_as : TdsCompleted
  refused_as = record { answer = completion_answer a result.Ok; finished = 0; records = 0; block = b }

  module _ (refuses : is_passed a ≡ false) where
    refused-met : Meets (row_completion (length l) b k ts m rs n regions) 0 l refused_as l
    unfolding row_completion
    refused-met =
        meets (answered-no questions (refused b) (walked b done) a e refuses)
        (record {
          state = ap (λ (x : CompletionAnswer). record { answer = x; finished = 0; records = 0; block = b }) (completion_answer-refused a result.Ok refuses);
          log = sym (logged_none l 0);
          fits = tt;
        })

    pub refused-row : CompletesTds b k ts m rs n regions l refused_as l
    refused-row = record {
      number = completion_answer-number a result.Ok ∙ e;
      met = refused-met;
      result = ap (λ (x : TdsCompleted). said x.answer) refused-met.state;
      account = λ z. absurd (true≢false (sym z ∙ ap is_accepted (completion_answer-refused a result.Ok refuses)));
    }
