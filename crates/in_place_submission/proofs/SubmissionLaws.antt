-- What a submission in place comes to, by its answer and what it stored. Assumes nothing.
use Rattle.std.specs.Prelude.{Err, Ok}
use Prim.Native.Nat.{ℕ, ◌<◌}
use mathlib.Core.Path.{◌≡◌, refl, sym, ap, ◌∙◌, subst}
use mathlib.Core.Bool.{Bool, true, false}
use mathlib.Core.List.{List, [], ◌∷◌}
use native.Mathlib.Omega.{arith}
use lib.ListN.{length, take}
use Rattle.trb.specs.Answers.{number_of, is_accepted}
use Rattle.trb.specs.Questions.{first_no}
use Rattle.trb.proofs.AnswerLaws.{accepted-is, refused-is, answered-yes, answered-no}
use Rattle.trb.specs.Answers.{Answer}
use Rattle.trb.specs.declared.Refusal.TheVariants.{BufferTooShort}
use Rattle.trb.specs.declared.TransferTrb.{TransferTrb}
use Rattle.trb.specs.declared.TdBasedNormalSubmissionState.TheVariants.{AwaitingRealTransfer}
use Rattle.call_log.specs.Calls.{Out, Put, Meets}
use Rattle.call_log.specs.declared.Record.{Record}
use Rattle.call_log.specs.Logs.{logged, AllFit}
use Rattle.call_log.proofs.LogLaws.{logged_none}
use Rattle.guest_memory.specs.declared.Regions.{Regions}
use Rattle.in_block.specs.Blocks.{held_of, with_state, stored}
use Rattle.in_block.specs.declared.InBlock.{InBlock}
use Rattle.in_block.specs.Facts.{held_test, facts_of}
use Rattle.in_block.specs.Outcomes.{outcome_of}
use Rattle.in_block.specs.declared.Outcome.{Outcome}
use Rattle.in_questions.specs.Questions.{submission_questions}
use Rattle.in_endpoint.specs.Submission as submissions
use Rattle.in_endpoint.specs.Returned.{Submitted}
use Rattle.answer_numbers.specs.Numbers.{answered_as}
use Rattle.answer_numbers.specs.declared.Answered.{Answered}
use Rattle.in_bytes.specs.Layout.{block_length, endpoint_of, slot_of, held_count, places, block_of}
use Rattle.in_place_store.specs.Becomes.{Becomes}
use Rattle.in_place_store.proofs.ChangeLaws.{becomes-same}
use Rattle.in_place_questions.specs.Lent.{lent_log}
use Rattle.in_place_questions.proofs.LentLaws.{lent-short}
use Rattle.in_place_submission.specs.Submission.{submitted_numbers, SubmitsInPlace}

module _ (k : ℕ) (t : TransferTrb) (regions : Regions) (l b : List ℕ) where
  abbrev asked : List (Bool × ℕ)
  asked = submission_questions k (facts_of (block_of b)) t regions

  abbrev done : Out Submitted
  done = submissions.submitted_as (outcome_of (held_test (held_of (block_of b))) t) (block_of b) t

  -- a no leaves all as it was
  pub submits-refused : (a : Answer) {r : Answered} → number_of a ≡ first_no asked → is_accepted a ≡ false → r ≡ answered_as a 0 → SubmitsInPlace k t regions l b r l b
  unfolding submissions.submission
  submits-refused a {r} e failed er =
      let o : submissions.submission k (block_of b) t regions ≡ submissions.refused (block_of b) (number_of a) = answered-no asked (submissions.refused (block_of b)) done a e failed in
      record {
        number = ap (λ (x : Answered). x.number) er ∙ e;
        met = subst (λ (x : Out Submitted). Meets (submitted_numbers x) 0 l r l) (sym o) (record { state = er ∙ ap (λ (x : Answer). answered_as x 0) (sym (refused-is a failed)); log = sym (logged_none l 0); fits = tt });
        becomes = subst (λ (x : Out Submitted). Becomes b x.state.block b) (sym o) (becomes-same b);
        unchanged = λ h. refl;
      }

  -- what an accepted submission comes to, by the outcome
  pub submits-accepted : (a : Answer) {r : Answered} {l' b' : List ℕ} → number_of a ≡ first_no asked → is_accepted a ≡ true
      → (o : Outcome) → outcome_of (held_test (held_of (block_of b))) t ≡ o
      → r ≡ answered_as a (submissions.submitted_as o (block_of b) t).state.records
      → Becomes b (submissions.submitted_as o (block_of b) t).state.block b'
      → (submissions.submitted_as o (block_of b) t).state.answer ≡ Ok tt
      → l' ≡ logged l 0 (submissions.submitted_as o (block_of b) t).records → AllFit (submissions.submitted_as o (block_of b) t).records
      → SubmitsInPlace k t regions l b r l' b'
  unfolding submissions.submission
  submits-accepted a {r} {l'} {b'} e passed o eo er changed accepts el fits =
      let s : Out Submitted = submissions.submitted_as o (block_of b) t in
      let is : submissions.submission k (block_of b) t regions ≡ s =
      answered-yes asked (submissions.refused (block_of b)) done a e passed ∙ ap (λ (x : Outcome). submissions.submitted_as x (block_of b) t) eo in
      let zero : number_of a ≡ 0 = ap number_of (accepted-is a passed) in
      let nr : r.number ≡ 0 = ap (λ (x : Answered). x.number) er ∙ zero in
      record {
        number = ap (λ (x : Answered). x.number) er ∙ e;
        met = subst (λ (x : Out Submitted). Meets (submitted_numbers x) 0 l r l') (sym is)
            (record { state = er ∙ ap (λ (x : Answer). answered_as x s.state.records) (accepted-is a passed ∙ sym accepts); log = el; fits = fits });
        becomes = subst (λ (x : Out Submitted). Becomes b x.state.block b') (sym is) changed;
        unchanged = λ h. absurd (omega (arith, h, nr));
      }

-- the request of the TRBs that are held then
pub request-said : (x : InBlock) (t : TransferTrb) (b' : List ℕ) (l l' : List ℕ) → block_of b' ≡ with_state (stored x t) AwaitingRealTransfer
    → Put l 0 (submissions.request_of (take (held_count b') (places b')) (endpoint_of b') (slot_of b') ∷ []) l' → Put l 0 (submissions.request_of (held_of (stored x t)) x.endpoint_id x.slot_id ∷ []) l'
unfolding block_of
request-said x t b' l l' h put =
    subst (λ (r : Record). Put l 0 (r ∷ []) l') (ap (λ (z : InBlock). submissions.request_of (held_of z) z.endpoint_id z.slot_id) h) put

-- a TRB is held
pub held-some : (x : InBlock) (t : TransferTrb) (b' : List ℕ) → block_of b' ≡ with_state (stored x t) AwaitingRealTransfer → 0 < held_count b'
unfolding block_of
held-some x t b' h = omega (arith, ap (λ (z : InBlock). z.held) h)

-- bytes too few for a block
pub submits-short : (t : TransferTrb) (regions : Regions) (l b : List ℕ) {r : Answered} → length b < block_length → r ≡ answered_as (Err BufferTooShort) 0
    → SubmitsInPlace (lent_log l b) t regions l b r l b
unfolding submission_questions first_no
submits-short t regions l b {r} short e =
    subst (λ (k : ℕ). SubmitsInPlace k t regions l b r l b) (sym (lent-short l b short)) (submits-refused 0 t regions l b (Err BufferTooShort) refl refl e)
