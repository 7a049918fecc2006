-- What a completion in place comes to, by its answer and what it stored. Assumes nothing.
use Rattle.std.specs.Prelude.{Err, None, Ok, Option}
use Prim.Native.Nat.{ℕ, zero, suc, ◌<◌, ◌≤◌}
use lib.Dec.{leb}
use mathlib.Core.Path.{◌≡◌, refl, sym, ap, ◌∙◌, subst}
use mathlib.Core.Bool.{Bool, true, false}
use mathlib.Core.List.{List}
use Rattle.std.specs.Bool.{then_some}
use native.Mathlib.Omega.{arith}
use lib.ListN.{length, take, get_or}
use borrow.Author.Tests.{eqb-false, ne_eqb, le-leb, lt-leb}
use Rattle.trb.specs.Answers.{number_of, is_accepted, refusal_of}
use Rattle.trb.specs.Limits.{min_log, max_data}
use Rattle.trb.specs.Refusals.{refusal_number}
use Rattle.trb.specs.Questions.{first_no}
use Rattle.trb.proofs.AnswerLaws.{answered-yes, answered-no, refusal_number-positive}
use Rattle.trb.specs.Answers.{Answer, CompletionAnswer}
use Rattle.trb.specs.declared.InTrbProcessingStatus.{InTrbProcessingStatus}
use Rattle.trb.specs.declared.Refusal.TheVariants.{BufferTooShort}
use Rattle.trb.specs.declared.TransferTrb.{TransferTrb}
use Rattle.trb.specs.declared.TrbProcessingResult.{TrbProcessingResult}
use Rattle.trb.specs.declared.TrbProcessingResult.TheVariants as result
use Rattle.trb.specs.declared.TdBasedNormalSubmissionState.{TdBasedNormalSubmissionState}
use Rattle.trb.specs.declared.TdBasedNormalSubmissionState.TheVariants.{SubmissionDue, CollectingTd}
use Rattle.buffers.specs.LittleEndian.{le_field}
use Rattle.call_log.specs.Calls.{Out, Meets}
use Rattle.call_log.specs.Logs.{records_in}
use Rattle.call_log.proofs.LogLaws.{logged_none}
use Rattle.in_td.specs.Td.{in_td, process_td}
use Rattle.in_td.specs.declared.InTd.{InTd}
use Rattle.in_td.specs.declared.TdProcessed.{TdProcessed}
use Rattle.in_block.specs.Blocks.{held_of, with_state, emptied}
use Rattle.in_block.specs.Facts.{facts_of}
use Rattle.in_block.specs.Outcomes.{ending_of}
use Rattle.in_block.specs.declared.Ending.{Ending}
use Rattle.in_block.specs.declared.Ending.TheVariants.{KeepCollecting}
use Rattle.in_questions.specs.Questions.{completion_questions}
use Rattle.in_endpoint.specs.Completion as completions
use Rattle.account.specs.Guest.{Account}
use Rattle.in_endpoint.specs.Returned.{Completed}
use Rattle.in_endpoint.proofs.CompletionLaws.{accounted-completion, completion-number, completion_answer-refused, process_td-counts}
use Rattle.answer_numbers.specs.Numbers.{completed_with, completion_answered, status_of}
use Rattle.answer_numbers.specs.declared.CompletionAnswered.{CompletionAnswered}
use Rattle.in_bytes.specs.Layout.{block_length, endpoint_of, slot_of, mode_of, state_of, held_count, places, block_of}
use Rattle.in_place_store.specs.Becomes.{Becomes}
use Rattle.in_place_store.proofs.ChangeLaws.{becomes-same}
use Rattle.in_place_questions.specs.Lent.{lent_log, SoundIn}
use Rattle.in_place_questions.proofs.LentLaws.{lent-short}
use Rattle.in_place.specs.InPlace.{completed_numbers, CompletesInPlace, AccountedInPlace, GoesOn, result_of}

-- the number and the count of a result and of an answer
result_parts : (r : TrbProcessingResult) (n : ℕ) → ((completed_with r n).number ≡ 0) × ((completed_with r n).records ≡ n)
result_parts result.Ok n = (refl, refl)
result_parts result.Stall n = (refl, refl)
result_parts (result.StallAt a c) n = (refl, refl)
result_parts result.TrbError n = (refl, refl)
result_parts result.TransactionError n = (refl, refl)
result_parts (result.TransactionErrorAt a c) n = (refl, refl)
result_parts result.Disconnect n = (refl, refl)

pub answer-parts : (a : CompletionAnswer) (n : ℕ) → ((completion_answered a n).number ≡ number_of a) × ((completion_answered a n).records ≡ n)
answer-parts (Ok r) n = result_parts r n
answer-parts (Err q) n = (refl, refl)

-- the number 0 is that of an accepted completion
pub accepted-zero : (a : CompletionAnswer) → number_of a ≡ 0 → completions.is_accepted a ≡ true
accepted-zero (Ok r) e = refl
accepted-zero (Err q) e = absurd (eqb-false (refusal_number q) 0 (refusal_number-positive q) e)

module _ (s : Option InTrbProcessingStatus) (n : ℕ) (l b : List ℕ) where
  abbrev asked-completion : List (Bool × ℕ)
  asked-completion = completion_questions (length l) (facts_of (block_of b)) s n

  abbrev ended : Out Completed
  ended = completions.completed_as (ending_of (block_of b).state s n) (block_of b)

  -- demand 3
  account-in-place : {r : CompletionAnswered} {l' : List ℕ} → Meets (completed_numbers (completions.completion (length l) (block_of b) s n)) 0 l r l'
      → AccountedInPlace (block_of b) n r (records_in r.records l')
  account-in-place {r} {l'} m waits nought distinct isp last =
      let o = completions.completion (length l) (block_of b) s n in
      let parts = answer-parts o.state.answer o.state.records in
      let accepted = accepted-zero o.state.answer (sym parts.0 ∙ sym (ap (λ (x : CompletionAnswered). x.number) m.state) ∙ nought) in
      let count : o.state.records ≡ r.records = sym parts.1 ∙ sym (ap (λ (x : CompletionAnswered). x.records) m.state) in
      subst (λ (c : ℕ). Account n (held_of (block_of b)) (records_in c l')) count
      (accounted-completion l l' (block_of b) s n o.state (record { state = refl; log = m.log; fits = m.fits }) waits accepted distinct isp last)

  -- a completion that was to be o
  completes-as : {r : CompletionAnswered} {l' b' : List ℕ} (o : Out Completed) → completions.completion (length l) (block_of b) s n ≡ o
      → Meets (completed_numbers o) 0 l r l' → Becomes b o.state.block b' → (0 < r.number → b' ≡ b) → CompletesInPlace (length l) s n l b r l' b'
  completes-as {r} {l'} {b'} o is m changed kept =
      let met = subst (λ (x : Out Completed). Meets (completed_numbers x) 0 l r l') (sym is) m in
      let c = completions.completion (length l) (block_of b) s n in
      record {
        number = ap (λ (x : CompletionAnswered). x.number) met.state ∙ (answer-parts c.state.answer c.state.records).0 ∙ completion-number (length l) (block_of b) s n;
        met = met;
        becomes = subst (λ (x : Out Completed). Becomes b x.state.block b') (sym is) changed;
        unchanged = kept;
        account = account-in-place met;
      }

  -- a no leaves all as it was
  pub completes-refused : (a : Answer) (x : TrbProcessingResult) {r : CompletionAnswered} → number_of a ≡ first_no asked-completion → is_accepted a ≡ false
      → r ≡ completion_answered (completions.completion_answer a x) 0 → CompletesInPlace (length l) s n l b r l b
  unfolding completions.completion
  completes-refused a x e failed er =
      completes-as (completions.refused (block_of b) (number_of a)) (answered-no asked-completion (completions.refused (block_of b)) ended a e failed)
      (record { state = er ∙ ap (λ (y : CompletionAnswer). completion_answered y 0) (completion_answer-refused a x failed); log = sym (logged_none l 0); fits = tt }) (becomes-same b) (λ h. refl)

  -- what an accepted completion comes to, by its ending
  pub completes-accepted : (a : Answer) {r : CompletionAnswered} {l' b' : List ℕ} → number_of a ≡ first_no asked-completion → is_accepted a ≡ true
      → (o : Ending) → ending_of (block_of b).state s n ≡ o
      → (w : TrbProcessingResult) (count : ℕ) → r ≡ completion_answered (Ok w) count
      → Meets (completed_numbers (completions.completed_as o (block_of b))) 0 l (completion_answered (Ok w) count) l'
      → Becomes b (completions.completed_as o (block_of b)).state.block b' → CompletesInPlace (length l) s n l b r l' b'
  unfolding completions.completion
  completes-accepted a {r} {l'} e passed o eo w count er m changed =
      completes-as (completions.completed_as o (block_of b))
      (answered-yes asked-completion (completions.refused (block_of b)) ended a e passed ∙ ap (λ (x : Ending). completions.completed_as x (block_of b)) eo)
      (record { state = er ∙ m.state; log = m.log; fits = m.fits }) changed
      (λ h. absurd (omega (arith, h, ap (λ (x : CompletionAnswered). x.number) er ∙ (result_parts w count).0)))

-- ---- A TD that is collected

pub none-given : (n : ℕ) → 4 ≤ n → result_of n ≡ None
none-given n h = simp (ne_eqb n 0 (λ e. omega (arith, e, h)), ne_eqb n 1 (λ e. omega (arith, e, h)), ne_eqb n 2 (λ e. omega (arith, e, h)), ne_eqb n 3 (λ e. omega (arith, e, h)))

-- a device result by its number
pub result-by : (n : ℕ) → result_of n ≡ then_some (leb n 3) (status_of n)
result-by zero = refl
result-by (suc zero) = refl
result-by (suc (suc zero)) = refl
result-by (suc (suc (suc zero))) = refl
result-by (suc (suc (suc (suc n)))) = rw (lt-leb (suc (suc (suc (suc n)))) 3 (omega arith)) (none-given (suc (suc (suc (suc n)))) (omega arith))

pub goes_on : (b : List ℕ) (k : ℕ) (s : Option InTrbProcessingStatus) (n : ℕ) → SoundIn 1 b → min_log ≤ k → n ≤ max_data → s ≡ None → GoesOn k s n b
unfolding block_of completion_questions first_no
goes_on b k s n in-state long short none =
    let state : (block_of b).state ≡ CollectingTd = ap (λ (x : ℕ). state_of x (le_field 8 8 b)) in-state.state in
    record { asked = rw (le-leb min_log k long, in-state.sound, state, none, le-leb n max_data short) refl; state = state }

module _ (s : Option InTrbProcessingStatus) (n : ℕ) (l b : List ℕ) where
  -- the TRBs held are kept
  pub completes-kept : {r : CompletionAnswered} {b' : List ℕ} → GoesOn (length l) s n b → r ≡ completion_answered (Ok result.Ok) 0
      → Becomes b (with_state (block_of b) SubmissionDue) b' → CompletesInPlace (length l) s n l b r l b'
  completes-kept on er changed =
      completes-accepted s n l b (Ok tt) (sym on.asked) refl KeepCollecting (ap (λ (x : TdBasedNormalSubmissionState). ending_of x s n) on.state) result.Ok 0 er
      (record { state = refl; log = sym (logged_none l 0); fits = tt }) changed

-- ---- The TD was walked

pub transferred-met : (b l l' : List ℕ) (td : InTd) (st : InTrbProcessingStatus) (n : ℕ) (r : TdProcessed) → td ≡ in_td (endpoint_of b) (slot_of b) (block_of b).mode st n
    → Meets (process_td td (take (held_count b) (places b))) 0 l r l'
    → Meets (completed_numbers (completions.transferred (block_of b) st n)) 0 l (completion_answered (Ok r.result) r.progress.records) l'
unfolding block_of completions.transferred
transferred-met b l l' td st n r et m =
    let known : InTd = in_td (endpoint_of b) (slot_of b) (mode_of (get_or b 3 0)) st n in
    let ts : List TransferTrb = take (held_count b) (places b) in
    let walked : Meets (process_td known ts) 0 l r l' =
    subst (λ (x : InTd). Meets (process_td x ts) 0 l r l') et m in
    record {
      state = ap (λ (x : TdProcessed). completion_answered (Ok x.result) x.progress.records) walked.state
          ∙ ap (λ (k : ℕ). completion_answered (Ok (process_td known ts).state.result) k) (process_td-counts known ts);
      log = walked.log;
      fits = walked.fits;
    }

pub transferred-becomes : (b b' : List ℕ) (st : InTrbProcessingStatus) (n : ℕ) → Becomes b (emptied (block_of b) SubmissionDue) b' → Becomes b (completions.transferred (block_of b) st n).state.block b'
unfolding completions.transferred
transferred-becomes b b' st n h = h

-- bytes too few for a block
pub completes-short : (s : Option InTrbProcessingStatus) (n : ℕ) (l b : List ℕ) {r : CompletionAnswered} → length b < block_length
    → r ≡ completion_answered (Err BufferTooShort) 0 → CompletesInPlace (lent_log l b) s n l b r l b
unfolding completion_questions first_no refusal_of completions.completion
completes-short s n l b {r} short e =
    subst (λ (k : ℕ). CompletesInPlace k s n l b r l b) (sym (lent-short l b short))
    (record {
      number = ap (λ (x : CompletionAnswered). x.number) e;
      met = record { state = e; log = sym (logged_none l 0); fits = tt };
      becomes = becomes-same b;
      unchanged = λ h. refl;
      account = λ waits nought distinct isp last. absurd (omega (arith, nought, ap (λ (x : CompletionAnswered). x.number) e));
    })
