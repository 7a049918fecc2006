-- What a call in place comes to, by its answer. Assumes nothing.
use Rattle.std.specs.Prelude.{Err, Ok, Option}
use Prim.Native.Nat.{ℕ, ◌*◌, ◌<◌, ◌≤◌}
use mathlib.Core.Path.{◌≡◌, refl, sym, ap, ◌∙◌, subst}
use mathlib.Core.Bool.{true, false}
use mathlib.Core.List.{List}
use native.Mathlib.Nat.{zero-add}
use native.Mathlib.Omega.{arith}
use lib.ListN.{length, drop}
use lib.Seq.{drop-drop}
use borrow.Author.Tests.{le-leb, lt-leb}
use Rattle.buffers.proofs.PatchLaws.{patch-none}
use Rattle.trb.specs.Answers.{number_of, refusal_of, Answer}
use Rattle.trb.specs.Ids.{ids_in_range}
use Rattle.trb.specs.Limits.{max_held}
use Rattle.trb.specs.Questions.{first_no}
use Rattle.trb.specs.Refusals.{refusal_number}
use Rattle.trb.specs.Answers.{CompletionAnswer}
use Rattle.trb.specs.declared.ControlRequestProcessingResult.{ControlRequestProcessingResult}
use Rattle.trb.specs.declared.Refusal.{Refusal}
use Rattle.trb.specs.declared.Refusal.TheVariants.{BufferTooShort}
use Rattle.trb.specs.declared.TransferTrb.{TransferTrb}
use Rattle.trb.specs.declared.TrbProcessingResult.{TrbProcessingResult}
use Rattle.trb.specs.declared.TrbProcessingResult.TheVariants as result
use Rattle.call_log.specs.Calls.{Meets, counted}
use Rattle.call_log.proofs.CallLaws.{meets-silent}
use Rattle.held_bytes.specs.Places.{place_length}
use Rattle.guest_memory.specs.Places.{Memory, regions_of}
use Rattle.phase_table.specs.declared.Outcome.{Outcome}
use Rattle.control_block.specs.declared.Ending.{Ending}
use Rattle.control_block.specs.Blocks.{fresh_block}
use Rattle.control_block.specs.Endings.{ending_of, result_of}
use Rattle.control_block.specs.Facts.{facts_of}
use Rattle.control_questions.specs.Completion.{completion_questions}
use Rattle.control_questions.specs.Submission.{submission_questions}
use Rattle.control_endpoint.specs.Completion as completes
use Rattle.control_endpoint.specs.Completion.{block_behind}
use Rattle.control_endpoint.specs.Submission as submits
use Rattle.control_endpoint.specs.Submission.{questions_of, submission, bytes_collected}
use Rattle.control_endpoint.specs.Returned.{Completed}
use Rattle.control_endpoint.specs.Returned.{Submitted}
use Rattle.control_endpoint.proofs.CompletionLaws.{completes-refused, completes-accepted}
use Rattle.control_endpoint.proofs.SubmissionLaws.{submits-refused, submits-accepted}
use Rattle.control_block.specs.Numbers.{release_of}
use Rattle.control_bytes.specs.Layout.{head_length, block_length, block_of}
use Rattle.control_bytes.specs.Stores.{Made}
use Rattle.control_places.specs.Events.{completion_records}
use Rattle.control_stores.specs.Becomes.{Becomes}
use Rattle.control_in_place.specs.InPlace.{Beyond, Acceptable, Accepts, SubmitsAsByValue, CompletesAsByValue, lent_log, CreatesInPlace, SubmitsInPlace, CompletesInPlace}
use Rattle.trb.specs.declared.Logged.{Logged}
use Rattle.answer_numbers.specs.Numbers.{answered_as, completion_answered}

beyond-same : (b : List ℕ) → Beyond b b
beyond-same b = record { behind = refl; long = refl }

-- ---- Submission

module _ (b : List ℕ) (t : TransferTrb) (m : Memory) (l c : List ℕ) where
  pub refused-in-place : (q : Refusal) → refusal_number q ≡ first_no (questions_of (length l) (length c) (block_of b) t (regions_of m))
      → SubmitsAsByValue b t m l c (record { answer = Err q; records = 0 }) l c b
  refused-in-place q numbered = record { by_value = submits-refused (block_of b) t m l c q (Err q) refl numbered; beyond = beyond-same b; unchanged = λ h. refl }

  pub accepted-in-place : (o : Outcome) (n : ℕ) (l' c' b' : List ℕ) → Acceptable l c b t m o → Accepts l c b t m o n l' c' b'
      → SubmitsAsByValue b t m l c (record { answer = Ok tt; records = n }) l' c' b'
  unfolding submits.accepted
  accepted-in-place o n l' c' b' a s =
      let count = s.log.state ∙ zero-add _ in
      let block = s.becomes.block in
      record {
        by_value = submits-accepted (block_of b) t m l c o a.outcome a.none (record { answer = Ok tt; records = n; block = block_of b' }) l' c'
            (λ j. record { answer = Ok tt; records = count j; block = block j }) (record { log = s.log.log; fits = s.log.fits }) s.collect;
        beyond = record { behind = s.becomes.behind; long = s.becomes.long };
        unchanged = λ h. absurd (omega arith);
      }

-- ---- Completion

module _ (b : List ℕ) (d : Option ControlRequestProcessingResult) (n : ℕ) (l : List ℕ) where
  pub completion-refused : (q : Refusal) → refusal_number q ≡ first_no (completion_questions (length l) (facts_of (block_of b)) d n)
      → CompletesAsByValue b d n l (record { answer = Err q; records = 0 }) l b
  completion-refused q numbered = record { by_value = completes-refused (block_of b) d n l q numbered; beyond = beyond-same b; unchanged = λ h. refl }

  pub completion-accepted : (x : Ending) (r : TrbProcessingResult) (k : ℕ) (l' b' : List ℕ) → x ≡ ending_of (block_of b).state d n
      → first_no (completion_questions (length l) (facts_of (block_of b)) d n) ≡ 0 → r ≡ result_of x → Meets (counted 0 (completion_records x (block_of b))) 0 l k l'
      → Becomes b (block_behind x (block_of b)) b' → CompletesAsByValue b d n l (record { answer = Ok r; records = k }) l' b'
  unfolding completes.accepted
  completion-accepted x r k l' b' ends none result logs h =
      let count = logs.state ∙ zero-add _ in
      let block = h.block in
      record {
        by_value = completes-accepted (block_of b) d n l x ends none (record { answer = Ok r; records = k; block = block_of b' }) l'
            (λ j. record { answer = Ok (result j); records = count j; block = block j }) (record { log = logs.log; fits = logs.fits });
        beyond = record { behind = h.behind; long = h.long };
        unchanged = λ no. absurd (omega arith);
      }

-- ---- Of any row of bytes

-- bytes that are enough for a block
enough : (l b : List ℕ) → block_length ≤ length b → length l ≡ lent_log l b
enough l b long = rw (le-leb _ _ long)

module _ (t : TransferTrb) (m : Memory) (l c b : List ℕ) where
  -- too few: question 1 says no
  pub submits-short : length b < block_length → SubmitsInPlace (lent_log l b) t m l c b (answered_as (Err BufferTooShort) 0) l c b
  unfolding submission submission_questions first_no refusal_of bytes_collected
  submits-short short =
      let none : lent_log l b ≡ 0 = rw (lt-leb _ _ short) in
      subst (λ (k : ℕ). SubmitsInPlace k t m l c b (answered_as (Err BufferTooShort) 0) l c b) (sym none)
      (record { number = refl; met = meets-silent 0 l refl; collect = sym (patch-none c (block_of b).transfer.collected); becomes = record { block = refl; behind = refl; long = refl }; unchanged = λ h. refl })

  pub submits-long : (r : Logged Answer) (l' c' b' : List ℕ) → block_length ≤ length b → SubmitsAsByValue b t m l c r l' c' b'
      → SubmitsInPlace (lent_log l b) t m l c b (answered_as r.answer r.records) l' c' b'
  submits-long r l' c' b' long s =
      let v = s.by_value in
      subst (λ (k : ℕ). SubmitsInPlace k t m l c b (answered_as r.answer r.records) l' c' b') (enough l b long)
      (record {
        number = v.number;
        met = record { state = ap (λ (x : Submitted). answered_as x.answer x.records) v.met.state; log = v.met.log; fits = v.met.fits };
        collect = v.collect;
        becomes = record { block = ap (λ (x : Submitted). x.block) v.met.state; behind = s.beyond.behind; long = s.beyond.long };
        unchanged = s.unchanged;
      })

module _ (d : Option ControlRequestProcessingResult) (n : ℕ) (l b : List ℕ) where
  pub completes-short : length b < block_length → CompletesInPlace (lent_log l b) d n l b (completion_answered (Err BufferTooShort) 0) l b
  unfolding completes.completion completion_questions first_no refusal_of
  completes-short short =
      let none : lent_log l b ≡ 0 = rw (lt-leb _ _ short) in
      subst (λ (k : ℕ). CompletesInPlace k d n l b (completion_answered (Err BufferTooShort) 0) l b) (sym none)
      (record { number = refl; met = meets-silent 0 l refl; becomes = record { block = refl; behind = refl; long = refl }; unchanged = λ h. refl })

  -- the number of an answer, in both forms
  same_number : (a : CompletionAnswer) (k : ℕ) → (completion_answered a k).number ≡ number_of a
  same_number (Ok result.Ok) k = refl
  same_number (Ok result.Stall) k = refl
  same_number (Ok (result.StallAt a c)) k = refl
  same_number (Ok result.TrbError) k = refl
  same_number (Ok result.TransactionError) k = refl
  same_number (Ok (result.TransactionErrorAt a c)) k = refl
  same_number (Ok result.Disconnect) k = refl
  same_number (Err q) k = refl

  pub completes-long : (r : Logged CompletionAnswer) (l' b' : List ℕ) → block_length ≤ length b → CompletesAsByValue b d n l r l' b'
      → CompletesInPlace (lent_log l b) d n l b (completion_answered r.answer r.records) l' b'
  completes-long r l' b' long s =
      let v = s.by_value in
      let same = same_number r.answer r.records in
      subst (λ (k : ℕ). CompletesInPlace k d n l b (completion_answered r.answer r.records) l' b') (enough l b long)
      (record {
        number = same ∙ v.number;
        met = record { state = ap (λ (x : Completed). completion_answered x.answer x.records) v.met.state; log = v.met.log; fits = v.met.fits };
        becomes = record { block = ap (λ (x : Completed). x.block) v.met.state; behind = s.beyond.behind; long = s.beyond.long };
        unchanged = λ h. s.unchanged (subst (λ (k : ℕ). 0 < k) same h);
      })

-- ---- Creation

module _ (e s release : ℕ) (b : List ℕ) where
  abbrev made-for : ℕ → List ℕ → Type 0
  made-for r b' = CreatesInPlace (record { 0 = e }) (record { 0 = s }) (release_of release) b r b'

  pub creates-short : length b < block_length → made-for 1 b
  unfolding first_no
  creates-short short = record { number = rw (lt-leb _ _ short); becomes = λ long. absurd (omega arith); unchanged = λ h. refl }

  made-becomes : (x y : ℕ) (b' : List ℕ) → Made b x y release b' → Becomes b (fresh_block (record { 0 = x }) (record { 0 = y }) (release_of release)) b'
  made-becomes x y b' h = record {
    block = h.block;
    behind = sym (drop-drop (place_length * max_held) head_length b') ∙ ap (drop (place_length * max_held)) h.behind ∙ drop-drop (place_length * max_held) head_length b;
    long = h.long;
  }

  pub creates : (b' : List ℕ) → block_length ≤ length b → ids_in_range (record { 0 = e }) (record { 0 = s }) ≡ true → Made b e s release b' → made-for 0 b'
  unfolding first_no
  creates b' long ids h = record { number = rw (le-leb _ _ long, ids); becomes = λ k. rw ids (made-becomes e s b' h); unchanged = λ short. absurd (omega arith) }

  pub creates-not : (b' : List ℕ) → block_length ≤ length b → ids_in_range (record { 0 = e }) (record { 0 = s }) ≡ false → Made b 0 0 release b' → made-for 12 b'
  unfolding first_no
  creates-not b' long ids h = record { number = rw (le-leb _ _ long, ids); becomes = λ k. rw ids (made-becomes 0 0 b' h); unchanged = λ short. absurd (omega arith) }
