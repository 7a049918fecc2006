-- What `delivery` promises of the block that the bytes are is promised in place, as numbers and bytes: of a no, and behind a yes to every question. Assumes nothing.
use Rattle.std.specs.Prelude.{Err, Option}
use Prim.Native.Nat.{ℕ, ◌*◌, ◌<◌, ◌≤◌}
use mathlib.Core.Path.{◌≡◌, refl, sym, ap, ◌∙◌, subst}
use mathlib.Core.Bool.{Bool, true, false}
use mathlib.Core.List.{List}
use native.Mathlib.Omega.{arith}
use lib.ListN.{length, take}
use Rattle.trb.specs.Answers.{number_of, is_accepted, refusal_of}
use Rattle.trb.specs.Limits.{record_length}
use Rattle.trb.specs.Questions.{first_no}
use Rattle.trb.specs.Answers.{Answer}
use Rattle.trb.specs.declared.InTrbProcessingStatus.{InTrbProcessingStatus}
use Rattle.trb.specs.declared.Refusal.TheVariants.{BufferTooShort}
use Rattle.trb.specs.declared.TrbProcessingResult.{TrbProcessingResult}
use Rattle.call_log.specs.Logs.{records_in}
use Rattle.call_log.proofs.LogLaws.{logged_none}
use Rattle.guest_memory.specs.Places.{Memory, regions_of}
use Rattle.carry_out.specs.CarryOut.{Carried}
use Rattle.account.specs.Guest.{Account}
use Rattle.in_block.specs.Blocks.{held_of}
use Rattle.in_endpoint.specs.Completion as completions
use Rattle.in_endpoint.specs.Returned.{Completed}
use Rattle.in_endpoint.proofs.CompletionLaws.{completion-number, completes}
use Rattle.answer_numbers.specs.Numbers.{completion_answered}
use Rattle.answer_numbers.specs.declared.CompletionAnswered.{CompletionAnswered}
use Rattle.in_bytes.specs.Layout.{block_length, block_of}
use Rattle.in_place_store.specs.Becomes.{Becomes}
use Rattle.in_place_store.proofs.ChangeLaws.{becomes-same}
use Rattle.in_place_questions.specs.Lent.{lent_log}
use Rattle.in_place.specs.InPlace.{CompletesInPlace}
use Rattle.in_place_questions.proofs.LentLaws.{lent-long, lent-short}
use Rattle.in_place.proofs.CallLaws.{answer-parts, accepted-zero}
use Rattle.delivery_laws.specs.Delivered.{Delivered}
use Rattle.delivery.specs.Completing.{delivery_questions, delivery, Delivers}
use Rattle.delivery.proofs.CallLaws.{delivers-no, delivers-yes}
use Rattle.delivery.proofs.QuestionLaws.{passed-delivery}
use Rattle.in_place_delivery.specs.Delivering.{DeliversInPlace}

module _ (s : Option InTrbProcessingStatus) (bytes l b : List ℕ) (m : Memory) where
  abbrev questions : List (Bool × ℕ)
  questions = delivery_questions (length l) (block_of b) s (length bytes) (regions_of m)

  -- the promise of a call by value that came to c, where the call in place answered its numbers and the bytes became its block
  in_place : {r : CompletionAnswered} {l' b' : List ℕ} {m' : Memory} (c : Completed) → Delivers (block_of b) s bytes l m c l' m'
      → r ≡ completion_answered c.answer c.records → Becomes b c.block b' → (0 < r.number → (l' ≡ l) × ((b' ≡ b) × (m' ≡ m)))
      → DeliversInPlace (length l) s bytes l b m r l' b' m'
  in_place {r} {l'} {b'} {m'} c d said changed kept =
      let parts = answer-parts c.answer c.records in
      let number : r.number ≡ number_of c.answer = ap (λ (x : CompletionAnswered). x.number) said ∙ parts.0 in
      let count : c.records ≡ r.records = sym (ap (λ (x : CompletionAnswered). x.records) said ∙ parts.1) in
      let accepted : r.number ≡ 0 → completions.is_accepted c.answer ≡ true = λ zero. accepted-zero c.answer (sym number ∙ zero) in
      record {
        number = number ∙ d.number;
        met = record {
          state = said ∙ ap (λ (x : Completed). completion_answered x.answer x.records) d.met.state;
          log = d.met.log;
          fits = d.met.fits;
        };
        becomes = subst (λ (x : Completed). Becomes b x.block b') d.met.state changed;
        memory = d.memory;
        unchanged = kept;
        account = λ waits zero distinct isp last.
            subst (λ (n : ℕ). Account (length bytes) (held_of (block_of b)) (records_in n l')) count (d.account waits (accepted zero) distinct isp last);
        whole = λ waits zero distinct isp last.
            subst (λ (n : ℕ). Delivered bytes m (held_of (block_of b)) (take (record_length * n) l') m') count (d.whole waits (accepted zero) distinct isp last);
      }

  pub refused-in-place : (a : Answer) (x : TrbProcessingResult) {r : CompletionAnswered} → number_of a ≡ first_no questions → is_accepted a ≡ false
      → r ≡ completion_answered (completions.completion_answer a x) 0 → DeliversInPlace (length l) s bytes l b m r l b m
  refused-in-place a x asked failed said =
      in_place (record { answer = completions.completion_answer a x; records = 0; block = block_of b }) (delivers-no (block_of b) s bytes l m a x asked failed) said (becomes-same b)
      (λ positive. (refl, (refl, refl)))

  module _ (none : first_no questions ≡ 0) {r : CompletionAnswered} {l' b' : List ℕ} (h : CompletesInPlace (length l) s (length bytes) l b r l' b') where
    abbrev completed : Completed
    completed = (completions.completion (length l) (block_of b) s (length bytes)).state

    by_value : completions.Completes (block_of b) s (length bytes) l completed l'
    by_value =
        completes l l' (block_of b) s (length bytes) completed (completion-number (length l) (block_of b) s (length bytes))
        (record { state = refl; log = h.met.log; fits = h.met.fits })

    counted : r.records ≡ completed.records
    counted = ap (λ (x : CompletionAnswered). x.records) h.met.state ∙ (answer-parts completed.answer completed.records).1

    pub delivered-in-place : (a : Answer) (m' : Memory) → Carried (take (record_length * r.records) l') bytes m a m' → DeliversInPlace (length l) s bytes l b m r l' b' m'
    delivered-in-place a m' carried =
        in_place completed
        (delivers-yes (block_of b) s bytes l m none completed l' by_value a m' (subst (λ (n : ℕ). Carried (take (record_length * n) l') bytes m a m') counted carried))
        h.met.state h.becomes
        (λ positive. absurd (omega (arith, positive, h.number, (passed-delivery (length l) (block_of b) s (length bytes) (regions_of m) none).completes)))

-- bytes enough for a block
pub long-in-place : (bytes l b : List ℕ) (m : Memory) {s x : Option InTrbProcessingStatus} {r : CompletionAnswered} {l' b' : List ℕ} {m' : Memory} → block_length ≤ length b → s ≡ x
    → DeliversInPlace (length l) s bytes l b m r l' b' m' → DeliversInPlace (lent_log l b) x bytes l b m r l' b' m'
long-in-place bytes l b m {s} {x} {r} {l'} {b'} {m'} long is h =
    subst (λ (k : ℕ). DeliversInPlace k x bytes l b m r l' b' m') (sym (lent-long l b long)) (subst (λ (y : Option InTrbProcessingStatus). DeliversInPlace (length l) y bytes l b m r l' b' m') is h)

-- bytes too few for a block
pub short-in-place : (s : Option InTrbProcessingStatus) (bytes l b : List ℕ) (m : Memory) {r : CompletionAnswered} → length b < block_length
    → r ≡ completion_answered (Err BufferTooShort) 0 → DeliversInPlace (lent_log l b) s bytes l b m r l b m
unfolding delivery_questions first_no refusal_of delivery
short-in-place s bytes l b m {r} short said =
    subst (λ (k : ℕ). DeliversInPlace k s bytes l b m r l b m) (sym (lent-short l b short))
    (record {
      number = ap (λ (x : CompletionAnswered). x.number) said;
      met = record { state = said; log = sym (logged_none l 0); fits = tt };
      becomes = becomes-same b;
      memory = refl;
      unchanged = λ positive. (refl, (refl, refl));
      account = λ waits zero distinct isp last. absurd (omega (arith, zero, ap (λ (x : CompletionAnswered). x.number) said));
      whole = λ waits zero distinct isp last. absurd (omega (arith, zero, ap (λ (x : CompletionAnswered). x.number) said));
    })
