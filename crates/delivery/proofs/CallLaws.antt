-- The promise of `complete_and_carry_out`: a no leaves everything as it was; behind a yes to every question the log is the completion's, carry-out accepts it, and
-- the frame is delivered whole. Assumes nothing.
use Rattle.std.specs.Prelude.{Ok, Option}
use Prim.Native.Nat.{ℕ, ◌*◌}
use mathlib.Core.Bool.{Bool, true, false, true≢false}
use mathlib.Core.Path.{◌≡◌, sym, ap, ◌∙◌, subst}
use mathlib.Core.List.{List}
use lib.ListN.{length, take}
use Rattle.trb.specs.Answers.{number_of, said}
use Rattle.trb.specs.Answers as asked
use Rattle.trb.specs.Limits.{record_length}
use Rattle.trb.specs.Questions.{first_no}
use Rattle.trb.specs.Answers.{Answer}
use Rattle.trb.specs.declared.InTrbProcessingStatus.{InTrbProcessingStatus}
use Rattle.trb.specs.declared.TrbProcessingResult.{TrbProcessingResult}
use Rattle.trb.proofs.AnswerLaws.{answered-no}
use Rattle.call_log.specs.Calls.{Out, Meets}
use Rattle.call_log.specs.Logs.{encode_all}
use Rattle.call_log.proofs.CallLaws.{meets}
use Rattle.call_log.proofs.LogLaws.{logged_none}
use Rattle.guest_memory.specs.Places.{Memory, regions_of}
use Rattle.carry_out.specs.Writes.{written}
use Rattle.carry_out.specs.CarryOut.{answer_of, memory_after, Carried}
use Rattle.carry_out.proofs.CarryOutLaws.{answer_of-encode_all, memory_after-encode_all}
use Rattle.in_block.specs.Outcomes.{ending_of}
use Rattle.in_block.specs.declared.InBlock.{InBlock}
use Rattle.in_endpoint.specs.Completion.{refused, completion_answer, is_accepted, Completes}
use Rattle.in_endpoint.specs.Returned.{Completed}
use Rattle.in_endpoint.proofs.CompletionLaws.{completion_answer-number, completion_answer-refused}
use Rattle.delivery.specs.Completing.{completed, delivery_questions, delivery, DeliveredWhole, Delivers}
use Rattle.delivery.proofs.CompletionLaws.{kinds-ended, done-meets, done-bytes, delivered-done}
use Rattle.delivery.proofs.QuestionLaws.{PassedDelivery, passed-delivery}

module _ (b : InBlock) (s : Option InTrbProcessingStatus) (bytes l : List ℕ) (m : Memory) where
  abbrev questions : List (Bool × ℕ)
  questions = delivery_questions (length l) b s (length bytes) (regions_of m)

  abbrev called : Out Completed
  called = delivery (length l) b s (length bytes) (regions_of m)

  abbrev done : Out Completed
  done = completed b s (length bytes)

  -- ---- A no

  module _ (a : Answer) (x : TrbProcessingResult) (number : number_of a ≡ first_no questions) (failed : asked.is_accepted a ≡ false) where
    not-accepted : is_accepted (completion_answer a x) ≡ true → ⊥
    not-accepted accepts = true≢false (sym accepts ∙ ap is_accepted (completion_answer-refused a x failed))

    refused-call : called ≡ refused b (number_of a)
    unfolding delivery
    refused-call = answered-no questions (refused b) done a number failed

    pub delivers-no : Delivers b s bytes l m (record { answer = completion_answer a x; records = 0; block = b }) l m
    delivers-no =
        let met : Meets called 0 l (record { answer = completion_answer a x; records = 0; block = b }) l = meets refused-call (record { state = rw (completion_answer-refused a x failed); log = sym (logged_none l 0); fits = tt }) in
        record {
          number = completion_answer-number a x ∙ number;
          met = met;
          result = ap (λ (c : Completed). said c.answer) met.state;
          memory = ap (λ (o : Out Completed). written bytes m o.records) (sym refused-call);
          account = λ waits accepts distinct isp last. absurd (not-accepted accepts);
          whole = λ waits accepts distinct isp last. absurd (not-accepted accepts);
        }

  -- ---- Yes to every question

  module _ (none : first_no questions ≡ 0) (r : Completed) (l' : List ℕ) (h : Completes b s (length bytes) l r l') where
    passed : PassedDelivery (length l) b s (length bytes) (regions_of m)
    passed = passed-delivery (length l) b s (length bytes) (regions_of m) none

    accepted-call : called ≡ done
    unfolding delivery
    accepted-call = rw none

    -- its records are carried out
    carried-done : (a : Answer) (m' : Memory) → Carried (take (record_length * r.records) l') bytes m a m' → m' ≡ written bytes m done.records
    carried-done a m' carried =
        let stored : take (record_length * r.records) l' ≡ encode_all done.records = done-bytes b s (length bytes) l r l' h passed.completes in
        let fits = (done-meets b s (length bytes) l r l' h passed.completes).fits in
        let yes : a ≡ (Ok tt) =
        carried.answer
        ∙ ap (λ (log : List ℕ). answer_of log (length bytes) (regions_of m)) stored
        ∙ answer_of-encode_all done.records fits (length bytes) (regions_of m) passed.apart (kinds-ended b (ending_of b.state s (length bytes)))
        ∙ rw passed.writes in
        carried.after
        ∙ ap (λ (x : Answer). memory_after x (take (record_length * r.records) l') bytes m) yes
        ∙ ap (λ (log : List ℕ). memory_after (Ok tt) log bytes m) stored
        ∙ memory_after-encode_all done.records fits bytes m

    pub delivers-yes : (a : Answer) (m' : Memory) → Carried (take (record_length * r.records) l') bytes m a m' → Delivers b s bytes l m r l' m'
    delivers-yes a m' carried =
        let met = meets accepted-call (done-meets b s (length bytes) l r l' h passed.completes) in
        let after = carried-done a m' carried in
        record {
          number = h.number ∙ passed.completes ∙ sym none;
          met = met;
          result = ap (λ (c : Completed). said c.answer) met.state;
          memory = after ∙ ap (λ (o : Out Completed). written bytes m o.records) (sym accepted-call);
          account = h.account;
          whole = subst (DeliveredWhole b bytes m r.answer (take (record_length * r.records) l')) (sym after)
              (delivered-done bytes m b s l r l' h passed.apart passed.completes passed.writes);
        }
