-- Every TD that came in by submissions has each Normal's range in one of the regions: question 6 lets no other in, and every other change of the places drops
-- the TRBs held or keeps them. Assumes nothing.
use Rattle.std.specs.Prelude.{Err, Ok, Option}
use Prim.Native.Nat.{ℕ, ◌*◌}
use mathlib.Core.Path.{◌≡◌, refl, ◌∙◌}
use mathlib.Core.Bool.{Bool, true, false, cond}
use mathlib.Core.List.{List, [], ◌∷◌}
use lib.ListN.{length, take}
use Rattle.trb.specs.Answers.{refusal_of}
use Rattle.trb.specs.Limits.{record_length}
use Rattle.trb.specs.Questions.{after_questions, agree}
use Rattle.trb.specs.declared.EndpointId.{EndpointId}
use Rattle.trb.specs.declared.InTrbProcessingStatus.{InTrbProcessingStatus}
use Rattle.trb.specs.declared.SlotId.{SlotId}
use Rattle.trb.specs.declared.TdBasedNormalSubmissionState.{TdBasedNormalSubmissionState}
use Rattle.trb.specs.declared.TdBasedNormalSubmissionState.TheVariants.{SubmissionDue}
use Rattle.trb.specs.declared.TransferTrb.{TransferTrb}
use Rattle.call_log.specs.Calls.{Out}
use Rattle.walks.specs.All.{all}
use Rattle.guest_memory.specs.declared.Regions.{Regions}
use Rattle.guest_memory.specs.Regions.{share_an_address}
use Rattle.guest_memory.specs.Places.{Memory, regions_of}
use Rattle.carry_out.specs.Writes.{writes_in_range, written}
use Rattle.in_td.specs.declared.InMode.{InMode}
use Rattle.in_block.specs.Blocks.{fresh_block, held_of, stored, emptied}
use Rattle.in_block.specs.Facts.{awaits_device, held_test, facts_of}
use Rattle.in_block.specs.Outcomes.{outcome_of, state_after, ending_of}
use Rattle.in_block.specs.declared.Ending.{Ending}
use Rattle.in_block.specs.declared.Ending.TheVariants.{KeepCollecting, Transfer, ReportUnsupported}
use Rattle.in_block.specs.declared.InBlock.{InBlock}
use Rattle.in_block.specs.declared.Outcome.{Outcome}
use Rattle.in_block.specs.declared.Outcome.TheVariants.{Drop, Collect, CompleteLocally, Request}
use Rattle.in_request.specs.Requests.{in_guest_memory}
use Rattle.in_questions.specs.Questions.{submission_questions, is_given, completion_questions}
use Rattle.in_questions.proofs.PassedLaws.{passed-window, passed-trb}
use Rattle.in_endpoint.specs.Completion as completing
use Rattle.in_endpoint.specs.Creation.{creation_questions, creation}
use Rattle.in_endpoint.specs.Submission as submitting
use Rattle.in_endpoint.specs.Returned.{Completed}
use Rattle.in_endpoint.specs.Returned.{Created}
use Rattle.in_endpoint.specs.Returned.{Submitted}
use Rattle.in_endpoint.proofs.SubmissionLaws.{holds, supported-held}
use Rattle.made_blocks.proofs.CallLaws.{by-questions, all-stored}
use Rattle.delivery_laws.specs.Ranges.{InRegions}
use Rattle.delivery.specs.Completing.{completed, delivery_questions, delivery, DeliveredWhole}
use Rattle.made_delivery.specs.Calls.{InCall, submit, complete, deliver, cancel, after, after_all, made}
use Rattle.delivery_laws.proofs.InsideLaws.{in_regions-writes_inside}
use Rattle.delivery.proofs.CompletionLaws.{inside-ended, no-torn-frame}

module _ (regions : Regions) where
  -- what every call keeps
  abbrev Kept : InBlock → Type 0
  Kept b = InRegions regions (held_of b)

  kept-emptied : (b : InBlock) (state : TdBasedNormalSubmissionState) → Kept (emptied b state)
  unfolding all
  kept-emptied b state = refl

  kept-stored : (b : InBlock) (t : TransferTrb) → Kept b → in_guest_memory t.variant regions ≡ true → Kept (stored b t)
  kept-stored b t k inside = all-stored (λ (u : TransferTrb). in_guest_memory u.variant regions) b.trbs b.held t k inside

  kept_fresh : (e : EndpointId) (s : SlotId) (mode : InMode) → Kept (fresh_block e s mode)
  unfolding all
  kept_fresh e s mode = refl

  kept-creation : (e : EndpointId) (s : SlotId) (mode : InMode) → Kept (creation e s mode).block
  unfolding creation
  kept-creation e s mode =
      by-questions (λ (r : Created). Kept r.block) (creation_questions e s)
      (λ n. record { answer = Err (refusal_of n); block = fresh_block (record { 0 = 0 }) (record { 0 = 0 }) mode }) (record { answer = Ok tt; block = fresh_block e s mode })
      (λ n. kept_fresh (record { 0 = 0 }) (record { 0 = 0 }) mode) (λ none. kept_fresh e s mode)

  -- ---- Each call

  module _ (b : InBlock) (k : Kept b) where
    kept-submitted : (o : Outcome) (t : TransferTrb) → (holds o ≡ true → in_guest_memory t.variant regions ≡ true) → Kept (submitting.submitted_as o b t).state.block
    kept-submitted Drop t inside = kept-emptied b (state_after Drop t.addr)
    kept-submitted Collect t inside = kept-stored b t k (inside refl)
    kept-submitted CompleteLocally t inside = kept-stored b t k (inside refl)
    kept-submitted Request t inside = kept-stored b t k (inside refl)

    pub kept-submission : (l : ℕ) (t : TransferTrb) → Kept (submitting.submission l b t regions).state.block
    unfolding submitting.submission
    kept-submission l t =
        let o : Outcome = outcome_of (held_test (held_of b)) t in
        by-questions (λ (r : Out Submitted). Kept r.state.block) (submission_questions l (facts_of b) t regions) (submitting.refused b) (submitting.submitted_as o b t)
        (λ n. k)
        (λ none. kept-submitted o t (λ h. passed-window b.held t.variant regions (passed-trb l (facts_of b) t regions none) (supported-held (held_test (held_of b)) t o refl h)))

    kept-ended : (x : Ending) → Kept (completing.completed_as x b).state.block
    unfolding completing.transferred
    kept-ended KeepCollecting = k
    kept-ended (Transfer st n) = kept-emptied b SubmissionDue
    kept-ended (ReportUnsupported a) = kept-emptied b SubmissionDue

    kept-after : (qs : List (Bool × ℕ)) (x : Ending) → Kept (after_questions qs (completing.refused b) (completing.completed_as x b)).state.block
    kept-after qs x =
        by-questions (λ (c : Out Completed). Kept c.state.block) qs (completing.refused b) (completing.completed_as x b) (λ n. k) (λ none. kept-ended x)

    kept-call : (c : InCall) → Kept (after regions c b)
    unfolding completing.completion delivery
    kept-call (submit l t) = kept-submission l t
    kept-call (complete l r n) = kept-after (completion_questions l (facts_of b) r n) (ending_of b.state r n)
    kept-call (deliver l r n) = kept-after (delivery_questions l b r n regions) (ending_of b.state r n)
    kept-call cancel = kept-emptied b SubmissionDue

  kept-calls : (cs : List InCall) (b : InBlock) → Kept b → Kept (after_all regions cs b)
  kept-calls [] b k = k
  kept-calls (c ∷ cs) b k = kept-calls cs (after regions c b) (kept-call b k c)

  -- of every block that only calls made, whichever they are, refused ones among them
  pub made-in-regions : (e : EndpointId) (s : SlotId) (mode : InMode) (cs : List InCall) → InRegions regions (held_of (made regions e s mode cs))
  made-in-regions e s mode cs = kept-calls cs (creation e s mode).block (kept-creation e s mode)

  -- where question 8 was answered with yes, so is question 11
  pub made-writes-inside : (e : EndpointId) (s : SlotId) (mode : InMode) (cs : List InCall) → let b = made regions e s mode cs in
      (r : Option InTrbProcessingStatus) (n : ℕ) → agree (is_given r) (awaits_device b.state) ≡ true → writes_in_range n regions (completed b r n).records ≡ true
  made-writes-inside e s mode cs r n agreed =
      let b = made regions e s mode cs in
      inside-ended b n regions b.state r agreed
      ∙ in_regions-writes_inside regions (cond (awaits_device b.state) n 0) (held_of b) (made-in-regions e s mode cs)

-- so every frame of such a block is delivered whole
pub made-no-torn-frame : (bytes : List ℕ) (m : Memory) (e : EndpointId) (s : SlotId) (mode : InMode) (cs : List InCall) → let b = made (regions_of m) e s mode cs in
    (res : Option InTrbProcessingStatus) (l : List ℕ) (r : Completed) (l' : List ℕ) → completing.Completes b res (length bytes) l r l' → share_an_address (regions_of m) ≡ false
    → DeliveredWhole b bytes m r.answer (take (record_length * r.records) l') (written bytes m (completed b res (length bytes)).records)
made-no-torn-frame bytes m e s mode cs res l r l' h apart =
    no-torn-frame bytes m (made (regions_of m) e s mode cs) res l r l' h apart (made-in-regions (regions_of m) e s mode cs)
