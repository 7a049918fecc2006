-- `control_submission::submit_trb` meets its contract: the loop keeps to the walk over the TRBs that are dropped, with the places behind it blank; the TRB is then held, if it is taken.
-- Assumes nothing.
use Rattle.std.proofs.Common.{◌≡◌, ℕ, ◌+◌, ◌*◌, ◌-◌, ◌<◌, ◌≤◌, Bool, true, false, cond, List, length, take, length-take, sym, ap, ◌∙◌, subst, arith, Ok}
use Rattle.trb.specs.Answers.{Answer, number_of}
use Rattle.trb.specs.Limits.{max_held, record_length}
use Rattle.trb.specs.Questions.{first_no}
use Rattle.trb.specs.declared.ControlSubmissionState.{ControlSubmissionState}
use Rattle.trb.specs.declared.TransferTrb.{TransferTrb}
use Rattle.call_log.specs.declared.Record.{Record}
use Rattle.call_log.specs.Calls.{Put, Meets, counted}
use Rattle.guest_memory.specs.declared.Regions.{Regions}
use Rattle.guest_memory.specs.Places.{regions_of}
use Rattle.guest_memory.specs.Lent.{seen}
use Rattle.td_part.specs.declared.TdProgress.{TdProgress}
use Rattle.td_part.specs.Parts.{at_start}
use Rattle.walks.specs.Walk.{walk}
use Rattle.phase_table.specs.declared.Outcome.{Outcome}
use Rattle.phase_table.specs.Outcomes.{holds, restarts, state_after}
use Rattle.control_block.specs.declared.ControlBlock.{ControlBlock}
use Rattle.control_block.specs.Blocks.{stored, emptied, advanced}
use Rattle.control_block.specs.Facts.{facts_of}
use Rattle.control_block.specs.declared.ControlTransfer.{ControlTransfer}
use Rattle.control_block.specs.declared.Ending.TheVariants.{ReportBadTrb}
use Rattle.control_chain.specs.Chain.{never}
use Rattle.control_chain.specs.Endings.{next_trb}
use Rattle.control_transfer.specs.Transfers.{requests_of, transfer_after}
use Rattle.control_questions.specs.Submission.{submission_questions}
use Rattle.control_questions.proofs.SubmissionLaws.{Passed, passed}
use Rattle.control_endpoint.specs.Returned.{Submitted}
use Rattle.control_endpoint.specs.Submission.{places_dropped, records_of, questions_of, dropped_before, held_after, block_after, accepted}
use Rattle.control_endpoint.proofs.FreeingLaws.{ended-counts, ended-then}
use Rattle.control_endpoint.proofs.SubmissionLaws.{submits-refused, submits-accepted, place-free, dropped-held, info_of, walk-records_of, length-dropped}
use Rattle.control_submission.proofs.submit_trb.Goals.{After-ask_submission-answer, After-places_dropped-dropped, Joined-restarts, then-restarts, else-restarts, then-is_held, else-is_held}
use Rattle.control_submission.proofs.submit_trb.Goals as goal

-- ---- The questions

numbered-by : (k : After-ask_submission-answer) → let s = k.args in
    number_of k.ask_submission-answer.result
    ≡ first_no (submission_questions (length s.log.now) (length s.collect.now) (facts_of s.block) k.trb_outcome-outcome.result s.t (regions_of (seen s.memory.now)))
numbered-by k =
    let s = k.args in
    let b = s.block in
    (rw k.facts_of-facts.ensures at k.ask_submission-answer.ensures s.t k.data_of-data.ensures)
    ∙ ap (λ (rs : Regions). first_no (submission_questions (length s.log.now) (length s.collect.now) (facts_of b) k.trb_outcome-outcome.result s.t rs)) k.regions-regions.ensures

numbered : (k : After-ask_submission-answer) → let s = k.args in
    number_of k.ask_submission-answer.result ≡ first_no (questions_of (length s.log.now) (length s.collect.now) s.block s.t (regions_of (seen s.memory.now)))
numbered k =
    let s = k.args in
    numbered-by k
    ∙ ap (λ (o : Outcome). first_no (submission_questions (length s.log.now) (length s.collect.now) (facts_of s.block) o s.t (regions_of (seen s.memory.now)))) k.trb_outcome-outcome.ensures

pass : (k : After-ask_submission-answer) → k.ask_submission-answer.result ≡ Ok tt → let s = k.args in
    Passed (length s.log.now) (length s.collect.now) (facts_of s.block) k.trb_outcome-outcome.result s.t
pass k told =
    let s = k.args in
    passed (facts_of s.block) k.trb_outcome-outcome.result s.t (regions_of (seen s.memory.now)) (length s.log.now) (length s.collect.now) (sym (numbered-by k) ∙ ap number_of told)

-- ---- The places that are dropped

dropped-by : (f : After-places_dropped-dropped) → f.places_dropped-dropped.result ≡ places_dropped (restarts f.trb_outcome-outcome.result) f.args.block.held
dropped-by f = f.places_dropped-dropped.ensures ∙ ap (λ (r : Bool). places_dropped r f.args.block.held) f.is_restart-restarts.ensures

-- the first d TRBs are dropped
module _ (b : ControlBlock) (t : TransferTrb) (l₀ collect : List ℕ) (o : Outcome) (d : ℕ) (p : Passed (length l₀) (length collect) (facts_of b) o t) (drops : d ≡ places_dropped (restarts o) b.held) where
  dropped-few : d ≤ b.held
  dropped-few = omega (arith, drops, dropped-held (restarts o) b.held)

  dropped-places : d ≤ max_held
  dropped-places = omega (arith, dropped-few, p.held)

  dropped-room : record_length * (2 * d) ≤ length l₀
  dropped-room = omega (arith, dropped-few, p.held, p.log-long)

  left : (restart : Bool) → (cond restart (emptied b) b).held ≡ b.held - places_dropped restart b.held
  left true = omega arith
  left false = omega arith

  -- a TRB that is held has a place
  free : holds o ≡ true → (dropped_before o b).held < max_held
  free hold = omega (arith, left (restarts o), place-free o b.held p.room hold)

  module _ (l : List ℕ) (w : TdProgress) (m : Meets (walk (next_trb (ReportBadTrb 0) (info_of b)) never at_start (take d b.trbs)) 0 l₀ w l) where
    -- one record for each TRB dropped at most
    total : record_length * (w.records + 1) ≤ length l₀
    total = omega (arith, ended-counts (ReportBadTrb 0) (info_of b) (take d b.trbs) l₀ l w m, length-dropped b o d drops, p.held, p.log-long)

    -- what was logged
    logged : (k : ℕ) (l' : List ℕ) → Meets (counted w.records (requests_of o b.transfer.request b.endpoint_id b.slot_id)) w.records l k l' → Put l₀ 0 (records_of o b) l' × (k ≡ length (records_of o b))
    logged k l' n =
        let room : record_length * w.records ≤ length l₀ = omega (arith, total) in
        subst (λ (rs : List Record). Put l₀ 0 rs l' × (k ≡ length rs)) (walk-records_of b o d drops)
        (ended-then (ReportBadTrb 0) (info_of b) (take d b.trbs) l₀ l w m (requests_of o b.transfer.request b.endpoint_id b.slot_id) k l' room n)

-- ---- The block

-- the answer, the records and the block that a TRB leaves, where it was held if it is taken
submitted-as : (b : ControlBlock) (t : TransferTrb) (o : Outcome) (answer : Answer) (n : ℕ) (w : ControlTransfer) (state : ControlSubmissionState) (x : ControlBlock) → answer ≡ Ok tt
    → n ≡ length (records_of o b) → w ≡ transfer_after o t.variant t.addr b.transfer → state ≡ state_after o t.addr → x ≡ held_after o (dropped_before o b) t
    → ◌≡◌ {A = Submitted} (record { answer = answer; records = n; block = advanced x w state }) (accepted o b t).state
unfolding accepted block_after
submitted-as b t o answer n w state x accepts count at now places =
    rw (accepts, count, at, now)
    (ap (λ (y : ControlBlock). record { answer = Ok tt; records = length (records_of o b); block = advanced y (transfer_after o t.variant t.addr b.transfer) (state_after o t.addr) }) places)

-- where a transfer starts anew, nothing is held any more
emptied-first : (j : Joined-restarts) → j.if-restarts.block ≡ dropped_before j.trb_outcome-outcome.result j.args.block
emptied-first j =
    let b = j.args.block in
    let told = j.is_restart-restarts.ensures in
    elim j.if-restarts.branch [
      | then-restarts w ↦ w.block-is ∙ w.empty.ensures ∙ ap (λ (restart : Bool). cond restart (emptied b) b) (sym (sym told ∙ w.if-restarts.true))
      | else-restarts w ↦ w.block-is ∙ ap (λ (restart : Bool). cond restart (emptied b) b) (sym (sym told ∙ w.if-restarts.false))
    ]

-- ---- The goals

pub shared_ref_as_front-ended : goal.shared_ref_as_front-ended
shared_ref_as_front-ended c =
    let s = c.args in
    let g = goal.at.shared_ref_as_front-ended c in
    omega (arith, dropped-places s.block s.t s.log.now s.collect.now c.trb_outcome-outcome.result c.places_dropped-dropped.result (pass g.After-ask_submission-answer c.in-Ok.is) (dropped-by g.After-places_dropped-dropped))

pub end_held-progress-requires : goal.end_held-progress-requires
end_held-progress-requires c =
    let s = c.args in
    let g = goal.at.end_held-progress-requires c in
    let room = dropped-room s.block s.t s.log.now s.collect.now c.trb_outcome-outcome.result c.places_dropped-dropped.result (pass g.After-ask_submission-answer c.in-Ok.is) (dropped-by g.After-places_dropped-dropped) in
    omega (arith, room, length-take c.places_dropped-dropped.result s.block.trbs)

pub log_request-records-requires : goal.log_request-records-requires
log_request-records-requires c =
    let s = c.args in
    let g = goal.at.log_request-records-requires c in
    let e = c.end_held-progress in
    let room = total s.block s.t s.log.now s.collect.now c.trb_outcome-outcome.result c.places_dropped-dropped.result (pass g.After-ask_submission-answer c.in-Ok.is) (dropped-by g.After-places_dropped-dropped) e.new.log e.result e.ensures in
    omega (arith, room, e.auto.log)

pub collect_data-requires : goal.collect_data-requires
collect_data-requires c = let p = pass (goal.at.collect_data-requires c).After-ask_submission-answer c.in-Ok.is in (p.collect-long, rw c.data_of-data.ensures p.size)

pub transfer_after-transfer-requires : goal.transfer_after-transfer-requires
transfer_after-transfer-requires c = (pass (goal.at.transfer_after-transfer-requires c).After-ask_submission-answer c.in-Ok.is).collected

pub returns-in-Err : goal.returns-in-Err
returns-in-Err c =
    let s = c.args in
    submits-refused s.block s.t (seen s.memory.now) s.log.now s.collect.now _ c.ask_submission-answer.result c.in-Err.is (numbered (goal.at.returns-in-Err c).After-ask_submission-answer)

pub store-requires : goal.store-requires
store-requires c =
    let s = c.args in
    let g = goal.at.store-requires c in
    let place = free s.block s.t s.log.now s.collect.now c.trb_outcome-outcome.result c.places_dropped-dropped.result (pass g.After-ask_submission-answer c.in-Ok.is) (dropped-by g.After-places_dropped-dropped) (sym c.is_held.ensures ∙ c.if-is_held.true) in
    omega (arith, place, ap (λ (x : ControlBlock). x.held) (emptied-first g.Joined-restarts))

pub returns-after-is_held : goal.returns-after-is_held
returns-after-is_held c =
    let s = c.args in
    let k = goal.at.returns-after-is_held c in
    let p = pass k.After-ask_submission-answer c.in-Ok.is in
    let drops = dropped-by k.After-places_dropped-dropped in
    let b = s.block in
    let o = c.trb_outcome-outcome.result in
    let e = c.end_held-progress in
    let first = emptied-first k.Joined-restarts in
    let told = sym c.is_held.ensures in
    let written = logged b s.t s.log.now s.collect.now o c.places_dropped-dropped.result p drops e.new.log e.result e.ensures c.log_request-records.result c.log_request-records.new.log c.log_request-records.ensures in
    let places : c.if-is_held.block ≡ held_after o (dropped_before o b) s.t =
    elim c.if-is_held.branch [
      | then-is_held w ↦ w.block-is ∙ w.store.ensures ∙ (λ j. cond (sym (told ∙ w.if-is_held.true) j) (stored (first j) s.t) (first j))
      | else-is_held w ↦ w.block-is ∙ (λ j. cond (sym (told ∙ w.if-is_held.false) j) (stored (first j) s.t) (first j))
    ] in
    submits-accepted b s.t (seen s.memory.now) s.log.now s.collect.now o c.trb_outcome-outcome.ensures (sym (numbered k.After-ask_submission-answer) ∙ ap number_of c.in-Ok.is) _ _ _
    (submitted-as b s.t o c.ask_submission-answer.result c.log_request-records.result c.transfer_after-transfer.result c.state_after-block.result c.if-is_held.block c.in-Ok.is written.1 c.transfer_after-transfer.ensures c.state_after-block.ensures places)
    written.0 (rw c.data_of-data.ensures at c.collect_data.ensures)
