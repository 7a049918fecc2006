-- `control_completion::next_completion` meets its contract: the TRBs that it frees have their turn and their places are blank; one event may
-- follow. Assumes nothing.
use Rattle.std.proofs.Common.{◌≡◌, ℕ, ◌+◌, ◌*◌, ◌≤◌, List, length, take, length-take, sym, refl, ap, ◌∙◌, subst, arith, rules, Ok}
use Rattle.trb.specs.declared.ControlSubmissionState.TheVariants.{NoTrbSubmitted}
use Rattle.trb.specs.declared.ControlTransferState.{ControlTransferState}
use Rattle.trb.specs.declared.TrbProcessingResult.{TrbProcessingResult}
use Rattle.trb.specs.Answers.{number_of}
use Rattle.trb.specs.Limits.{max_held, max_records, record_length}
use Rattle.trb.specs.Questions.{first_no}
use Rattle.call_log.specs.declared.Record.{Record}
use Rattle.call_log.specs.Calls.{Put, Meets, counted}
use Rattle.td_part.specs.declared.TdInfo.{TdInfo}
use Rattle.td_part.specs.declared.TdProgress.{TdProgress}
use Rattle.td_part.specs.Parts.{at_start}
use Rattle.walks.specs.Walk.{walk}
use Rattle.control_chain.specs.Chain.{never}
use Rattle.control_block.specs.declared.ControlBlock.{ControlBlock}
use Rattle.control_block.specs.declared.Ending.{Ending}
use Rattle.control_block.specs.declared.Ending.TheVariants.{KeepCollecting, ReportBadTrb, Fail, Realize}
use Rattle.control_block.specs.Blocks.{at_phase, held_of, emptied, advanced}
use Rattle.control_block.specs.Endings.{result_of, places_freed, phase_behind}
use Rattle.control_block.specs.Facts.{facts_of}
use Rattle.control_block.specs.Stages.{error_address}
use Rattle.control_block.proofs.BlockLaws.{freed-held}
use Rattle.control_chain.specs.Endings.{next_trb, info_of, last_records, ending_records}
use Rattle.control_questions.specs.Completion.{completion_questions}
use Rattle.control_questions.proofs.CompletionLaws.{Passed, passed}
use Rattle.control_endpoint.specs.Completion.{held_behind, block_behind, accepted}
use Rattle.control_endpoint.specs.Returned.{Completed}
use Rattle.control_endpoint.proofs.FreeingLaws.{ended-counts, ended-then}
use Rattle.control_endpoint.proofs.CompletionLaws.{completes-refused, completes-accepted, walk-ending_records, length-freed}
use Rattle.control_completion.proofs.next_completion.Goals.{After-ask_completion-asked, in-KeepCollecting, in_default}
use Rattle.control_completion.proofs.next_completion.Goals as goal

-- ---- The questions

numbered : (k : After-ask_completion-asked) → let s = k.args in
    number_of k.ask_completion-asked.result ≡ first_no (completion_questions (length s.log.now) (facts_of s.block) s.res (length s.data.now))
numbered k = rw k.facts_of-facts.ensures at k.ask_completion-asked.ensures

none : (k : After-ask_completion-asked) → k.ask_completion-asked.result ≡ Ok tt → let s = k.args in
    first_no (completion_questions (length s.log.now) (facts_of s.block) s.res (length s.data.now)) ≡ 0
none k told = sym (numbered k) ∙ ap number_of told

pass : (k : After-ask_completion-asked) → k.ask_completion-asked.result ≡ Ok tt → let s = k.args in Passed (length s.log.now) (facts_of s.block) (length s.data.now)
pass k told = let s = k.args in passed (facts_of s.block) s.res (length s.data.now) (length s.log.now) (none k told)

-- ---- The places that are freed

-- the first d TRBs are freed
module _ (b : ControlBlock) (x : Ending) (info : TdInfo) (l₀ : List ℕ) (n d : ℕ) (p : Passed (length l₀) (facts_of b) n) (own : info ≡ info_of x b.endpoint_id b.slot_id) (frees : d ≡ places_freed x b.held) where
  freed-places : d ≤ max_held
  freed-places = omega (arith, frees, freed-held x b.held, p.held)

  freed-room : record_length * (2 * d) ≤ length l₀
  freed-room = omega (arith, freed-places, p.log-long)

  module _ (l : List ℕ) (w : TdProgress) (m : Meets (walk (next_trb x info) never at_start (take d b.trbs)) 0 l₀ w l) where
    -- the records of a completion fit the log
    total : w.records + length (last_records x (error_address b) b.endpoint_id b.slot_id) ≤ max_records
    total = omega (arith, ended-counts x info (take d b.trbs) l₀ l w m, length-freed b x info d own frees p.held)

    -- what was logged
    logged : (k : ℕ) (l' : List ℕ) → Meets (counted w.records (last_records x (error_address b) b.endpoint_id b.slot_id)) w.records l k l'
        → let rs = ending_records x (error_address b) b.endpoint_id b.slot_id (held_of b) in Put l₀ 0 rs l' × (k ≡ length rs)
    logged k l' n =
        let room : record_length * w.records ≤ length l₀ = omega (arith, total, p.log-long) in
        subst (λ (rs : List Record). Put l₀ 0 rs l' × (k ≡ length rs)) (walk-ending_records b x info d own frees)
        (ended-then x info (take d b.trbs) l₀ l w m (last_records x (error_address b) b.endpoint_id b.slot_id) k l' room n)

-- ---- The block

-- where the turn goes back first, and the places are freed behind it
freed-behind : (b : ControlBlock) (x : Ending) → held_behind x (advanced b (at_phase (phase_behind b.state b.transfer.phase) b.transfer) NoTrbSubmitted) ≡ block_behind x b
unfolding block_behind
freed-behind b KeepCollecting = refl
freed-behind b (ReportBadTrb a) = refl
freed-behind b (Fail c r) = refl
freed-behind b (Realize given) = refl

-- of an ending but that one
freed-else : (x : Ending) (y : ControlBlock) → (x ≡ KeepCollecting → ⊥) → held_behind x y ≡ emptied y
freed-else KeepCollecting y other = absurd (other refl)
freed-else (ReportBadTrb a) y other = refl
freed-else (Fail c r) y other = refl
freed-else (Realize given) y other = refl

-- the answer, the records and the block that a completion leaves
completed-as : (b : ControlBlock) (x : Ending) (result : TrbProcessingResult) (n : ℕ) (phase : ControlTransferState) (y : ControlBlock) → result ≡ result_of x
    → n ≡ length (ending_records x (error_address b) b.endpoint_id b.slot_id (held_of b)) → phase ≡ phase_behind b.state b.transfer.phase
    → y ≡ held_behind x (advanced b (at_phase phase b.transfer) NoTrbSubmitted)
    → ◌≡◌ {A = Completed} (record { answer = Ok result; records = n; block = y }) (accepted x b).state
unfolding accepted
completed-as b x result n phase y end count at places =
    rw (end, count, places, at, freed-behind b x) refl

-- ---- The goals

pub overflow_cast-data : goal.overflow_cast-data
overflow_cast-data c = let few = (pass (goal.at.overflow_cast-data c).After-ask_completion-asked c.in-Ok.is).data-short in search rules

pub returns-in-Err : goal.returns-in-Err
returns-in-Err c =
    let s = c.args in
    completes-refused s.block s.res (length s.data.now) s.log.now _ (ap number_of (sym c.in-Err.is) ∙ numbered (goal.at.returns-in-Err c).After-ask_completion-asked)

pub shared_ref_as_front-ended : goal.shared_ref_as_front-ended
shared_ref_as_front-ended c =
    let s = c.args in
    let p = pass (goal.at.shared_ref_as_front-ended c).After-ask_completion-asked c.in-Ok.is in
    omega (arith, freed-places s.block c.ending_of-ending.result c.info_of-info.result s.log.now (length s.data.now) c.places_freed-freed.result p c.info_of-info.ensures c.places_freed-freed.ensures)

pub end_held-progress-requires : goal.end_held-progress-requires
end_held-progress-requires c =
    let s = c.args in
    let p = pass (goal.at.end_held-progress-requires c).After-ask_completion-asked c.in-Ok.is in
    let room = freed-room s.block c.ending_of-ending.result c.info_of-info.result s.log.now (length s.data.now) c.places_freed-freed.result p c.info_of-info.ensures c.places_freed-freed.ensures in
    omega (arith, room, length-take c.places_freed-freed.result s.block.trbs)

pub log_ending-records-requires : goal.log_ending-records-requires
log_ending-records-requires c =
    let s = c.args in
    let p = pass (goal.at.log_ending-records-requires c).After-ask_completion-asked c.in-Ok.is in
    let e = c.end_held-progress in
    let few = total s.block c.ending_of-ending.result c.info_of-info.result s.log.now (length s.data.now) c.places_freed-freed.result p c.info_of-info.ensures c.places_freed-freed.ensures e.new.log e.result e.ensures in
    rw c.error_address-error_address.ensures (omega (arith, few, e.auto.log, p.log-long))

pub returns-after-ending : goal.returns-after-ending
returns-after-ending c =
    let s = c.args in
    let k = (goal.at.returns-after-ending c).After-ask_completion-asked in
    let p = pass k c.in-Ok.is in
    let b = s.block in
    let x = c.ending_of-ending.result in
    let e = c.end_held-progress in
    let written = logged b x c.info_of-info.result s.log.now (length s.data.now) c.places_freed-freed.result p c.info_of-info.ensures c.places_freed-freed.ensures e.new.log e.result e.ensures c.log_ending-records.result c.log_ending-records.new.log
    (rw c.error_address-error_address.ensures at c.log_ending-records.ensures) in
    let behind : ControlBlock = advanced b (at_phase c.phase_behind-block.result b.transfer) NoTrbSubmitted in
    let places : c.match-ending.block ≡ held_behind x behind =
    elim c.match-ending.branch [
      | in-KeepCollecting w ↦ w.block-is ∙ ap (λ (y : Ending). held_behind y behind) (sym w.in-KeepCollecting.is)
      | in_default w ↦ w.block-is ∙ w.empty.ensures ∙ sym (freed-else x behind (search rules))
    ] in
    completes-accepted b s.res (length s.data.now) s.log.now x c.ending_of-ending.ensures (none k c.in-Ok.is) _ _
    (completed-as b x c.result_of.result c.log_ending-records.result c.phase_behind-block.result c.match-ending.block c.result_of.ensures written.1 c.phase_behind-block.ensures places)
    written.0
