-- Laws of submission: what it comes to by the number of its answer, the places after it, and that it logs at most 1,024 records.
-- Assumes nothing.
use Rattle.std.specs.Prelude.{Err, Ok}
use Prim.Native.Nat.{ℕ, zero, suc, ◌+◌, ◌-◌, ◌<◌, ◌≤◌}
use mathlib.Core.Path.{◌≡◌, refl, sym, ap, ◌∙◌}
use mathlib.Core.Bool.{Bool, true, false, cond}
use mathlib.Core.List.{List, [], ◌++◌}
use native.Mathlib.Omega.{arith}
use lib.Dec.{eqb, lit≤}
use borrow.Author.Tests.{ne_eqb}
use lib.ListN.{length, take, set, length-append, length-take}
use Rattle.buffers.specs.Patch.{patch}
use Rattle.buffers.proofs.PatchLaws.{patch-none}
use Rattle.trb.specs.Answers.{number_of}
use Rattle.trb.specs.Limits.{max_held, max_records}
use Rattle.trb.specs.Questions.{first_no}
use Rattle.trb.proofs.AnswerLaws.{refusal_of-number, answered-yes, answered-no}
use Rattle.trb.specs.Answers.{Answer}
use Rattle.trb.specs.declared.ControlSubmissionState.{ControlSubmissionState}
use Rattle.trb.specs.declared.Refusal.{Refusal}
use Rattle.trb.specs.declared.TransferTrb.{TransferTrb}
use Rattle.call_log.specs.declared.Record.{Record}
use Rattle.call_log.specs.Calls.{Put}
use Rattle.call_log.proofs.CallLaws.{meets, meets-silent}
use Rattle.call_log.proofs.RecordLaws.{length-when}
use Rattle.call_log.specs.Records.{control_request}
use Rattle.held.specs.Places.{cleared}
use Rattle.td_part.specs.declared.TdInfo.{TdInfo}
use Rattle.td_part.specs.Parts.{at_start}
use Rattle.walks.specs.Walk.{walk}
use Rattle.guest_memory.specs.declared.Regions.{Regions}
use Rattle.guest_memory.specs.Places.{Memory, regions_of}
use Rattle.phase_table.specs.declared.Outcome.{Outcome}
use Rattle.phase_table.specs.Outcomes.{holds, restarts, requests, state_after}
use Rattle.phase_table.specs.Table.{trb_outcome}
use Rattle.control_block.specs.declared.ControlBlock.{ControlBlock}
use Rattle.control_block.specs.declared.ControlTransfer.{ControlTransfer}
use Rattle.control_block.specs.Blocks.{block_of, changed, held_of, stored, emptied, advanced}
use Rattle.control_block.specs.Facts.{facts_of}
use Rattle.control_chain.specs.Chain.{never}
use Rattle.control_chain.specs.Dropped.{successes, report_dropped}
use Rattle.control_chain.proofs.DroppedLaws.{length-successes, walk-dropped}
use Rattle.control_transfer.specs.Transfers.{transfer_after, requests_of, bytes_taken}
use Rattle.control_questions.specs.Submission.{has_room}
use Rattle.control_questions.proofs.SubmissionLaws.{room-held, passed}
use Rattle.control_endpoint.specs.Submission.{dropped_before, held_after, block_after, records_of, places_dropped, refused, accepted, questions_of, submission, nothing_collected, bytes_collected, Submits}
use Rattle.control_endpoint.specs.Returned.{Submitted}
use Rattle.control_endpoint.proofs.FreeingLaws.{freed-none, freed-all}

-- ---- What the call comes to

module _ (b : ControlBlock) (t : TransferTrb) (m : Memory) (l c : List ℕ) where
  abbrev questions : List (Bool × ℕ)
  questions = questions_of (length l) (length c) b t (regions_of m)

  pub submits-refused : (q : Refusal) (a : Answer) → a ≡ Err q → number_of a ≡ first_no questions → Submits b t m l c (record { answer = a; records = 0; block = b }) l c
  unfolding submission bytes_collected
  submits-refused q a no-to numbered =
      let first : number_of {A = Unit {0}} (Err q) ≡ first_no questions = ap number_of (sym no-to) ∙ numbered in
      record {
        number = numbered;
        met = meets (answered-no questions (refused b) (accepted (trb_outcome b.transfer.phase t.variant) b t) (Err q) first refl) (meets-silent 0 l (rw (no-to, refusal_of-number q)));
        collect = rw (answered-no questions nothing_collected (bytes_taken (trb_outcome b.transfer.phase t.variant) b.transfer.direction t.variant m) (Err q) first refl) (sym (patch-none c b.transfer.collected));
      }

  pub submits-accepted : (o : Outcome) → o ≡ trb_outcome b.transfer.phase t.variant → first_no questions ≡ 0 → (r : Submitted) (l' c' : List ℕ) → r ≡ (accepted o b t).state
      → Put l 0 (records_of o b) l' → c' ≡ patch c b.transfer.collected (bytes_taken o b.transfer.direction t.variant m) → Submits b t m l c r l' c'
  unfolding submission bytes_collected accepted
  submits-accepted o same none r l' c' e p collected = record {
    number = ap (λ (x : Submitted). number_of x.answer) e ∙ sym none;
    met = meets (answered-yes questions (refused b) (accepted (trb_outcome b.transfer.phase t.variant) b t) (Ok tt) (sym none) refl ∙ ap (λ (y : Outcome). accepted y b t) (sym same)) (record { state = e; log = p.log; fits = p.fits });
    collect = rw (answered-yes questions nothing_collected (bytes_taken (trb_outcome b.transfer.phase t.variant) b.transfer.direction t.variant m) (Ok tt) (sym none) refl)
        (collected ∙ ap (λ (y : Outcome). patch c b.transfer.collected (bytes_taken y b.transfer.direction t.variant m)) same);
  }

-- ---- The places

dropped-block : (b : ControlBlock) (restart : Bool)
    → cond restart (emptied b) b ≡ changed b b.transfer b.state (b.held - places_dropped restart b.held) (cleared (places_dropped restart b.held) b.trbs)
dropped-block b true = freed-all b
dropped-block b false = freed-none b

pub dropped-held : (restart : Bool) (held : ℕ) → places_dropped restart held ≤ held
dropped-held true held = omega arith
dropped-held false held = omega arith

-- a TRB that is held has a place
pub place-free : (o : Outcome) (held : ℕ) → has_room o held ≡ true → holds o ≡ true → held - places_dropped (restarts o) held < max_held
place-free o held room hold = by (restarts o) refl
  where
    by : (restart : Bool) → restarts o ≡ restart → held - places_dropped restart held < max_held
    by true e = omega arith
    by false e = omega (arith, room-held o held room hold e)

module _ (b : ControlBlock) (t : TransferTrb) (o : Outcome) where
  abbrev dropped : ℕ
  dropped = places_dropped (restarts o) b.held

  abbrev leaves : ℕ → List TransferTrb → Type 0
  leaves held ts = changed b b.transfer b.state held ts ≡ held_after o (dropped_before o b) t

  pub leaves-stored : (held : ℕ) (us ts : List TransferTrb) → holds o ≡ true → us ≡ cleared dropped b.trbs → held ≡ b.held - dropped + 1 → ts ≡ set us (b.held - dropped) t → leaves held ts
  leaves-stored held us ts hold blank more put =
      rw (hold, more, put, blank) (ap (λ (x : ControlBlock). stored x t) (sym (dropped-block b (restarts o))))

  pub leaves_kept : (held : ℕ) (us ts : List TransferTrb) → holds o ≡ false → us ≡ cleared dropped b.trbs → held ≡ b.held - dropped → ts ≡ us → leaves held ts
  leaves_kept held us ts hold blank same kept = rw (hold, same, kept, blank) (sym (dropped-block b (restarts o)))

  -- the answer, the records and the block that a TRB leaves
  pub submitted-by : (answer : Answer) (n : ℕ) (w : ControlTransfer) (state : ControlSubmissionState) (held : ℕ) (ts : List TransferTrb) → answer ≡ Ok tt → n ≡ length (records_of o b)
      → w ≡ transfer_after o t.variant t.addr b.transfer → state ≡ state_after o t.addr → leaves held ts
      → ◌≡◌ {A = Submitted} (record { answer = answer; records = n; block = block_of b.endpoint_id b.slot_id b.release w state held ts }) (accepted o b t).state
  unfolding accepted block_after
  submitted-by answer n w state held ts accepts count at now places =
      rw (accepts, count, at, now)
      (ap (λ (x : ControlBlock). record { answer = Ok tt; records = length (records_of o b); block = advanced x (transfer_after o t.variant t.addr b.transfer) (state_after o t.addr) }) places)

-- ---- The records

abbrev pub info_of : ControlBlock → TdInfo
info_of b = record { endpoint_id = b.endpoint_id; slot_id = b.slot_id; data_length = 0 }

-- the first d TRBs are dropped
module _ (b : ControlBlock) (o : Outcome) (d : ℕ) (drops : d ≡ places_dropped (restarts o) b.held) where
  abbrev dropped_records : List Record
  dropped_records = (walk (report_dropped (info_of b)) never at_start (take d b.trbs)).records

  -- their events, and the request
  pub walk-records_of : dropped_records ++ requests_of o b.transfer.request b.endpoint_id b.slot_id ≡ records_of o b
  unfolding records_of successes
  walk-records_of =
      ap (λ (rs : List Record). rs ++ requests_of o b.transfer.request b.endpoint_id b.slot_id)
      (walk-dropped (info_of b) at_start (take d b.trbs) ∙ ap (λ (n : ℕ). successes b.endpoint_id b.slot_id (take n b.trbs)) drops ∙ by (restarts o))
    where
      by : (restart : Bool)
          → successes b.endpoint_id b.slot_id (take (places_dropped restart b.held) b.trbs) ≡ cond restart (successes b.endpoint_id b.slot_id (held_of b)) []
      by true = refl
      by false = refl

  pub length-dropped : length dropped_records ≤ b.held
  length-dropped =
      omega (
        arith,
        ap length (walk-dropped (info_of b) at_start (take d b.trbs)),
        length-successes b.endpoint_id b.slot_id (take d b.trbs),
        length-take d b.trbs,
        drops,
        dropped-held (restarts o) b.held,
      )

-- 01, The log: a call writes at most 1,024 records
length-records_of : (b : ControlBlock) (o : Outcome) → b.held ≤ max_held → length (records_of o b) ≤ max_records
length-records_of b o few =
    let d : ℕ = places_dropped (restarts o) b.held in
    let rs : List Record = (walk (report_dropped (info_of b)) never at_start (take d b.trbs)).records in
    omega (
      arith,
      few,
      ap length (walk-records_of b o d refl),
      length-append rs (requests_of o b.transfer.request b.endpoint_id b.slot_id),
      length-dropped b o d refl,
      length-when (requests o) (control_request b.transfer.request b.endpoint_id b.slot_id),
    )

pub length-submission : (log collect : ℕ) (b : ControlBlock) (t : TransferTrb) (regions : Regions) → length (submission log collect b t regions).records ≤ max_records
unfolding submission accepted
length-submission log collect b t regions = by (first_no (questions_of log collect b t regions)) refl
  where
    o : Outcome
    o = trb_outcome b.transfer.phase t.variant

    by : (n : ℕ) → first_no (questions_of log collect b t regions) ≡ n → length (cond (eqb n 0) (accepted o b t) (refused b n)).records ≤ max_records
    by zero none = length-records_of b o (passed (facts_of b) o t regions log collect none).held
    by (suc n) no-to = rw (ne_eqb (suc n) 0 (λ z. omega arith)) (lit≤ tt)
