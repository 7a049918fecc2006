-- The promise of `complete_tds_and_carry_out`, over the contracts of `complete_tds` and `carry_out`: a no logs nothing, so nothing is written; behind a yes to every
-- question carry-out accepts the row's log, and each TD's frame is delivered whole. Assumes nothing.
use Rattle.std.specs.Prelude.{Err, Ok}
use Prim.Native.Nat.{ℕ, ◌*◌, ◌≤◌}
use mathlib.Core.Bool.{Bool, true, false, cond, true≢false}
use mathlib.Core.Path.{◌≡◌, refl, sym, ap, ◌∙◌, subst}
use mathlib.Core.List.{List, []}
use native.Mathlib.Nat.{zero-add}
use native.Mathlib.Omega.{arith}
use lib.Dec.{eqb}
use borrow.Author.Tests.{eqb-true}
use lib.ListN.{length, take, length-take}
use Rattle.trb.specs.Answers.{number_of}
use Rattle.trb.specs.Limits.{record_length}
use Rattle.trb.specs.Questions.{first_no}
use Rattle.trb.specs.Answers.{Answer, CompletionAnswer}
use Rattle.trb.specs.declared.TransferTrb.{TransferTrb}
use Rattle.call_log.specs.Calls.{Out}
use Rattle.call_log.specs.Logs.{encode_all}
use Rattle.call_log.specs.declared.Record.{Record}
use Rattle.call_log.proofs.LogLaws.{length-encode_all}
use Rattle.guest_memory.specs.Places.{Memory, regions_of}
use Rattle.carry_out.specs.Writes.{written}
use Rattle.carry_out.specs.CarryOut.{memory_after, Carried}
use Rattle.carry_out.proofs.CarryOutLaws.{take-logged}
use Rattle.in_block.specs.Facts.{facts_of}
use Rattle.in_block.specs.declared.InBlock.{InBlock}
use Rattle.in_endpoint.specs.Completion.{is_accepted}
use Rattle.row_walk.specs.Accounts.{started_logs, joined, started_by}
use Rattle.row_walk.specs.Rows.{RowTd, row_tds, unstarted, process_row}
use Rattle.row_walk.specs.Tds.{tds_of}
use Rattle.row_walk.specs.declared.RowProgress.{RowProgress}
use Rattle.row_walk.specs.declared.TdResult.{TdResult}
use Rattle.row_walk.proofs.AccountLaws.{row-logs, row-started, row_counts}
use Rattle.row_questions.specs.Questions.{row_questions}
use Rattle.row_questions.proofs.QuestionLaws.{PassedRow, passed-row}
use Rattle.in_row.specs.Completion.{refused, walked, row_completion, result_of, CompletesTds}
use Rattle.in_row.specs.declared.TdsCompleted.{TdsCompleted}
use Rattle.row_delivery.specs.Frames.{RowDelivered}
use Rattle.row_delivery.specs.Completing.{DeliversTds}
use Rattle.row_delivery.proofs.TdLaws.{tds-in-regions, given-few}
use Rattle.row_delivery.proofs.RowLaws.{started-delivered}

-- a call that was accepted has the number 0
accepted-number : (a : CompletionAnswer) → is_accepted a ≡ true → number_of a ≡ 0
accepted-number (Ok r) h = refl
accepted-number (Err q) h = absurd (true≢false (sym h))

module _ (b : InBlock) (k : ℕ) (ts : List TransferTrb) (n : ℕ) (rs : List TdResult) (bytes l : List ℕ) (m : Memory) (r : TdsCompleted) (l' : List ℕ)
    (h : CompletesTds b k ts n rs (length bytes) (regions_of m) l r l') where
  abbrev called : Out TdsCompleted
  called = row_completion (length l) b k ts n rs (length bytes) (regions_of m)

  abbrev questions : List (Bool × ℕ)
  questions = row_questions (length l) (regions_of m) (facts_of b) k ts n rs (length bytes)

  abbrev row : Out RowProgress
  row = process_row b.endpoint_id b.slot_id b.mode ts rs

  row-records : row.state.records ≡ length row.records
  row-records = row_counts b.endpoint_id b.slot_id b.mode unstarted (row_tds ts rs) ∙ zero-add (length row.records)

  -- where every question was answered with yes, the row is walked
  done : first_no questions ≡ 0 → called ≡ walked b row
  unfolding row_completion
  done none = rw none

  -- a call counts its records
  called-counts : called.state.records ≡ length called.records
  unfolding row_completion
  called-counts = by_answer (eqb (first_no questions) 0)
    where
      by_answer : (t : Bool) → (cond t (walked b row) (refused b (first_no questions))).state.records ≡ length (cond t (walked b row) (refused b (first_no questions))).records
      by_answer true = row-records
      by_answer false = refl

  count : r.records ≡ length called.records
  count = ap (λ (c : TdsCompleted). c.records) h.met.state ∙ called-counts

  -- its bytes are those of its records
  stored : take (record_length * r.records) l' ≡ encode_all called.records
  stored = rw (count, h.met.log) (take-logged l called.records)

  -- ---- Accepted

  module _ (accepts : is_accepted r.answer ≡ true) where
    none : first_no questions ≡ 0
    none = sym h.number ∙ accepted-number r.answer accepts

    known : PassedRow (length l) (regions_of m) (facts_of b) k ts n rs (length bytes)
    known = passed-row (length l) (regions_of m) (facts_of b) k ts n rs (length bytes) none

    abbrev xs : List RowTd
    xs = row_tds ts rs

    abbrev logs : List (List Record)
    logs = started_logs b.endpoint_id b.slot_id b.mode 0 xs

    recorded : called.records ≡ joined logs
    recorded = ap (λ (o : Out TdsCompleted). o.records) (done none) ∙ row-logs b.endpoint_id b.slot_id b.mode unstarted xs refl

    started : length logs ≡ started_by r.finished (result_of r.answer)
    started =
        sym (zero-add (length logs))
        ∙ sym (row-started b.endpoint_id b.slot_id b.mode unstarted xs refl)
        ∙ ap (λ (c : TdsCompleted). started_by c.finished (result_of c.answer)) (sym (h.met.state ∙ ap (λ (o : Out TdsCompleted). o.state) (done none)))

    -- the row's log, carried out
    pub no-torn-frame-in-row : RowDelivered bytes m xs (started_by r.finished (result_of r.answer)) (take (record_length * r.records) l') (written bytes m called.records)
    no-torn-frame-in-row =
        rw (stored, recorded)
        (subst (λ (j : ℕ). RowDelivered bytes m xs j (encode_all (joined logs)) (written bytes m (joined logs))) started
        (started-delivered bytes m b.endpoint_id b.slot_id b.mode xs known.apart (rw recorded at h.met.fits)
        (omega (arith, given-few (tds_of ts) rs, known.sum)) (tds-in-regions (regions_of m) ts rs known.trbs known.kinds)))

  -- ---- Carried out

  module _ (a : Answer) (m' : Memory) (carried : Carried (take (record_length * r.records) l') bytes m a m') where
    -- a no has no records
    carried-no : called.records ≡ [] → m' ≡ written bytes m called.records
    unfolding encode_all
    carried-no empty = carried.after ∙ ap (λ (log : List ℕ). memory_after a log bytes m) (stored ∙ ap encode_all empty) ∙ unchanged a ∙ ap (written bytes m) (sym empty)
      where
        unchanged : (a : Answer) → memory_after a (encode_all []) bytes m ≡ m
        unchanged (Ok tt) = refl
        unchanged (Err q) = refl

    carried-yes : is_accepted r.answer ≡ true → m' ≡ written bytes m called.records
    carried-yes accepts =
        let whole = (no-torn-frame-in-row accepts).at_end in
        carried.after ∙ ap (λ (x : Answer). memory_after x (take (record_length * r.records) l') bytes m) (carried.answer ∙ sym whole.answer) ∙ sym whole.after

    refused_none : is_accepted r.answer ≡ false → called.records ≡ []
    unfolding row_completion
    refused_none refuses = by_answer (eqb (first_no questions) 0) refl
      where
        by_answer : (t : Bool) → eqb (first_no questions) 0 ≡ t → called.records ≡ []
        by_answer true e =
            let all : called ≡ walked b row = done (eqb-true (first_no questions) 0 e) in
            absurd (true≢false (sym (ap (λ (c : TdsCompleted). is_accepted c.answer) (h.met.state ∙ ap (λ (o : Out TdsCompleted). o.state) all)) ∙ refuses))
        by_answer false e = rw e

    after : m' ≡ written bytes m called.records
    after = by_answer (is_accepted r.answer) refl
      where
        by_answer : (t : Bool) → is_accepted r.answer ≡ t → m' ≡ written bytes m called.records
        by_answer true e = carried-yes e
        by_answer false e = carried-no (refused_none e)

    pub delivers-tds : DeliversTds b k ts n rs bytes l m r l' m'
    delivers-tds = record {
      completes = h;
      memory = after;
      whole = λ accepts. rw after (no-torn-frame-in-row accepts);
    }
