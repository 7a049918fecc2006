-- The same of logs as bytes: the bytes kept are a log, compacting it again changes nothing, and carry-out answers and leaves the same. Assumes nothing.
use Prim.Native.Nat.{ℕ, zero, suc, ◌-◌, ◌*◌, ◌/◌, ◌%◌, ◌≤◌}
use mathlib.Core.Bool.{Bool, true, false, not, cond, true≢false}
use mathlib.Core.Path.{◌≡◌, refl, sym, ap, ◌∙◌}
use mathlib.Core.List.{List, [], ◌∷◌, map, append-nil}
use native.Mathlib.Omega.{arith}
use lib.Dec.{eqb}
use lib.ListN.{length, take, drop, length-append}
use lib.Seq.{take_at, drop_at}
use borrow.Author.Tests.{eq-eqb, eqb-true}
use Rattle.trb.specs.Answers.{is_accepted, refusal_of}
use Rattle.trb.specs.Limits.{record_length}
use Rattle.trb.specs.Questions.{first_no, after_questions}
use Rattle.trb.specs.Answers.{Answer}
use Rattle.trb.proofs.AnswerLaws.{accepted-is}
use Rattle.trb.proofs.QuestionLaws.{yes-first, yes-behind}
use Rattle.trb.proofs.TestLaws.{and_left, and_right}
use Rattle.call_log.specs.declared.Record.{Record}
use Rattle.call_log.specs.Records.{decode}
use Rattle.call_log.specs.Logs.{records_in}
use Rattle.log_check.specs.WellFormed.{kind_known, kinds_known, well_formed}
use Rattle.guest_memory.specs.declared.Regions.{Regions}
use Rattle.guest_memory.specs.Regions.{share_an_address}
use Rattle.guest_memory.specs.Places.{Memory, regions_of}
use Rattle.carry_out.specs.Writes.{records_of, writes_in_range, written}
use Rattle.carry_out.specs.CarryOut.{carry_out_questions, memory_after, Carried}
use Rattle.carry_out.specs.CarryOut as carry_out
use Rattle.std.proofs.Common.{Ok, Err}
use Rattle.kept_records.specs.Rows.{rows_in, rows_of, bytes_of}
use Rattle.kept_records.specs.Compact.{joined, without_empty, join_from, join_all, compacted}
use Rattle.log_compact.specs.Compacting.{kept_bytes, padded_to, answer_of, log_after}
use Rattle.compact_laws.specs.Touching.{touch}
use Rattle.log_compact.proofs.RowLaws.{decode-take, length-rows_in}
use Rattle.compact_laws.proofs.JoinLaws.{decode-joined, length-joined}
use Rattle.compact_laws.proofs.CompactLaws.{join_from-cases, without_empty-cases, AllSized, all_sized-rows_in, all_sized-whole, all_whole-without_empty, all_whole-compacted, compacted-compacted}
use Rattle.compact_laws.proofs.CarryLaws.{SameCarried, carried-compacted}

-- ---- Rows and bytes

pub length-bytes_of : (rs : List (List ℕ)) → AllSized rs → length (bytes_of rs) ≡ record_length * length rs
length-bytes_of [] s = refl
length-bytes_of (r ∷ rs) s = length-append r (bytes_of rs) ∙ omega (arith, s.0, length-bytes_of rs s.1)

rows_in-bytes_of : (rs : List (List ℕ)) → AllSized rs → rows_in (length rs) (bytes_of rs) ≡ rs
rows_in-bytes_of [] s = refl
rows_in-bytes_of (r ∷ rs) s = rw (take_at r (bytes_of rs) record_length s.0, drop_at r (bytes_of rs) record_length s.0, rows_in-bytes_of rs s.1)

pub rows_of-bytes_of : (rs : List (List ℕ)) → AllSized rs → rows_of (bytes_of rs) ≡ rs
rows_of-bytes_of rs s =
    let count : length (bytes_of rs) / record_length ≡ length rs = omega (arith, length-bytes_of rs s) in
    ap (λ (n : ℕ). rows_in n (bytes_of rs)) count ∙ rows_in-bytes_of rs s

records_in-rows_in : (n : ℕ) (l : List ℕ) → records_in n l ≡ map decode (rows_in n l)
records_in-rows_in zero l = refl
records_in-rows_in (suc n) l = λ i. sym (decode-take l) i ∷ records_in-rows_in n (drop record_length l) i

-- what a log's rows say
pub records_of-rows_of : (l : List ℕ) → records_of l ≡ map decode (rows_of l)
records_of-rows_of l = records_in-rows_in (length l / record_length) l

pub all_sized-rows_of : (l : List ℕ) → AllSized (rows_of l)
all_sized-rows_of l = all_sized-rows_in (length l / record_length) l (omega arith)

-- ---- Known kinds stay known

kinds-without_empty : (rs : List (List ℕ)) → kinds_known (map decode rs) ≡ true → kinds_known (map decode (without_empty rs)) ≡ true
kinds-without_empty [] e = refl
kinds-without_empty (r ∷ rs) e =
    let first = and_left (kind_known (decode r).kind) (kinds_known (map decode rs)) e in
    let rest = kinds-without_empty rs (and_right (kind_known (decode r).kind) (kinds_known (map decode rs)) e) in
    without_empty-cases (λ (l : List (List ℕ)). kinds_known (map decode l) ≡ true) r rs (λ empty. rest) (λ kept. rw first rest)

kinds-join_from : (p : List ℕ) (rs : List (List ℕ)) → length p ≡ record_length → AllSized rs → kinds_known (map decode (p ∷ rs)) ≡ true
    → kinds_known (map decode (join_from p rs)) ≡ true
kinds-join_from p [] s ss e = e
kinds-join_from p (q ∷ rs) s ss e =
    let first = and_left (kind_known (decode p).kind) (kinds_known (map decode (q ∷ rs))) e in
    let rest = and_right (kind_known (decode p).kind) (kinds_known (map decode (q ∷ rs))) e in
    join_from-cases (λ (l : List (List ℕ)). kinds_known (map decode l) ≡ true) p q rs
    (λ on.
    let kind : (decode (joined p q)).kind ≡ (decode p).kind = ap (λ (r : Record). r.kind) (decode-joined p q s on) in
    kinds-join_from (joined p q) rs (length-joined p q s) ss.1
    (rw (kind, first) (and_right (kind_known (decode q).kind) (kinds_known (map decode rs)) rest)))
    (λ off. rw first (kinds-join_from q rs ss.0 ss.1 rest))

kinds-compacted : (rs : List (List ℕ)) → AllSized rs → kinds_known (map decode rs) ≡ true → kinds_known (map decode (compacted rs)) ≡ true
unfolding compacted
kinds-compacted rs s e = by (without_empty rs) (all_sized-whole (without_empty rs) (all_whole-without_empty rs s)) (kinds-without_empty rs e)
  where
    by : (rs : List (List ℕ)) → AllSized rs → kinds_known (map decode rs) ≡ true → kinds_known (map decode (join_all rs)) ≡ true
    by [] s e = refl
    by (r ∷ rs) s e = kinds-join_from r rs s.0 s.1 e

-- ---- Logs

-- the records kept, as a log
module _ (log : List ℕ) where
  pub sized : AllSized (compacted (rows_of log))
  sized = all_sized-whole (compacted (rows_of log)) (all_whole-compacted (rows_of log) (all_sized-rows_of log))

  pub rows_of-kept : rows_of (kept_bytes log) ≡ compacted (rows_of log)
  rows_of-kept = rows_of-bytes_of (compacted (rows_of log)) sized

  pub records_of-kept : records_of (kept_bytes log) ≡ map decode (compacted (rows_of log))
  records_of-kept = records_of-rows_of (kept_bytes log) ∙ ap (map decode) rows_of-kept

module _ (log : List ℕ) (ok : well_formed log ≡ true) where
  pub well_formed-kept : well_formed (kept_bytes log) ≡ true
  unfolding well_formed
  well_formed-kept =
      let whole : length (kept_bytes log) % record_length ≡ 0 = omega (arith, length-bytes_of (compacted (rows_of log)) (sized log)) in
      let known : kinds_known (records_of log) ≡ true = and_right (eqb (length log % record_length) 0) (kinds_known (records_of log)) ok in
      rw (eq-eqb (length (kept_bytes log) % record_length) 0 whole, records_of-kept log)
      (kinds-compacted (rows_of log) (all_sized-rows_of log) (rw (records_of-rows_of log) at known))

  -- what compacting leaves in the buffer begins with them
  pub take-log_after : take (record_length * length (compacted (rows_of log))) (log_after log) ≡ kept_bytes log
  unfolding first_no padded_to
  take-log_after = rw ok (take_at (kept_bytes log) _ (record_length * length (compacted (rows_of log))) (length-bytes_of (compacted (rows_of log)) (sized log)))

  again : compacted (rows_of (kept_bytes log)) ≡ compacted (rows_of log)
  again = ap compacted (rows_of-kept log) ∙ compacted-compacted (rows_of log) (all_sized-rows_of log)

  -- 02, R-9: compacting the kept records again changes nothing: the same count, and the same bytes
  pub answer_of-kept : answer_of (kept_bytes log) ≡ answer_of log
  unfolding first_no
  answer_of-kept = rw (well_formed-kept, ok, again)

  pub log_after-kept : log_after (kept_bytes log) ≡ kept_bytes log
  unfolding first_no padded_to
  log_after-kept =
      let full : length (kept_bytes log) - record_length * length (compacted (rows_of log)) ≡ 0 = omega (arith, length-bytes_of (compacted (rows_of log)) (sized log)) in
      rw (well_formed-kept, again, full, append-nil)

-- ---- Carry-out

-- an accepted carry-out has answered its questions with yes
module _ (log : List ℕ) (n : ℕ) (regions : Regions) (accepted : carry_out.answer_of log n regions ≡ Ok tt) where
  none : first_no (carry_out_questions log n regions) ≡ 0
  none = by (eqb (first_no (carry_out_questions log n regions)) 0) refl accepted
    where
      by : (t : Bool) → eqb (first_no (carry_out_questions log n regions)) 0 ≡ t
          → cond t (Ok (tt {0})) (Err (refusal_of (first_no (carry_out_questions log n regions)))) ≡ Ok (tt {0}) → first_no (carry_out_questions log n regions) ≡ 0
      by true e a = eqb-true (first_no (carry_out_questions log n regions)) 0 e
      by false e a = absurd (true≢false (sym (ap is_accepted a)))

  abbrev from-range : List (Bool × ℕ)
  from-range = (writes_in_range n regions (records_of log), 11) ∷ []

  formed : first_no ((well_formed log, 10) ∷ from-range) ≡ 0
  formed = yes-behind (not (share_an_address regions)) 12 ((well_formed log, 10) ∷ from-range) none

  pub accepted-apart : share_an_address regions ≡ false
  accepted-apart = not_yes (share_an_address regions) (yes-first (not (share_an_address regions)) 12 ((well_formed log, 10) ∷ from-range) none)
    where
      not_yes : (t : Bool) → not t ≡ true → t ≡ false
      not_yes true e = sym e
      not_yes false e = refl

  pub accepted-formed : well_formed log ≡ true
  accepted-formed = yes-first (well_formed log) 9 from-range formed

  pub accepted-in_range : writes_in_range n regions (records_of log) ≡ true
  accepted-in_range = yes-first (writes_in_range n regions (records_of log)) 10 [] (yes-behind (well_formed log) 9 from-range formed)

-- 02, R-9: carrying out the result leaves memory as the original does, whenever the original is accepted and the regions do not touch
module _ (log bytes : List ℕ) (m : Memory) (off : touch (regions_of m) ≡ false) (accepted : carry_out.answer_of log (length bytes) (regions_of m) ≡ Ok tt) where
  apart : share_an_address (regions_of m) ≡ false
  apart = accepted-apart log (length bytes) (regions_of m) accepted

  same : SameCarried bytes m (rows_of log) (compacted (rows_of log))
  same =
      carried-compacted bytes m (rows_of log) apart off (all_sized-rows_of log)
      (rw (records_of-rows_of log) at (accepted-in_range log (length bytes) (regions_of m) accepted))

  pub carry_out-kept : carry_out.answer_of (kept_bytes log) (length bytes) (regions_of m) ≡ Ok tt
  unfolding first_no
  carry_out-kept = rw (apart, well_formed-kept log (accepted-formed log (length bytes) (regions_of m) accepted), records_of-kept log, same.in_range)

  pub memory_after-kept : memory_after (Ok tt) (kept_bytes log) bytes m ≡ memory_after (Ok tt) log bytes m
  memory_after-kept = ap (written bytes m) (records_of-kept log) ∙ same.same ∙ ap (written bytes m) (sym (records_of-rows_of log))

-- of two calls of carry_out, with a log and with what is kept of it
pub carried-kept : {log bytes : List ℕ} {m : Memory} {r r' : Answer} {after after' : Memory} → touch (regions_of m) ≡ false → Carried log bytes m r after
    → is_accepted r ≡ true → Carried (kept_bytes log) bytes m r' after' → (r' ≡ Ok tt) × (after' ≡ after)
carried-kept {log} {bytes} {m} {r} {r'} {after} {after'} off h accepts k =
    let taken : r ≡ Ok tt = accepted-is r accepts in
    let accepted : carry_out.answer_of log (length bytes) (regions_of m) ≡ Ok tt = sym h.answer ∙ taken in
    let kept : r' ≡ Ok tt = k.answer ∙ carry_out-kept log bytes m off accepted in (
      kept,
      k.after ∙ ap (λ (a : Answer). memory_after a (kept_bytes log) bytes m) kept ∙ memory_after-kept log bytes m off accepted
          ∙ sym (h.after ∙ ap (λ (a : Answer). memory_after a log bytes m) taken),
    )

-- ---- No more rows than there were

length-without_empty : (rs : List (List ℕ)) → length (without_empty rs) ≤ length rs
length-without_empty [] = omega arith
length-without_empty (r ∷ rs) =
    let rest = length-without_empty rs in
    without_empty-cases (λ (l : List (List ℕ)). length l ≤ length (r ∷ rs)) r rs (λ empty. omega arith) (λ kept. omega arith)

length-join_from : (p : List ℕ) (rs : List (List ℕ)) → length (join_from p rs) ≤ suc (length rs)
length-join_from p [] = omega arith
length-join_from p (q ∷ rs) =
    join_from-cases (λ (l : List (List ℕ)). length l ≤ suc (length (q ∷ rs))) p q rs
    (λ on. omega (arith, length-join_from (joined p q) rs))
    (λ off. omega (arith, length-join_from q rs))

pub length-compacted : (rs : List (List ℕ)) → length (compacted rs) ≤ length rs
unfolding compacted
length-compacted rs = omega (arith, by (without_empty rs), length-without_empty rs)
  where
    by : (rs : List (List ℕ)) → length (join_all rs) ≤ length rs
    by [] = omega arith
    by (r ∷ rs) = length-join_from r rs

-- the rows kept lie in the buffer
pub answer_of-fits : (log : List ℕ) (n : ℕ) → Ok n ≡ answer_of log → record_length * n ≤ length log
unfolding first_no
answer_of-fits log n e = by (well_formed log) e
  where
    by : (t : Bool) → Ok n ≡ after_questions ((t, 10) ∷ []) (λ k. Err (refusal_of k)) (Ok (length (compacted (rows_of log)))) → record_length * n ≤ length log
    by true e =
        let count : n ≡ length (compacted (rows_of log)) = cc in
        omega (arith, length-compacted (rows_of log), length-rows_in (length log / record_length) log)
    by false e = let z : ◌≡◌ {A = ℕ} 0 1 = cc in omega arith
