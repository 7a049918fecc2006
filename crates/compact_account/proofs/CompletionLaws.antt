-- 02, R-9: demand 3 of a completion's log, compacted. The log of a completion is its records, in the first bytes of the log that was lent. Assumes nothing.
use Rattle.std.specs.Prelude.{Option}
use Prim.Native.Nat.{ℕ, ◌*◌}
use mathlib.Core.Bool.{Bool, true, false, cond}
use mathlib.Core.Path.{◌≡◌, refl, ap, subst, ◌∙◌}
use mathlib.Core.List.{List}
use native.Mathlib.Omega.{arith}
use lib.Dec.{eqb}
use lib.ListN.{length, take}
use Rattle.trb.specs.Limits.{record_length}
use Rattle.trb.specs.Questions.{first_no}
use Rattle.trb.specs.declared.InTrbProcessingStatus.{InTrbProcessingStatus}
use Rattle.call_log.specs.Logs.{encode_all, records_in}
use Rattle.call_log.proofs.LogLaws.{records_in-logged}
use Rattle.carry_out.specs.Writes.{records_of}
use Rattle.carry_out.proofs.CarryOutLaws.{take-logged, records_of-encode_all}
use Rattle.account.specs.Guest.{Account}
use Rattle.in_block.specs.Blocks.{held_of}
use Rattle.in_block.specs.Facts.{facts_of}
use Rattle.in_block.specs.Outcomes.{ending_of}
use Rattle.in_block.specs.declared.InBlock.{InBlock}
use Rattle.in_questions.specs.Questions.{completion_questions}
use Rattle.in_endpoint.specs.Completion.{refused, completed_as, completion, Accounted, Completes}
use Rattle.in_endpoint.specs.Returned.{Completed}
use Rattle.in_endpoint.proofs.CompletionLaws.{completed_as-counts}
use Rattle.log_compact.specs.Compacting.{kept_bytes}
use Rattle.compact_account.proofs.AccountLaws.{account-kept}

-- a completion counts its records
counted : (l : ℕ) (b : InBlock) (s : Option InTrbProcessingStatus) (n : ℕ) → (completion l b s n).state.records ≡ length (completion l b s n).records
unfolding completion
counted l b s n = by_answer (eqb (first_no (completion_questions l (facts_of b) s n)) 0)
  where
    by_answer : (t : Bool) → (cond t (completed_as (ending_of b.state s n) b) (refused b (first_no (completion_questions l (facts_of b) s n)))).state.records
        ≡ length (cond t (completed_as (ending_of b.state s n) b) (refused b (first_no (completion_questions l (facts_of b) s n)))).records
    by_answer true = completed_as-counts (ending_of b.state s n) b
    by_answer false = refl

-- 02, R-9: the account rule's byte statement holds of compacted logs too
pub accounted-kept : (b : InBlock) (s : Option InTrbProcessingStatus) (n : ℕ) (l : List ℕ) (r : Completed) (l' : List ℕ) → Completes b s n l r l'
    → Accounted b n r.answer (records_of (kept_bytes (take (record_length * r.records) l')))
accounted-kept b s n l r l' h waits accepts distinct isp last =
    let rs = (completion (length l) b s n).records in
    let count : r.records ≡ length rs = ap (λ (c : Completed). c.records) h.met.state ∙ counted (length l) b s n in
    let stored : take (record_length * r.records) l' ≡ encode_all rs = rw (count, h.met.log) (take-logged l rs) in
    let read : records_in r.records l' ≡ rs = rw (count, h.met.log) (records_in-logged l 0 rs (omega arith) h.met.fits) in
    let told : Account n (held_of b) rs = subst (Account n (held_of b)) read (h.account waits accepts distinct isp last) in
    rw stored (account-kept n (held_of b) (encode_all rs) (rw (records_of-encode_all rs h.met.fits) told))
