-- Laws of completion: demand 3 of what the guest reads off the log. Assumes nothing.
use Rattle.std.specs.Prelude.{Err, None, Ok, Option, Some}
use Prim.Native.Nat.{ℕ}
use mathlib.Core.Path.{◌≡◌, refl, sym, ap, ◌∙◌}
use mathlib.Core.Bool.{Bool, true, false, not, cond, true≢false}
use mathlib.Core.List.{List, [], ◌∷◌}
use native.Mathlib.Nat.{zero-add}
use native.Mathlib.Omega.{arith}
use lib.Dec.{leb, eqb}
use borrow.Author.Tests.{eqb-true}
use lib.ListN.{length}
use Rattle.trb.specs.Answers.{number_of, refusal_of, is_accepted as passed, said}
use Rattle.trb.specs.Limits.{min_log, max_data}
use Rattle.trb.specs.Questions.{first_no, agree}
use Rattle.trb.specs.Answers.{Answer}
use Rattle.trb.specs.declared.InTrbProcessingStatus.{InTrbProcessingStatus}
use Rattle.trb.specs.declared.TdBasedNormalSubmissionState.{TdBasedNormalSubmissionState}
use Rattle.trb.specs.declared.TdBasedNormalSubmissionState.TheVariants.{SubmissionDue, CollectingTd, AwaitingRealTransfer, AwaitingLocalCompletion, UnsupportedTrb}
use Rattle.trb.specs.declared.TransferTrb.{TransferTrb}
use Rattle.trb.specs.declared.TrbProcessingResult.{TrbProcessingResult}
use Rattle.trb.proofs.AnswerLaws.{accepted-is, refused-is}
use Rattle.call_log.specs.Calls.{Out, Meets}
use Rattle.call_log.specs.Logs.{records_in}
use Rattle.call_log.proofs.LogLaws.{records_in-logged}
use Rattle.walks.proofs.WalkLaws.{walk-counts}
use Rattle.in_td.specs.Td.{normals, process_td, unprocessed}
use Rattle.in_td.specs.declared.InTd.{InTd}
use Rattle.in_td.proofs.TdLaws.{td_walker}
use Rattle.account.specs.Guest.{Account}
use Rattle.account.proofs.Accounted.{accounted}
use Rattle.in_block.specs.Blocks.{held_of}
use Rattle.in_block.specs.Facts.{submission_due, awaits_device, facts_of, sound_block}
use Rattle.in_block.specs.Outcomes.{ending_of}
use Rattle.in_block.specs.declared.Ending.{Ending}
use Rattle.in_block.specs.declared.Ending.TheVariants.{KeepCollecting, Transfer, ReportUnsupported}
use Rattle.in_block.specs.declared.InBlock.{InBlock}
use Rattle.in_questions.specs.Questions.{is_given, completion_questions}
use Rattle.in_questions.proofs.PassedLaws.{PassedCompletion, passed-completion}
use Rattle.in_endpoint.specs.Completion.{refused, completion_answer, transferred, completed_as, completion, is_accepted, Accounted, Completes}
use Rattle.in_endpoint.specs.Returned as call

-- a walk counts its records
pub process_td-counts : (td : InTd) (ts : List TransferTrb) → (process_td td ts).state.progress.records ≡ length (process_td td ts).records
process_td-counts td ts = walk-counts (td_walker td) (unprocessed (normals ts)) ts (record { within = omega arith }) ∙ zero-add _

pub completed_as-by : (b : InBlock) {x y : Ending} → x ≡ y → completed_as x b ≡ completed_as y b
completed_as-by b e = ap (λ (x : Ending). completed_as x b) e

-- ---- The answer

module _ (a : Answer) (r : TrbProcessingResult) where
  pub completion_answer-number : number_of (completion_answer a r) ≡ number_of a
  completion_answer-number = by_answer a
    where
      by_answer : (a : Answer) → number_of (completion_answer a r) ≡ number_of a
      by_answer (Ok tt) = refl
      by_answer (Err q) = refl

  pub completion_answer-accepted : passed a ≡ true → completion_answer a r ≡ Ok r
  completion_answer-accepted e = ap (λ (x : Answer). completion_answer x r) (accepted-is a e)

  pub completion_answer-refused : passed a ≡ false → completion_answer a r ≡ Err (refusal_of (number_of a))
  completion_answer-refused e = ap (λ (x : Answer). completion_answer x r) (sym (refused-is a e))

completed_as-number : (x : Ending) (b : InBlock) → number_of (completed_as x b).state.answer ≡ 0
unfolding transferred
completed_as-number KeepCollecting b = refl
completed_as-number (Transfer st n) b = refl
completed_as-number (ReportUnsupported a) b = refl

-- a completion counts its records
pub completed_as-counts : (x : Ending) (b : InBlock) → (completed_as x b).state.records ≡ length (completed_as x b).records
unfolding transferred
completed_as-counts KeepCollecting b = refl
completed_as-counts (Transfer st n) b = refl
completed_as-counts (ReportUnsupported a) b = refl

-- the number of a completion's answer is that of the first no
module _ (l : ℕ) (b : InBlock) (r : Option InTrbProcessingStatus) (n : ℕ) where
  abbrev number_by : (long sound due agreed short : Bool) → ℕ
  number_by long sound due agreed short = first_no ((long, 1) ∷ (sound, 2) ∷ (due, 3) ∷ (agreed, 8) ∷ (short, 9) ∷ [])

  abbrev done : Out call.Completed
  done = completed_as (ending_of b.state r n) b

  by-answers : (long sound due agreed short : Bool)
      → number_of (cond (eqb (number_by long sound due agreed short) 0) done (refused b (number_by long sound due agreed short))).state.answer ≡ number_by long sound due agreed short
  unfolding first_no refusal_of
  by-answers true true true true true = completed_as-number (ending_of b.state r n) b
  by-answers true true true true false = refl
  by-answers true true true false short = refl
  by-answers true true false agreed short = refl
  by-answers true false due agreed short = refl
  by-answers false sound due agreed short = refl

  pub completion-number : number_of (completion l b r n).state.answer ≡ first_no (completion_questions l (facts_of b) r n)
  unfolding completion completion_questions
  completion-number =
      by-answers (leb min_log l) (sound_block (facts_of b)) (not (submission_due b.state)) (agree (is_given r) (awaits_device b.state)) (leb n max_data)

-- ---- Demand 3

abbrev Passed : Out call.Completed → Bool
Passed o = is_accepted o.state.answer

-- every question of an accepted completion was answered with yes
accepted-all : (b : InBlock) (n : ℕ) (o : Out call.Completed) → Passed (cond (eqb n 0) o (refused b n)) ≡ true → n ≡ 0
accepted-all b n o e = by_number (eqb n 0) refl e
  where
    by_number : (x : Bool) → eqb n 0 ≡ x → Passed (cond x o (refused b n)) ≡ true → n ≡ 0
    by_number true k p = eqb-true n 0 k
    by_number false k p = absurd (true≢false (sym p))

pub accepted-none : (l : ℕ) (b : InBlock) (r : Option InTrbProcessingStatus) (n : ℕ) → Passed (completion l b r n) ≡ true → first_no (completion_questions l (facts_of b) r n) ≡ 0
unfolding completion
accepted-none l b r n e = accepted-all b (first_no (completion_questions l (facts_of b) r n)) (completed_as (ending_of b.state r n) b) e

-- an accepted completion is what is done once every question was answered with yes
pub accepted-completion : (l : ℕ) (b : InBlock) (r : Option InTrbProcessingStatus) (n : ℕ) → Passed (completion l b r n) ≡ true → completion l b r n ≡ completed_as (ending_of b.state r n) b
unfolding completion
accepted-completion l b r n e = rw (accepted-none l b r n e)

-- a block that awaits the device has walked its TRBs
real-walk : (b : InBlock) (x : TdBasedNormalSubmissionState) (r : Option InTrbProcessingStatus) (n : ℕ) → awaits_device x ≡ true → agree (is_given r) (awaits_device x) ≡ true
    → (P : Out call.Completed → Type 0) → ((st : InTrbProcessingStatus) → P (transferred b st n)) → P (completed_as (ending_of x r n) b)
real-walk b AwaitingRealTransfer (Some st) n d e P p = p st
real-walk b AwaitingRealTransfer None n d e P p = absurd (true≢false (sym e))
real-walk b SubmissionDue r n d e P p = absurd (true≢false (sym d))
real-walk b CollectingTd r n d e P p = absurd (true≢false (sym d))
real-walk b AwaitingLocalCompletion r n d e P p = absurd (true≢false (sym d))
real-walk b (UnsupportedTrb a) r n d e P p = absurd (true≢false (sym d))

-- what the guest is told, and how many records tell it
abbrev CountedAndAccounted : InBlock → ℕ → Out call.Completed → Type 0
CountedAndAccounted b n o = (o.state.records ≡ length o.records) × Account n (held_of b) o.records

-- what the guest reads off the log of an accepted completion is the account of what the device did
pub accounted-completion : (l l' : List ℕ) (b : InBlock) (res : Option InTrbProcessingStatus) (n : ℕ) (r : call.Completed) → Meets (completion (length l) b res n) 0 l r l'
    → Accounted b n r.answer (records_in r.records l')
unfolding completion transferred
accounted-completion l l' b res n r m waits accepts distinct isp last =
    let qs = completion_questions (length l) (facts_of b) res n in
    let o = completion (length l) b res n in
    let e : Passed o ≡ true = ap (λ (c : call.Completed). is_accepted c.answer) (sym m.state) ∙ accepts in
    let none : first_no qs ≡ 0 = accepted-none (length l) b res n e in
    let known : PassedCompletion (length l) (facts_of b) res n = passed-completion (length l) (facts_of b) res n none in
    let told : CountedAndAccounted b n o = rw none
    (real-walk b b.state res n waits known.agreed (CountedAndAccounted b n)
    (λ st. (refl, accounted b.endpoint_id b.slot_id b.mode st n (held_of b) distinct isp last))) in
    rw (m.state, m.log, told.0, records_in-logged l 0 o.records (omega arith) m.fits) told.1

-- the promise of a completion, by its number and what it came to
pub completes : (l l' : List ℕ) (b : InBlock) (res : Option InTrbProcessingStatus) (n : ℕ) (r : call.Completed) → number_of r.answer ≡ first_no (completion_questions (length l) (facts_of b) res n)
    → Meets (completion (length l) b res n) 0 l r l' → Completes b res n l r l'
completes l l' b res n r e m = record { number = e; met = m; result = ap (λ (x : call.Completed). said x.answer) m.state; account = accounted-completion l l' b res n r m }
