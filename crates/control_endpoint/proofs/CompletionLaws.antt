-- Laws of completion: what it comes to by the number of its answer, the places behind it, and that it logs at most 1,024 records.
-- Assumes nothing.
use Rattle.std.specs.Prelude.{Err, Ok, Option}
use Prim.Native.Nat.{ℕ, zero, suc, ◌+◌, ◌-◌, ◌≤◌}
use mathlib.Core.Path.{◌≡◌, refl, sym, ap, ◌∙◌}
use mathlib.Core.Bool.{Bool, cond}
use mathlib.Core.List.{List, ◌++◌}
use native.Mathlib.Omega.{arith}
use lib.Dec.{eqb, lit≤}
use borrow.Author.Tests.{ne_eqb}
use lib.ListN.{length, take, length-append, length-take}
use Rattle.trb.specs.Answers.{number_of, said}
use Rattle.trb.specs.Limits.{max_held, max_records}
use Rattle.trb.specs.Questions.{first_no}
use Rattle.trb.specs.Refusals.{refusal_number}
use Rattle.trb.proofs.AnswerLaws.{refusal_of-number, answered-yes, answered-no}
use Rattle.trb.specs.declared.ControlRequestProcessingResult.{ControlRequestProcessingResult}
use Rattle.trb.specs.declared.ControlTransferState.{ControlTransferState}
use Rattle.trb.specs.declared.ControlSubmissionState.TheVariants.{NoTrbSubmitted}
use Rattle.trb.specs.declared.Refusal.{Refusal}
use Rattle.trb.specs.declared.TransferTrb.{TransferTrb}
use Rattle.trb.specs.declared.TrbProcessingResult.{TrbProcessingResult}
use Rattle.call_log.specs.declared.Record.{Record}
use Rattle.call_log.specs.Calls.{Put, Meets}
use Rattle.call_log.proofs.CallLaws.{meets, meets-silent}
use Rattle.held.specs.Places.{cleared}
use Rattle.td_part.specs.declared.TdInfo.{TdInfo}
use Rattle.td_part.specs.Parts.{at_start}
use Rattle.walks.specs.Walk.{walk}
use Rattle.control_block.specs.declared.ControlBlock.{ControlBlock}
use Rattle.control_block.specs.declared.Ending.{Ending}
use Rattle.control_block.specs.declared.Ending.TheVariants.{KeepCollecting, ReportBadTrb, Fail, Realize}
use Rattle.control_block.specs.Blocks.{block_of, at_phase, changed, held_of, advanced}
use Rattle.control_block.specs.Endings.{ending_of, result_of, places_freed, phase_behind}
use Rattle.control_block.specs.Facts.{facts_of}
use Rattle.control_block.specs.Stages.{error_address}
use Rattle.control_chain.specs.Chain.{never}
use Rattle.control_chain.specs.Endings.{ending_records, info_of, next_trb, last_records}
use Rattle.control_chain.proofs.EndingLaws.{walk-ending, length-ending}
use Rattle.control_questions.specs.Completion.{completion_questions}
use Rattle.control_questions.proofs.CompletionLaws.{passed}
use Rattle.control_endpoint.specs.Completion.{held_behind, block_behind, refused, accepted, completion, Completes}
use Rattle.control_endpoint.specs.Returned.{Completed}
use Rattle.control_endpoint.proofs.FreeingLaws.{freed-none, freed-all}

-- ---- What the call comes to

module _ (b : ControlBlock) (d : Option ControlRequestProcessingResult) (n : ℕ) (l : List ℕ) where
  abbrev questions : List (Bool × ℕ)
  questions = completion_questions (length l) (facts_of b) d n

  completes-by : (r : Completed) (l' : List ℕ) → number_of r.answer ≡ first_no questions → Meets (completion (length l) b d n) 0 l r l' → Completes b d n l r l'
  completes-by r l' numbered m = record { number = numbered; met = m; result = ap (λ (x : Completed). said x.answer) m.state }

  pub completes-refused : (q : Refusal) → refusal_number q ≡ first_no questions → Completes b d n l (record { answer = Err q; records = 0; block = b }) l
  unfolding completion
  completes-refused q numbered =
      completes-by _ l numbered
      (meets (answered-no questions (refused b) (accepted (ending_of b.state d n) b) (Err q) numbered refl) (meets-silent 0 l (rw (refusal_of-number q))))

  pub completes-accepted : (x : Ending) → x ≡ ending_of b.state d n → first_no questions ≡ 0 → (r : Completed) (l' : List ℕ) → r ≡ (accepted x b).state
      → Put l 0 (ending_records x (error_address b) b.endpoint_id b.slot_id (held_of b)) l' → Completes b d n l r l'
  unfolding completion accepted
  completes-accepted x ends none r l' e p =
      completes-by r l' (ap (λ (y : Completed). number_of y.answer) e ∙ sym none)
      (meets (answered-yes questions (refused b) (accepted (ending_of b.state d n) b) (Ok tt) (sym none) refl ∙ ap (λ (y : Ending). accepted y b) (sym ends)) (record { state = e; log = p.log; fits = p.fits }))

-- ---- The places

module _ (b : ControlBlock) where
  freed-block : (x : Ending) → held_behind x b ≡ changed b b.transfer b.state (b.held - places_freed x b.held) (cleared (places_freed x b.held) b.trbs)
  freed-block KeepCollecting = freed-none b
  freed-block (ReportBadTrb a) = freed-all b
  freed-block (Fail c r) = freed-all b
  freed-block (Realize given) = freed-all b

  -- the answer, the records and the block that a completion leaves
  pub completed-by : (x : Ending) (result : TrbProcessingResult) (n : ℕ) (phase : ControlTransferState) (freed : ℕ) (ts : List TransferTrb) → result ≡ result_of x
      → n ≡ length (ending_records x (error_address b) b.endpoint_id b.slot_id (held_of b)) → phase ≡ phase_behind b.state b.transfer.phase → freed ≡ places_freed x b.held
      → ts ≡ cleared freed b.trbs
      → ◌≡◌ {A = Completed} (record { answer = Ok result; records = n; block = block_of b.endpoint_id b.slot_id b.release (at_phase phase b.transfer) NoTrbSubmitted (b.held - freed) ts })
      (accepted x b).state
  unfolding accepted block_behind
  completed-by x result n phase freed ts end count at frees blank =
      rw (end, count, at, blank, frees)
      (ap (λ (y : ControlBlock). record {
        answer = Ok (result_of x);
        records = length (ending_records x (error_address b) b.endpoint_id b.slot_id (held_of b));
        block = advanced y (at_phase (phase_behind b.state b.transfer.phase) b.transfer) NoTrbSubmitted;
      }) (sym (freed-block x)))

-- ---- The records

-- the first d TRBs have their turn
module _ (b : ControlBlock) (x : Ending) (td : TdInfo) (d : ℕ) (own : td ≡ info_of x b.endpoint_id b.slot_id) (frees : d ≡ places_freed x b.held) where
  abbrev freed_records : List Record
  freed_records = (walk (next_trb x td) never at_start (take d b.trbs)).records

  -- their records, and the event behind them
  pub walk-ending_records : freed_records ++ last_records x (error_address b) b.endpoint_id b.slot_id ≡ ending_records x (error_address b) b.endpoint_id b.slot_id (held_of b)
  walk-ending_records = rw (own, frees) (walk-ending (error_address b) b.endpoint_id b.slot_id b.trbs b.held x)

  pub length-freed : b.held ≤ max_held → length freed_records + length (last_records x (error_address b) b.endpoint_id b.slot_id) ≤ max_records
  length-freed few =
      omega (
        arith,
        length-append freed_records (last_records x (error_address b) b.endpoint_id b.slot_id),
        ap length walk-ending_records,
        length-ending (error_address b) b.endpoint_id b.slot_id (held_of b) (omega (arith, few, length-take b.held b.trbs)) x,
      )

-- 01, The log: a call writes at most 1,024 records
pub length-completion : (log : ℕ) (b : ControlBlock) (d : Option ControlRequestProcessingResult) (n : ℕ) → length (completion log b d n).records ≤ max_records
unfolding completion accepted
length-completion log b d n = by (first_no (completion_questions log (facts_of b) d n)) refl
  where
    x : Ending
    x = ending_of b.state d n

    by : (m : ℕ) → first_no (completion_questions log (facts_of b) d n) ≡ m → length (cond (eqb m 0) (accepted x b) (refused b m)).records ≤ max_records
    by zero none =
        let few = (passed (facts_of b) d n log none).held in
        length-ending (error_address b) b.endpoint_id b.slot_id (held_of b) (omega (arith, few, length-take b.held b.trbs)) x
    by (suc m) no-to = rw (ne_eqb (suc m) 0 (λ z. omega arith)) (lit≤ tt)
