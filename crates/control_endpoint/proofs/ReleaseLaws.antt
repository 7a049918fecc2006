-- 02, R-11: what a call is under either rule. A failed transfer has one event, with the code and the result of the device's answer,
-- residual 0 and no write; only its address goes by the rule. Everything else is the same under both, and no call changes the rule.
-- Assumes nothing.
use Rattle.std.specs.Prelude.{Ok, Option}
use Prim.Native.Nat.{ℕ}
use mathlib.Core.Path.{◌≡◌, refl, sym, ap, ◌∙◌}
use mathlib.Core.Bool.{Bool, true, false, cond, true≢false}
use mathlib.Core.List.{List, [], ◌∷◌, map}
use lib.Dec.{eqb}
use lib.ListN.{length}
use Rattle.trb.specs.Ids.{ids_in_range}
use Rattle.trb.specs.Questions.{first_no}
use Rattle.trb.proofs.AnswerLaws.{answered-yes}
use Rattle.trb.specs.declared.CompletionCode.{CompletionCode}
use Rattle.trb.specs.declared.ControlRequestProcessingResult.{ControlRequestProcessingResult}
use Rattle.trb.specs.declared.ControlSubmissionState.{ControlSubmissionState}
use Rattle.trb.specs.declared.ControlSubmissionState.TheVariants.{AwaitingControlRequest}
use Rattle.trb.specs.declared.EndpointId.{EndpointId}
use Rattle.trb.specs.declared.SlotId.{SlotId}
use Rattle.trb.specs.declared.TransferTrb.{TransferTrb}
use Rattle.trb.specs.declared.TrbProcessingResult.{TrbProcessingResult}
use Rattle.call_log.specs.Calls.{Out}
use Rattle.guest_memory.specs.declared.Regions.{Regions}
use Rattle.phase_table.specs.declared.Outcome.{Outcome}
use Rattle.phase_table.specs.Outcomes.{holds, restarts, state_after}
use Rattle.phase_table.specs.Table.{trb_outcome}
use Rattle.control_block.specs.declared.ControlBlock.{ControlBlock}
use Rattle.control_block.specs.declared.Ending.{Ending}
use Rattle.control_block.specs.declared.Ending.TheVariants.{KeepCollecting, ReportBadTrb, Fail, Realize}
use Rattle.control_block.specs.declared.GuestRelease.{GuestRelease}
use Rattle.control_block.specs.Blocks.{fresh_block, held_of, stored, emptied, advanced}
use Rattle.control_block.specs.Endings.{ending_of, request_ending, result_of}
use Rattle.control_block.specs.Facts.{facts_of}
use Rattle.control_block.specs.Stages.{error_address}
use Rattle.control_chain.specs.Endings.{event_of, ending_records}
use Rattle.control_questions.specs.Completion.{completion_questions}
use Rattle.control_transfer.specs.Transfers.{transfer_after}
use Rattle.control_endpoint.specs.Completion as completes
use Rattle.control_endpoint.specs.Completion.{block_behind, completion}
use Rattle.control_endpoint.specs.Creation.{not_created, creation}
use Rattle.control_endpoint.specs.Releases.{under, without_address, submitted_under, completed_under, is_failure}
use Rattle.control_endpoint.specs.Submission as submits
use Rattle.control_endpoint.specs.Submission.{records_of, block_after, questions_of, submission}
use Rattle.control_endpoint.specs.Returned.{Completed}

-- ---- A transfer that fails

-- under either rule: the code, the residual 0 and the result of the device's answer, and no write
module _ (log : ℕ) (b : ControlBlock) (r : Option ControlRequestProcessingResult) (n : ℕ) (code : CompletionCode) (result : TrbProcessingResult) where
  module _ (awaits : b.state ≡ AwaitingControlRequest) (fails : request_ending r n ≡ Fail code result) (none : first_no (completion_questions log (facts_of b) r n) ≡ 0) where
    fails-so : completion log b r n ≡ completes.accepted (Fail code result) b
    unfolding completion
    fails-so =
        answered-yes (completion_questions log (facts_of b) r n) (completes.refused b) (completes.accepted (ending_of b.state r n) b) (Ok tt) (sym none) refl
        ∙ ap (λ (state : ControlSubmissionState). completes.accepted (ending_of state r n) b) awaits
        ∙ ap (λ (x : Ending). completes.accepted x b) fails

    pub failed-event : (completion log b r n).records ≡ event_of (error_address b) code b.endpoint_id b.slot_id ∷ []
    unfolding completes.accepted ending_records
    failed-event = ap (λ (o : Out Completed). o.records) fails-so

    pub failed-result : (completion log b r n).state.answer ≡ Ok result
    unfolding completes.accepted
    failed-result = ap (λ (o : Out Completed). o.state.answer) fails-so

-- ---- Completion

module _ (e : EndpointId) (s : SlotId) (ts : List TransferTrb) (a c : ℕ) where
  -- whatever the address of a failure
  records-besides : (x : Ending) → map without_address (ending_records x a e s ts) ≡ map without_address (ending_records x c e s ts)
  unfolding ending_records
  records-besides KeepCollecting = refl
  records-besides (ReportBadTrb bad) = refl
  records-besides (Fail code r) = refl
  records-besides (Realize given) = refl

  count_same : (x : Ending) → length (ending_records x a e s ts) ≡ length (ending_records x c e s ts)
  unfolding ending_records
  count_same KeepCollecting = refl
  count_same (ReportBadTrb bad) = refl
  count_same (Fail code r) = refl
  count_same (Realize given) = refl

  records-same : (x : Ending) → is_failure x ≡ false → ending_records x a e s ts ≡ ending_records x c e s ts
  unfolding ending_records
  records-same KeepCollecting works = refl
  records-same (ReportBadTrb bad) works = refl
  records-same (Fail code r) works = absurd (true≢false works)
  records-same (Realize given) works = refl

module _ (one other : GuestRelease) (b : ControlBlock) where
  behind-under : (x : Ending) → under other (block_behind x (under one b)) ≡ under other (block_behind x (under other b))
  unfolding block_behind
  behind-under KeepCollecting = refl
  behind-under (ReportBadTrb a) = refl
  behind-under (Fail c r) = refl
  behind-under (Realize given) = refl

  accepted-under : (x : Ending) → completed_under other (completes.accepted x (under one b)) ≡ completed_under other (completes.accepted x (under other b))
  unfolding completes.accepted
  accepted-under x =
      let e = b.endpoint_id in
      let s = b.slot_id in
      λ j. record {
        state = record {
          answer = Ok (result_of x);
          records = count_same e s (held_of b) (error_address (under one b)) (error_address (under other b)) x j;
          block = behind-under x j;
        };
        records = records-besides e s (held_of b) (error_address (under one b)) (error_address (under other b)) x j;
      }

  module _ (log : ℕ) (r : Option ControlRequestProcessingResult) (n : ℕ) where
    abbrev asked : ℕ
    asked = first_no (completion_questions log (facts_of b) r n)

    abbrev ending : Ending
    ending = ending_of b.state r n

    -- a completion under one rule and under the other: the same, but for the rule and the addresses of the records
    pub completion-under : completed_under other (completion log (under one b) r n) ≡ completed_under other (completion log (under other b) r n)
    unfolding completion
    completion-under = by (eqb asked 0)
      where
        by : (yes : Bool)
            → completed_under other (cond yes (completes.accepted ending (under one b)) (completes.refused (under one b) asked))
            ≡ completed_under other (cond yes (completes.accepted ending (under other b)) (completes.refused (under other b) asked))
        by true = accepted-under ending
        by false = refl

    -- the addresses too, where the transfer did not fail
    pub completion-records-under : is_failure ending ≡ false → (completion log (under one b) r n).records ≡ (completion log (under other b) r n).records
    unfolding completion completes.accepted
    completion-records-under works = by (eqb asked 0)
      where
        by : (yes : Bool)
            → (cond yes (completes.accepted ending (under one b)) (completes.refused (under one b) asked)).records
            ≡ (cond yes (completes.accepted ending (under other b)) (completes.refused (under other b) asked)).records
        by true = records-same b.endpoint_id b.slot_id (held_of b) (error_address (under one b)) (error_address (under other b)) ending works
        by false = refl

-- ---- Submission

module _ (one other : GuestRelease) (b : ControlBlock) (t : TransferTrb) where
  held-under : (restart hold : Bool)
      → under other (cond hold (stored (cond restart (emptied (under one b)) (under one b)) t) (cond restart (emptied (under one b)) (under one b)))
      ≡ under other (cond hold (stored (cond restart (emptied (under other b)) (under other b)) t) (cond restart (emptied (under other b)) (under other b)))
  held-under true true = refl
  held-under true false = refl
  held-under false true = refl
  held-under false false = refl

  taken-under : (o : Outcome) → submitted_under other (submits.accepted o (under one b) t) ≡ submitted_under other (submits.accepted o (under other b) t)
  unfolding submits.accepted records_of block_after
  taken-under o =
      ap (λ (x : ControlBlock). record {
        state = record {
          answer = Ok tt;
          records = length (records_of o b);
          block = under other (advanced x (transfer_after o t.variant t.addr b.transfer) (state_after o t.addr));
        };
        records = records_of o b;
      }) (held-under (restarts o) (holds o))

  -- a submission under one rule and under the other: the same, but for the rule
  pub submission-under : (log collect : ℕ) (regions : Regions)
      → submitted_under other (submission log collect (under one b) t regions) ≡ submitted_under other (submission log collect (under other b) t regions)
  unfolding submission
  submission-under log collect regions = by (eqb asked 0)
    where
      asked : ℕ
      asked = first_no (questions_of log collect b t regions)

      by : (yes : Bool)
          → submitted_under other (cond yes (submits.accepted (trb_outcome b.transfer.phase t.variant) (under one b) t) (submits.refused (under one b) asked))
          ≡ submitted_under other (cond yes (submits.accepted (trb_outcome b.transfer.phase t.variant) (under other b) t) (submits.refused (under other b) asked))
      by true = taken-under (trb_outcome b.transfer.phase t.variant)
      by false = refl

-- ---- The rule is kept

-- by a creation that is refused, too
pub creation-keeps : (e : EndpointId) (s : SlotId) (release : GuestRelease) → (creation e s release).block.release ≡ release
creation-keeps e s release = by (eqb (first_no ((ids_in_range e s, 12) ∷ [])) 0)
  where
    by : (yes : Bool) → (cond yes (record { answer = Ok tt; block = fresh_block e s release }) (not_created release (first_no ((ids_in_range e s, 12) ∷ [])))).block.release ≡ release
    by true = refl
    by false = refl

module _ (b : ControlBlock) where
  held_keeps : (t : TransferTrb) (restart hold : Bool) → (cond hold (stored (cond restart (emptied b) b) t) (cond restart (emptied b) b)).release ≡ b.release
  held_keeps t true true = refl
  held_keeps t true false = refl
  held_keeps t false true = refl
  held_keeps t false false = refl

  pub submission-keeps : (t : TransferTrb) (log collect : ℕ) (regions : Regions) → (submission log collect b t regions).state.block.release ≡ b.release
  unfolding submission submits.accepted block_after
  submission-keeps t log collect regions = by (eqb asked 0)
    where
      o : Outcome
      o = trb_outcome b.transfer.phase t.variant

      asked : ℕ
      asked = first_no (questions_of log collect b t regions)

      by : (yes : Bool) → (cond yes (submits.accepted o b t) (submits.refused b asked)).state.block.release ≡ b.release
      by true = held_keeps t (restarts o) (holds o)
      by false = refl

  pub completion-keeps : (log : ℕ) (r : Option ControlRequestProcessingResult) (n : ℕ) → (completion log b r n).state.block.release ≡ b.release
  unfolding completion completes.accepted block_behind
  completion-keeps log r n = by (eqb asked 0) (ending_of b.state r n)
    where
      asked : ℕ
      asked = first_no (completion_questions log (facts_of b) r n)

      by : (yes : Bool) (x : Ending) → (cond yes (completes.accepted x b) (completes.refused b asked)).state.block.release ≡ b.release
      by true KeepCollecting = refl
      by true (ReportBadTrb a) = refl
      by true (Fail c q) = refl
      by true (Realize given) = refl
      by false x = refl
