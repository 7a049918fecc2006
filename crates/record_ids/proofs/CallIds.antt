-- Every record of every call has the ids of its endpoint: requests, writes and events, Success for the TRBs of a chain that is dropped, code 5, and what is told of a
-- failed transfer; on both endpoints, single calls and rows. A no logs nothing. Assumes nothing.
use Rattle.std.specs.Prelude.{Option, is_some, unwrap_or}
use Prim.Native.Nat.{ℕ}
use mathlib.Core.Bool.{Bool, true, false, cond}
use mathlib.Core.Path.{◌≡◌, refl}
use mathlib.Core.List.{List, [], ◌∷◌, map}
use lib.Dec.{eqb}
use Rattle.trb.specs.Questions.{first_no, after_questions}
use Rattle.trb.specs.declared.CompletionCode.TheVariants.{Success}
use Rattle.trb.specs.declared.ControlRequestProcessingResult.{ControlRequestProcessingResult}
use Rattle.trb.specs.declared.EndpointId.{EndpointId}
use Rattle.trb.specs.declared.InTrbProcessingStatus.{InTrbProcessingStatus}
use Rattle.trb.specs.declared.SlotId.{SlotId}
use Rattle.trb.specs.declared.TransferTrb.{TransferTrb}
use Rattle.call_log.specs.Calls.{Out}
use Rattle.call_log.specs.Records.{when, control_request}
use Rattle.call_log.specs.declared.Record.{Record}
use Rattle.guest_memory.specs.declared.Regions.{Regions}
use Rattle.in_td.specs.declared.InMode.{InMode}
use Rattle.in_block.specs.Blocks.{held_of}
use Rattle.in_block.specs.Facts.{held_test, facts_of}
use Rattle.in_block.specs.Outcomes.{outcome_of, ending_of}
use Rattle.in_block.specs.declared.Ending.{Ending}
use Rattle.in_block.specs.declared.Ending.TheVariants.{KeepCollecting, Transfer, ReportUnsupported}
use Rattle.in_block.specs.declared.InBlock.{InBlock}
use Rattle.in_block.specs.declared.Outcome.{Outcome}
use Rattle.in_block.specs.declared.Outcome.TheVariants.{Drop, Collect, CompleteLocally, Request}
use Rattle.in_questions.specs.Questions.{submission_questions, completion_questions}
use Rattle.in_endpoint.specs.Completion as completing
use Rattle.in_endpoint.specs.Submission as submitting
use Rattle.row_plan.specs.Rows as lent
use Rattle.row_walk.specs.Rows.{RowTd, row_tds, has_normal, moved_by, completed, own_log, unstarted, td_in_row, failed, process_row}
use Rattle.row_walk.specs.declared.RowProgress.{RowProgress}
use Rattle.row_walk.specs.declared.TdResult.{TdResult}
use Rattle.row_questions.specs.Questions.{row_questions}
use Rattle.in_row.specs.Completion as row
use Rattle.delivery.specs.Completing as delivering
use Rattle.control_block.specs.Blocks.{held_of as held_control}
use Rattle.control_block.specs.Endings.{ending_of as control_ending}
use Rattle.control_block.specs.Facts.{facts_of as control_facts}
use Rattle.control_block.specs.Stages.{error_address}
use Rattle.control_block.specs.declared.ControlBlock.{ControlBlock}
use Rattle.control_block.specs.declared.Ending as ending
use Rattle.control_block.specs.declared.Ending.TheVariants as does
use Rattle.phase_table.specs.Outcomes.{restarts, requests}
use Rattle.phase_table.specs.Table.{trb_outcome}
use Rattle.phase_table.specs.declared.Outcome as table
use Rattle.control_chain.specs.Dropped.{interrupt_of, success_of, successes}
use Rattle.control_chain.specs.Endings.{ending_records}
use Rattle.control_transfer.specs.Transfers.{requests_of}
use Rattle.control_questions.specs.Completion as asked
use Rattle.control_endpoint.specs.Completion as control_completing
use Rattle.control_endpoint.specs.Submission as control_submitting
use Rattle.record_ids.specs.Ids.{AllOf}
use Rattle.record_ids.proofs.WalkIds.{all_append, event-ids, walk-ids, process_td-ids, realize_chain-ids}

-- a no logs nothing
after-ids : (e : EndpointId) (s : SlotId) {S : Type 0} (qs : List (Bool × ℕ)) (refused : ℕ → Out S) (done : Out S)
    → ((n : ℕ) → (refused n).records ≡ []) → AllOf e s done.records → AllOf e s (after_questions qs refused done).records
after-ids e s qs refused done empty h = by_answer (eqb (first_no qs) 0)
  where
    by_answer : (b : Bool) → AllOf e s (cond b done (refused (first_no qs))).records
    by_answer true = h
    by_answer false = rw (empty (first_no qs)) tt

-- one record, if it is due
when-ids : (e : EndpointId) (s : SlotId) (due : Bool) (r : Record) → r.endpoint_id ≡ e → r.slot_id ≡ s → AllOf e s (when due r)
when-ids e s true r endpoint slot = (endpoint, slot, tt)
when-ids e s false r endpoint slot = tt

-- ---- IN endpoint

module _ (b : InBlock) where
  abbrev Own : List Record → Type 0
  Own rs = AllOf b.endpoint_id b.slot_id rs

  submitted-ids : (o : Outcome) (t : TransferTrb) → Own (submitting.submitted_as o b t).records
  submitted-ids Drop t = tt
  submitted-ids Collect t = tt
  submitted-ids CompleteLocally t = tt
  submitted-ids Request t = (refl, refl, tt)

  pub submission-ids : (l : ℕ) (t : TransferTrb) (regions : Regions) → Own (submitting.submission l b t regions).records
  unfolding submitting.submission
  submission-ids l t regions =
      after-ids b.endpoint_id b.slot_id (submission_questions l (facts_of b) t regions) (submitting.refused b) (submitting.submitted_as (outcome_of (held_test (held_of b)) t) b t)
      (λ n. refl) (submitted-ids (outcome_of (held_test (held_of b)) t) t)

  ended-ids : (x : Ending) → Own (completing.completed_as x b).records
  unfolding completing.transferred
  ended-ids KeepCollecting = tt
  ended-ids (Transfer st n) = process_td-ids b.endpoint_id b.slot_id n b.mode st (held_of b)
  ended-ids (ReportUnsupported a) = (refl, refl, tt)

  pub completion-ids : (l : ℕ) (r : Option InTrbProcessingStatus) (n : ℕ) → Own (completing.completion l b r n).records
  unfolding completing.completion
  completion-ids l r n =
      after-ids b.endpoint_id b.slot_id (completion_questions l (facts_of b) r n) (completing.refused b) (completing.completed_as (ending_of b.state r n) b)
      (λ k. refl) (ended-ids (ending_of b.state r n))

  -- carried out at once
  pub delivery-ids : (l : ℕ) (r : Option InTrbProcessingStatus) (n : ℕ) (regions : Regions) → Own (delivering.delivery l b r n regions).records
  unfolding delivering.delivery
  delivery-ids l r n regions =
      after-ids b.endpoint_id b.slot_id (delivering.delivery_questions l b r n regions) (completing.refused b) (delivering.completed b r n)
      (λ k. refl) (ended-ids (ending_of b.state r n))

-- the TD as a lent row
pub lent-row-ids : (l : ℕ) (e : EndpointId) (s : SlotId) (mode : InMode) (ts : List TransferTrb) (r : Option InTrbProcessingStatus) (n : ℕ)
    → AllOf e s (lent.row_completion l e s mode ts r n).records
lent-row-ids l e s mode ts r n = completion-ids (lent.row_block e s mode ts) l r n

-- ---- A row of TDs

module _ (e : EndpointId) (s : SlotId) where
  moved-ids : (by : ℕ) (rs : List Record) → AllOf e s rs → AllOf e s (map (moved_by by) rs)
  moved-ids by [] h = tt
  moved-ids by (r ∷ rs) h = (h.0, h.1, moved-ids by rs h.2)

  module _ (mode : InMode) where
    td-ids : (w : RowProgress) (x : RowTd) → AllOf e s (td_in_row e s mode w x).records
    unfolding td_in_row own_log
    td-ids w x =
        moved-ids w.start (own_log e s mode x)
        (all_append e s (when (has_normal x.trbs) (submitting.request_of x.trbs e s)) (completed e s mode x).records
        (when-ids e s (has_normal x.trbs) (submitting.request_of x.trbs e s) refl refl)
        (process_td-ids e s x.given.length mode x.given.status x.trbs))

    process_row-ids : (ts : List TransferTrb) (rs : List TdResult) → AllOf e s (process_row e s mode ts rs).records
    process_row-ids ts rs = walk-ids e s (td_in_row e s mode) failed td-ids unstarted (row_tds ts rs)

pub row-ids : (b : InBlock) (l k : ℕ) (ts : List TransferTrb) (m : ℕ) (rs : List TdResult) (n : ℕ) (regions : Regions)
    → AllOf b.endpoint_id b.slot_id (row.row_completion l b k ts m rs n regions).records
unfolding row.row_completion
row-ids b l k ts m rs n regions =
    after-ids b.endpoint_id b.slot_id (row_questions l regions (facts_of b) k ts m rs n) (row.refused b)
    (row.walked b (process_row b.endpoint_id b.slot_id b.mode ts rs)) (λ j. refl)
    (process_row-ids b.endpoint_id b.slot_id b.mode ts rs)

-- ---- Control endpoint

-- a chain that is dropped
successes-ids : (e : EndpointId) (s : SlotId) (ts : List TransferTrb) → AllOf e s (successes e s ts)
unfolding successes
successes-ids e s [] = tt
successes-ids e s (t ∷ ts) = all_append e s (success_of e s t) (successes e s ts) (event-ids e s (interrupt_of t.variant) t.addr 0 Success false) (successes-ids e s ts)

module _ (b : ControlBlock) where
  abbrev OwnControl : List Record → Type 0
  OwnControl rs = AllOf b.endpoint_id b.slot_id rs

  records-ids : (o : table.Outcome) → OwnControl (control_submitting.records_of o b)
  unfolding control_submitting.records_of
  records-ids o =
      all_append b.endpoint_id b.slot_id (cond (restarts o) (successes b.endpoint_id b.slot_id (held_control b)) [])
      (requests_of o b.transfer.request b.endpoint_id b.slot_id) (by-restart (restarts o))
      (when-ids b.endpoint_id b.slot_id (requests o) (control_request b.transfer.request b.endpoint_id b.slot_id) refl refl)
    where
      by-restart : (r : Bool) → OwnControl (cond r (successes b.endpoint_id b.slot_id (held_control b)) [])
      by-restart true = successes-ids b.endpoint_id b.slot_id (held_control b)
      by-restart false = tt

  pub control-submission-ids : (log collect : ℕ) (t : TransferTrb) (regions : Regions) → OwnControl (control_submitting.submission log collect b t regions).records
  unfolding control_submitting.submission control_submitting.accepted
  control-submission-ids log collect t regions =
      after-ids b.endpoint_id b.slot_id (control_submitting.questions_of log collect b t regions) (control_submitting.refused b)
      (control_submitting.accepted (trb_outcome b.transfer.phase t.variant) b t) (λ n. refl) (records-ids (trb_outcome b.transfer.phase t.variant))

  ending-ids : (x : ending.Ending) (a : ℕ) → OwnControl (ending_records x a b.endpoint_id b.slot_id (held_control b))
  unfolding ending_records
  ending-ids does.KeepCollecting a = tt
  ending-ids (does.ReportBadTrb bad) a =
      all_append b.endpoint_id b.slot_id (successes b.endpoint_id b.slot_id (held_control b)) _
      (successes-ids b.endpoint_id b.slot_id (held_control b)) (refl, refl, tt)
  ending-ids (does.Fail c r) a = (refl, refl, tt)
  ending-ids (does.Realize given) a = realize_chain-ids b.endpoint_id b.slot_id (unwrap_or given 0) (is_some given) (held_control b)

  pub control-completion-ids : (log : ℕ) (r : Option ControlRequestProcessingResult) (n : ℕ) → OwnControl (control_completing.completion log b r n).records
  unfolding control_completing.completion control_completing.accepted
  control-completion-ids log r n =
      after-ids b.endpoint_id b.slot_id (asked.completion_questions log (control_facts b) r n) (control_completing.refused b)
      (control_completing.accepted (control_ending b.state r n) b) (λ k. refl) (ending-ids (control_ending b.state r n) (error_address b))
