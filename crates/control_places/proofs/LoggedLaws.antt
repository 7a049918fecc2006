-- What a submission and a completion log, by the walk over the TRBs held and the record behind it. Assumes nothing.
use Prim.Native.Nat.{ℕ, ◌+◌, ◌*◌, ◌≤◌}
use mathlib.Core.Path.{◌≡◌, refl, sym, ap, ◌∙◌}
use mathlib.Core.Bool.{Bool, true, false, not, cond}
use mathlib.Core.List.{List, [], ◌++◌}
use native.Mathlib.Nat.{zero-add}
use native.Mathlib.Omega.{arith}
use lib.ListN.{length, take, length-append}
use Rattle.trb.specs.Limits.{max_held, max_records, min_log, record_length}
use Rattle.trb.specs.declared.EndpointId.{EndpointId}
use Rattle.trb.specs.declared.SlotId.{SlotId}
use Rattle.trb.specs.declared.TransferTrb.{TransferTrb}
use Rattle.trb.specs.declared.UsbRequest.{UsbRequest}
use Rattle.call_log.specs.declared.Record.{Record}
use Rattle.call_log.specs.Calls.{Put, Meets, counted}
use Rattle.call_log.specs.Records.{control_request, when}
use Rattle.call_log.proofs.CallLaws.{meets, meets-silent}
use Rattle.td_part.specs.declared.TdInfo.{TdInfo}
use Rattle.td_part.specs.declared.TdProgress.{TdProgress}
use Rattle.td_part.specs.Parts.{at_start}
use Rattle.walks.specs.Walk.{walk}
use Rattle.walks.proofs.WalkLaws.{walk-counts}
use Rattle.phase_table.specs.declared.Outcome.{Outcome}
use Rattle.phase_table.specs.Outcomes.{restarts, requests}
use Rattle.control_block.specs.declared.ControlBlock.{ControlBlock}
use Rattle.trb.specs.declared.CompletionCode.{CompletionCode}
use Rattle.trb.specs.declared.TrbProcessingResult.{TrbProcessingResult}
use Rattle.control_block.specs.declared.Ending.{Ending}
use Rattle.control_block.specs.declared.Ending.TheVariants.{KeepCollecting, ReportBadTrb, Fail, Realize}
use Rattle.control_block.specs.Blocks.{held_of}
use Rattle.control_block.specs.Endings.{places_freed}
use Rattle.control_block.specs.Stages.{error_address}
use Rattle.control_chain.specs.Chain.{never}
use Rattle.control_chain.specs.Dropped.{successes}
use Rattle.control_chain.specs.Endings.{info_of, next_trb, last_records, ending_records}
use Rattle.control_chain.proofs.EndingLaws.{ending_walker, put-behind}
use Rattle.control_transfer.specs.Transfers.{requests_of}
use Rattle.control_endpoint.specs.Submission.{places_dropped, records_of}
use Rattle.control_endpoint.proofs.CompletionLaws.{walk-ending_records, length-freed}
use Rattle.control_endpoint.proofs.SubmissionLaws.{walk-records_of, length-dropped}
use Rattle.control_endpoint.proofs.SubmissionLaws as submission
use Rattle.control_places.specs.Events.{is_silent, is_collecting, EventAt, completion_records}

-- ---- Records behind those of a walk

module _ (x : Ending) (td : TdInfo) (ts : List TransferTrb) (l l' : List ℕ) (w : TdProgress) (m : Meets (walk (next_trb x td) never at_start ts) 0 l w l') where
  abbrev walked : List Record
  walked = (walk (next_trb x td) never at_start ts).records

  -- the progress counts the records
  walked-count : w.records ≡ length walked
  walked-count = ap (λ (v : TdProgress). v.records) m.state ∙ (walk-counts (ending_walker x td) at_start ts (record { within = omega arith }) ∙ zero-add _)

  walked_then : (ss : List Record) (k : ℕ) (l'' : List ℕ) → record_length * w.records ≤ length l → Meets (counted w.records ss) w.records l' k l'' → Meets (counted 0 (walked ++ ss)) 0 l k l''
  walked_then ss k l'' room n =
      let behind : w.records ≡ 0 + length walked = walked-count ∙ sym (zero-add (length walked)) in
      let p : Put l 0 walked l' = record { log = m.log; fits = m.fits } in
      let q : Put l' w.records ss l'' = record { log = n.log; fits = n.fits } in
      let both = put-behind l l' l'' 0 walked ss (rw (← behind) room) p (rw behind at q) in
      record { state = n.state ∙ omega (arith, length-append walked ss, walked-count); log = both.log; fits = both.fits }

-- ---- Submission

-- nothing to log
pub silent-submission : (o : Outcome) (b : ControlBlock) (l : List ℕ) → is_silent o ≡ true → Meets (counted 0 (records_of o b)) 0 l 0 l
unfolding records_of
silent-submission o b l quiet = meets (ap (counted 0) (by (restarts o) (requests o) quiet)) (meets-silent 0 l refl)
  where
    by : (restart request : Bool) → cond restart false (not request) ≡ true
        → cond restart (successes b.endpoint_id b.slot_id (held_of b)) [] ++ when request (control_request b.transfer.request b.endpoint_id b.slot_id) ≡ []
    by true request e = let z : ◌≡◌ {A = ℕ} 0 1 = cc in absurd (omega arith)
    by false true e = let z : ◌≡◌ {A = ℕ} 0 1 = cc in absurd (omega arith)
    by false false e = refl

module _ (b : ControlBlock) (o : Outcome) (td : TdInfo) (d : ℕ) (l l' : List ℕ) (w : TdProgress) (few : b.held ≤ max_held) (long : min_log ≤ length l)
    (own : td ≡ submission.info_of b) (drops : d ≡ places_dropped (restarts o) b.held) (m : Meets (walk (next_trb (ReportBadTrb 0) td) never at_start (take d b.trbs)) 0 l w l') where
  own-walk : Meets (walk (next_trb (ReportBadTrb 0) (submission.info_of b)) never at_start (take d b.trbs)) 0 l w l'
  own-walk = meets (ap (λ (i : TdInfo). walk (next_trb (ReportBadTrb 0) i) never at_start (take d b.trbs)) (sym own)) m

  -- one record for each TRB that is dropped at most
  pub dropped-few : w.records ≤ b.held
  dropped-few = omega (arith, walked-count (ReportBadTrb 0) (submission.info_of b) (take d b.trbs) l l' w own-walk, length-dropped b o d drops)

  pub submission-logged : (q : UsbRequest) (e : EndpointId) (s : SlotId) (k : ℕ) (l'' : List ℕ) → q ≡ b.transfer.request → e ≡ b.endpoint_id → s ≡ b.slot_id
      → Meets (counted w.records (requests_of o q e s)) w.records l' k l'' → Meets (counted 0 (records_of o b)) 0 l k l''
  submission-logged q e s k l'' eq ee es n =
      let same : requests_of o q e s ≡ requests_of o b.transfer.request b.endpoint_id b.slot_id = λ j. requests_of o (eq j) (ee j) (es j) in
      meets (ap (counted 0) (sym (walk-records_of b o d drops)))
      (walked_then (ReportBadTrb 0) (submission.info_of b) (take d b.trbs) l l' w own-walk (requests_of o b.transfer.request b.endpoint_id b.slot_id) k l'' (omega (arith, dropped-few))
      (meets (ap (counted w.records) (sym same)) n))

-- ---- Completion

pub silent-completion : (x : Ending) (b : ControlBlock) (l : List ℕ) → is_collecting x ≡ true → Meets (counted 0 (completion_records x b)) 0 l 0 l
unfolding ending_records
silent-completion KeepCollecting b l e = meets-silent 0 l refl
silent-completion (ReportBadTrb a) b l e = let z : ◌≡◌ {A = ℕ} 0 1 = cc in absurd (omega arith)
silent-completion (Fail c r) b l e = let z : ◌≡◌ {A = ℕ} 0 1 = cc in absurd (omega arith)
silent-completion (Realize given) b l e = let z : ◌≡◌ {A = ℕ} 0 1 = cc in absurd (omega arith)

-- how many records there are behind the walk depends on the ending alone
pub length_last : (x : Ending) (a a' : ℕ) (e e' : EndpointId) (s s' : SlotId) → length (last_records x a e s) ≡ length (last_records x a' e' s')
length_last KeepCollecting a a' e e' s s' = refl
length_last (ReportBadTrb bad) a a' e e' s s' = refl
length_last (Fail c r) a a' e e' s s' = refl
length_last (Realize given) a a' e e' s s' = refl

module _ (b : ControlBlock) (x : Ending) (td : TdInfo) (d : ℕ) (l l' : List ℕ) (w : TdProgress) (few : b.held ≤ max_held) (long : min_log ≤ length l)
    (own : td ≡ info_of x b.endpoint_id b.slot_id) (frees : d ≡ places_freed x b.held) (m : Meets (walk (next_trb x td) never at_start (take d b.trbs)) 0 l w l') where
  -- the records of a completion fit the log
  pub ending-few : w.records + length (last_records x (error_address b) b.endpoint_id b.slot_id) ≤ max_records
  ending-few = omega (arith, walked-count x td (take d b.trbs) l l' w m, length-freed b x td d own frees few)

  pub completion-logged : (a : ℕ) (e : EndpointId) (s : SlotId) (k : ℕ) (l'' : List ℕ) → EventAt x b a → e ≡ b.endpoint_id → s ≡ b.slot_id
      → Meets (counted w.records (last_records x a e s)) w.records l' k l'' → Meets (counted 0 (completion_records x b)) 0 l k l''
  completion-logged a e s k l'' at ee es n =
      let same : last_records x a e s ≡ last_records x (error_address b) b.endpoint_id b.slot_id = at e s ∙ (λ j. last_records x (error_address b) (ee j) (es j)) in
      meets (ap (counted 0) (sym (walk-ending_records b x td d own frees)))
      (walked_then x td (take d b.trbs) l l' w m (last_records x (error_address b) b.endpoint_id b.slot_id) k l'' (omega (arith, ending-few)) (meets (ap (counted w.records) (sym same)) n))

-- ---- Where the last event goes

-- no other ending has an event with an address
pub event-elsewhere : (x : Ending) (b : ControlBlock) (a : ℕ) → ((code : CompletionCode) (r : TrbProcessingResult) → x ≡ Fail code r → ⊥) → EventAt x b a
event-elsewhere KeepCollecting b a other e s = refl
event-elsewhere (ReportBadTrb address) b a other e s = refl
event-elsewhere (Fail code r) b a other e s = absurd (other code r refl)
event-elsewhere (Realize given) b a other e s = refl

pub error-at : (x : Ending) (b : ControlBlock) (a : ℕ) → a ≡ error_address b → EventAt x b a
error-at x b a h e s = ap (λ (n : ℕ). last_records x n e s) h
