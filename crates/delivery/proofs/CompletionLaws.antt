-- No torn frame, of a completion: what it logs is a TD's log, an event or nothing, so carry-out knows every kind, and question 11 can be told by the TRBs held.
-- Where the regions share no address and every Normal's range lies in one of them, an accepted completion delivers the frame whole. Assumes nothing.
use Rattle.std.specs.Prelude.{None, Option, Some}
use Prim.Native.Nat.{ℕ, ◌*◌, ◌≤◌}
use mathlib.Core.Bool.{true, false, cond, true≢false}
use mathlib.Core.Path.{◌≡◌, refl, sym, ap, ◌∙◌, subst}
use mathlib.Core.List.{List}
use native.Mathlib.Omega.{arith}
use lib.ListN.{length, take, length-take}
use Rattle.trb.specs.Limits.{record_length}
use Rattle.trb.specs.Questions.{first_no, agree}
use Rattle.trb.specs.declared.InTrbProcessingStatus.{InTrbProcessingStatus}
use Rattle.trb.specs.declared.InTrbProcessingStatus.TheVariants.{Success}
use Rattle.trb.specs.declared.TdBasedNormalSubmissionState.{TdBasedNormalSubmissionState}
use Rattle.trb.specs.declared.TdBasedNormalSubmissionState.TheVariants.{SubmissionDue, CollectingTd, AwaitingRealTransfer, AwaitingLocalCompletion, UnsupportedTrb}
use Rattle.call_log.specs.Calls.{Out, Meets}
use Rattle.call_log.specs.Logs.{encode_all, records_in}
use Rattle.call_log.specs.declared.Record.{Record}
use Rattle.call_log.proofs.LogLaws.{length-encode_all, records_in-logged}
use Rattle.log_check.specs.WellFormed.{kind_known, kinds_known}
use Rattle.guest_memory.specs.declared.Regions.{Regions}
use Rattle.guest_memory.specs.Regions.{share_an_address}
use Rattle.guest_memory.specs.Places.{Memory, regions_of}
use Rattle.carry_out.specs.Writes.{write_in_range, moves_bytes, writes_in_range, written}
use Rattle.account.specs.Guest.{Account}
use Rattle.in_td.specs.Td.{in_td}
use Rattle.in_block.specs.Blocks.{held_of}
use Rattle.in_block.specs.Facts.{awaits_device, facts_of}
use Rattle.in_block.specs.Outcomes.{ending_of}
use Rattle.in_block.specs.declared.Ending.{Ending}
use Rattle.in_block.specs.declared.Ending.TheVariants.{KeepCollecting, Transfer, ReportUnsupported}
use Rattle.in_block.specs.declared.InBlock.{InBlock}
use Rattle.in_questions.specs.Questions.{is_given, completion_questions}
use Rattle.in_questions.proofs.PassedLaws.{passed-completion}
use Rattle.in_endpoint.specs.Completion.{transferred, completed_as, completion, is_accepted, Completes}
use Rattle.in_endpoint.specs.Returned.{Completed}
use Rattle.in_endpoint.proofs.CompletionLaws.{accepted-none, completed_as-counts}
use Rattle.carry_out.proofs.CarryOutLaws.{take-logged}
use Rattle.delivery_laws.specs.Ranges.{InRegions, writes_inside}
use Rattle.delivery.specs.Completing.{completed, DeliveredWhole}
use Rattle.delivery_laws.proofs.RangeLaws.{writes_inside-none, writes_in_range-process_td}
use Rattle.delivery_laws.proofs.InsideLaws.{in_regions-writes_inside}
use Rattle.delivery_laws.proofs.KindLaws.{kinds-process_td}
use Rattle.delivery_laws.proofs.DeliveryLaws.{delivered}

-- ---- What a completion logs

module _ (b : InBlock) where
  -- each record is of a known kind
  pub kinds-ended : (x : Ending) → kinds_known (completed_as x b).records ≡ true
  unfolding transferred kind_known
  kinds-ended KeepCollecting = refl
  kinds-ended (Transfer st k) = kinds-process_td (in_td b.endpoint_id b.slot_id b.mode st k) (held_of b)
  kinds-ended (ReportUnsupported a) = refl

  -- question 11, told by the TRBs held: of a TD the device's n bytes are written; no other completion writes any
  pub inside-ended : (n : ℕ) (regions : Regions) (x : TdBasedNormalSubmissionState) (r : Option InTrbProcessingStatus) → agree (is_given r) (awaits_device x) ≡ true
      → writes_in_range n regions (completed_as (ending_of x r n) b).records ≡ writes_inside regions (cond (awaits_device x) n 0) (held_of b)
  unfolding transferred write_in_range moves_bytes
  inside-ended n regions AwaitingRealTransfer (Some st) e =
      writes_in_range-process_td b.endpoint_id b.slot_id b.mode st n n regions (held_of b) (omega arith)
  inside-ended n regions AwaitingRealTransfer None e = absurd (true≢false (sym e))
  inside-ended n regions AwaitingLocalCompletion r e =
      writes_in_range-process_td b.endpoint_id b.slot_id b.mode Success 0 n regions (held_of b) (omega arith)
  inside-ended n regions SubmissionDue r e = sym (writes_inside-none regions (held_of b))
  inside-ended n regions CollectingTd r e = sym (writes_inside-none regions (held_of b))
  inside-ended n regions (UnsupportedTrb a) r e = sym (writes_inside-none regions (held_of b))

-- ---- An accepted completion

module _ (b : InBlock) (s : Option InTrbProcessingStatus) (n : ℕ) (l : List ℕ) (r : Completed) (l' : List ℕ) (h : Completes b s n l r l')
    (none : first_no (completion_questions (length l) (facts_of b) s n) ≡ 0) where
  abbrev records : List Record
  records = (completed b s n).records

  -- it is what is done once every question was answered with yes
  pub done : completion (length l) b s n ≡ completed b s n
  unfolding completion
  done = rw none

  pub done-meets : Meets (completed b s n) 0 l r l'
  done-meets = subst (λ (o : Out Completed). Meets o 0 l r l') done h.met

  done-count : r.records ≡ length records
  done-count = ap (λ (c : Completed). c.records) done-meets.state ∙ completed_as-counts (ending_of b.state s n) b

  -- its bytes are those of its records
  pub done-bytes : take (record_length * r.records) l' ≡ encode_all records
  done-bytes = rw (done-count, done-meets.log) (take-logged l records)

  done-account : Account n (held_of b) (records_in r.records l') → Account n (held_of b) records
  done-account = subst (Account n (held_of b)) (rw (done-count, done-meets.log) (records_in-logged l 0 records (omega arith) done-meets.fits))

module _ (bytes : List ℕ) (m : Memory) (b : InBlock) (s : Option InTrbProcessingStatus) (l : List ℕ) (r : Completed) (l' : List ℕ) (h : Completes b s (length bytes) l r l')
    (apart : share_an_address (regions_of m) ≡ false) where
  -- the writes of an accepted completion lie in range: carried out, they deliver the frame whole
  pub delivered-done : (none : first_no (completion_questions (length l) (facts_of b) s (length bytes)) ≡ 0)
      → writes_in_range (length bytes) (regions_of m) (completed b s (length bytes)).records ≡ true
      → DeliveredWhole b bytes m r.answer (take (record_length * r.records) l') (written bytes m (completed b s (length bytes)).records)
  delivered-done none inside waits accepts distinct isp last =
      rw (done-bytes b s (length bytes) l r l' h none)
      (delivered bytes m (held_of b) (completed b s (length bytes)).records
      (done-account b s (length bytes) l r l' h none (h.account waits accepts distinct isp last)) apart inside
      (done-meets b s (length bytes) l r l' h none).fits (kinds-ended b (ending_of b.state s (length bytes))))

  -- No torn frame: for every block that holds the list and awaits the device, under demand 3's conditions, in either mode, whatever status and whichever
  -- bytes the device returns, with regions that share no address and every Normal's range in one of them
  pub no-torn-frame : InRegions (regions_of m) (held_of b)
      → DeliveredWhole b bytes m r.answer (take (record_length * r.records) l') (written bytes m (completed b s (length bytes)).records)
  no-torn-frame held waits accepts distinct isp last =
      let o = completion (length l) b s (length bytes) in
      let accepted : is_accepted o.state.answer ≡ true = ap (λ (c : Completed). is_accepted c.answer) (sym h.met.state) ∙ accepts in
      let none = accepted-none (length l) b s (length bytes) accepted in
      let known = passed-completion (length l) (facts_of b) s (length bytes) none in
      delivered-done none
      (inside-ended b (length bytes) (regions_of m) b.state s known.agreed
      ∙ in_regions-writes_inside (regions_of m) (cond (awaits_device b.state) (length bytes) 0) (held_of b) held)
      waits accepts distinct isp last
