-- The TRBs of a control transfer, submitted one after the other, are held one behind the other, and the last one makes the request. By induction over the list, with the
-- TRBs that are held already; what the phase table leads to a request is taken and kept up to the last TRB. Assumes nothing.
use Rattle.std.specs.Prelude.{None}
use Prim.Native.Nat.{ℕ, ◌<◌}
use mathlib.Core.Bool.{Bool, true, false, cond, false≢true}
use mathlib.Core.Path.{◌≡◌, refl, sym, ap, ◌∙◌}
use mathlib.Core.List.{List, [], ◌∷◌, ◌++◌, append_assoc, map}
use native.Mathlib.Numerals.{add-one}
use native.Mathlib.Omega.{arith}
use lib.ListN.{length, take, length-set}
use lib.Seq.{take-suc-set}
use Rattle.trb.specs.Limits.{max_held}
use Rattle.trb.specs.Questions.{first_no}
use Rattle.trb.specs.declared.ControlSubmissionState.TheVariants.{NoTrbSubmitted, CollectingTd, AwaitingControlRequest}
use Rattle.trb.specs.declared.ControlTransferState.{ControlTransferState}
use Rattle.trb.specs.declared.ControlTransferState.TheVariants.{ExpectSetupStageTrb, MaybeDataStageTrb, MoreData, ExpectStatusStageTrb, ExpectFinalEventDataTrb}
use Rattle.trb.specs.declared.EndpointId.{EndpointId}
use Rattle.trb.specs.declared.SlotId.{SlotId}
use Rattle.trb.specs.declared.TransferTrb.{TransferTrb}
use Rattle.trb.specs.declared.TransferTrbVariant.{TransferTrbVariant}
use Rattle.trb.specs.declared.TransferTrbVariant.TheVariants.{SetupStage, DataStage, StatusStage, Normal, EventData, NoOp, Isoch}
use Rattle.trb.specs.declared.TransferTrbVariant.TheVariants as variant
use Rattle.trb.specs.declared.UsbRequest.{UsbRequest}
use Rattle.call_log.specs.Calls.{Out}
use Rattle.call_log.specs.Records.{control_request}
use Rattle.phase_table.specs.Leads.{entry_of, leads_on, trbs_lead}
use Rattle.phase_table.specs.Outcomes.{holds, restarts, requests, phase_after, state_after}
use Rattle.phase_table.specs.Table.{data_taken, setup_stage_outcome, data_stage_outcome, normal_outcome, trb_outcome}
use Rattle.phase_table.proofs.LeadsLaws.{leads-rest}
use Rattle.phase_table.specs.declared.Outcome.{Outcome}
use Rattle.phase_table.specs.declared.Outcome.TheVariants.{StartTransfer, RestartTransfer, TakeData, TakeLastData, TakeChainedStatus, SubmitRequest, Unexpected, Unsupported, Unrecognized}
use Rattle.control_block.specs.Blocks.{held_of, stored, advanced}
use Rattle.control_block.specs.Facts.{facts_of}
use Rattle.control_block.specs.declared.ControlBlock.{ControlBlock}
use Rattle.control_block.specs.declared.ControlTransfer.{ControlTransfer}
use Rattle.control_block.specs.declared.Ending.TheVariants.{KeepCollecting}
use Rattle.control_chain.specs.Endings.{ending_records}
use Rattle.control_questions.specs.Completion.{completion_questions}
use Rattle.control_questions.proofs.SubmissionLaws.{passed, room-held}
use Rattle.control_transfer.specs.Transfers.{transfer_after}
use Rattle.control_endpoint.specs.Completion as completing
use Rattle.control_endpoint.specs.Submission as submitting
use Rattle.control_endpoint.specs.Returned.{Completed}
use Rattle.control_endpoint.specs.Returned.{Submitted}
use Rattle.conformance.specs.Requests.{transfer_behind}
use Rattle.conformance_control_calls.specs.Transfers.{Lent, submitted, collecting, EachAccepted, Ran, calls_of, Ready, Requested}

-- ---- What the table says of a TRB that leads on

-- taken and kept: TRBs are still being collected
pub record Kept (o : Outcome) : Type 0 where
  pub held : holds o ≡ true
  pub goes_on : restarts o ≡ false
  pub silent : requests o ≡ false
  pub collects : (a : ℕ) → state_after o a ≡ CollectingTd

kept : (o : Outcome) (rest : Bool) → leads_on o false rest ≡ true → Kept o
kept StartTransfer rest h = record { held = refl; goes_on = refl; silent = refl; collects = λ a. refl }
kept TakeData rest h = record { held = refl; goes_on = refl; silent = refl; collects = λ a. refl }
kept TakeLastData rest h = record { held = refl; goes_on = refl; silent = refl; collects = λ a. refl }
kept TakeChainedStatus rest h = record { held = refl; goes_on = refl; silent = refl; collects = λ a. refl }
kept RestartTransfer rest h = absurd (false≢true h)
kept SubmitRequest rest h = absurd (false≢true h)
kept Unexpected rest h = absurd (false≢true h)
kept Unsupported rest h = absurd (false≢true h)
kept Unrecognized rest h = absurd (false≢true h)

-- the last one makes the request
pub last-requests : (o : Outcome) → leads_on o true false ≡ true → o ≡ SubmitRequest
last-requests SubmitRequest h = refl
last-requests StartTransfer h = absurd (false≢true h)
last-requests TakeData h = absurd (false≢true h)
last-requests TakeLastData h = absurd (false≢true h)
last-requests TakeChainedStatus h = absurd (false≢true h)
last-requests RestartTransfer h = absurd (false≢true h)
last-requests Unexpected h = absurd (false≢true h)
last-requests Unsupported h = absurd (false≢true h)
last-requests Unrecognized h = absurd (false≢true h)

-- ---- One submission

module _ (lent : Lent) (b : ControlBlock) (t : TransferTrb) (places : length b.trbs ≡ max_held)
    (none : first_no (submitting.questions_of lent.log lent.collect b t lent.regions) ≡ 0) where
  abbrev o : Outcome
  o = trb_outcome b.transfer.phase t.variant

  accepted-as : submitted lent b t ≡ submitting.accepted o b t
  unfolding submitting.submission
  accepted-as = rw none

  module _ (takes : holds o ≡ true) (goes : restarts o ≡ false) where
    room : b.held < max_held
    room = room-held o b.held (passed (facts_of b) o t lent.regions lent.log lent.collect none).room takes goes

    -- the block with one TRB more
    abbrev after : ControlBlock
    after = advanced (stored b t) (transfer_after o t.variant t.addr b.transfer) (state_after o t.addr)

    block-after : (submitted lent b t).state.block ≡ after
    unfolding submitting.accepted submitting.block_after
    block-after = ap (λ (r : Out Submitted). r.state.block) accepted-as ∙ rw (takes, goes)

    held_after : held_of after ≡ held_of b ++ t ∷ []
    held_after = rw add-one (take-suc-set b.trbs b.held t (omega (arith, room)))

    places-after : length after.trbs ≡ max_held
    places-after = length-set b.trbs b.held t ∙ places

    records-after : (r : Bool) → requests o ≡ r → (submitted lent b t).records ≡ cond r (control_request b.transfer.request b.endpoint_id b.slot_id ∷ []) []
    unfolding submitting.accepted submitting.records_of
    records-after true e = ap (λ (r : Out Submitted). r.records) accepted-as ∙ rw (goes, e)
    records-after false e = ap (λ (r : Out Submitted). r.records) accepted-as ∙ rw (goes, e)

    -- ---- Its completion, while TRBs are being collected

    module _ (waits : state_after o t.addr ≡ CollectingTd)
        (yes : first_no (completion_questions lent.log (facts_of (submitted lent b t).state.block) None 0) ≡ 0) where
      abbrev between : ControlBlock
      between = advanced (stored b t) (transfer_after o t.variant t.addr b.transfer) NoTrbSubmitted

      kept-as : collecting lent b t ≡ completing.accepted KeepCollecting (submitted lent b t).state.block
      unfolding completing.completion
      kept-as =
          let state : (submitted lent b t).state.block.state ≡ CollectingTd = ap (λ (c : ControlBlock). c.state) block-after ∙ waits in
          rw (yes, state)

      block-between : (collecting lent b t).state.block ≡ between
      unfolding completing.accepted completing.block_behind
      block-between =
          ap (λ (r : Out Completed). r.state.block) kept-as
          ∙ ap (λ (c : ControlBlock). completing.block_behind KeepCollecting c) block-after
          ∙ rw waits

      records-between : (collecting lent b t).records ≡ []
      unfolding completing.accepted ending_records
      records-between = ap (λ (r : Out Completed). r.records) kept-as

-- ---- The last TRB leaves the request as it is

-- no other kind makes one
pub setup-silent : (phase : ControlTransferState) → requests (setup_stage_outcome phase) ≡ false
setup-silent ExpectSetupStageTrb = refl
setup-silent MaybeDataStageTrb = refl
setup-silent MoreData = refl
setup-silent ExpectStatusStageTrb = refl
setup-silent ExpectFinalEventDataTrb = refl

taken-silent : (chain : Bool) → requests (data_taken chain) ≡ false
taken-silent true = refl
taken-silent false = refl

data-silent : (phase : ControlTransferState) (chain : Bool) → requests (data_stage_outcome phase chain) ≡ false
data-silent ExpectSetupStageTrb chain = refl
data-silent MaybeDataStageTrb chain = taken-silent chain
data-silent MoreData chain = refl
data-silent ExpectStatusStageTrb chain = refl
data-silent ExpectFinalEventDataTrb chain = refl

normal-silent : (phase : ControlTransferState) (chain : Bool) → requests (normal_outcome phase chain) ≡ false
normal-silent ExpectSetupStageTrb chain = refl
normal-silent MaybeDataStageTrb chain = refl
normal-silent MoreData chain = taken-silent chain
normal-silent ExpectStatusStageTrb chain = refl
normal-silent ExpectFinalEventDataTrb chain = refl

last-request : (v : TransferTrbVariant) (a : ℕ) (w : ControlTransfer) → trb_outcome w.phase v ≡ SubmitRequest → (transfer_after (trb_outcome w.phase v) v a w).request ≡ w.request
unfolding transfer_after trb_outcome
last-request (SetupStage t) a w e = absurd (false≢true (sym (setup-silent w.phase) ∙ ap requests e))
last-request (DataStage t) a w e = absurd (false≢true (sym (data-silent w.phase t.chain) ∙ ap requests e))
last-request (StatusStage t) a w e = rw e
last-request (Normal t) a w e = absurd (false≢true (sym (normal-silent w.phase t.chain) ∙ ap requests e))
last-request (EventData t) a w e = rw e
last-request (NoOp t) a w e = absurd (false≢true (ap requests e))
last-request Isoch a w e = absurd (false≢true (ap requests e))
last-request variant.Unrecognized a w e = absurd (false≢true (ap requests e))

-- ---- All of them

-- behind the TRBs ts, where us were held already
record Behind (b : ControlBlock) (us ts : List TransferTrb) (ran : Ran) : Type 0 where
  held : held_of ran.block ≡ us ++ ts
  state : ran.block.state ≡ AwaitingControlRequest
  transfer : ran.block.transfer ≡ transfer_behind ts b.transfer
  phase : ran.block.transfer.phase ≡ ExpectSetupStageTrb
  places : length ran.block.trbs ≡ max_held
  records : ran.records ≡ control_request (transfer_behind ts b.transfer).request b.endpoint_id b.slot_id ∷ []
  endpoint : ran.block.endpoint_id ≡ b.endpoint_id
  slot : ran.block.slot_id ≡ b.slot_id
  release : ran.block.release ≡ b.release

module _ (lent : Lent) (b : ControlBlock) (us : List TransferTrb) (holds-us : held_of b ≡ us) (places : length b.trbs ≡ max_held) (t : TransferTrb) where
  behind-last : trbs_lead b.transfer.phase (t ∷ []) ≡ true → EachAccepted lent b (t ∷ []) → Behind b us (t ∷ []) (calls_of lent b (t ∷ []))
  unfolding EachAccepted calls_of trb_outcome transfer_after
  behind-last h none =
      let this : trb_outcome b.transfer.phase t.variant ≡ SubmitRequest = last-requests (trb_outcome b.transfer.phase t.variant) h in
      let block = block-after lent b t places none (ap holds this) (ap restarts this) in
      record {
        held = ap held_of block ∙ held_after lent b t places none (ap holds this) (ap restarts this) ∙ ap (λ (vs : List TransferTrb). vs ++ t ∷ []) holds-us;
        state = ap (λ (c : ControlBlock). c.state) block ∙ ap (λ (o : Outcome). state_after o t.addr) this;
        transfer = ap (λ (c : ControlBlock). c.transfer) block;
        phase = ap (λ (c : ControlBlock). c.transfer.phase) block ∙ ap (λ (o : Outcome). phase_after b.transfer.phase o) this;
        places = ap (λ (c : ControlBlock). length c.trbs) block ∙ places-after lent b t places none (ap holds this) (ap restarts this);
        records = records-after lent b t places none (ap holds this) (ap restarts this) true (ap requests this)
            ∙ ap (λ (q : UsbRequest). control_request q b.endpoint_id b.slot_id ∷ []) (sym (last-request t.variant t.addr b.transfer this));
        endpoint = ap (λ (c : ControlBlock). c.endpoint_id) block;
        slot = ap (λ (c : ControlBlock). c.slot_id) block;
        release = ap (λ (c : ControlBlock). c.release) block;
      }

  module _ (u : TransferTrb) (ts : List TransferTrb) (h : trbs_lead b.transfer.phase (t ∷ u ∷ ts) ≡ true) (all : EachAccepted lent b (t ∷ u ∷ ts)) where
    abbrev next : ControlBlock
    next = (collecting lent b t).state.block

    pub taken : Kept (trb_outcome b.transfer.phase t.variant)
    unfolding trb_outcome
    taken = kept (trb_outcome b.transfer.phase t.variant) (trbs_lead (phase_after b.transfer.phase (trb_outcome b.transfer.phase t.variant)) (u ∷ ts)) h

    pub first-yes : first_no (submitting.questions_of lent.log lent.collect b t lent.regions) ≡ 0
    unfolding EachAccepted
    first-yes = all.0

    kept-yes : first_no (completion_questions lent.log (facts_of (submitted lent b t).state.block) None 0) ≡ 0
    unfolding EachAccepted
    kept-yes = all.1.0

    pub rest-yes : EachAccepted lent next (u ∷ ts)
    unfolding EachAccepted
    rest-yes = all.1.1

    block-next : next ≡ between lent b t places first-yes taken.held taken.goes_on (taken.collects t.addr) kept-yes
    block-next = block-between lent b t places first-yes taken.held taken.goes_on (taken.collects t.addr) kept-yes

    pub held_next : held_of next ≡ us ++ t ∷ []
    held_next = ap held_of block-next ∙ held_after lent b t places first-yes taken.held taken.goes_on ∙ ap (λ (vs : List TransferTrb). vs ++ t ∷ []) holds-us

    pub places-next : length next.trbs ≡ max_held
    places-next = ap (λ (c : ControlBlock). length c.trbs) block-next ∙ places-after lent b t places first-yes taken.held taken.goes_on

    pub transfer-next : next.transfer ≡ transfer_after (trb_outcome b.transfer.phase t.variant) t.variant t.addr b.transfer
    transfer-next = ap (λ (c : ControlBlock). c.transfer) block-next

    pub leads-next : trbs_lead next.transfer.phase (u ∷ ts) ≡ true
    unfolding trb_outcome transfer_after
    leads-next = ap (λ (w : ControlTransfer). trbs_lead w.phase (u ∷ ts)) transfer-next ∙ leads-rest b.transfer.phase (entry_of t) (entry_of u) (map entry_of ts) h

    behind-cons : Behind next (us ++ t ∷ []) (u ∷ ts) (calls_of lent next (u ∷ ts)) → Behind b us (t ∷ u ∷ ts) (calls_of lent b (t ∷ u ∷ ts))
    unfolding calls_of
    behind-cons rest =
        let wider : transfer_behind (u ∷ ts) next.transfer ≡ transfer_behind (t ∷ u ∷ ts) b.transfer = ap (transfer_behind (u ∷ ts)) transfer-next in
        let endpoint : next.endpoint_id ≡ b.endpoint_id = ap (λ (c : ControlBlock). c.endpoint_id) block-next in
        let slot : next.slot_id ≡ b.slot_id = ap (λ (c : ControlBlock). c.slot_id) block-next in
        let quiet : (submitted lent b t).records ≡ [] = records-after lent b t places first-yes taken.held taken.goes_on false taken.silent in
        let kept-quiet : (collecting lent b t).records ≡ [] =
        records-between lent b t places first-yes taken.held taken.goes_on (taken.collects t.addr) kept-yes in
        record {
          held = rest.held ∙ append_assoc us (t ∷ []) (u ∷ ts);
          state = rest.state;
          transfer = rest.transfer ∙ wider;
          phase = rest.phase;
          places = rest.places;
          records = rw (quiet, kept-quiet) (rest.records
              ∙ ap (λ (w : ControlTransfer). control_request w.request next.endpoint_id next.slot_id ∷ []) wider
              ∙ ap (λ (e : EndpointId). control_request (transfer_behind (t ∷ u ∷ ts) b.transfer).request e next.slot_id ∷ []) endpoint
              ∙ ap (λ (s : SlotId). control_request (transfer_behind (t ∷ u ∷ ts) b.transfer).request b.endpoint_id s ∷ []) slot);
          endpoint = rest.endpoint ∙ endpoint;
          slot = rest.slot ∙ slot;
          release = rest.release ∙ ap (λ (c : ControlBlock). c.release) block-next;
        }

behind-all : (lent : Lent) (b : ControlBlock) (us ts : List TransferTrb) → held_of b ≡ us → length b.trbs ≡ max_held → trbs_lead b.transfer.phase ts ≡ true → EachAccepted lent b ts
    → Behind b us ts (calls_of lent b ts)
behind-all lent b us [] held places h all = absurd (false≢true h)
behind-all lent b us (t ∷ []) held places h all = behind-last lent b us held places t h all
behind-all lent b us (t ∷ u ∷ ts) held places h all =
    behind-cons lent b us held places t u ts h all
    (behind-all lent (collecting lent b t).state.block (us ++ t ∷ []) (u ∷ ts) (held_next lent b us held places t u ts h all) (places-next lent b us held places t u ts h all)
    (leads-next lent b us held places t u ts h all) (rest-yes lent b us held places t u ts h all))

-- from a block that holds nothing and expects Setup: whatever the phase table leads to a request
pub calls-request : (lent : Lent) (b : ControlBlock) (ts : List TransferTrb) → Ready b → trbs_lead ExpectSetupStageTrb ts ≡ true → EachAccepted lent b ts → Requested b ts (calls_of lent b ts)
calls-request lent b ts ready h all =
    let none : held_of b ≡ [] = ap (λ (n : ℕ). take n b.trbs) ready.empty in
    let r = behind-all lent b [] ts none ready.places (ap (λ (p : ControlTransferState). trbs_lead p ts) ready.phase ∙ h) all in
    record { held = r.held; state = r.state; transfer = r.transfer; phase = r.phase; places = r.places; records = r.records; endpoint = r.endpoint; slot = r.slot; release = r.release }
