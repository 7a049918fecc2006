-- A control transfer by calls conforms: the TRBs of every transfer of 4.11.2.2 lead the phase table to a request, so they are held and the device is awaited; and its
-- completion walks the TRBs held. Assumes nothing.
use Rattle.std.specs.Prelude.{None, Option, Some}
use Prim.Native.Nat.{ℕ, min}
use mathlib.Core.Bool.{Bool, true, false, false≢true}
use mathlib.Core.Path.{◌≡◌, refl, sym, ap, ◌∙◌, subst}
use mathlib.Core.List.{List, [], ◌∷◌, ◌++◌}
use native.Mathlib.Omega.{arith}
use lib.ListN.{length, drop, replicate, length-append, length-drop, length-replicate}
use Rattle.trb.specs.Limits.{max_held}
use Rattle.trb.specs.Questions.{first_no}
use Rattle.trb.specs.declared.ControlRequestProcessingResult.{ControlRequestProcessingResult}
use Rattle.trb.specs.declared.ControlRequestProcessingResult.TheVariants as device
use Rattle.trb.specs.declared.ControlRequestProcessingResult.TheVariants.{SuccessfulControlIn, SuccessfulControlOut}
use Rattle.trb.specs.declared.ControlSubmissionState.{ControlSubmissionState}
use Rattle.trb.specs.declared.ControlSubmissionState.TheVariants.{AwaitingControlRequest}
use Rattle.trb.specs.declared.ControlTransferState.{ControlTransferState}
use Rattle.trb.specs.declared.ControlTransferState.TheVariants.{ExpectSetupStageTrb, MaybeDataStageTrb}
use Rattle.trb.specs.declared.EndpointId.{EndpointId}
use Rattle.trb.specs.declared.SlotId.{SlotId}
use Rattle.trb.specs.declared.TransferTrb.{TransferTrb}
use Rattle.trb.specs.declared.TransferTrbVariant.TheVariants.{SetupStage, StatusStage}
use Rattle.trb.proofs.TestLaws.{or-false-left, or-false-right}
use Rattle.call_log.specs.Calls.{Out}
use Rattle.walks.specs.All.{all}
use Rattle.guest_memory.specs.Places.{Memory, regions_of, bytes_at}
use Rattle.phase_table.specs.Leads.{trbs_lead}
use Rattle.phase_table.specs.Table.{trb_outcome}
use Rattle.control_block.specs.Blocks.{fresh_block, held_of}
use Rattle.control_block.specs.Endings.{request_ending, ending_of, phase_behind}
use Rattle.control_block.specs.Facts.{facts_of}
use Rattle.control_block.specs.Stages.{error_address}
use Rattle.control_block.specs.declared.ControlBlock.{ControlBlock}
use Rattle.control_block.specs.declared.ControlTransfer.{ControlTransfer}
use Rattle.control_block.specs.declared.GuestRelease.{GuestRelease}
use Rattle.control_chain.specs.Chain.{realize_chain, input_td, output_td}
use Rattle.control_chain.specs.Endings.{ending_records}
use Rattle.held.specs.Places.{blank_trb, cleared}
use Rattle.control_questions.specs.Completion.{is_given, completion_questions}
use Rattle.control_transfer.specs.Transfers.{transfer_after}
use Rattle.control_endpoint.specs.Completion.{block_behind, accepted, completion}
use Rattle.control_endpoint.specs.Returned.{Completed}
use Rattle.standard.specs.Control.{Kind, IsControl, outgoing}
use Rattle.standard.specs.Usb.{Setup, to_host}
use Rattle.conformance.specs.Phases.{OfKinds}
use Rattle.conformance.specs.Requests.{setup_trb, Sized, Requests, is_setup, any_setup, transfer_behind}
use Rattle.conformance.specs.TranslateControl.{DataTrb, normal_at, event_data_at, DataTd, no_data, data_td, Final, no_final, final_at, Chain, at, data_trbs, data_td_trbs, final_trbs, trbs_of}
use Rattle.conformance.proofs.ChainTheorems.{leads-trbs_of}
use Rattle.conformance.proofs.ControlOutTheorems as sending
use Rattle.conformance.proofs.ControlTheorems as receiving
use Rattle.conformance.proofs.PhaseTheorems.{is_control-leads}
use Rattle.conformance.proofs.RequestTheorems.{begun-requests, behind-requests}
use Rattle.conformance_control_calls.specs.Transfers.{Lent, EachAccepted, calls_of, Ready, Requested, collected_by, sources_of, allowed, ReceivedAs, SentAs, Conforms}
use Rattle.conformance_control_calls.proofs.RequestLaws.{calls-request}
use Rattle.conformance_control_calls.proofs.CollectLaws.{collected-transfer}

-- ---- The request

-- no other Setup comes behind the first
setup-append : (xs ys : List TransferTrb) → any_setup xs ≡ false → any_setup ys ≡ false → any_setup (xs ++ ys) ≡ false
setup-append [] ys h k = k
setup-append (x ∷ xs) ys h k =
    rw (or-false-left (is_setup x.variant) (any_setup xs) h) (setup-append xs ys (or-false-right (is_setup x.variant) (any_setup xs) h) k)

data-alone : (ds : List DataTrb) → any_setup (data_trbs ds) ≡ false
data-alone [] = refl
data-alone (normal_at t a cycle ∷ ds) = data-alone ds
data-alone (event_data_at t a cycle ∷ ds) = data-alone ds

part-alone : (d : DataTd) → any_setup (data_td_trbs d) ≡ false
part-alone no_data = refl
part-alone (data_td t a cycle ds) = data-alone ds

final-alone : (f : Final) → any_setup (final_trbs f) ≡ false
final-alone no_final = refl
final-alone (final_at t a cycle) = refl

module _ (c : Chain) where
  abbrev behind-setup : List TransferTrb
  behind-setup = data_td_trbs c.data_part ++ (at (StatusStage c.status) c.status_address c.status_cycle ∷ final_trbs c.final)

  one-setup : any_setup behind-setup ≡ false
  one-setup = setup-append (data_td_trbs c.data_part) (at (StatusStage c.status) c.status_address c.status_cycle ∷ final_trbs c.final) (part-alone c.data_part) (final-alone c.final)

  -- USB 2.0, 9.3
  packet-requested : (p : Setup) (ioc : Bool) → Sized p → c.setup ≡ setup_trb p ioc → (w : ControlTransfer) → w.phase ≡ ExpectSetupStageTrb
      → Requests p c.setup_address (transfer_behind (trbs_of c) w)
  unfolding trb_outcome transfer_after
  packet-requested p ioc fits same w phase =
      behind-requests p c.setup_address behind-setup _ one-setup
      (rw (phase, same) (begun-requests p fits MaybeDataStageTrb ioc c.setup_address))

  module _ (p : Setup) (ioc : Bool) (fits : Sized p) (same : c.setup ≡ setup_trb p ioc) (out : to_host p ≡ false) where
    -- a transfer that goes out begins
    goes-out : (w : ControlTransfer) → w.phase ≡ ExpectSetupStageTrb
        → (transfer_after (trb_outcome w.phase (SetupStage c.setup)) (SetupStage c.setup) c.setup_address w).direction ≡ false
    unfolding trb_outcome transfer_after
    goes-out w phase = rw (phase, same) ((begun-requests p fits MaybeDataStageTrb ioc c.setup_address).direction ∙ out)

    bytes-out : (lent : Lent) (m : Memory) → lent.regions ≡ regions_of m → (b : ControlBlock) → Ready b → trbs_lead b.transfer.phase (trbs_of c) ≡ true → EachAccepted lent b (trbs_of c)
        → all allowed (sources_of (trbs_of c)) ≡ true → collected_by lent m b (trbs_of c) ≡ outgoing (bytes_at m) (sources_of (trbs_of c))
    bytes-out lent m regions b ready leads accepts short =
        collected-transfer lent m regions b c.setup c.setup_address c.setup_cycle behind-setup ready.places leads accepts (goes-out b.transfer ready.phase) one-setup short

-- ---- The completion

-- of a block that awaits the device
completion-done : (log : ℕ) (b : ControlBlock) (r : Option ControlRequestProcessingResult) (n : ℕ) → b.state ≡ AwaitingControlRequest → first_no (completion_questions log (facts_of b) r n) ≡ 0
    → completion log b r n ≡ accepted (request_ending r n) b
unfolding completion
completion-done log b r n awaits none = rw none (ap (λ (x : ControlSubmissionState). accepted (ending_of x r n) b) awaits)

completion-ending : (log : ℕ) (b : ControlBlock) (r : Option ControlRequestProcessingResult) (n : ℕ) → b.state ≡ AwaitingControlRequest → first_no (completion_questions log (facts_of b) r n) ≡ 0
    → (completion log b r n).records ≡ ending_records (request_ending r n) (error_address b) b.endpoint_id b.slot_id (held_of b)
unfolding accepted
completion-ending log b r n awaits none = ap (λ (o : Out Completed). o.records) (completion-done log b r n awaits none)

module _ (b : ControlBlock) (c : Chain) (awaits : b.state ≡ AwaitingControlRequest) (held : held_of b ≡ trbs_of c) (log n : ℕ) where
  received_as : first_no (completion_questions log (facts_of b) (Some SuccessfulControlIn) n) ≡ 0 → ReceivedAs c n (completion log b (Some SuccessfulControlIn) n).records
  unfolding ending_records
  received_as none =
      let made : (completion log b (Some SuccessfulControlIn) n).records ≡ (realize_chain (input_td b.endpoint_id b.slot_id n) (trbs_of c)).records =
      completion-ending log b (Some SuccessfulControlIn) n awaits none
      ∙ ap (λ (ts : List TransferTrb). (realize_chain (input_td b.endpoint_id b.slot_id n) ts).records) held in
      subst (ReceivedAs c n) (sym made)
      (record { events = receiving.told-chain_events b.endpoint_id b.slot_id n c; writes = receiving.wrote-deliveries b.endpoint_id b.slot_id n c })

  sent-as : first_no (completion_questions log (facts_of b) (Some SuccessfulControlOut) n) ≡ 0 → SentAs c (completion log b (Some SuccessfulControlOut) n).records
  unfolding ending_records
  sent-as none =
      let made : (completion log b (Some SuccessfulControlOut) n).records ≡ (realize_chain (output_td b.endpoint_id b.slot_id) (trbs_of c)).records =
      completion-ending log b (Some SuccessfulControlOut) n awaits none
      ∙ ap (λ (ts : List TransferTrb). (realize_chain (output_td b.endpoint_id b.slot_id) ts).records) held in
      subst (SentAs c) (sym made)
      (record { events = sending.told-sent_whole b.endpoint_id b.slot_id c; writes = sending.wrote_none b.endpoint_id b.slot_id c })

-- ---- The block behind it

length-cleared : (n : ℕ) (xs : List TransferTrb) → length (cleared n xs) ≡ length xs
unfolding cleared
length-cleared n xs =
    length-append (replicate (min n (length xs)) blank_trb) (drop n xs) ∙ omega (arith, length-replicate (min n (length xs)) blank_trb, length-drop n xs)

ready-behind : (log : ℕ) (b : ControlBlock) (r : Option ControlRequestProcessingResult) (n : ℕ) → b.state ≡ AwaitingControlRequest → b.transfer.phase ≡ ExpectSetupStageTrb → length b.trbs ≡ max_held
    → is_given r ≡ true → first_no (completion_questions log (facts_of b) r n) ≡ 0 → Ready (completion log b r n).state.block
unfolding accepted block_behind
ready-behind log b r n awaits phase places given none =
    subst (λ (o : Out Completed). Ready o.state.block) (sym (completion-done log b r n awaits none)) (by_result r given)
  where
    emptied-places : length (cleared b.held b.trbs) ≡ max_held
    emptied-places = length-cleared b.held b.trbs ∙ places

    by_result : (r : Option ControlRequestProcessingResult) → is_given r ≡ true → Ready (block_behind (request_ending r n) b)
    by_result None h = absurd (false≢true h)
    by_result (Some device.Disconnect) h = record { due = refl; phase = ap (λ (x : ControlSubmissionState). phase_behind x b.transfer.phase) awaits ∙ phase; empty = refl; places = emptied-places }
    by_result (Some device.Stall) h = record { due = refl; phase = ap (λ (x : ControlSubmissionState). phase_behind x b.transfer.phase) awaits ∙ phase; empty = refl; places = emptied-places }
    by_result (Some device.TransactionError) h = record { due = refl; phase = ap (λ (x : ControlSubmissionState). phase_behind x b.transfer.phase) awaits ∙ phase; empty = refl; places = emptied-places }
    by_result (Some device.SuccessfulControlIn) h = record { due = refl; phase = ap (λ (x : ControlSubmissionState). phase_behind x b.transfer.phase) awaits ∙ phase; empty = refl; places = emptied-places }
    by_result (Some device.SuccessfulControlOut) h = record { due = refl; phase = ap (λ (x : ControlSubmissionState). phase_behind x b.transfer.phase) awaits ∙ phase; empty = refl; places = emptied-places }

-- ---- The theorems

-- whatever the phase table leads to a request
pub leading-conforms : (lent : Lent) (b : ControlBlock) (ts : List TransferTrb) → Ready b → trbs_lead ExpectSetupStageTrb ts ≡ true → EachAccepted lent b ts → Conforms lent b ts
leading-conforms lent b ts ready leads accepts =
    let found : (c : Chain) × (trbs_of c ≡ ts) = leads-trbs_of ts leads in
    let requested : Requested b ts (calls_of lent b ts) = calls-request lent b ts ready leads accepts in
    let held : held_of (calls_of lent b ts).block ≡ trbs_of found.0 = requested.held ∙ sym found.1 in
    record {
      chain = found.0;
      same = found.1;
      requested = requested;
      packet = λ p ioc fits setup.
          subst (λ (us : List TransferTrb). Requests p found.0.setup_address (transfer_behind us b.transfer)) found.1
          (packet-requested found.0 p ioc fits setup b.transfer ready.phase);
      collected = λ m regions p ioc fits setup out.
          subst
          (λ (us : List TransferTrb).
          trbs_lead b.transfer.phase us ≡ true → EachAccepted lent b us → all allowed (sources_of us) ≡ true → collected_by lent m b us ≡ outgoing (bytes_at m) (sources_of us))
          found.1 (bytes-out found.0 p ioc fits setup out lent m regions b ready)
          (ap (λ (x : ControlTransferState). trbs_lead x ts) ready.phase ∙ leads) accepts;
      received = λ log n none. received_as (calls_of lent b ts).block found.0 requested.state held log n none;
      ready = λ log r n given none.
          ready-behind log (calls_of lent b ts).block r n requested.state requested.phase requested.places given none;
      sent = λ log n none. sent-as (calls_of lent b ts).block found.0 requested.state held log n none;
    }

-- xHCI 1.2, 4.11.2.2: accepted submissions of the TRBs of a control transfer
pub control-conforms : (lent : Lent) (b : ControlBlock) (ts : List TransferTrb) (ks : List Kind) → OfKinds ts ks → IsControl ks → Ready b → EachAccepted lent b ts → Conforms lent b ts
control-conforms lent b ts ks kinds control ready all = leading-conforms lent b ts ready (is_control-leads kinds control) all

-- a block that was created is ready
pub fresh-ready : (e : EndpointId) (s : SlotId) (release : GuestRelease) → Ready (fresh_block e s release)
fresh-ready e s release = record { due = refl; phase = refl; empty = refl; places = length-replicate max_held blank_trb }
