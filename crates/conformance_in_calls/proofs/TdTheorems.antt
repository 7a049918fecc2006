-- The calls of a TD conform: a TRB with its Chain bit on is kept, the last one ends the TD, its request is logged or it completes locally, and the completion logs the
-- walk of which the theorems of `conformance` speak. Assumes nothing.
use Prim.Native.Nat.{ℕ, ◌+◌, ◌<◌, ◌≤◌}
use mathlib.Core.Bool.{Bool, true, false, not, cond, ◌&&◌, ◌||◌, or-false, true≢false}
use mathlib.Core.Logic.{⊎_elim}
use mathlib.Core.Path.{◌≡◌, refl, sym, ap, ◌∙◌, subst}
use mathlib.Core.List.{List, [], ◌∷◌, ◌++◌}
use native.Mathlib.Omega.{arith}
use borrow.Author.Tests.{le-leb, ne_eqb, lt-ltb, le-ltb}
use native.Mathlib.Nat.{zero-add}
use lib.Dec.{eqb, leb, ltb}
use lib.ListN.{length-replicate}
use Rattle.trb.specs.Ids.{ids_in_range}
use Rattle.trb.specs.Limits.{max_held, max_data, min_log}
use Rattle.trb.specs.Questions.{first_no}
use Rattle.trb.specs.Trbs.{chain_of}
use Rattle.trb.specs.declared.EndpointId.{EndpointId}
use Rattle.trb.specs.declared.InTrbProcessingStatus.{InTrbProcessingStatus}
use Rattle.trb.specs.declared.InTrbProcessingStatus.TheVariants as status
use Rattle.trb.specs.declared.SlotId.{SlotId}
use Rattle.trb.specs.declared.TdBasedNormalSubmissionState.{TdBasedNormalSubmissionState}
use Rattle.trb.specs.declared.TdBasedNormalSubmissionState.TheVariants.{SubmissionDue}
use Rattle.trb.specs.declared.TransferTrb.{TransferTrb}
use Rattle.trb.specs.declared.TransferTrbVariant.{TransferTrbVariant}
use Rattle.trb.specs.declared.TransferTrbVariant.TheVariants.{SetupStage, DataStage, StatusStage, Normal, EventData, NoOp, Isoch, Unrecognized}
use Rattle.trb.proofs.TestLaws.{and_left, and_right, le-or-lt}
use Rattle.call_log.specs.Calls.{Out}
use Rattle.call_log.specs.Records.{when}
use Rattle.call_log.specs.declared.Record.{Record}
use Rattle.guest_memory.specs.declared.Regions.{Regions}
use Rattle.guest_memory.specs.Regions.{share_an_address}
use Rattle.held.specs.Places.{blank_trb}
use Rattle.walks.specs.All.{all}
use Rattle.in_td.specs.Td.{normals, normal_count}
use Rattle.in_td.specs.declared.InMode.{InMode}
use Rattle.in_td.specs.declared.InMode.TheVariants.{AsPorted, Strict}
use Rattle.in_block.specs.Blocks.{in_block, fresh_block}
use Rattle.in_block.specs.Facts.{sound_block}
use Rattle.in_block.specs.declared.InBlock.{InBlock}
use Rattle.in_endpoint.specs.Submission.{request_of}
use Rattle.in_td.specs.Normals.{requested}
use Rattle.row_walk.specs.Rows.{RowTd, has_normal, completed, own_log}
use Rattle.row_questions.specs.Questions.{each_trb, is_success, in_supported}
use Rattle.row_questions.proofs.QuestionLaws.{PassedTrb, passed-trb}
use Rattle.in_row.specs.SingleCalls.{Called}
use Rattle.in_row.proofs.CallLaws.{AcceptedTd, accepted-few, length-freed, td_out, calls-td}
use Rattle.in_row.proofs.FoldLaws.{accepted-one}
use Rattle.standard.specs.Usb.{Packets, total, ends_short}
use Rattle.standard.proofs.UsbLaws.{total-≤-room, ends_short-total-<, total-<-ends_short}
use Rattle.standard.specs.Xhci.{is_td, asked, any_on_bus, outcome, succeeded, repeated_residual}
use Rattle.standard.specs.Xhci as xhci
use Rattle.conformance.specs.Translate.{trb_by_kind, td_of, told, wrote, HasNormal}
use Rattle.conformance.proofs.InTheorems.{asked-requested, told-in_outcome, wrote-deliveries, halt_of-in_outcome}
use Rattle.conformance_in_calls.specs.Tds.{chains, halt_answered, Ready, Submitted, calls_of, Conforms}

-- ---- A TD of 4.9.1 is one that a block takes

takes-td : (regions : Regions) (h : ℕ) (ts : List TransferTrb) → is_td (chains ts) ≡ true → all in_supported ts ≡ true → first_no (each_trb regions h ts) ≡ 0 → AcceptedTd regions h ts
unfolding all
takes-td regions h [] td kinds none = absurd (true≢false (sym td))
takes-td regions h (t ∷ []) td kinds none =
    (accepted-one regions h t [] (passed-trb regions h t [] none) (and_left (in_supported t) true kinds), by_chain (chain_of t.variant) refl td)
  where
    by_chain : (c : Bool) → chain_of t.variant ≡ c → is_td (c ∷ []) ≡ true → chain_of t.variant ≡ false
    by_chain true e h = absurd (true≢false (sym h))
    by_chain false e h = e
takes-td regions h (t ∷ u ∷ ts) td kinds none =
    by_chain (chain_of t.variant) refl td y.rest (λ more rest. takes-td regions (h + 1) (u ∷ ts) more (and_right (in_supported t) (all in_supported (u ∷ ts)) kinds) rest)
  where
    y : PassedTrb regions h t (u ∷ ts)
    y = passed-trb regions h t (u ∷ ts) none

    by_chain : (c : Bool) → chain_of t.variant ≡ c → is_td (c ∷ chains (u ∷ ts)) ≡ true → first_no (each_trb regions (cond c (h + 1) 0) (u ∷ ts)) ≡ 0
        → (is_td (chains (u ∷ ts)) ≡ true → first_no (each_trb regions (h + 1) (u ∷ ts)) ≡ 0 → AcceptedTd regions (h + 1) (u ∷ ts)) → AcceptedTd regions h (t ∷ u ∷ ts)
    by_chain true e more rest behind = (
      accepted-one regions h t (u ∷ ts) y (and_left (in_supported t) (all in_supported (u ∷ ts)) kinds),
      (e, behind more rest),
    )
    by_chain false e more rest behind = absurd (true≢false (sym more))

-- ---- What the standard's TD has

on-bus-kind : (v : TransferTrbVariant) (a : ℕ) (ts : List TransferTrb) → has_normal ts ≡ any_on_bus (td_of ts) → not (eqb (normal_count v + normals ts) 0) ≡ any_on_bus (trb_by_kind v a ++ td_of ts)
on-bus-kind (Normal t) a ts h = rw (ne_eqb (1 + normals ts) 0 (λ q. omega arith))
on-bus-kind (SetupStage t) a ts h = rw zero-add h
on-bus-kind (DataStage t) a ts h = rw zero-add h
on-bus-kind (StatusStage t) a ts h = rw zero-add h
on-bus-kind (EventData t) a ts h = rw zero-add h
on-bus-kind (NoOp t) a ts h = rw zero-add h
on-bus-kind Isoch a ts h = rw zero-add h
on-bus-kind Unrecognized a ts h = rw zero-add h

-- it has transactions where it has a Normal
on-bus : (ts : List TransferTrb) → has_normal ts ≡ any_on_bus (td_of ts)
on-bus [] = refl
on-bus (t ∷ ts) = on-bus-kind t.variant t.addr ts (on-bus ts)

-- a TD that was given a failure has a Normal
some-normal : (ts : List TransferTrb) → has_normal ts ≡ true → 0 < normals ts
some-normal ts h =
    ⊎_elim (λ (none : normals ts ≤ 0). let zeroed : normals ts ≡ 0 = omega arith in absurd (true≢false (sym (rw zeroed at h)))) (λ (some : 0 < normals ts). some) (le-or-lt (normals ts) 0)

given-normal : (mode : InMode) (st : InTrbProcessingStatus) (n : ℕ) (ts : List TransferTrb) → (has_normal ts || (is_success st && eqb n 0)) ≡ true → HasNormal mode st ts
given-normal mode status.Success n ts h = tt
given-normal AsPorted status.Stall n ts h = tt
given-normal AsPorted status.TransactionError n ts h = tt
given-normal AsPorted status.Disconnect n ts h = tt
given-normal Strict status.Stall n ts h = some-normal ts (rw (or-false (has_normal ts)) at h)
given-normal Strict status.TransactionError n ts h = some-normal ts (rw (or-false (has_normal ts)) at h)
given-normal Strict status.Disconnect n ts h = some-normal ts (rw (or-false (has_normal ts)) at h)

-- a request is no event, and no write
module _ (ts : List TransferTrb) (e : EndpointId) (s : SlotId) (rs : List Record) where
  told-request : (due : Bool) → told (when due (request_of ts e s) ++ rs) ≡ told rs
  told-request true = refl
  told-request false = refl

  wrote-request : (due : Bool) → wrote (when due (request_of ts e s) ++ rs) ≡ wrote rs
  wrote-request true = refl
  wrote-request false = refl

-- ---- The calls

module _ (l : ℕ) (b : InBlock) (regions : Regions) (ready : Ready l b regions) where
  abbrev e : EndpointId
  e = b.endpoint_id

  abbrev s : SlotId
  s = b.slot_id

  ids : ids_in_range e s ≡ true
  unfolding sound_block
  ids = and_left (ids_in_range e s) _ ready.sound

  long : leb min_log l ≡ true
  long = le-leb min_log l ready.log-long

  block : b ≡ in_block e s b.mode SubmissionDue 0 b.trbs
  block =
      ap (λ (x : TdBasedNormalSubmissionState). in_block e s b.mode x b.held b.trbs) ready.due
      ∙ ap (λ (h : ℕ). in_block e s b.mode SubmissionDue h b.trbs) ready.empty

  module _ (x : RowTd) (sub : Submitted regions x) where
    abbrev ts : List TransferTrb
    ts = x.trbs

    taken : AcceptedTd regions 0 ts
    taken = takes-td regions 0 ts sub.td sub.kinds sub.trbs

    abbrev came : Out Called
    came = td_out e s b.mode ids b.trbs ready.places l long regions ready.apart x

    called : calls_of l b regions x ≡ came
    unfolding all
    called =
        ap (λ (c : InBlock). calls_of l c regions x) block
        ∙ calls-td e s b.mode ids b.trbs ready.places l long regions ready.apart [] x.trbs x refl
        taken refl sub.rightly (le-leb x.given.length max_data sub.small)

    has-normal : HasNormal b.mode x.given.status ts
    has-normal = given-normal b.mode x.given.status x.given.length ts sub.rightly

    -- nothing is held again
    ready-again : Ready l came.state.block regions
    unfolding sound_block all
    ready-again = record {
      log-long = ready.log-long;
      sound = rw ids;
      due = refl;
      empty = refl;
      places = length-freed b.trbs ts (omega (arith, accepted-few regions 0 ts taken, ready.places)) ∙ ready.places;
      apart = ready.apart;
    }

    -- 4.9.1: accepted submissions of a TD's TRBs, and its completion
    pub td-conforms : Conforms l b regions x (calls_of l b regions x)
    unfolding own_log
    td-conforms =
        let walked : List Record = (completed e s b.mode x).records in
        let own : (calls_of l b regions x).records ≡ when (has_normal ts) (request_of ts e s) ++ walked = ap (λ (o : Out Called). o.records) called in
        record {
          records = own ∙ rw (on-bus ts, asked-requested ts);
          events = ap told own ∙ told-request ts e s walked (has_normal ts) ∙ told-in_outcome e s b.mode x.given.status x.given.length ts has-normal;
          writes = ap wrote own ∙ wrote-request ts e s walked (has_normal ts) ∙ wrote-deliveries e s b.mode x.given.status x.given.length ts;
          halt = ap (λ (o : Out Called). halt_answered o.state.answer) called ∙ halt_of-in_outcome e s b.mode x.given.status x.given.length ts has-normal;
          ready = subst (λ (o : Out Called). Ready l o.state.block regions) (sym called) ready-again;
        }

    -- USB 2.0, 5.8.3: where the device's bytes come in packets of at most `max`, under Success
    module _ (max : ℕ) (ks : List ℕ) (packets : Packets max (asked (td_of ts)) ks) (all-bytes : x.given.length ≡ total ks) (well : x.given.status ≡ status.Success) where
      -- the events are the standard's
      pub packets-conform : told (calls_of l b regions x).records ≡ xhci.events repeated_residual (outcome succeeded x.given.length (td_of ts)) x.given.length (td_of ts)
      packets-conform =
          let few : x.given.length ≤ asked (td_of ts) = omega (arith, total-≤-room packets) in
          td-conforms.events ∙ rw (well, le-leb x.given.length (asked (td_of ts)) few)

      -- and it has fewer bytes than S just where a short packet ended the transfer
      pub packets-short : ends_short packets ≡ ltb x.given.length (requested ts)
      packets-short =
          ⊎_elim
          (λ (h : asked (td_of ts) ≤ x.given.length). not_short h (ends_short packets) refl)
          (λ (h : x.given.length < asked (td_of ts)).
          total-<-ends_short packets (omega arith) ∙ sym (lt-ltb x.given.length (requested ts) (omega (arith, asked-requested ts))))
          (le-or-lt (asked (td_of ts)) x.given.length)
        where
          not_short : asked (td_of ts) ≤ x.given.length → (q : Bool) → ends_short packets ≡ q → ends_short packets ≡ ltb x.given.length (requested ts)
          not_short h true e = absurd (omega (arith, ends_short-total-< packets e))
          not_short h false e = e ∙ sym (le-ltb x.given.length (requested ts) (omega (arith, asked-requested ts)))

-- a block that was created is ready
pub fresh-ready : (l : ℕ) (regions : Regions) (e : EndpointId) (s : SlotId) (mode : InMode) → min_log ≤ l → share_an_address regions ≡ false → ids_in_range e s ≡ true
    → Ready l (fresh_block e s mode) regions
unfolding sound_block all
fresh-ready l regions e s mode long apart ids = record {
  log-long = long;
  sound = rw ids;
  due = refl;
  empty = refl;
  places = length-replicate max_held blank_trb;
  apart = apart;
}
