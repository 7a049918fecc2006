-- Each call on a control endpoint keeps three things. A block that collects does not expect a Setup; one that expects a Setup, a
-- submission being due, holds nothing, so that a Setup that turns the direction to IN finds no TRB of a transfer before it. In an IN
-- transfer no TRB held has immediate data, by question 21; the lengths held add up to at most what was asked for, since lengths are
-- only added where the request's is; and the request's length is that sum modulo 2^32. Assumes nothing.
use Rattle.std.specs.Prelude.{None, Ok, Option, Some}
use Prim.Native.Nat.{ℕ, ◌+◌, ◌%◌, ◌^◌, ◌≤◌}
use mathlib.Core.Path.{◌≡◌, refl, sym, ap, ◌∙◌}
use mathlib.Core.Bool.{Bool, true, false, not, cond, ◌&&◌, true≢false}
use mathlib.Core.List.{List, [], ◌∷◌}
use native.Mathlib.Omega.{arith}
use lib.Dec.{leb}
use lib.ListN.{take, set}
use borrow.Author.Tests.{not-true}
use Rattle.trb.specs.Answers.{is_accepted}
use Rattle.trb.specs.Ids.{ids_in_range}
use Rattle.trb.specs.Limits.{min_log}
use Rattle.trb.specs.Questions.{first_no, agree}
use Rattle.trb.specs.Trbs.{transfer_length, immediate_of}
use Rattle.trb.specs.declared.ControlRequestProcessingResult.{ControlRequestProcessingResult}
use Rattle.trb.specs.declared.ControlRequestProcessingResult.TheVariants as device
use Rattle.trb.specs.declared.ControlSubmissionState.{ControlSubmissionState}
use Rattle.trb.specs.declared.ControlSubmissionState.TheVariants.{NoTrbSubmitted, CollectingTd, ParserError, UnexpectedTrb, AwaitingControlRequest}
use Rattle.trb.specs.declared.ControlTransferState.{ControlTransferState}
use Rattle.trb.specs.declared.ControlTransferState.TheVariants.{ExpectSetupStageTrb, MaybeDataStageTrb, MoreData, ExpectStatusStageTrb, ExpectFinalEventDataTrb}
use Rattle.trb.specs.declared.EndpointId.{EndpointId}
use Rattle.trb.specs.declared.SetupStageTrb.{SetupStageTrb}
use Rattle.trb.specs.declared.SlotId.{SlotId}
use Rattle.trb.specs.declared.TransferTrb.{TransferTrb}
use Rattle.trb.specs.declared.TransferTrbVariant.{TransferTrbVariant}
use Rattle.trb.specs.declared.TransferTrbVariant.TheVariants.{SetupStage, DataStage, StatusStage, Normal, EventData, NoOp, Isoch, Unrecognized}
use Rattle.trb.proofs.QuestionLaws.{yes-first, yes-behind}
use Rattle.call_log.specs.Calls.{Out}
use Rattle.walks.specs.All.{all}
use Rattle.guest_memory.specs.declared.Regions.{Regions}
use Rattle.guest_memory.specs.Regions.{share_an_address}
use Rattle.phase_table.specs.declared.Outcome.{Outcome}
use Rattle.phase_table.specs.declared.Outcome.TheVariants as outcome
use Rattle.phase_table.specs.Outcomes.{holds, restarts, phase_after, state_after}
use Rattle.phase_table.specs.Table.{setup_stage_outcome, trb_outcome}
use Rattle.control_block.specs.declared.BlockFacts.{BlockFacts}
use Rattle.control_block.specs.declared.ControlBlock.{ControlBlock}
use Rattle.control_block.specs.declared.ControlTransfer.{ControlTransfer}
use Rattle.control_block.specs.declared.Ending.{Ending}
use Rattle.control_block.specs.declared.Ending.TheVariants.{KeepCollecting, ReportBadTrb, Fail, Realize}
use Rattle.control_block.specs.Blocks.{fresh_block, held_of, stored, emptied}
use Rattle.control_block.specs.Endings.{ending_of, phase_behind}
use Rattle.control_block.specs.Facts.{submission_due, awaits_device, facts_of, sound_block}
use Rattle.control_transfer.specs.Data.{data_of, size_of}
use Rattle.control_transfer.specs.Transfers.{lengthened, grown, taken_by, transfer_after}
use Rattle.control_questions.specs.Completion.{is_given, completion_questions}
use Rattle.control_questions.specs.Submission.{long_enough, submission_questions}
use Rattle.control_questions.proofs.CompletionLaws as completion-questions
use Rattle.control_questions.proofs.SubmissionLaws as submission-questions
use Rattle.control_endpoint.specs.Completion as completing
use Rattle.control_endpoint.specs.Creation.{not_created, creation}
use Rattle.control_endpoint.specs.Submission as submitting
use Rattle.control_endpoint.specs.Returned.{Completed}
use Rattle.control_endpoint.specs.Returned.{Created}
use Rattle.control_endpoint.specs.Returned.{Submitted}
use Rattle.control_block.specs.declared.GuestRelease.{GuestRelease}
use Rattle.made_blocks.specs.Held.{from_memory, lengths}
use Rattle.made_blocks.specs.ControlCalls.{ControlCall, submit, complete, cancel, after, after_all, asked_by, asked_after, asked_after_all}
use Rattle.made_blocks.proofs.CallLaws.{by-questions, all-stored, lengths-stored}

-- ---- What every call keeps

abbrev is_collecting : ControlSubmissionState → Bool
is_collecting NoTrbSubmitted = false
is_collecting CollectingTd = true
is_collecting (ParserError a) = false
is_collecting (UnexpectedTrb a) = false
is_collecting AwaitingControlRequest = false

abbrev expects_setup : ControlTransferState → Bool
expects_setup ExpectSetupStageTrb = true
expects_setup MaybeDataStageTrb = false
expects_setup MoreData = false
expects_setup ExpectStatusStageTrb = false
expects_setup ExpectFinalEventDataTrb = false

-- of the TRBs ts, held in an IN transfer whose request has this length, n having been asked for
pub record Asked (ts : List TransferTrb) (length n : ℕ) : Type 0 where
  pub from-memory : all from_memory ts ≡ true
  pub few : lengths ts ≤ n
  pub summed : length ≡ n % 2 ^ 32

abbrev OfInput : ControlTransfer → List TransferTrb → ℕ → Type 0
OfInput w ts n = w.direction ≡ true → Asked ts w.request.length n

pub record Kept (b : ControlBlock) (n : ℕ) : Type 0 where
  pub collecting : is_collecting b.state ≡ true → expects_setup b.transfer.phase ≡ false
  pub nothing-held : submission_due b.state ≡ true → expects_setup b.transfer.phase ≡ true → b.held ≡ 0
  pub input : OfInput b.transfer (held_of b) n

-- ---- What two questions tell of a call that passes them

submission-due : (l c : ℕ) (f : BlockFacts) (o : Outcome) (t : TransferTrb) (regions : Regions) → first_no (submission_questions l c f o t regions) ≡ 0
    → submission_due f.state ≡ true
unfolding submission_questions
submission-due l c f o t regions none =
    let apart = yes-behind (long_enough l c) 0 (submission-questions.from-regions f o t regions) none in
    let block = yes-behind (not (share_an_address regions)) 12 (submission-questions.from_block f o t regions) apart in
    let turn = yes-behind (sound_block f) 1 (submission-questions.from-turn f o t regions) block in
    yes-first (submission_due f.state) 2 (submission-questions.from-length f o t regions) turn

pub result-agrees : (l : ℕ) (f : BlockFacts) (r : Option ControlRequestProcessingResult) (m : ℕ) → first_no (completion_questions l f r m) ≡ 0
    → agree (is_given r) (awaits_device f.state) ≡ true
unfolding completion_questions
result-agrees l f r m none =
    let block = yes-behind (leb min_log l) 0 (completion-questions.from_block f r m) none in
    let turn = yes-behind (sound_block f) 1 (completion-questions.from-turn f r m) block in
    let result = yes-behind (not (submission_due f.state)) 2 (completion-questions.from-result f r m) turn in
    yes-first (agree (is_given r) (awaits_device f.state)) 7 (completion-questions.from-data f r m) result

-- ---- Creation

kept_fresh : (e : EndpointId) (s : SlotId) (release : GuestRelease) → Kept (fresh_block e s release) 0
kept_fresh e s release = record {
  collecting = λ never. absurd (true≢false (sym never));
  nothing-held = λ due phase. refl;
  input = λ never. absurd (true≢false (sym never));
}

pub kept-creation : (e : EndpointId) (s : SlotId) (release : GuestRelease) → Kept (creation e s release).block 0
kept-creation e s release =
    by-questions (λ (r : Created). Kept r.block 0) ((ids_in_range e s, 12) ∷ []) (not_created release) (record { answer = Ok tt; block = fresh_block e s release })
    (λ n. kept_fresh (record { 0 = 0 }) (record { 0 = 0 }) release) (λ none. kept_fresh e s release)

-- ---- A TRB that is taken

grown-direction : (w : ControlTransfer) (size : ℕ) → (grown w size).direction ≡ w.direction
grown-direction w size = by w.direction
  where
    by : (input : Bool)
        → (cond {A = ControlTransfer} input (record { phase = w.phase; direction = w.direction; request = lengthened w.request size; collected = w.collected })
        (record { phase = w.phase; direction = w.direction; request = w.request; collected = w.collected + size })
        ).direction ≡ w.direction
    by true = refl
    by false = refl

-- behind the first m of the places xs, in the transfer w
module _ (w : ControlTransfer) (xs : List TransferTrb) (m n : ℕ) where
  -- a TRB that moves nothing
  input-still : (t : TransferTrb) → immediate_of t.variant ≡ false → transfer_length t.variant ≡ 0 → OfInput w (take m xs) n
      → OfInput w (take (m + 1) (set xs m t)) n
  input-still t flag none k input = record {
    from-memory = all-stored from_memory xs m t (k input).from-memory (rw flag);
    few = omega (arith, (k input).few, lengths-stored xs m t);
    summed = (k input).summed;
  }

  -- a TRB that adds its length
  input-grown : (t : TransferTrb) (size : ℕ) → (w.direction ≡ true → immediate_of t.variant ≡ false) → (w.direction ≡ true → size ≡ transfer_length t.variant)
      → OfInput w (take m xs) n → OfInput (grown w size) (take (m + 1) (set xs m t)) (n + size)
  input-grown t size flag whole k grew =
      let input : w.direction ≡ true = sym (grown-direction w size) ∙ grew in
      record {
        from-memory = all-stored from_memory xs m t (k input).from-memory (rw (flag input));
        few = omega (arith, (k input).few, whole input, lengths-stored xs m t);
        summed = rw input (omega (arith, (k input).summed));
      }

  -- a Setup, which is the first TRB held
  input-begun : (t : TransferTrb) → m ≡ 0 → immediate_of t.variant ≡ false → transfer_length t.variant ≡ 0 → Asked (take (m + 1) (set xs m t)) 0 0
  unfolding all
  input-begun t first flag none =
      let alone : take m xs ≡ [] = rw first in
      record {
        from-memory = all-stored from_memory xs m t (rw alone) (rw flag);
        few = omega (arith, none, ap lengths alone, lengths-stored xs m t);
        summed = refl;
      }

  input-taken : (v : TransferTrbVariant) (a : ℕ) (cycle : Bool) → ((s : SetupStageTrb) → v ≡ SetupStage s → m ≡ 0)
      → (w.direction ≡ true → (data_of v).immediate_data ≡ false) → OfInput w (take m xs) n
      → OfInput (taken_by v a w) (take (m + 1) (set xs m (record { variant = v; addr = a; cycle_bit = cycle }))) (asked_by v n)
  input-taken (SetupStage t) a cycle first flag k = λ input. input-begun _ (first t refl) refl refl
  input-taken (DataStage t) a cycle first flag k = input-grown _ (size_of (data_of (DataStage t))) flag (λ input. rw (flag input)) k
  input-taken (StatusStage t) a cycle first flag k = input-still _ refl refl k
  input-taken (Normal t) a cycle first flag k = input-grown _ (size_of (data_of (Normal t))) flag (λ input. rw (flag input)) k
  input-taken (EventData t) a cycle first flag k = input-still _ refl refl k
  input-taken (NoOp t) a cycle first flag k = input-still _ refl refl k
  input-taken Isoch a cycle first flag k = input-still _ refl refl k
  input-taken Unrecognized a cycle first flag k = input-still _ refl refl k

-- ---- Submission

not-due : (o : Outcome) (a : ℕ) → submission_due (state_after o a) ≡ false
not-due outcome.StartTransfer a = refl
not-due outcome.RestartTransfer a = refl
not-due outcome.TakeData a = refl
not-due outcome.TakeLastData a = refl
not-due outcome.TakeChainedStatus a = refl
not-due outcome.SubmitRequest a = refl
not-due outcome.Unexpected a = refl
not-due outcome.Unsupported a = refl
not-due outcome.Unrecognized a = refl

collects-on : (o : Outcome) (a : ℕ) (phase : ControlTransferState) → is_collecting (state_after o a) ≡ true → expects_setup (phase_after phase o) ≡ false
collects-on outcome.StartTransfer a phase e = refl
collects-on outcome.RestartTransfer a phase e = refl
collects-on outcome.TakeData a phase e = refl
collects-on outcome.TakeLastData a phase e = refl
collects-on outcome.TakeChainedStatus a phase e = refl
collects-on outcome.SubmitRequest a phase e = absurd (true≢false (sym e))
collects-on outcome.Unexpected a phase e = absurd (true≢false (sym e))
collects-on outcome.Unsupported a phase e = absurd (true≢false (sym e))
collects-on outcome.Unrecognized a phase e = absurd (true≢false (sym e))

module _ (b : ControlBlock) (n : ℕ) (k : Kept b n) where
  -- the TRBs held before a Setup outside ExpectSetupStageTrb are dropped
  input-dropped : (restart : Bool) → OfInput b.transfer (held_of (cond restart (emptied b) b)) n
  unfolding all
  input-dropped true input = record { from-memory = refl; few = omega arith; summed = (k.input input).summed }
  input-dropped false input = k.input input

  -- a Setup finds nothing held, where a submission is due
  setup-first : submission_due b.state ≡ true → (v : TransferTrbVariant) (s : SetupStageTrb) → v ≡ SetupStage s
      → (submitting.dropped_before (trb_outcome b.transfer.phase v) b).held ≡ 0
  unfolding trb_outcome
  setup-first due v s e = rw e (by b.transfer.phase (k.nothing-held due))
    where
      by : (phase : ControlTransferState) → (expects_setup phase ≡ true → b.held ≡ 0) → (submitting.dropped_before (setup_stage_outcome phase) b).held ≡ 0
      by ExpectSetupStageTrb none = none refl
      by MaybeDataStageTrb none = refl
      by MoreData none = refl
      by ExpectStatusStageTrb none = refl
      by ExpectFinalEventDataTrb none = refl

  module _ (t : TransferTrb) (o : Outcome) (same : o ≡ trb_outcome b.transfer.phase t.variant) (due : submission_due b.state ≡ true)
      (flag : holds o ≡ true → b.transfer.direction ≡ true → (data_of t.variant).immediate_data ≡ false) where
    abbrev dropped : ControlBlock
    dropped = submitting.dropped_before o b

    input-held : (hold : Bool) → holds o ≡ hold
        → OfInput (cond hold (taken_by t.variant t.addr b.transfer) b.transfer) (held_of (cond hold (stored dropped t) dropped)) (cond hold (asked_by t.variant n) n)
    input-held true h =
        input-taken b.transfer dropped.trbs dropped.held n t.variant t.addr t.cycle_bit
        (λ s e. ap (λ (x : Outcome). (submitting.dropped_before x b).held) same ∙ setup-first due t.variant s e) (flag h) (input-dropped (restarts o))
    input-held false h = input-dropped (restarts o)

    kept-taken : Kept (submitting.block_after o b t) (cond (holds o) (asked_by t.variant n) n)
    unfolding submitting.block_after transfer_after
    kept-taken = record {
      collecting = collects-on o t.addr b.transfer.phase;
      nothing-held = λ now phase. absurd (true≢false (sym now ∙ not-due o t.addr));
      input = input-held (holds o) refl;
    }

  kept-submission : (l c : ℕ) (t : TransferTrb) (regions : Regions) → Kept (submitting.submission l c b t regions).state.block (asked_after (submit l c t regions) b n)
  unfolding submitting.submission submitting.accepted
  kept-submission l c t regions =
      by-questions (λ (r : Out Submitted). Kept r.state.block (cond (is_accepted r.state.answer && holds o) (asked_by t.variant n) n))
      (submitting.questions_of l c b t regions) (submitting.refused b) (submitting.accepted o b t) (λ m. k) (λ none. kept-taken t o refl (submission-due l c (facts_of b) o t regions none) (flag none))
    where
      o : Outcome
      o = trb_outcome b.transfer.phase t.variant

      flag : first_no (submission_questions l c (facts_of b) o t regions) ≡ 0 → holds o ≡ true → b.transfer.direction ≡ true → (data_of t.variant).immediate_data ≡ false
      flag none h input = not-true _ (rw (h, input) at (submission-questions.passed (facts_of b) o t regions l c none).from-memory)

  -- ---- Completion

  input-behind : (x : Ending) → OfInput b.transfer (held_of (completing.held_behind x b)) n
  input-behind KeepCollecting = k.input
  input-behind (ReportBadTrb a) = input-dropped true
  input-behind (Fail c r) = input-dropped true
  input-behind (Realize given) = input-dropped true

  -- where a Setup is expected behind it, nothing is held
  none-behind : (s : ControlSubmissionState) (r : Option ControlRequestProcessingResult) (m : ℕ) → agree (is_given r) (awaits_device s) ≡ true
      → (is_collecting s ≡ true → expects_setup b.transfer.phase ≡ false) → (submission_due s ≡ true → expects_setup b.transfer.phase ≡ true → b.held ≡ 0)
      → expects_setup (phase_behind s b.transfer.phase) ≡ true → (completing.held_behind (ending_of s r m) b).held ≡ 0
  none-behind NoTrbSubmitted r m agreed collecting none phase = none refl phase
  none-behind CollectingTd r m agreed collecting none phase = absurd (true≢false (sym phase ∙ collecting refl))
  none-behind (ParserError a) r m agreed collecting none phase = refl
  none-behind (UnexpectedTrb a) r m agreed collecting none phase = refl
  none-behind AwaitingControlRequest None m agreed collecting none phase = absurd (true≢false (sym agreed))
  none-behind AwaitingControlRequest (Some device.Disconnect) m agreed collecting none phase = refl
  none-behind AwaitingControlRequest (Some device.Stall) m agreed collecting none phase = refl
  none-behind AwaitingControlRequest (Some device.TransactionError) m agreed collecting none phase = refl
  none-behind AwaitingControlRequest (Some device.SuccessfulControlIn) m agreed collecting none phase = refl
  none-behind AwaitingControlRequest (Some device.SuccessfulControlOut) m agreed collecting none phase = refl

  kept-completion : (l : ℕ) (r : Option ControlRequestProcessingResult) (m : ℕ) → Kept (completing.completion l b r m).state.block n
  unfolding completing.completion completing.accepted completing.block_behind
  kept-completion l r m =
      by-questions (λ (o : Out Completed). Kept o.state.block n) (completion_questions l (facts_of b) r m) (completing.refused b) (completing.accepted (ending_of b.state r m) b)
      (λ q. k)
      (λ none. record {
        collecting = λ never. absurd (true≢false (sym never));
        nothing-held = λ now. none-behind b.state r m (result-agrees l (facts_of b) r m none) k.collecting k.nothing-held;
        input = input-behind (ending_of b.state r m);
      })

  kept-call : (c : ControlCall) → Kept (after c b) (asked_after c b n)
  kept-call (submit l c t regions) = kept-submission l c t regions
  kept-call (complete l r m) = kept-completion l r m
  kept-call cancel = k

pub kept-calls : (cs : List ControlCall) (b : ControlBlock) (n : ℕ) → Kept b n → Kept (after_all cs b) (asked_after_all cs b n)
kept-calls [] b n k = k
kept-calls (c ∷ cs) b n k = kept-calls cs (after c b) (asked_after c b n) (kept-call b n k c)
