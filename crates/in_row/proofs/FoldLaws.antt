-- 02, R-7: the row is the fold of the single calls. TD by TD the two walks keep together: the same records, the same result, as many finished, the same
-- bytes given, and between TDs a block that holds nothing. Assumes nothing.
use Rattle.std.specs.Prelude.{Ok}
use Prim.Native.Nat.{ℕ, ◌+◌, ◌<◌, ◌≤◌}
use mathlib.Core.Path.{◌≡◌, refl, sym, ap, ◌∙◌, subst}
use mathlib.Core.Bool.{Bool, true, false, not, cond}
use mathlib.Core.List.{List, [], ◌∷◌, map}
use native.Mathlib.Nat.{not-suc-le-zero}
use native.Mathlib.Omega.{arith}
use borrow.Author.Tests.{leb-true, le-leb}
use lib.Dec.{leb}
use lib.ListN.{length, replicate}
use Rattle.trb.specs.Ids.{ids_in_range}
use Rattle.trb.specs.Limits.{max_held, max_data, min_log}
use Rattle.trb.specs.Questions.{first_no}
use Rattle.trb.specs.Trbs.{chain_of}
use Rattle.trb.specs.declared.EndpointId.{EndpointId}
use Rattle.trb.specs.declared.SlotId.{SlotId}
use Rattle.trb.specs.declared.TdBasedNormalSubmissionState.{TdBasedNormalSubmissionState}
use Rattle.trb.specs.declared.TdBasedNormalSubmissionState.TheVariants.{SubmissionDue}
use Rattle.trb.specs.declared.TransferTrb.{TransferTrb}
use Rattle.trb.proofs.TestLaws.{and_left, and_right}
use Rattle.call_log.specs.Calls.{Out, silent}
use Rattle.held.specs.Places.{blank_trb}
use Rattle.guest_memory.specs.declared.Regions.{Regions}
use Rattle.guest_memory.specs.Regions.{share_an_address}
use Rattle.walks.specs.All.{all}
use Rattle.walks.specs.Walk.{join, walk}
use Rattle.in_td.specs.Td.{is_error}
use Rattle.in_td.specs.declared.InMode.{InMode}
use Rattle.in_block.specs.Blocks.{in_block}
use Rattle.in_block.specs.Facts.{facts_of, sound_block}
use Rattle.in_block.specs.declared.InBlock.{InBlock}
use Rattle.row_walk.specs.Rows.{RowTd, with_results, row_tds, moved_by, completed, own_log, unstarted, td_in_row, failed, process_row, data_length}
use Rattle.row_walk.specs.Tds.{in_front, tds_of, endsTd}
use Rattle.row_walk.specs.declared.RowProgress.{RowProgress}
use Rattle.row_walk.specs.declared.TdResult.{TdResult}
use Rattle.row_questions.specs.Questions.{each_trb, given_rightly, in_supported, row_questions}
use Rattle.row_questions.proofs.QuestionLaws.{PassedTrb, passed-trb, PassedRow, passed-row}
use Rattle.row_questions.proofs.RowTestLaws.{endsTd-tail, goes_on, some-tds}
use Rattle.in_row.specs.Completion.{walked, row_completion}
use Rattle.in_row.specs.SingleCalls.{Called, td_calls, result_for, RowCalled, behind_td, td_called, ended_badly, uncalled, row_calls, FoldOfCalls}
use Rattle.in_row.specs.declared.TdsCompleted.{TdsCompleted}
use Rattle.in_row.proofs.RowLaws.{state-due, none-held, emptied-same}
use Rattle.in_row.proofs.CallLaws.{AcceptedTrb, AcceptedTd, accepted-few, length-freed, freed-blank, td_out, calls-td}

-- ---- Two walks that keep together

-- what holds of each element
abbrev Each : {T : Type 0} → (T → Type 0) → List T → Type 0
Each P [] = Unit {0}
Each P (t ∷ ts) = P t × Each P ts

module _ {S S' T : Type 0} (step : S → T → Out S) (step' : S' → T → Out S') (stopped : S → Bool) (stopped' : S' → Bool) (Together : S → S' → Type 0) (Fine : T → Type 0)
    (same_stop : (s : S) (s' : S') → Together s s' → stopped' s' ≡ stopped s)
    (each : (s : S) (s' : S') (t : T) → Together s s' → Fine t → Together (step s t).state (step' s' t).state × ((step s t).records ≡ (step' s' t).records)) where
  together : (s : S) (s' : S') (ts : List T) → Together s s' → Each Fine ts
      → Together (walk step stopped s ts).state (walk step' stopped' s' ts).state × ((walk step stopped s ts).records ≡ (walk step' stopped' s' ts).records)
  unfolding walk
  together s s' [] k f = (k, refl)
  together s s' (t ∷ ts) k f =
      let one = each s s' t k f.0 in
      rw (same_stop s s' k) (by-test (stopped s) one (together (step s t).state (step' s' t).state ts one.0 f.1))
    where
      rest : Out S
      rest = walk step stopped (step s t).state ts

      rest' : Out S'
      rest' = walk step' stopped' (step' s' t).state ts

      by-test : (b : Bool) → Together (step s t).state (step' s' t).state × ((step s t).records ≡ (step' s' t).records)
          → Together rest.state rest'.state × (rest.records ≡ rest'.records)
          → Together (cond b (silent s) (join (step s t) rest)).state (cond b (silent s') (join (step' s' t) rest')).state
          × ((cond b (silent s) (join (step s t) rest)).records ≡ (cond b (silent s') (join (step' s' t) rest')).records)
      by-test true one more = (k, refl)
      by-test false one more = (more.0, rw (one.1, more.1))

-- ---- The TDs of a row that was accepted

-- the first behind h TRBs of its own
abbrev EachTakes : Regions → ℕ → List (List TransferTrb) → Type 0
EachTakes regions h [] = Unit {0}
EachTakes regions h (td ∷ tds) = AcceptedTd regions h td × EachTakes regions 0 tds

accepted-front : (regions : Regions) (h : ℕ) (t : TransferTrb) (tds : List (List TransferTrb)) → 0 < length tds → AcceptedTrb regions h t → chain_of t.variant ≡ true
    → EachTakes regions (h + 1) tds → EachTakes regions h (in_front t tds)
accepted-front regions h t [] some k on f = absurd (not-suc-le-zero some)
accepted-front regions h t ([] ∷ tds) some k on f = absurd f.0
accepted-front regions h t ((u ∷ us) ∷ tds) some k on f = ((k, (on, f.0)), f.1)

-- a TRB of a supported kind that no question refuses
pub accepted-one : (regions : Regions) (h : ℕ) (t : TransferTrb) (ts : List TransferTrb) → PassedTrb regions h t ts → in_supported t ≡ true → AcceptedTrb regions h t
accepted-one regions h t ts y kind =
    let place : leb (h + 1) max_held ≡ true = rw kind at y.place in
    record { kind = kind; own = y.own; short = y.short; place = omega (arith, leb-true (h + 1) max_held place) }

takes-each : (regions : Regions) (h : ℕ) (ts : List TransferTrb) → first_no (each_trb regions h ts) ≡ 0 → all in_supported ts ≡ true → endsTd ts ≡ true → EachTakes regions h (tds_of ts)
unfolding tds_of all
takes-each regions h [] none kinds whole = tt
takes-each regions h (t ∷ ts) none kinds whole =
    by_chain (chain_of t.variant) refl (takes-each regions (cond (chain_of t.variant) (h + 1) 0) ts y.rest (and_right (in_supported t) (all in_supported ts) kinds) (endsTd-tail t ts whole))
  where
    y : PassedTrb regions h t ts
    y = passed-trb regions h t ts none

    kind : in_supported t ≡ true
    kind = and_left (in_supported t) (all in_supported ts) kinds

    own : AcceptedTrb regions h t
    own = accepted-one regions h t ts y kind

    by_chain : (b : Bool) → chain_of t.variant ≡ b → EachTakes regions (cond b (h + 1) 0) (tds_of ts) → EachTakes regions h (cond b (in_front t (tds_of ts)) ((t ∷ []) ∷ tds_of ts))
    by_chain true on f = accepted-front regions h t (tds_of ts) (some-tds ts (goes_on t ts whole on)) own on f
    by_chain false off f = ((own, off), f)

-- a TD with its result
pub record Taken (regions : Regions) (x : RowTd) : Type 0 where
  pub trbs : AcceptedTd regions 0 x.trbs
  pub right : given_rightly x ≡ true
  pub small : leb x.given.length max_data ≡ true

taken-each : (regions : Regions) (tds : List (List TransferTrb)) (rs : List TdResult) → EachTakes regions 0 tds → all given_rightly (with_results tds rs) ≡ true → data_length rs ≤ max_data
    → Each (Taken regions) (with_results tds rs)
unfolding with_results all data_length
taken-each regions [] rs f right small = tt
taken-each regions (td ∷ tds) [] f right small = tt
taken-each regions (td ∷ tds) (r ∷ rs) f right small =
    let x : RowTd = record { trbs = td; given = r } in (
      record { trbs = f.0; right = and_left (given_rightly x) _ right; small = le-leb r.length max_data (omega arith) },
      taken-each regions tds rs f.1 (and_right (given_rightly x) (all given_rightly (with_results tds rs)) right) (omega arith),
    )

-- ---- The row and the calls

module _ (e : EndpointId) (s : SlotId) (mode : InMode) (ids : ids_in_range e s ≡ true) (l : ℕ) (long : leb min_log l ≡ true) (regions : Regions) (apart : share_an_address regions ≡ false)
    (blanks : Type 0) where
  -- between TDs; where the places were blank, they are
  record Together (w : RowProgress) (v : RowCalled) : Type 0 where
    finished : w.finished ≡ v.finished
    answer : Ok w.result ≡ v.answer
    start : w.start ≡ v.start
    block : v.block ≡ in_block e s mode SubmissionDue 0 v.block.trbs
    places : length v.block.trbs ≡ max_held
    blank : blanks → v.block.trbs ≡ replicate max_held blank_trb

  same_stop : (w : RowProgress) (v : RowCalled) → Together w v → ended_badly v ≡ failed w
  same_stop w v k = rw (← k.answer) (by-test (is_error w.result))
    where
      by-test : (b : Bool) → not (not b) ≡ b
      by-test true = refl
      by-test false = refl

  either : (b : Bool) (m n : ℕ) → cond b m n ≡ cond (not b) n m
  either true m n = refl
  either false m n = refl

  module _ (w : RowProgress) (v : RowCalled) (x : RowTd) (k : Together w v) (f : Taken regions x) where
    abbrev places-before : List TransferTrb
    places-before = v.block.trbs

    abbrev called : Out Called
    called = td_calls l regions v.block x.trbs (result_for x) x.given.length

    abbrev came : Out Called
    came = td_out e s mode ids places-before k.places l long regions apart x

    called_is : called ≡ came
    unfolding all
    called_is =
        ap (λ (b : InBlock). td_calls l regions b x.trbs (result_for x) x.given.length) k.block
        ∙ calls-td e s mode ids places-before k.places l long regions apart [] x.trbs x refl f.trbs refl f.right f.small

    few : length x.trbs ≤ length places-before
    few = omega (arith, accepted-few regions 0 x.trbs f.trbs, k.places)

    abbrev called_as : Out Called → Out RowCalled
    called_as c = record { state = behind_td v x.given.length c.state; records = map (moved_by v.start) c.records }

    step_is : td_called l regions v x ≡ called_as came
    unfolding td_called
    step_is = ap called_as called_is

    together-came : Together (td_in_row e s mode w x).state (called_as came).state
    unfolding td_in_row
    together-came = record {
      finished =
          either (is_error (completed e s mode x).state.result) w.finished (w.finished + 1)
          ∙ ap (λ (n : ℕ). cond (not (is_error (completed e s mode x).state.result)) (n + 1) n) k.finished;
      answer = refl;
      start = ap (λ (n : ℕ). n + x.given.length) k.start;
      block = refl;
      places = length-freed places-before x.trbs few ∙ k.places;
      blank = λ z. freed-blank places-before x.trbs few (k.blank z ∙ ap (λ (n : ℕ). replicate n blank_trb) (sym k.places)) ∙ k.blank z;
    }

    same-records : (td_in_row e s mode w x).records ≡ (called_as came).records
    unfolding td_in_row
    same-records = ap (λ (n : ℕ). map (moved_by n) (own_log e s mode x)) k.start

    each : Together (td_in_row e s mode w x).state (td_called l regions v x).state × ((td_in_row e s mode w x).records ≡ (td_called l regions v x).records)
    each = (
      subst (λ (o : Out RowCalled). Together (td_in_row e s mode w x).state o.state) (sym step_is) together-came,
      same-records ∙ ap (λ (o : Out RowCalled). o.records) (sym step_is),
    )

-- ---- The theorem

module _ (l : ℕ) (b : InBlock) (k : ℕ) (ts : List TransferTrb) (m : ℕ) (rs : List TdResult) (n : ℕ) (regions : Regions) (places : length b.trbs ≡ max_held)
    (none : first_no (row_questions l regions (facts_of b) k ts m rs n) ≡ 0) where
  abbrev e : EndpointId
  e = b.endpoint_id

  abbrev s : SlotId
  s = b.slot_id

  abbrev blanks : Type 0
  blanks = b.trbs ≡ replicate max_held blank_trb

  known : PassedRow l regions (facts_of b) k ts m rs n
  known = passed-row l regions (facts_of b) k ts m rs n none

  ids : ids_in_range e s ≡ true
  unfolding sound_block
  ids = and_left (ids_in_range e s) _ known.sound

  long : leb min_log l ≡ true
  long = le-leb min_log l (omega (arith, known.log-long))

  done : row_completion l b k ts m rs n regions ≡ walked b (process_row e s b.mode ts rs)
  unfolding row_completion
  done = rw none

  empty : b ≡ in_block e s b.mode SubmissionDue 0 b.trbs
  empty =
      ap (λ (x : TdBasedNormalSubmissionState). in_block e s b.mode x b.held b.trbs) (state-due b known.due)
      ∙ ap (λ (h : ℕ). in_block e s b.mode SubmissionDue h b.trbs) (none-held b known.due)

  begun : Together e s b.mode ids l long regions known.apart blanks unstarted (uncalled b)
  begun = record { finished = refl; answer = refl; start = refl; block = empty; places = places; blank = λ z. z }

  both : Together e s b.mode ids l long regions known.apart blanks (process_row e s b.mode ts rs).state (row_calls l regions b (row_tds ts rs)).state
      × ((process_row e s b.mode ts rs).records ≡ (row_calls l regions b (row_tds ts rs)).records)
  both =
      together (td_in_row e s b.mode) (td_called l regions) failed ended_badly (Together e s b.mode ids l long regions known.apart blanks) (Taken regions)
      (same_stop e s b.mode ids l long regions known.apart blanks) (each e s b.mode ids l long regions known.apart blanks) unstarted (uncalled b) (row_tds ts rs) begun
      (taken-each regions (tds_of ts) rs (takes-each regions 0 ts known.trbs known.kinds known.whole) known.rightly (omega (arith, known.sum, known.short)))

  -- 02, R-7: the row's log is what the single calls would have logged, joined, starts moved; its result is theirs, and so is the block
  pub fold-of-calls : FoldOfCalls l b k ts m rs n regions
  fold-of-calls = record {
    records = ap (λ (o : Out TdsCompleted). o.records) done ∙ both.1;
    finished = ap (λ (o : Out TdsCompleted). o.state.finished) done ∙ both.0.finished;
    answer = ap (λ (o : Out TdsCompleted). o.state.answer) done ∙ both.0.answer;
    block = λ z.
        ap (λ (o : Out TdsCompleted). o.state.block) done ∙ emptied-same b known.due ∙ empty
        ∙ ap (λ (xs : List TransferTrb). in_block e s b.mode SubmissionDue 0 xs) (z ∙ sym (both.0.blank z)) ∙ sym both.0.block;
  }
