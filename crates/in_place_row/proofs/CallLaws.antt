-- What a row in place asks and comes to, by the laws of the row by value. Assumes nothing.
use Rattle.std.specs.Prelude.{Err, Ok}
use Prim.Native.Nat.{ℕ, ◌+◌, ◌/◌, ◌%◌, ◌<◌, ◌≤◌, min}
use mathlib.Core.Path.{◌≡◌, refl, sym, ap, ◌∙◌, subst}
use mathlib.Core.Bool.{Bool, true, false, cond, ◌&&◌}
use mathlib.Core.List.{List, map}
use mathlib.Core.Logic.{⊎_elim}
use native.Mathlib.Omega.{arith}
use lib.Dec.{eqb}
use lib.ListN.{length, take, get_or}
use lib.Seq.{take_all}
use Rattle.trb.specs.Answers.{number_of, is_accepted, refusal_of}
use Rattle.trb.specs.Limits.{max_row}
use Rattle.trb.specs.Questions.{first_no}
use Rattle.trb.specs.Answers.{Answer, CompletionAnswer}
use Rattle.trb.specs.declared.EndpointId.{EndpointId}
use Rattle.trb.specs.declared.Refusal.TheVariants.{BufferTooShort}
use Rattle.trb.specs.declared.SlotId.{SlotId}
use Rattle.trb.specs.declared.TransferTrb.{TransferTrb}
use Rattle.trb.specs.declared.TrbProcessingResult.TheVariants as result
use Rattle.trb.proofs.TestLaws.{le-or-lt}
use Rattle.call_log.specs.Calls.{Meets}
use Rattle.call_log.specs.Logs.{records_in}
use Rattle.call_log.proofs.LogLaws.{logged_none}
use Rattle.guest_memory.specs.declared.Regions.{Regions}
use Rattle.in_td.specs.declared.InMode.{InMode}
use Rattle.in_block.specs.Facts.{facts_of}
use Rattle.in_block.specs.declared.BlockFacts.{BlockFacts}
use Rattle.in_endpoint.specs.Completion.{completion_answer}
use Rattle.held.specs.declared.EndpointKind.TheVariants.{In}
use Rattle.held_bytes.specs.Places.{place_length, place_of, places_of}
use Rattle.in_bytes.specs.Layout.{block_length, endpoint_of, slot_of, mode_of, block_of}
use Rattle.in_place_questions.specs.Lent.{SameFacts, lent_log}
use Rattle.in_place_questions.proofs.LentLaws.{lent-short}
use Rattle.in_place.proofs.CallLaws.{answer-parts, accepted-zero}
use Rattle.row_walk.specs.Accounts.{started_by, RowAccounted}
use Rattle.row_walk.specs.Rows.{row_tds, process_row, Walkable}
use Rattle.row_walk.specs.declared.RowProgress.{RowProgress}
use Rattle.row_walk.specs.declared.TdResult.{TdResult}
use Rattle.row_questions.specs.Questions.{row_questions}
use Rattle.row_questions.specs.Tests.{untested, tested_row, asked_as}
use Rattle.row_questions.specs.declared.RowTest.{RowTest}
use Rattle.row_questions.proofs.QuestionLaws.{asked_of, asked-long, row-few, row-walkable}
use Rattle.in_row.specs.Completion.{row_completion, CompletesTds, result_of}
use Rattle.in_row.specs.declared.TdsCompleted.{TdsCompleted}
use Rattle.in_row.proofs.RowLaws.{known-row, refused-row, accepted-row}
use Rattle.row_bytes.specs.Layout.{result_length, trbs_in, results_in, row_count}
use Rattle.row_bytes.proofs.CellLaws.{length-trbs_in}
use Rattle.in_place_row.proofs.KeptLaws.{row_kept, trbs_of, as_many}
use Rattle.in_place_row.specs.InPlaceRow.{row_answered, row_asked, started_of, CompletesTdsInPlace}
use Rattle.in_place_row.specs.declared.RowAnswered.{RowAnswered}

-- ---- The questions

-- a row that is counted as short enough is as long as its bytes say
count-few : (whole : Bool) (n : ℕ) → cond whole n (max_row + 1) ≤ max_row → (n ≤ max_row) × (cond whole n (max_row + 1) ≡ n)
count-few true n h = (h, refl)
count-few false n h = absurd (omega arith)

module _ (l : ℕ) (regions : Regions) (b row results : List ℕ) (n : ℕ) where
  abbrev ts : List TransferTrb
  ts = trbs_in row

  abbrev rs : List TdResult
  rs = results_in results

  abbrev facts : BlockFacts
  facts = facts_of (block_of b)

  asked-same : (f : BlockFacts) (k : ℕ) (a : RowTest) (m : ℕ) → SameFacts f facts → asked_as l regions f k a m n ≡ asked_as l regions facts k a m n
  unfolding asked_as
  asked-same f k a m same = rw (same.sound, same.state, same.held)

  asked-short : (k tested : ℕ) → tested ≡ min (length row / place_length) max_row → length row / place_length ≤ max_row
      → first_no (asked_as l regions facts k (tested_row regions rs untested (take tested ts)) (length rs) n) ≡ first_no (row_questions l regions facts k ts (length rs) rs n)
  asked-short k tested e few =
      let all : take tested ts ≡ ts = take_all tested ts (omega (arith, e, length-trbs_in row)) in
      ap (λ (x : List TransferTrb). first_no (asked_as l regions facts k (tested_row regions rs untested x) (length rs) n)) all
      ∙ asked_of l regions facts k ts (length rs) rs n (λ e. omega arith)
      ∙ ap (λ (x : List TdResult). first_no (row_questions l regions facts k ts (length rs) x n)) (take_all (length rs) rs (omega arith))

  -- by what the loop over the TRBs found
  pub row-asked : (f : BlockFacts) (tested : ℕ) → SameFacts f facts → tested ≡ min (length row / place_length) max_row
      → first_no (asked_as l regions f (row_count row results) (tested_row regions rs untested (take tested ts)) (length rs) n) ≡ first_no (row_asked l b row results n regions)
  row-asked f tested same e =
      ap first_no (asked-same f (row_count row results) (tested_row regions rs untested (take tested ts)) (length rs) same)
      ∙ ⊎_elim
      (λ (few : row_count row results ≤ max_row). asked-short (row_count row results) tested e (count-few (eqb (length row % place_length) 0 && eqb (length results % result_length) 0) (length row / place_length) few).0)
      (λ (over : max_row < row_count row results). asked-long l regions facts (row_count row results) ts (length rs) rs n (tested_row regions rs untested (take tested ts)) over)
      (le-or-lt (row_count row results) max_row)

-- a row that may be walked has no more TRBs than it may
row_fits : (row results : List ℕ) → row_count row results ≤ max_row → (length (trbs_in row) ≤ max_row) × (length (trbs_in row) ≤ row_count row results)
row_fits row results few =
    let k = count-few (eqb (length row % place_length) 0 && eqb (length results % result_length) 0) (length row / place_length) few in
    (omega (arith, k.0, length-trbs_in row), omega (arith, k.1, length-trbs_in row))

-- ---- The promise

started-same : (a : CompletionAnswer) (f n : ℕ) → started_of (row_answered a f n) ≡ started_by f (result_of a)
started-same (Ok result.Ok) f n = refl
started-same (Ok result.Stall) f n = refl
started-same (Ok (result.StallAt a c)) f n = refl
started-same (Ok result.TrbError) f n = refl
started-same (Ok result.TransactionError) f n = refl
started-same (Ok (result.TransactionErrorAt a c)) f n = refl
started-same (Ok result.Disconnect) f n = refl
started-same (Err q) f n = refl

module _ (b row results : List ℕ) (n : ℕ) (regions : Regions) (l : List ℕ) where
  -- what is promised by value, by numbers
  pub completes-row : (t : TdsCompleted) (l' : List ℕ) → t.block ≡ block_of b
      → CompletesTds (block_of b) (row_count row results) (trbs_in row) (length (results_in results)) (results_in results) n regions l t l'
      → CompletesTdsInPlace (length l) b row results n regions l (row_answered t.answer t.finished t.records) l'
  completes-row t l' same x =
      let parts = answer-parts t.answer t.records in
      record {
        number = parts.0 ∙ x.number;
        met = record { state = ap (λ (y : TdsCompleted). row_answered y.answer y.finished y.records) x.met.state; log = x.met.log; fits = x.met.fits };
        block = ap (λ (y : TdsCompleted). y.block) (sym x.met.state) ∙ same;
        account = λ zero.
            subst (λ (k : ℕ). RowAccounted (row_tds (trbs_in row) (results_in results)) (started_of (row_answered t.answer t.finished t.records)) (records_in k l')) (sym parts.1)
            (subst (λ (k : ℕ). RowAccounted (row_tds (trbs_in row) (results_in results)) k (records_in t.records l')) (sym (started-same t.answer t.finished t.records))
            (x.account (accepted-zero t.answer (sym parts.0 ∙ zero))));
      }

  module _ (a : Answer) (e : number_of a ≡ first_no (row_asked (length l) b row results n regions)) where
    -- a no leaves all as it was
    pub completes-refused : {r : RowAnswered} → is_accepted a ≡ false → r ≡ row_answered (completion_answer a result.Ok) 0 0 → CompletesTdsInPlace (length l) b row results n regions l r l
    completes-refused {r} refuses er =
        subst (λ (x : RowAnswered). CompletesTdsInPlace (length l) b row results n regions l x l) (sym er)
        (completes-row (record { answer = completion_answer a result.Ok; finished = 0; records = 0; block = block_of b }) l refl
        (refused-row (block_of b) (row_count row results) (trbs_in row) (length (results_in results)) (results_in results) n regions l a e refuses))

    module _ (accepts : is_accepted a ≡ true) where
      -- behind every yes, what the walk asks for
      pub walkable-row : (length (trbs_in row) ≤ max_row) × ((length (results_in results) ≤ max_row) × ((trbs_in row ≡ places_of In (length row / place_length) row) × Walkable (trbs_in row) (results_in results) (length l)))
      walkable-row =
          let known = known-row (block_of b) (row_count row results) (trbs_in row) (length (results_in results)) (results_in results) n regions l a e accepts in
          let fits = row_fits row results known.few in
          let few = row-few (length l) regions (facts_of (block_of b)) (row_count row results) (trbs_in row) (length (results_in results)) (results_in results) n known fits.1 in
          let walkable = row-walkable (length l) regions (facts_of (block_of b)) (row_count row results) (trbs_in row) (length (results_in results)) (results_in results) n known fits.1 refl in
          (fits.0, (few, (row_kept regions row known.kinds known.trbs, walkable)))

      -- so it does of its places
      pub walkable-cells : (cells : List (List ℕ)) → trbs_of cells ≡ trbs_in row → map (place_of In) cells ≡ places_of In (length row / place_length) row
          → (length cells ≤ max_row) × ((length (results_in results) ≤ max_row) × ((trbs_of cells ≡ map (place_of In) cells) × Walkable (trbs_of cells) (results_in results) (length l)))
      walkable-cells cells given held =
          let w = walkable-row in (
            omega (arith, as_many cells, ap (λ (ts : List TransferTrb). length ts) given, w.0),
            (w.1.0, (given ∙ w.1.1.0 ∙ sym held, subst (λ (ts : List TransferTrb). Walkable ts (results_in results) (length l)) (sym given) w.1.1.1)),
          )

      -- and what it comes to
      pub completes-accepted : {r : RowAnswered} (w : RowProgress) (l' : List ℕ)
          → Meets (process_row (block_of b).endpoint_id (block_of b).slot_id (block_of b).mode (trbs_in row) (results_in results)) 0 l w l'
          → r ≡ row_answered (completion_answer a w.result) w.finished w.records → CompletesTdsInPlace (length l) b row results n regions l r l'
      completes-accepted {r} w l' met er =
          subst (λ (x : RowAnswered). CompletesTdsInPlace (length l) b row results n regions l x l') (sym er)
          (completes-row (record { answer = completion_answer a w.result; finished = w.finished; records = w.records; block = block_of b }) l' refl
          (accepted-row (block_of b) (row_count row results) (trbs_in row) (length (results_in results)) (results_in results) n regions l a e accepts w l' met))

  -- bytes too few for a block
  pub completes-short : {r : RowAnswered} → length b < block_length → r ≡ row_answered (Err BufferTooShort) 0 0 → CompletesTdsInPlace (lent_log l b) b row results n regions l r l
  unfolding row_questions first_no refusal_of row_completion
  completes-short {r} short e =
      subst (λ (k : ℕ). CompletesTdsInPlace k b row results n regions l r l) (sym (lent-short l b short))
      (record {
        number = ap (λ (x : RowAnswered). x.number) e;
        met = record { state = e; log = sym (logged_none l 0); fits = tt };
        block = refl;
        account = λ zero. absurd (omega (arith, zero, ap (λ (x : RowAnswered). x.number) e));
      })

-- the walk, on the endpoint that the bytes are of
pub walked_block : (b l l' : List ℕ) (ts : List TransferTrb) (rs : List TdResult) (e : EndpointId) (s : SlotId) (mode : InMode) (w : RowProgress)
    → e ≡ endpoint_of b → s ≡ slot_of b → mode ≡ mode_of (get_or b 3 0) → Meets (process_row e s mode ts rs) 0 l w l'
    → Meets (process_row (block_of b).endpoint_id (block_of b).slot_id (block_of b).mode ts rs) 0 l w l'
unfolding block_of
walked_block b l l' ts rs e s mode w ee es em m =
    subst (λ (x : EndpointId). Meets (process_row x (slot_of b) (mode_of (get_or b 3 0)) ts rs) 0 l w l') ee
    (subst (λ (x : SlotId). Meets (process_row e x (mode_of (get_or b 3 0)) ts rs) 0 l w l') es
    (subst (λ (x : InMode). Meets (process_row e s x ts rs) 0 l w l') em m))
