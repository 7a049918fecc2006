-- The log of one TD of a row: carry-out knows the kind of each record; its writes lie in range where the device's data has its part of the joined data and every
-- Normal's range lies in one of the regions, which question 6 asks of each TRB. Assumes nothing.
use Prim.Native.Nat.{ℕ, ◌+◌, ◌≤◌}
use mathlib.Core.Bool.{Bool, true, false, not, cond, ◌&&◌, ◌||◌}
use mathlib.Core.Path.{◌≡◌, refl, ◌∙◌}
use mathlib.Core.List.{List, [], ◌∷◌, map}
use native.Mathlib.Omega.{arith}
use lib.Dec.{leb, ltb}
use borrow.Author.Tests.{leb-true, le-leb}
use Rattle.trb.specs.Questions.{first_no}
use Rattle.trb.specs.Trbs.{chain_of}
use Rattle.trb.specs.declared.EndpointId.{EndpointId}
use Rattle.trb.specs.declared.SlotId.{SlotId}
use Rattle.trb.specs.declared.TransferTrb.{TransferTrb}
use Rattle.trb.proofs.TestLaws.{and_left, and_right}
use Rattle.call_log.specs.Records.{when}
use Rattle.call_log.specs.declared.Record.{Record}
use Rattle.log_check.specs.WellFormed.{kind_known, kinds_known}
use Rattle.guest_memory.specs.declared.Regions.{Regions}
use Rattle.guest_memory.specs.Places.{place_of, is_inside}
use Rattle.carry_out.specs.Writes.{moves_bytes, write_in_range, writes_in_range}
use Rattle.carry_out.proofs.WriteLaws.{writes_in_range-cons}
use Rattle.walks.specs.All.{all}
use Rattle.in_td.specs.Td.{in_td, is_error}
use Rattle.in_td.specs.declared.InMode.{InMode}
use Rattle.account.specs.Guest.{is_write}
use Rattle.account.proofs.StepLaws.{any-when}
use Rattle.in_request.specs.Requests.{in_guest_memory}
use Rattle.in_questions.proofs.PassedLaws.{passed-window}
use Rattle.in_endpoint.specs.Submission.{request_of}
use Rattle.row_walk.specs.Accounts.{started_logs, joined}
use Rattle.row_walk.specs.Rows.{RowTd, with_results, has_normal, moved_by, completed, own_log, data_length}
use Rattle.row_walk.specs.Tds.{in_front, tds_of}
use Rattle.row_walk.specs.declared.TdResult.{TdResult}
use Rattle.row_questions.specs.Questions.{each_trb, in_supported}
use Rattle.row_questions.proofs.QuestionLaws.{PassedTrb, passed-trb}
use Rattle.delivery_laws.specs.Ranges.{InRegions}
use Rattle.delivery_laws.proofs.RangeLaws.{writes_in_range-append, writes_in_range-none, writes_in_range-process_td}
use Rattle.delivery_laws.proofs.InsideLaws.{in_regions-writes_inside}
use Rattle.delivery_laws.proofs.KindLaws.{kinds-append, kinds-when, kinds-process_td}

-- ---- Starts moved

module _ (by n more : ℕ) (regions : Regions) (enough : by + n ≤ more) where
  in_range-moved : (r : Record) → write_in_range n regions r ≡ true → write_in_range more regions (moved_by by r) ≡ true
  unfolding write_in_range moves_bytes
  in_range-moved r h = by_kind (is_write r) (ltb 0 r.length) h
    where
      by_kind : (write some : Bool) → (not (write && some) || (leb (r.start + r.length) n && is_inside (place_of regions r.address r.length))) ≡ true
          → (not (write && some) || (leb (cond write (by + r.start) r.start + r.length) more && is_inside (place_of regions r.address r.length))) ≡ true
      by_kind false some h = refl
      by_kind true false h = refl
      by_kind true true h =
          let end = leb-true (r.start + r.length) n (and_left (leb (r.start + r.length) n) (is_inside (place_of regions r.address r.length)) h) in
          rw (le-leb (by + r.start + r.length) more (omega arith)) (and_right (leb (r.start + r.length) n) (is_inside (place_of regions r.address r.length)) h)

  writes_in_range-moved : (rs : List Record) → writes_in_range n regions rs ≡ true → writes_in_range more regions (map (moved_by by) rs) ≡ true
  writes_in_range-moved [] h = refl
  writes_in_range-moved (r ∷ rs) h =
      let both = writes_in_range-cons n regions r rs h in
      rw (in_range-moved r both.0) (writes_in_range-moved rs both.1)

kinds-moved : (by : ℕ) (rs : List Record) → kinds_known (map (moved_by by) rs) ≡ kinds_known rs
kinds-moved by [] = refl
kinds-moved by (r ∷ rs) = rw (kinds-moved by rs)

-- ---- One TD, and those that are started

-- every Normal's range of every TD lies in one of the regions
unfoldable pub TdsInRegions : Regions → List RowTd → Type 0
TdsInRegions regions [] = Unit {0}
TdsInRegions regions (x ∷ xs) = InRegions regions x.trbs × TdsInRegions regions xs

-- the bytes that were given for them
unfoldable pub given_to : List RowTd → ℕ
given_to [] = 0
given_to (x ∷ xs) = x.given.length + given_to xs

module _ (e : EndpointId) (s : SlotId) (mode : InMode) where
  kinds-own : (start : ℕ) (x : RowTd) → kinds_known (map (moved_by start) (own_log e s mode x)) ≡ true
  unfolding own_log kind_known
  kinds-own start x =
      kinds-moved start (own_log e s mode x)
      ∙ kinds-append (when (has_normal x.trbs) (request_of x.trbs e s)) (completed e s mode x).records (kinds-when (has_normal x.trbs) (request_of x.trbs e s) refl)
      (kinds-process_td (in_td e s mode x.given.status x.given.length) x.trbs)

  module _ (n : ℕ) (regions : Regions) where
    inside-own : (start : ℕ) (x : RowTd) → start + x.given.length ≤ n → InRegions regions x.trbs → writes_in_range n regions (map (moved_by start) (own_log e s mode x)) ≡ true
    unfolding own_log
    inside-own start x enough inside =
        let k : ℕ = x.given.length in
        let request : List Record = when (has_normal x.trbs) (request_of x.trbs e s) in
        writes_in_range-moved start k n regions enough (own_log e s mode x)
        (writes_in_range-append k regions request (completed e s mode x).records
        ∙ rw (writes_in_range-none k regions request (any-when is_write (has_normal x.trbs) (request_of x.trbs e s) refl))
        (writes_in_range-process_td e s mode x.given.status k k regions x.trbs (omega arith) ∙ in_regions-writes_inside regions k x.trbs inside))

    pub kinds-started : (start : ℕ) (xs : List RowTd) → kinds_known (joined (started_logs e s mode start xs)) ≡ true
    unfolding started_logs joined
    kinds-started start [] = refl
    kinds-started start (x ∷ xs) =
        kinds-append (map (moved_by start) (own_log e s mode x)) (joined (cond (is_error (completed e s mode x).state.result) [] (started_logs e s mode (start + x.given.length) xs)))
        (kinds-own start x) (by_result (is_error (completed e s mode x).state.result) (kinds-started (start + x.given.length) xs))
      where
        by_result : (b : Bool) → kinds_known (joined (started_logs e s mode (start + x.given.length) xs)) ≡ true
            → kinds_known (joined (cond b [] (started_logs e s mode (start + x.given.length) xs))) ≡ true
        by_result true h = refl
        by_result false h = h

    pub inside-started : (start : ℕ) (xs : List RowTd) → start + given_to xs ≤ n → TdsInRegions regions xs → writes_in_range n regions (joined (started_logs e s mode start xs)) ≡ true
    unfolding started_logs joined given_to TdsInRegions
    inside-started start [] enough inside = refl
    inside-started start (x ∷ xs) enough inside =
        writes_in_range-append n regions (map (moved_by start) (own_log e s mode x)) (joined (cond (is_error (completed e s mode x).state.result) [] (started_logs e s mode (start + x.given.length) xs)))
        ∙ rw (inside-own start x (omega arith) inside.0) (by_result (is_error (completed e s mode x).state.result) (inside-started (start + x.given.length) xs (omega arith) inside.1))
      where
        by_result : (b : Bool) → writes_in_range n regions (joined (started_logs e s mode (start + x.given.length) xs)) ≡ true
            → writes_in_range n regions (joined (cond b [] (started_logs e s mode (start + x.given.length) xs))) ≡ true
        by_result true h = refl
        by_result false h = h

-- ---- Question 6, asked of each TRB of a row

module _ (regions : Regions) where
  abbrev in_memory : TransferTrb → Bool
  in_memory t = in_guest_memory t.variant regions

  row_inside : (h : ℕ) (ts : List TransferTrb) → first_no (each_trb regions h ts) ≡ 0 → all in_supported ts ≡ true → InRegions regions ts
  unfolding all
  row_inside h [] none kinds = refl
  row_inside h (t ∷ ts) none kinds =
      let y : PassedTrb regions h t ts = passed-trb regions h t ts none in
      rw (passed-window h t.variant regions y.own (and_left (in_supported t) (all in_supported ts) kinds))
      (row_inside (cond (chain_of t.variant) (h + 1) 0) ts y.rest (and_right (in_supported t) (all in_supported ts) kinds))

  -- every TD of the row
  EachInRegions : List (List TransferTrb) → Type 0
  EachInRegions [] = Unit {0}
  EachInRegions (td ∷ tds) = InRegions regions td × EachInRegions tds

  front-inside : (t : TransferTrb) (tds : List (List TransferTrb)) → in_memory t ≡ true → EachInRegions tds → EachInRegions (in_front t tds)
  unfolding all EachInRegions
  front-inside t [] own rest = (rw own, tt)
  front-inside t (td ∷ tds) own rest = (rw own rest.0, rest.1)

  tds-inside : (ts : List TransferTrb) → InRegions regions ts → EachInRegions (tds_of ts)
  unfolding tds_of all EachInRegions
  tds-inside [] inside = tt
  tds-inside (t ∷ ts) inside =
      by_chain (chain_of t.variant) (and_left (in_memory t) (all in_memory ts) inside) (tds-inside ts (and_right (in_memory t) (all in_memory ts) inside))
    where
      by_chain : (b : Bool) → in_memory t ≡ true → EachInRegions (tds_of ts) → EachInRegions (cond b (in_front t (tds_of ts)) ((t ∷ []) ∷ tds_of ts))
      by_chain true own rest = front-inside t (tds_of ts) own rest
      by_chain false own rest = (rw own, rest)

  with-inside : (tds : List (List TransferTrb)) (rs : List TdResult) → EachInRegions tds → TdsInRegions regions (with_results tds rs)
  unfolding with_results TdsInRegions EachInRegions
  with-inside [] rs inside = tt
  with-inside (td ∷ tds) [] inside = tt
  with-inside (td ∷ tds) (r ∷ rs) inside = (inside.0, with-inside tds rs inside.1)

  pub tds-in-regions : (ts : List TransferTrb) (rs : List TdResult) → first_no (each_trb regions 0 ts) ≡ 0 → all in_supported ts ≡ true
      → TdsInRegions regions (with_results (tds_of ts) rs)
  tds-in-regions ts rs none kinds = with-inside (tds_of ts) rs (tds-inside ts (row_inside 0 ts none kinds))

-- no more was given for the TDs than the results say
pub given-few : (tds : List (List TransferTrb)) (rs : List TdResult) → given_to (with_results tds rs) ≤ data_length rs
unfolding with_results given_to data_length
given-few [] rs = omega arith
given-few (td ∷ tds) [] = omega arith
given-few (td ∷ tds) (r ∷ rs) = omega (arith, given-few tds rs)
