-- What the loop over a row finds is what the questions ask: each field of the test, TRB by TRB, is its question over the TDs. Assumes nothing.
use Rattle.std.specs.Prelude.{Err, Ok}
use Prim.Native.Nat.{ℕ, suc, ◌+◌, ◌*◌, ◌<◌, ◌≤◌, ◌^◌}
use mathlib.Core.Path.{◌≡◌, refl, sym, ap, ◌∙◌}
use mathlib.Core.Bool.{Bool, true, false, not, cond, ◌&&◌, ◌||◌, and_assoc, and-true, or_assoc, or-false, true≢false}
use mathlib.Core.List.{List, [], ◌∷◌, ◌++◌}
use native.Mathlib.Nat.{not-suc-le-zero, zero-add, add_assoc}
use native.Mathlib.Numerals.{add-one}
use native.Mathlib.Omega.{arith}
use borrow.Author.Tests.{ne_eqb}
use lib.Dec.{eqb, leb}
use lib.ListN.{length, take, drop, get_or, drop_of_length-le}
use lib.Seq.{drop-cons}
use Rattle.trb.specs.Answers.{number_of, is_accepted, refusal_of}
use Rattle.trb.specs.Limits.{max_held, max_transfer_length}
use Rattle.trb.specs.Questions.{first_no, after_questions, asked_if}
use Rattle.trb.specs.Trbs.{transfer_length, immediate_of, chain_of}
use Rattle.trb.specs.Answers.{Answer}
use Rattle.trb.specs.declared.TransferTrb.{TransferTrb}
use Rattle.trb.proofs.AnswerLaws.{accepted-is, refused-is, answered-yes, answered-no}
use Rattle.walks.specs.All.{all}
use Rattle.held.specs.Sound.{supported}
use Rattle.held.specs.declared.EndpointKind.TheVariants.{In}
use Rattle.guest_memory.specs.declared.Regions.{Regions}
use Rattle.in_td.specs.Td.{is_normal, normals}
use Rattle.in_request.specs.Requests.{in_guest_memory}
use Rattle.row_walk.specs.declared.TdResult.{TdResult}
use Rattle.row_walk.specs.Rows.{with_results, has_normal, data_length, past_results}
use Rattle.row_walk.specs.Tds.{in_front, tds_of, endsTd}
use Rattle.row_walk.proofs.TdsLaws.{tds_of-cons}
use Rattle.row_questions.specs.declared.RowTest.{RowTest}
use Rattle.row_questions.specs.Questions.{each_trb, may_be_given, given_rightly, in_supported}
use Rattle.row_questions.specs.Tests.{answered, asked_also, untested, tested_trb, tested_row}

-- ---- An answer

-- is the one that its number stands for
pub answered-is : (qs : List (Bool × ℕ)) (a : Answer) → number_of a ≡ first_no qs → a ≡ answered qs
unfolding answered
answered-is qs a e = by_answer (is_accepted a) refl
  where
    by_answer : (b : Bool) → is_accepted a ≡ b → a ≡ after_questions qs (λ n. Err (refusal_of n)) (Ok tt)
    by_answer true h = accepted-is a h ∙ sym (answered-yes qs (λ n. Err (refusal_of n)) (Ok tt) a e h)
    by_answer false h = sym (refused-is a h) ∙ sym (answered-no qs (λ n. Err (refusal_of n)) (Ok tt) a e h)

-- a no stands; behind a yes these questions are asked
pub also-yes : (a : Answer) (qs : List (Bool × ℕ)) → is_accepted a ≡ true → asked_also a qs ≡ answered qs
also-yes a qs h = ap (λ (x : Answer). asked_also x qs) (accepted-is a h)

pub also-no : (a : Answer) (qs : List (Bool × ℕ)) → is_accepted a ≡ false → asked_also a qs ≡ a
also-no (Ok tt) qs h = absurd (true≢false h)
also-no (Err r) qs h = refl

-- ---- The loop

-- after i TRBs of ts
pub record Testing (regions : Regions) (rs : List TdResult) (ts : List TransferTrb) (a : RowTest) (i : ℕ) : Type 0 where
  pub rest : tested_row regions rs a (drop i ts) ≡ tested_row regions rs untested ts
  pub held : a.held ≤ i
  pub tds : a.tds ≤ i
  pub given : a.given ≤ i * 2 ^ 32

pub testing-none : (regions : Regions) (rs : List TdResult) (ts : List TransferTrb) → Testing regions rs ts untested 0
testing-none regions rs ts = record { rest = refl; held = omega arith; tds = omega arith; given = omega arith }

cond-le : (b : Bool) (m n k : ℕ) → m ≤ k → n ≤ k → cond b m n ≤ k
cond-le true m n k h i = h
cond-le false m n k h i = i

pub testing-turn : (regions : Regions) (rs : List TdResult) (ts : List TransferTrb) (a r : RowTest) (i : ℕ) (d : TransferTrb) → Testing regions rs ts a i → i < length ts
    → r ≡ tested_trb regions a (get_or ts i d) (get_or rs a.tds past_results) → r.given ≤ a.given + 2 ^ 32 → Testing regions rs ts r (i + 1)
unfolding tested_row
testing-turn regions rs ts a r i d k more e h = record {
  rest = rw (e, add-one i) (ap (tested_row regions rs a) (sym (drop-cons ts i d more)) ∙ k.rest);
  held = rw e (cond-le (chain_of (get_or ts i d).variant) (a.held + 1) 0 (i + 1) (omega (arith, k.held)) (omega arith));
  tds = rw e (cond-le (chain_of (get_or ts i d).variant) a.tds (a.tds + 1) (i + 1) (omega (arith, k.tds)) (omega (arith, k.tds)));
  given = omega (arith, k.given, h);
}

pub testing-end : (regions : Regions) (rs : List TdResult) (ts : List TransferTrb) (a : RowTest) (i : ℕ) → Testing regions rs ts a i → length ts ≤ i → a ≡ tested_row regions rs untested ts
unfolding tested_row
testing-end regions rs ts a i k h = ap (tested_row regions rs a) (sym (drop_of_length-le ts {i = i} h)) ∙ k.rest

-- ---- What it finds

-- TRBs with the chain bit off
unfoldable pub ends : List TransferTrb → ℕ
ends [] = 0
ends (t ∷ ts) = cond (chain_of t.variant) 0 1 + ends ts

-- what each TD was given, from one that is looked at and whether it has a Normal so far
unfoldable pub rightly_from : List TdResult → Bool → ℕ → List TransferTrb → Bool
rightly_from rs has m [] = true
rightly_from rs has m (t ∷ ts) =
    cond (chain_of t.variant) (rightly_from rs (has || is_normal t.variant) m ts)
    (may_be_given (has || is_normal t.variant) (get_or rs m past_results) && rightly_from rs false (m + 1) ts)

module _ (regions : Regions) (rs : List TdResult) where
  abbrev found : RowTest → List TransferTrb → RowTest
  found a ts = tested_row regions rs a ts

  pub found-supported : (a : RowTest) (ts : List TransferTrb) → (found a ts).supported ≡ (a.supported && all in_supported ts)
  unfolding tested_row all
  found-supported a [] = sym (and-true a.supported)
  found-supported a (t ∷ ts) = found-supported (tested_trb regions a t (get_or rs a.tds past_results)) ts ∙ and_assoc a.supported (in_supported t) (all in_supported ts)

  -- the last TRB has its chain bit off
  ended_by : (b : Bool) (h : ℕ) → eqb (cond b (h + 1) 0) 0 ≡ not b
  ended_by true h = ne_eqb (h + 1) 0 (λ e. omega arith)
  ended_by false h = refl

  pub found-ends : (a : RowTest) (t : TransferTrb) (ts : List TransferTrb) → eqb (found a (t ∷ ts)).held 0 ≡ endsTd (t ∷ ts)
  unfolding tested_row endsTd
  found-ends a t [] = ended_by (chain_of t.variant) a.held
  found-ends a t (u ∷ ts) = found-ends (tested_trb regions a t (get_or rs a.tds past_results)) u ts

  add-cond : (b : Bool) (m : ℕ) → cond b m (m + 1) ≡ m + cond b 0 1
  add-cond true m = omega arith
  add-cond false m = refl

  pub found-tds : (a : RowTest) (ts : List TransferTrb) → (found a ts).tds ≡ a.tds + ends ts
  unfolding tested_row ends
  found-tds a [] = omega arith
  found-tds a (t ∷ ts) = omega (arith, found-tds (tested_trb regions a t (get_or rs a.tds past_results)) ts, add-cond (chain_of t.variant) a.tds)

  -- the first no of questions 4, 21, 5 and 6, TRB by TRB
  first_by : (p q r x : Bool) (rest : List (Bool × ℕ)) → let qs : List (Bool × ℕ) = (p, 4) ∷ (q, 21) ∷ (r, 5) ∷ (x, 6) ∷ [] in
      cond (is_accepted (answered qs)) (first_no rest) (number_of (answered qs)) ≡ first_no (qs ++ rest)
  unfolding first_no answered refusal_of
  first_by true true true true rest = refl
  first_by true true true false rest = refl
  first_by true true false x rest = refl
  first_by true false r x rest = refl
  first_by false q r x rest = refl

  number_by : (a : Answer) (p q r x : Bool) (rest : List (Bool × ℕ)) → let qs : List (Bool × ℕ) = (p, 4) ∷ (q, 21) ∷ (r, 5) ∷ (x, 6) ∷ [] in
      cond (is_accepted (asked_also a qs)) (first_no rest) (number_of (asked_also a qs)) ≡ cond (is_accepted a) (first_no (qs ++ rest)) (number_of a)
  number_by (Ok tt) p q r x rest = first_by p q r x rest
  number_by (Err n) p q r x rest = refl

  none-by : (a : Answer) → number_of a ≡ cond (is_accepted a) (first_no []) (number_of a)
  unfolding first_no
  none-by (Ok tt) = refl
  none-by (Err r) = refl

  pub found_number : (a : RowTest) (ts : List TransferTrb) → number_of (found a ts).asked ≡ cond (is_accepted a.asked) (first_no (each_trb regions a.held ts)) (number_of a.asked)
  unfolding tested_row each_trb
  found_number a [] = none-by a.asked
  found_number a (t ∷ ts) =
      found_number (tested_trb regions a t (get_or rs a.tds past_results)) ts
      ∙ number_by a.asked (leb (transfer_length t.variant) max_transfer_length) (asked_if (supported In t.variant) (not (immediate_of t.variant))) (asked_if (supported In t.variant) (leb (a.held + 1) max_held)) (asked_if (supported In t.variant) (in_guest_memory t.variant regions))
      (each_trb regions (cond (chain_of t.variant) (a.held + 1) 0) ts)

  -- bytes given
  given_by : (b : Bool) (g m k : ℕ) → m + (cond b 0 1 + k) ≤ length rs
      → cond b g (g + (get_or rs m past_results).length) + data_length (take k (drop (cond b m (m + 1)) rs)) ≡ g + data_length (take (cond b 0 1 + k) (drop m rs))
  unfolding data_length
  given_by true g m k h = rw zero-add
  given_by false g m k h =
      let one : 1 + k ≡ suc k = omega arith in
      rw (one, add-one m, drop-cons rs m past_results (omega arith)) (add_assoc g (get_or rs m past_results).length _)

  pub found-given : (a : RowTest) (ts : List TransferTrb) → a.tds + ends ts ≤ length rs → (found a ts).given ≡ a.given + data_length (take (ends ts) (drop a.tds rs))
  unfolding tested_row ends data_length
  found-given a [] h = omega arith
  found-given a (t ∷ ts) h =
      found-given (tested_trb regions a t (get_or rs a.tds past_results)) ts (omega (arith, h, add-cond (chain_of t.variant) a.tds))
      ∙ given_by (chain_of t.variant) a.given a.tds (ends ts) h

  rightly-by : (b g n may : Bool) (m : ℕ) (ts : List TransferTrb)
      → (cond b g (g && may) && rightly_from rs (cond b n false) (cond b m (m + 1)) ts) ≡ (g && cond b (rightly_from rs n m ts) (may && rightly_from rs false (m + 1) ts))
  rightly-by true g n may m ts = refl
  rightly-by false g n may m ts = and_assoc g may (rightly_from rs false (m + 1) ts)

  pub found-rightly : (a : RowTest) (ts : List TransferTrb) → (found a ts).given_rightly ≡ (a.given_rightly && rightly_from rs a.has_normal a.tds ts)
  unfolding tested_row rightly_from
  found-rightly a [] = sym (and-true a.given_rightly)
  found-rightly a (t ∷ ts) =
      let n : Bool = a.has_normal || is_normal t.variant in
      found-rightly (tested_trb regions a t (get_or rs a.tds past_results)) ts
      ∙ rightly-by (chain_of t.variant) a.given_rightly n (may_be_given n (get_or rs a.tds past_results)) a.tds ts

-- ---- Over TDs

unfoldable pub all_from : Bool → List (List TransferTrb) → List TdResult → Bool
all_from has [] xs = true
all_from has (td ∷ tds) [] = true
all_from has (td ∷ tds) (r ∷ xs) = may_be_given (has || has_normal td) r && all given_rightly (with_results tds xs)

pub all-from : (tds : List (List TransferTrb)) (xs : List TdResult) → all_from false tds xs ≡ all given_rightly (with_results tds xs)
unfolding all_from with_results all
all-from [] xs = refl
all-from (td ∷ tds) [] = refl
all-from (td ∷ tds) (r ∷ xs) = refl

pub endsTd-tail : (t : TransferTrb) (ts : List TransferTrb) → endsTd (t ∷ ts) ≡ true → endsTd ts ≡ true
unfolding endsTd
endsTd-tail t [] e = refl
endsTd-tail t (u ∷ ts) e = e

-- a TD goes on only where a TRB follows
pub goes_on : (t : TransferTrb) (ts : List TransferTrb) → endsTd (t ∷ ts) ≡ true → chain_of t.variant ≡ true → 0 < length ts
unfolding endsTd
goes_on t [] e k = let off : not (chain_of t.variant) ≡ true = e in let never : false ≡ true = rw k at off in let apart : ◌≡◌ {A = ℕ} 0 1 = cc in omega arith
goes_on t (u ∷ ts) e k = omega arith

-- an ended row has as many TDs as TRBs with the chain bit off
length-in_front : (t : TransferTrb) (tds : List (List TransferTrb)) → 0 < length tds → length (in_front t tds) ≡ length tds
length-in_front t [] h = absurd (not-suc-le-zero h)
length-in_front t (td ∷ tds) h = refl

pub some-tds : (ts : List TransferTrb) → 0 < length ts → 0 < length (tds_of ts)
some-tds [] h = absurd (not-suc-le-zero h)
some-tds (t ∷ ts) h = rw (tds_of-cons t ts) (omega arith)

pub length-tds : (ts : List TransferTrb) → endsTd ts ≡ true → length (tds_of ts) ≡ ends ts
unfolding tds_of ends
length-tds [] e = refl
length-tds (t ∷ ts) e = by_chain (chain_of t.variant) refl (length-tds ts (endsTd-tail t ts e))
  where
    by_chain : (b : Bool) → chain_of t.variant ≡ b → length (tds_of ts) ≡ ends ts
        → length (cond b (in_front t (tds_of ts)) ((t ∷ []) ∷ tds_of ts)) ≡ cond b 0 1 + ends ts
    by_chain true k ih = length-in_front t (tds_of ts) (some-tds ts (goes_on t ts e k)) ∙ omega (arith, ih)
    by_chain false k ih = omega (arith, ih)

has_normal-cons : (t : TransferTrb) (ts : List TransferTrb) → has_normal (t ∷ ts) ≡ (is_normal t.variant || has_normal ts)
has_normal-cons t ts = by_kind (is_normal t.variant)
  where
    by_kind : (b : Bool) → not (eqb (cond b 1 0 + normals ts) 0) ≡ (b || not (eqb (normals ts) 0))
    by_kind true = rw (ne_eqb (1 + normals ts) 0 (λ e. omega arith))
    by_kind false = rw zero-add

-- the TRB in front of a TD
all_from-in_front : (has : Bool) (t : TransferTrb) (tds : List (List TransferTrb)) (xs : List TdResult) → 0 < length tds
    → all_from has (in_front t tds) xs ≡ all_from (has || is_normal t.variant) tds xs
unfolding all_from
all_from-in_front has t [] xs h = absurd (not-suc-le-zero h)
all_from-in_front has t (td ∷ tds) [] h = refl
all_from-in_front has t (td ∷ tds) (r ∷ xs) h = rw (has_normal-cons t td, or_assoc has (is_normal t.variant) (has_normal td))

module _ (rs : List TdResult) where
  pub rightly-tds : (has : Bool) (m : ℕ) (ts : List TransferTrb) → endsTd ts ≡ true → m + ends ts ≤ length rs
      → rightly_from rs has m ts ≡ all_from has (tds_of ts) (drop m rs)
  unfolding tds_of ends rightly_from all_from
  rightly-tds has m [] e h = refl
  rightly-tds has m (t ∷ ts) e h = by_chain (λ b k few. rightly-tds b k ts (endsTd-tail t ts e) few) (chain_of t.variant) refl h
    where
      now : Bool
      now = has || is_normal t.variant

      by_chain : ((b : Bool) (k : ℕ) → k + ends ts ≤ length rs → rightly_from rs b k ts ≡ all_from b (tds_of ts) (drop k rs))
          → (b : Bool) → chain_of t.variant ≡ b → m + (cond b 0 1 + ends ts) ≤ length rs
          → cond b (rightly_from rs now m ts) (may_be_given now (get_or rs m past_results) && rightly_from rs false (m + 1) ts)
          ≡ all_from has (cond b (in_front t (tds_of ts)) ((t ∷ []) ∷ tds_of ts)) (drop m rs)
      by_chain ih true k few =
          ih now m (omega (arith, few)) ∙ sym (all_from-in_front has t (tds_of ts) (drop m rs) (some-tds ts (goes_on t ts e k)))
      by_chain ih false k few =
          rw (ih false (m + 1) (omega (arith, few)), all-from (tds_of ts) (drop (m + 1) rs), add-one m, drop-cons rs m past_results (omega (arith, few)), has_normal-cons t [], or-false (is_normal t.variant))
