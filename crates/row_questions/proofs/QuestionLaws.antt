-- The questions asked of a row are those asked of what its loop found; what each yes leaves; and 5 is never the answer to a row. Assumes nothing.
use Prim.Native.Nat.{ℕ, zero, suc, ◌+◌, ◌*◌, ◌<◌, ◌≤◌}
use mathlib.Core.Path.{◌≡◌, refl, sym, ap, ◌∙◌}
use mathlib.Core.Bool.{Bool, true, false, not, cond, ◌&&◌, or-true, true≢false}
use mathlib.Core.List.{List, [], ◌∷◌, ◌++◌}
use native.Mathlib.Nat.{zero-add, mul-suc}
use native.Mathlib.Omega.{arith}
use borrow.Author.Tests.{leb-true, le-leb, lt-leb, eqb-true, eq-eqb, not-true}
use lib.Dec.{leb, eqb}
use lib.ListN.{length, take}
use Rattle.trb.specs.Answers.{number_of, is_accepted}
use Rattle.trb.specs.Limits.{max_held, max_transfer_length, max_data, max_row, min_row_log}
use Rattle.trb.specs.Questions.{first_no, after_questions, asked_if}
use Rattle.trb.specs.Trbs.{transfer_length, immediate_of, chain_of}
use Rattle.trb.specs.Answers.{Answer}
use Rattle.trb.specs.declared.TransferTrb.{TransferTrb}
use Rattle.trb.specs.declared.TransferTrbVariant.{TransferTrbVariant}
use Rattle.trb.proofs.AnswerLaws.{answered-yes, answered-no}
use Rattle.trb.proofs.QuestionLaws.{yes-first, yes-behind}
use Rattle.trb.proofs.TestLaws.{and_left}
use Rattle.held.specs.Sound.{supported}
use Rattle.held.specs.declared.EndpointKind.TheVariants.{In}
use Rattle.guest_memory.specs.declared.Regions.{Regions}
use Rattle.guest_memory.specs.Regions.{share_an_address}
use Rattle.walks.specs.All.{all}
use Rattle.in_td.specs.Normals.{requested}
use Rattle.in_block.specs.Facts.{sound_block}
use Rattle.in_block.specs.declared.BlockFacts.{BlockFacts}
use Rattle.in_questions.specs.Questions.{trb_questions}
use Rattle.in_request.specs.Requests.{in_guest_memory}
use Rattle.in_request.proofs.RequestedLaws.{normal-length}
use Rattle.row_walk.specs.declared.TdResult.{TdResult}
use Rattle.row_walk.specs.Rows.{RowTd, with_results, row_tds, data_length, Walkable}
use Rattle.row_walk.specs.Tds.{tds_of, endsTd}
use Rattle.row_questions.specs.declared.RowTest.{RowTest}
use Rattle.row_questions.specs.Questions.{each_trb, given_rightly, in_supported, row_shaped, row_due, row_questions}
use Rattle.row_questions.specs.Tests.{untested, tested_row, shaped_as, asked_as}
use Rattle.row_questions.proofs.RowTestLaws.{found-supported, found-ends, ends, found-tds, found_number, found-given, found-rightly, all-from, length-tds, rightly-tds}

-- ---- 4, 21, 5 and 6, and what is asked behind them

each-by : (p q r x : Bool) (more rest : List (Bool × ℕ)) → first_no (more ++ rest) ≡ after_questions more (λ (n : ℕ). n) (first_no rest)
    → let qs : List (Bool × ℕ) = (p, 4) ∷ (q, 21) ∷ (r, 5) ∷ (x, 6) ∷ more in first_no (qs ++ rest) ≡ after_questions qs (λ (n : ℕ). n) (first_no rest)
unfolding first_no
each-by true true true true more rest h = h
each-by true true true false more rest h = refl
each-by true true false x more rest h = refl
each-by true false r x more rest h = refl
each-by false q r x more rest h = refl

each-then : (regions : Regions) (h : ℕ) (ts : List TransferTrb) (rest : List (Bool × ℕ))
    → first_no (each_trb regions h ts ++ rest) ≡ after_questions (each_trb regions h ts) (λ (n : ℕ). n) (first_no rest)
unfolding each_trb first_no
each-then regions h [] rest = refl
each-then regions h (t ∷ ts) rest =
    each-by (leb (transfer_length t.variant) max_transfer_length) (asked_if (supported In t.variant) (not (immediate_of t.variant)))
    (asked_if (supported In t.variant) (leb (h + 1) max_held)) (asked_if (supported In t.variant) (in_guest_memory t.variant regions))
    (each_trb regions (cond (chain_of t.variant) (h + 1) 0) ts) rest (each-then regions (cond (chain_of t.variant) (h + 1) 0) ts rest)

-- by an answer to them
each-asked : (regions : Regions) (ts : List TransferTrb) (rest : List (Bool × ℕ)) (a : Answer) → number_of a ≡ first_no (each_trb regions 0 ts)
    → first_no (each_trb regions 0 ts ++ rest) ≡ cond (is_accepted a) (first_no rest) (number_of a)
each-asked regions ts rest a e = each-then regions 0 ts rest ∙ by_answer (is_accepted a) refl
  where
    by_answer : (b : Bool) → is_accepted a ≡ b → after_questions (each_trb regions 0 ts) (λ (n : ℕ). n) (first_no rest) ≡ cond b (first_no rest) (number_of a)
    by_answer true h = answered-yes (each_trb regions 0 ts) (λ (n : ℕ). n) (first_no rest) a e h
    by_answer false h = answered-no (each_trb regions 0 ts) (λ (n : ℕ). n) (first_no rest) a e h

-- ---- 15

with_results-take : (tds : List (List TransferTrb)) (rs : List TdResult) (m : ℕ) → length tds ≡ m → with_results tds (take m rs) ≡ with_results tds rs
unfolding with_results
with_results-take [] rs m h = refl
with_results-take (td ∷ tds) [] zero h = refl
with_results-take (td ∷ tds) [] (suc m) h = refl
with_results-take (td ∷ tds) (r ∷ rs) zero h = absurd (omega arith)
with_results-take (td ∷ tds) (r ∷ rs) (suc m) h = ap (λ (l : List RowTd). record { trbs = td; given = r } ∷ l) (with_results-take tds rs m (omega arith))

ends-few : (ts : List TransferTrb) → ends ts ≤ length ts
unfolding ends
ends-few [] = omega arith
ends-few (t ∷ ts) = by_chain (chain_of t.variant) (ends-few ts)
  where
    by_chain : (b : Bool) → ends ts ≤ length ts → cond b 0 1 + ends ts ≤ suc (length ts)
    by_chain true h = omega arith
    by_chain false h = omega arith

module _ (regions : Regions) (results : List TdResult) (ts : List TransferTrb) where
  abbrev test : RowTest
  test = tested_row regions results untested ts

  ends_held : (ts : List TransferTrb) → eqb (tested_row regions results untested ts).held 0 ≡ endsTd ts
  unfolding tested_row endsTd
  ends_held [] = refl
  ends_held (t ∷ ts) = found-ends regions results untested t ts

  tds-found : test.tds ≡ ends ts
  tds-found = found-tds regions results untested ts ∙ zero-add (ends ts)

  module _ (m n : ℕ) (few : ends ts ≡ m → m ≤ length results) where
    given-found : ends ts ≡ m → test.given ≡ data_length (take m results)
    given-found e =
        found-given regions results untested ts (omega (arith, few e))
        ∙ zero-add _ ∙ ap (λ (k : ℕ). data_length (take k results)) e

    rightly-found : endsTd ts ≡ true → ends ts ≡ m → test.given_rightly ≡ all given_rightly (row_tds ts (take m results))
    rightly-found whole e =
        found-rightly regions results untested ts
        ∙ rightly-tds results false 0 ts whole (omega (arith, few e))
        ∙ all-from (tds_of ts) results
        ∙ ap (all given_rightly) (sym (with_results-take (tds_of ts) results m (length-tds ts whole ∙ e)))

    counted-by : endsTd ts ≡ true → (c : Bool) → eqb (ends ts) m ≡ c
        → (c && (eqb (data_length (take m results)) n && all given_rightly (row_tds ts (take m results)))) ≡ (c && (eqb test.given n && test.given_rightly))
    counted-by whole true e = let k : ends ts ≡ m = eqb-true (ends ts) m e in rw (given-found k, rightly-found whole k)
    counted-by whole false e = refl

    ended_by : (b : Bool) → endsTd ts ≡ b
        → (b && (eqb (length (tds_of ts)) m && (eqb (data_length (take m results)) n && all given_rightly (row_tds ts (take m results)))))
        ≡ (b && (eqb test.tds m && (eqb test.given n && test.given_rightly)))
    ended_by true e = rw (length-tds ts e, tds-found) (counted-by e (eqb (ends ts) m) refl)
    ended_by false e = refl

    -- question 15 is what the loop found
    pub shaped-as : (k : ℕ) → row_shaped k ts m (take m results) n ≡ shaped_as k test m n
    unfolding row_shaped
    shaped-as k = rw (found-supported regions results untested ts, ends_held ts) (ap (λ (x : Bool). leb k max_row && (all in_supported ts && x)) (ended_by (endsTd ts) refl))

  pub number-as : number_of test.asked ≡ first_no (each_trb regions 0 ts)
  number-as = found_number regions results untested ts

-- ---- The questions of the row, by what the loop found

module _ (l : ℕ) (regions : Regions) (f : BlockFacts) (k : ℕ) (ts : List TransferTrb) (m : ℕ) (results : List TdResult) (n : ℕ) where
  -- where a row of m TDs has results for them
  pub asked_of : (ends ts ≡ m → m ≤ length results)
      → first_no (asked_as l regions f k (tested_row regions results untested ts) m n) ≡ first_no (row_questions l regions f k ts m (take m results) n)
  unfolding asked_as row_questions first_no
  asked_of few =
      rw (
        shaped-as regions results ts m n few k,
        each-asked regions ts ((leb n max_data, 9) ∷ []) (tested_row regions results untested ts).asked (number-as regions results ts),
      )

  pub asked-as : length ts ≤ length results
      → first_no (asked_as l regions f k (tested_row regions results untested ts) m n) ≡ first_no (row_questions l regions f k ts m (take m results) n)
  asked-as few = asked_of (λ e. omega (arith, e, ends-few ts))

-- a row that is too long is not looked at
no-later : (p q r s : Bool) (x y : List (Bool × ℕ))
    → first_no ((p, 1) ∷ (q, 13) ∷ (r, 2) ∷ (s, 3) ∷ (false, 15) ∷ x) ≡ first_no ((p, 1) ∷ (q, 13) ∷ (r, 2) ∷ (s, 3) ∷ (false, 15) ∷ y)
unfolding first_no
no-later true true true true x y = refl
no-later true true true false x y = refl
no-later true true false s x y = refl
no-later true false r s x y = refl
no-later false q r s x y = refl

pub asked-long : (l : ℕ) (regions : Regions) (f : BlockFacts) (k : ℕ) (ts : List TransferTrb) (m : ℕ) (rs : List TdResult) (n : ℕ) (a : RowTest) → max_row < k
    → first_no (asked_as l regions f k a m n) ≡ first_no (row_questions l regions f k ts m rs n)
unfolding asked_as row_questions row_shaped
asked-long l regions f k ts m rs n a over =
    let no : leb k max_row ≡ false = lt-leb k max_row over in
    rw no (no-later (leb min_row_log l) (not (share_an_address regions)) (sound_block f) (row_due f) _ _)

-- ---- What each yes leaves

shape-parts : (a b c d e f : Bool) → (a && (b && (c && (d && (e && f))))) ≡ true
    → (a ≡ true) × ((b ≡ true) × ((c ≡ true) × ((d ≡ true) × ((e ≡ true) × (f ≡ true)))))
shape-parts true true true true true true h = (refl, (refl, (refl, (refl, (refl, refl)))))
shape-parts false b c d e f h = absurd (true≢false (sym h))
shape-parts true false c d e f h = absurd (true≢false (sym h))
shape-parts true true false d e f h = absurd (true≢false (sym h))
shape-parts true true true false e f h = absurd (true≢false (sym h))
shape-parts true true true true false f h = absurd (true≢false (sym h))
shape-parts true true true true true false h = absurd (true≢false (sym h))

-- of a TRB behind h others of its TD, and those behind it
pub record PassedTrb (regions : Regions) (h : ℕ) (t : TransferTrb) (ts : List TransferTrb) : Type 0 where
  pub own : first_no (trb_questions h t.variant regions) ≡ 0
  pub short : leb (transfer_length t.variant) max_transfer_length ≡ true
  pub place : asked_if (supported In t.variant) (leb (h + 1) max_held) ≡ true
  pub rest : first_no (each_trb regions (cond (chain_of t.variant) (h + 1) 0) ts) ≡ 0

pub passed-trb : (regions : Regions) (h : ℕ) (t : TransferTrb) (ts : List TransferTrb) → first_no (each_trb regions h (t ∷ ts)) ≡ 0 → PassedTrb regions h t ts
unfolding each_trb first_no
passed-trb regions h t ts none =
    let v : TransferTrbVariant = t.variant in
    let rest : List (Bool × ℕ) = each_trb regions (cond (chain_of v) (h + 1) 0) ts in
    let window : List (Bool × ℕ) = (asked_if (supported In v) (in_guest_memory v regions), 6) ∷ rest in
    let held : List (Bool × ℕ) = (asked_if (supported In v) (leb (h + 1) max_held), 5) ∷ window in
    let flag : List (Bool × ℕ) = (asked_if (supported In v) (not (immediate_of v)), 21) ∷ held in
    let yes_flag = yes-behind (leb (transfer_length v) max_transfer_length) 3 flag none in
    let yes-held = yes-behind (asked_if (supported In v) (not (immediate_of v))) 20 held yes_flag in
    let yes-window = yes-behind (asked_if (supported In v) (leb (h + 1) max_held)) 4 window yes-held in
    let short : leb (transfer_length v) max_transfer_length ≡ true = yes-first (leb (transfer_length v) max_transfer_length) 3 flag none in
    record {
      own = all_yes (leb (transfer_length v) max_transfer_length) (asked_if (supported In v) (not (immediate_of v))) (asked_if (supported In v) (leb (h + 1) max_held)) (asked_if (supported In v) (in_guest_memory v regions))
          short (yes-first (asked_if (supported In v) (not (immediate_of v))) 20 held yes_flag) (yes-first (asked_if (supported In v) (leb (h + 1) max_held)) 4 window yes-held) (yes-first (asked_if (supported In v) (in_guest_memory v regions)) 5 rest yes-window);
      short = short;
      place = yes-first (asked_if (supported In v) (leb (h + 1) max_held)) 4 window yes-held;
      rest = yes-behind (asked_if (supported In v) (in_guest_memory v regions)) 5 rest yes-window;
    }
  where
    all_yes : (p q r x : Bool) → p ≡ true → q ≡ true → r ≡ true → x ≡ true → first_no ((p, 4) ∷ (q, 21) ∷ (r, 5) ∷ (x, 6) ∷ []) ≡ 0
    all_yes p q r x a b c d = rw (a, b, c, d)

-- what is requested, where each length is within the limit
requested-few : (regions : Regions) (h : ℕ) (ts : List TransferTrb) → first_no (each_trb regions h ts) ≡ 0 → requested ts ≤ max_transfer_length * length ts
requested-few regions h [] e = omega arith
requested-few regions h (t ∷ ts) e =
    let y = passed-trb regions h t ts e in
    rw mul-suc (omega (arith, leb-true (transfer_length t.variant) max_transfer_length y.short, normal-length t.variant, requested-few regions (cond (chain_of t.variant) (h + 1) 0) ts y.rest))

-- of a row of k TRBs ts with m results rs, all of whose questions were answered with yes
pub record PassedRow (l : ℕ) (regions : Regions) (f : BlockFacts) (k : ℕ) (ts : List TransferTrb) (m : ℕ) (rs : List TdResult) (n : ℕ) : Type 0 where
  pub log-long : min_row_log ≤ l
  pub apart : share_an_address regions ≡ false
  pub sound : sound_block f ≡ true
  pub due : row_due f ≡ true
  pub few : k ≤ max_row
  pub kinds : all in_supported ts ≡ true
  pub whole : endsTd ts ≡ true
  pub each : length (tds_of ts) ≡ m
  pub sum : data_length rs ≡ n
  pub rightly : all given_rightly (row_tds ts rs) ≡ true
  pub trbs : first_no (each_trb regions 0 ts) ≡ 0
  pub short : n ≤ max_data

module _ (l : ℕ) (regions : Regions) (f : BlockFacts) (k : ℕ) (ts : List TransferTrb) (m : ℕ) (rs : List TdResult) (n : ℕ) where
  -- the questions that are left, number by number
  abbrev from-data : List (Bool × ℕ)
  from-data = (leb n max_data, 9) ∷ []

  abbrev from-trbs : List (Bool × ℕ)
  from-trbs = each_trb regions 0 ts ++ from-data

  abbrev from-shape : List (Bool × ℕ)
  from-shape = (row_shaped k ts m rs n, 15) ∷ from-trbs

  abbrev from-turn : List (Bool × ℕ)
  from-turn = (row_due f, 3) ∷ from-shape

  abbrev from_block : List (Bool × ℕ)
  from_block = (sound_block f, 2) ∷ from-turn

  abbrev from-regions : List (Bool × ℕ)
  from-regions = (not (share_an_address regions), 13) ∷ from_block

  -- both 4, 21, 5, 6 of every TRB and those behind them
  each-yes : (number rest : ℕ) (b : Bool) → eqb number 0 ≡ b → cond b rest number ≡ 0 → (number ≡ 0) × (rest ≡ 0)
  each-yes number rest true h e = (eqb-true number 0 h, e)
  each-yes number rest false h e = absurd (true≢false (sym (eq-eqb number 0 e) ∙ h))

  pub passed-row : first_no (row_questions l regions f k ts m rs n) ≡ 0 → PassedRow l regions f k ts m rs n
  unfolding row_questions row_shaped
  passed-row none =
      let apart = yes-behind (leb min_row_log l) 0 from-regions none in
      let block = yes-behind (not (share_an_address regions)) 12 from_block apart in
      let turn = yes-behind (sound_block f) 1 from-turn block in
      let shape = yes-behind (row_due f) 2 from-shape turn in
      let trbs = yes-behind (row_shaped k ts m rs n) 14 from-trbs shape in
      let later = each-yes (first_no (each_trb regions 0 ts)) (first_no from-data) (eqb (first_no (each_trb regions 0 ts)) 0) refl (sym (each-then regions 0 ts from-data) ∙ trbs) in
      let parts = shape-parts (leb k max_row) (all in_supported ts) (endsTd ts) (eqb (length (tds_of ts)) m) (eqb (data_length rs) n) (all given_rightly (row_tds ts rs))
      (yes-first (row_shaped k ts m rs n) 14 from-trbs shape) in
      record {
        log-long = leb-true _ _ (yes-first (leb min_row_log l) 0 from-regions none);
        apart = not-true (share_an_address regions) (yes-first (not (share_an_address regions)) 12 from_block apart);
        sound = yes-first (sound_block f) 1 from-turn block;
        due = yes-first (row_due f) 2 from-shape turn;
        few = leb-true _ _ parts.0;
        kinds = parts.1.0;
        whole = parts.1.1.0;
        each = eqb-true _ _ parts.1.1.1.0;
        sum = eqb-true _ _ parts.1.1.1.1.0;
        rightly = parts.1.1.1.1.1;
        trbs = later.0;
        short = leb-true _ _ (yes-first (leb n max_data) 8 [] later.1);
      }

  module _ (y : PassedRow l regions f k ts m rs n) (inside : length ts ≤ k) where
    -- there are no more results than the row has places
    pub row-few : m ≤ max_row
    row-few = omega (arith, y.each, length-tds ts y.whole, ends-few ts, y.few, inside)

    -- the walk finds its numbers within their limits, and room in the log
    pub row-walkable : length rs ≡ m → Walkable ts rs l
    row-walkable given = record {
      whole = y.whole;
      each = y.each ∙ sym given;
      room = omega (arith, y.log-long, y.few, inside);
      asked = omega (arith, requested-few regions 0 ts y.trbs, y.few, inside);
      given = omega (arith, y.sum, y.short);
    }

-- ---- 5 is never the answer

-- the questions before it, and behind it
not_five : (q : Bool) (rest number : ℕ) → (number ≡ 5 → ⊥) → cond q rest number ≡ 5 → (q ≡ true) × (rest ≡ 5)
not_five true rest number other e = (refl, e)
not_five false rest number other e = absurd (other e)

-- TRBs that a block has places for
each-never-five : (regions : Regions) (h : ℕ) (ts : List TransferTrb) → h + length ts ≤ max_held → first_no (each_trb regions h ts) ≡ 5 → ⊥
unfolding each_trb first_no
each-never-five regions h [] few e = omega arith
each-never-five regions h (t ∷ ts) few e =
    let v : TransferTrbVariant = t.variant in
    let place : leb (h + 1) max_held ≡ true = le-leb (h + 1) max_held (omega arith) in
    let four = not_five (leb (transfer_length v) max_transfer_length) _ 4 (λ z. omega arith) e in
    let flag = not_five (asked_if (supported In v) (not (immediate_of v))) _ 21 (λ z. omega arith) four.1 in
    let held : asked_if (supported In v) (leb (h + 1) max_held) ≡ true = rw (place, or-true (not (supported In v))) in
    let window = rw held at flag.1 in
    let rest = not_five (asked_if (supported In v) (in_guest_memory v regions)) _ 6 (λ z. omega arith) window in
    each-never-five regions (cond (chain_of v) (h + 1) 0) ts (by_chain (chain_of v)) rest.1
  where
    by_chain : (b : Bool) → cond b (h + 1) 0 + length ts ≤ max_held
    by_chain true = omega arith
    by_chain false = omega arith

-- 02, R-7: 15 keeps a row within the places of a block, so that 5 is asked of it and never answered
pub never-five : (l : ℕ) (regions : Regions) (f : BlockFacts) (k : ℕ) (ts : List TransferTrb) (m : ℕ) (rs : List TdResult) (n : ℕ) → length ts ≤ k
    → first_no (row_questions l regions f k ts m rs n) ≡ 5 → ⊥
unfolding row_questions first_no row_shaped
never-five l regions f k ts m rs n inside e =
    let q1 = not_five (leb min_row_log l) _ 1 (λ z. omega arith) e in
    let q13 = not_five (not (share_an_address regions)) _ 13 (λ z. omega arith) q1.1 in
    let q2 = not_five (sound_block f) _ 2 (λ z. omega arith) q13.1 in
    let q3 = not_five (row_due f) _ 3 (λ z. omega arith) q2.1 in
    let q15 = not_five (row_shaped k ts m rs n) _ 15 (λ z. omega arith) q3.1 in
    let few : k ≤ max_row = leb-true k max_row (and_left (leb k max_row) _ q15.0) in
    by_number (eqb (first_no (each_trb regions 0 ts)) 0) (omega arith) (sym (each-then regions 0 ts ((leb n max_data, 9) ∷ [])) ∙ q15.1)
  where
    by_number : (b : Bool) → 0 + length ts ≤ max_held → cond b (cond (leb n max_data) 0 9) (first_no (each_trb regions 0 ts)) ≡ 5 → ⊥
    by_number true small z = by-data (leb n max_data) z
      where
        by-data : (b : Bool) → ◌≡◌ {A = ℕ} (cond b 0 9) 5 → ⊥
        by-data true z = omega arith
        by-data false z = omega arith
    by_number false small z = each-never-five regions 0 ts small z
