-- `in_row::complete_tds` meets its contract: the loop finds what the questions ask of the row; a no
-- leaves all as it was; behind every yes the row is walked. Assumes nothing.
use Prim.Native.Nat.{◌≤◌}
use mathlib.Core.Path.{◌≡◌, refl, sym, ap, ◌∙◌}
use mathlib.Core.Bool.{true}
use mathlib.Core.List.{List}
use native.Mathlib.Omega.{arith}
use lib.ListN.{length, take, length-take}
use lib.Seq.{length-take-le}
use Rattle.std.specs.Prelude.{Ok, Err}
use Rattle.trb.specs.Answers.{number_of, is_accepted}
use Rattle.trb.specs.Limits.{max_row}
use Rattle.trb.specs.Questions.{first_no}
use Rattle.trb.specs.declared.TransferTrb.{TransferTrb}
use Rattle.guest_memory.specs.declared.Regions.{Regions}
use Rattle.guest_memory.specs.Places.{regions_of}
use Rattle.guest_memory.specs.Lent.{seen}
use Rattle.held.specs.Places.{past_end}
use Rattle.held.proofs.TestedLaws.{places-held}
use Rattle.in_block.specs.Facts.{facts_of}
use Rattle.in_block.specs.declared.BlockFacts.{BlockFacts}
use Rattle.row_walk.specs.Rows.{Walkable}
use Rattle.row_questions.specs.Questions.{row_questions}
use Rattle.row_questions.specs.Tests.{untested, tested_row, asked_as}
use Rattle.row_questions.specs.declared.RowTest.{RowTest}
use Rattle.row_questions.proofs.RowTestLaws.{testing-none, testing-turn, testing-end}
use Rattle.row_questions.proofs.QuestionLaws.{asked-as, row-few, row-walkable}
use Rattle.in_row.proofs.RowLaws.{known-row, accepted-row, refused-row}
use Rattle.in_row.proofs.complete_tds.Goals.{After-ask_row-asked}
use Rattle.in_row.proofs.complete_tds.Goals as goal

-- ---- The loop over the row

pub loop-t-init : goal.loop-t-init
loop-t-init c = rw c.untested-test.ensures (testing-none c.regions-regions.result c.args.results (take c.places-tested.result c.args.row))

pub bounds-results-test : goal.bounds-results-test
bounds-results-test c =
    let long : length c.args.results ≡ max_row = omega arith in
    omega (arith, c.loop-t.invariant.tds, c.loop-t-test.true, length-take c.places-tested.result c.args.row, c.places-tested.ensures, long)

pub test_trb-test-requires : goal.test_trb-test-requires
test_trb-test-requires c =
    let k = c.loop-t.invariant in
    omega (arith, k.held, k.tds, k.given, c.loop-t-test.true, length-take c.places-tested.result c.args.row, c.places-tested.ensures)

pub loop-t-preserved : goal.loop-t-preserved
loop-t-preserved c =
    testing-turn c.regions-regions.result c.args.results (take c.places-tested.result c.args.row) c.loop-t.test c.test_trb-test.result c.loop-t.t-index past_end c.loop-t.invariant c.loop-t-test.true
    c.test_trb-test.ensures.0 c.test_trb-test.ensures.1

-- ---- The questions

number : (c : After-ask_row-asked) →
    let s = c.args in
    number_of c.ask_row-asked.result ≡ first_no (row_questions (length s.log.now) (regions_of (seen s.memory.now)) (facts_of s.block) s.count (take s.count s.row) s.tds (take s.tds s.results) (length s.data.now))
number c =
    let s = c.args in
    let b = s.block in
    let n = length s.data.now in
    let l = length s.log.now in
    let regions = c.regions-regions.result in
    let ts = take s.count s.row in
    let placed = c.places-tested.result in
    let long : length s.row ≡ max_row = omega arith in
    let results-long : length s.results ≡ max_row = omega arith in
    let few-trbs : length ts ≤ length s.results = omega (arith, length-take s.count s.row, long, results-long) in
    let tested : c.loop-t.test ≡ tested_row regions s.results untested ts =
    testing-end regions s.results (take placed s.row) c.loop-t.test c.loop-t.t-index c.loop-t.invariant c.loop-t-test.false
    ∙ ap (λ (us : List TransferTrb). tested_row regions s.results untested us) (places-held s.row s.count placed long c.places-tested.ensures) in
    c.ask_row-asked.ensures
    ∙ ap (λ (x : BlockFacts). first_no (asked_as l regions x s.count c.loop-t.test s.tds n)) c.facts_of-facts.ensures
    ∙ ap (λ (x : RowTest). first_no (asked_as l regions (facts_of b) s.count x s.tds n)) tested
    ∙ asked-as l regions (facts_of b) s.count ts s.tds s.results n few-trbs
    ∙ ap (λ (x : Regions). first_no (row_questions l x (facts_of b) s.count ts s.tds (take s.tds s.results) n)) c.regions-regions.ensures

pub returns-in-Err : goal.returns-in-Err
returns-in-Err c =
    let s = c.args in
    refused-row s.block s.count (take s.count s.row) s.tds (take s.tds s.results) (length s.data.now) (regions_of (seen s.memory.now)) s.log.now (Err c.in-Err.refusal) (sym (ap number_of c.in-Err.is) ∙ number (goal.at.returns-in-Err c).After-ask_row-asked) refl

-- ---- The walk

-- behind every yes
module _ (c : After-ask_row-asked) (accepts : is_accepted c.ask_row-asked.result ≡ true) where
  few-trbs : c.args.count ≤ max_row
  few-trbs =
      let s = c.args in
      (known-row s.block s.count (take s.count s.row) s.tds (take s.tds s.results) (length s.data.now) (regions_of (seen s.memory.now)) s.log.now c.ask_row-asked.result (number c) accepts).few

  walkable : (c.args.tds ≤ max_row) × Walkable (take c.args.count c.args.row) (take c.args.tds c.args.results) (length c.args.log.now)
  walkable =
      let s = c.args in
      let n = length s.data.now in
      let l = length s.log.now in
      let ts = take s.count s.row in
      let rs = take s.tds s.results in
      let regions = regions_of (seen s.memory.now) in
      let results-long : length s.results ≡ max_row = omega arith in
      let short : length ts ≤ s.count = omega (arith, length-take s.count s.row) in
      let known = known-row s.block s.count ts s.tds rs n regions s.log.now c.ask_row-asked.result (number c) accepts in
      let few = row-few l regions (facts_of s.block) s.count ts s.tds rs n known short in
      (few, row-walkable l regions (facts_of s.block) s.count ts s.tds rs n known short (length-take-le s.tds s.results (omega (arith, few, results-long))))

pub slice_bounds-row-end-in-Ok : goal.slice_bounds-row-end-in-Ok
slice_bounds-row-end-in-Ok c =
    let accepts = ap is_accepted c.in-Ok.is in
    omega (arith, few-trbs (goal.at.slice_bounds-row-end-in-Ok c).After-ask_row-asked accepts)

pub slice_bounds-walk_row-end : goal.slice_bounds-walk_row-end
slice_bounds-walk_row-end c =
    let accepts = ap is_accepted c.in-Ok.is in
    let long : length c.args.row ≡ max_row = omega arith in
    omega (arith, few-trbs (goal.at.slice_bounds-walk_row-end c).After-ask_row-asked accepts, length-take c.args.count c.args.row, long)

pub slice_bounds-results-end : goal.slice_bounds-results-end
slice_bounds-results-end c =
    let accepts = ap is_accepted c.in-Ok.is in
    omega (arith, (walkable (goal.at.slice_bounds-results-end c).After-ask_row-asked accepts).0)

pub slice_bounds-walk_row-end-in-Ok : goal.slice_bounds-walk_row-end-in-Ok
slice_bounds-walk_row-end-in-Ok c =
    let accepts = ap is_accepted c.in-Ok.is in
    let long : length c.args.results ≡ max_row = omega arith in
    omega (arith, (walkable (goal.at.slice_bounds-walk_row-end-in-Ok c).After-ask_row-asked accepts).0, length-take c.args.tds c.args.results, long)

pub walk_row-walked-requires : goal.walk_row-walked-requires
walk_row-walked-requires c =
    let s = c.args in
    let g = (goal.at.walk_row-walked-requires c).After-ask_row-asked in
    let accepts = ap is_accepted c.in-Ok.is in
    let w = walkable g accepts in
    (omega (arith, few-trbs g accepts, length-take s.count s.row), (omega (arith, w.0, length-take s.tds s.results), w.1))

pub returns-in-Ok : goal.returns-in-Ok
returns-in-Ok c =
    let s = c.args in
    let w = c.walk_row-walked in
    accepted-row s.block s.count (take s.count s.row) s.tds (take s.tds s.results) (length s.data.now) (regions_of (seen s.memory.now)) s.log.now (Ok tt)
    (sym (ap number_of c.in-Ok.is) ∙ number (goal.at.returns-in-Ok c).After-ask_row-asked) refl w.result w.new.log w.ensures
