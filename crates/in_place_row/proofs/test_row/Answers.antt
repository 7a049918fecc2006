-- `in_place_row::test_row` meets its contract: the loop keeps to what the questions ask of the TRBs, one by one. Assumes nothing.
use native.Mathlib.Omega.{arith}
use Rattle.held.specs.Places.{past_end}
use Rattle.row_questions.proofs.RowTestLaws.{testing-none, testing-turn, testing-end}
use Rattle.row_bytes.specs.Layout.{results_in}
use Rattle.in_place_row.proofs.KeptLaws.{trbs_of, as_many, read_at}
use Rattle.in_place_row.proofs.test_row.Goals as goal

pub loop-place-init : goal.loop-place-init
loop-place-init c =
    let a = c.args in
    rw c.untested-test.ensures (testing-none a.regions (results_in a.results.now) (trbs_of a.row.now))

pub test_at-test-requires : goal.test_at-test-requires
test_at-test-requires c =
    let k = c.loop-place.invariant in
    (omega (arith, k.held, c.loop-place-test.true, c.requires), omega (arith, k.tds, k.given, c.loop-place-test.true, c.requires))

pub loop-place-preserved : goal.loop-place-preserved
loop-place-preserved c =
    let row = c.args.row.now in
    let more = c.loop-place-test.true in
    testing-turn c.args.regions (results_in c.args.results.now) (trbs_of row) c.loop-place.test c.test_at-test.result c.loop-place.place-index past_end c.loop-place.invariant
    (omega (arith, as_many row, more)) (rw (read_at row c.loop-place.place-index more) c.test_at-test.ensures.0) c.test_at-test.ensures.1

pub returns : goal.returns
returns c =
    let row = c.args.row.now in
    testing-end c.args.regions (results_in c.args.results.now) (trbs_of row) c.loop-place.test c.loop-place.place-index c.loop-place.invariant
    (omega (arith, as_many row, c.loop-place-test.false))
