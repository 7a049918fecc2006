-- `in_place_row::ask_row` meets its contract: what is asked of the facts and of what the loop found is asked of block and row. Assumes nothing.
use mathlib.Core.Path.{◌≡◌, sym, ap, ◌∙◌}
use mathlib.Core.List.{List, map}
use native.Mathlib.Omega.{arith}
use lib.ListN.{length, length-take, take}
use Rattle.std.proofs.lemmas.List.{take-map}
use Rattle.trb.specs.declared.TransferTrb.{TransferTrb}
use Rattle.row_bytes.specs.Layout.{given_trb, trbs_in}
use Rattle.row_bytes.proofs.CellLaws.{length-trbs_in}
use Rattle.in_place_row.proofs.CallLaws.{row-asked}
use Rattle.in_place_row.proofs.KeptLaws.{as_many}
use Rattle.in_place_row.proofs.ask_row.Goals.{After-places-tested}
use Rattle.in_place_row.proofs.ask_row.Goals as goal

-- the places are as many as the bytes say
long : (c : After-places-tested) → length c.places-places.result.now ≡ length (trbs_in c.args.row.now)
long c = sym (as_many c.places-places.result.now) ∙ ap (λ (ts : List TransferTrb). length ts) c.places-places.ensures.given

pub slice_bounds-test_row-end : goal.slice_bounds-test_row-end
slice_bounds-test_row-end c = omega (arith, c.places-tested.ensures, length-take c.places-tested.result c.places-places.result.now)

pub test_row-test-requires : goal.test_row-test-requires
test_row-test-requires c = omega (arith, c.places-tested.ensures, length-take c.places-tested.result c.places-places.result.now)

pub returns : goal.returns
returns c =
    let s = c.args in
    let k = c.row_count-count in
    let m = c.result_count-tds in
    let tested = c.places-tested in
    let cells = c.places-places.result.now in
    let trbs : map given_trb (take tested.result cells) ≡ take tested.result (trbs_in s.row.now) = sym (take-map given_trb tested.result cells) ∙ ap (take tested.result) c.places-places.ensures.given in
    (rw (c.test_row-test.ensures, k.ensures, m.ensures, trbs) at c.ask_row.ensures)
    ∙ row-asked s.log_length s.regions s.block.now s.row.now s.results.now s.data_length c.facts_of-facts.result tested.result
    c.facts_of-facts.ensures (omega (arith, tested.ensures, long (goal.at.returns c).After-places-tested, length-trbs_in s.row.now))
