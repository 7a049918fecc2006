-- `captured_calls::put_requests` meets its contract. The invariant: the requests of the records that are left are left of the requests of all records.
-- Assumes nothing.
use mathlib.Core.Path.{refl, ap, ◌∙◌}
use lib.ListN.{drop_of_length-le}
use Rattle.capture_calls.specs.Captures.{writer_call}
use Rattle.captured_calls.specs.Submitted.{captured_of}
use Rattle.captured_calls.proofs.WrittenLaws.{remaining-all, remaining-less, remaining-none}
use Rattle.captured_calls.proofs.SubmittedLaws.{requests-next}
use Rattle.captured_calls.proofs.put_requests.Goals as goal

pub loop-cells-init : goal.loop-cells-init
loop-cells-init g c = λ events tells. remaining-all _

pub loop-cells-preserved : goal.loop-cells-preserved
loop-cells-preserved g c = λ events tells.
    let l = c.loop-cells in
    let said = tells _ _ c.event.ensures ∙ ap events c.decoded.ensures in
    let turn = requests-next _ events c.args.payload.now _ l.cells-index c.loop-cells-test.true said in
    remaining-less (λ s. writer_call (captured_of s) c.event.result c.args.payload.now) turn (l.invariant events tells) c.put.ensures

pub returns : goal.returns
returns g c = λ events tells.
    let l = c.loop-cells in
    let none = drop_of_length-le c.args.rows.now c.loop-cells-test.false in
    remaining-none refl (rw none at l.invariant events tells)
