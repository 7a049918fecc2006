-- `row_delivery::complete_tds_and_carry_out` meets its contract: the row logs what it logs, and carry-out is given its records. Assumes nothing.
use mathlib.Core.Path.{ap}
use Rattle.guest_memory.specs.Places.{regions_of}
use Rattle.guest_memory.specs.Lent.{lent}
use Rattle.row_delivery.proofs.CallLaws.{delivers-tds}
use Rattle.row_delivery.proofs.complete_tds_and_carry_out.Goals as goal

pub returns-clause-delivered : goal.returns-clause-delivered
returns-clause-delivered c =
    let done = rw (ap regions_of c.view.ensures) at c.complete_tds-done.ensures in
    delivers-tds c.args.block c.args.count _ c.args.tds _ c.args.data.now c.args.log.now (lent c.args.memory.now) c.complete_tds-done.result c.complete_tds-done.new.log done
    c.carry_out_first.result _ c.carry_out_first.ensures.answer
