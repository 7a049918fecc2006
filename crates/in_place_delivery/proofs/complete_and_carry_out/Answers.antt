-- `in_place_delivery::complete_and_carry_out` meets its contract. Assumes nothing.
use Rattle.guest_memory.specs.Lent.{lent}
use Rattle.in_place.specs.InPlace.{result_of}
use Rattle.in_place_delivery.proofs.CallLaws.{short-in-place}
use Rattle.in_place_delivery.proofs.complete_and_carry_out.Goals as goal

pub returns-then-block-lt-BLOCK-clause-delivered : goal.returns-then-block-lt-BLOCK-clause-delivered
returns-then-block-lt-BLOCK-clause-delivered c = short-in-place (result_of c.args.status) c.args.data.now c.args.log.now c.args.block.now (lent c.args.memory.now) c.if-block-lt-BLOCK.true c.completed_as.ensures
