-- `control_in_place::next_completion` meets its contract: by the length of the bytes. Assumes nothing.
use Rattle.control_in_place.specs.InPlace.{result_of}
use Rattle.control_in_place.proofs.CallLaws.{completes-short, completes-long}
use Rattle.control_in_place.proofs.next_completion.Goals as goal

pub returns-then-block-lt-BLOCK : goal.returns-then-block-lt-BLOCK
returns-then-block-lt-BLOCK c =
    let a = c.args in
    rw c.completed_as.ensures (completes-short (result_of a.status) a.data_length a.log.now a.block.now c.if-block-lt-BLOCK.true)

pub returns : goal.returns
returns c =
    let a = c.args in
    rw c.completed_as-2.ensures
    (completes-long (result_of a.status) a.data_length a.log.now a.block.now c.complete-completed.result _ _ c.if-block-lt-BLOCK.false (rw c.result_of.ensures at c.complete-completed.ensures))
