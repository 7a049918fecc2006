-- `call_runner::read_on` meets its contract: behind a bad line, or without room, nothing is read. Assumes nothing.
use Rattle.call_runner.proofs.TurnLaws.{reads_on, reads_nothing, reads_later}
use Rattle.call_runner.proofs.read_on.Goals as goal

pub returns-then-not-good-clause-reads : goal.returns-then-not-good-clause-reads
returns-then-not-good-clause-reads g c = reads_nothing _ _ _ _ c.if-not-good.true

pub returns-then-not-room-clause-reads : goal.returns-then-not-room-clause-reads
returns-then-not-room-clause-reads g c = reads_later _ _ _ _ c.if-not-good.false

pub returns-clause-reads : goal.returns-clause-reads
returns-clause-reads g c =
    let f = c.in_ok-refilled.ensures in rw c.from.ensures (reads_on _ c.if-not-good.false c.if-not-room.false c.in_ok-refilled.refilled f.refills f.bytes)
