-- `held_bytes::numbers_of` meets its contract: each kind has its numbers. Assumes nothing.
use Rattle.held_bytes.proofs.NumberLaws.{numbers-said}
use Rattle.held_bytes.proofs.numbers_of.Goals as goal

pub returns-in-SetupStage : goal.returns-in-SetupStage
returns-in-SetupStage c = numbers-said c.args.t (rw (c.setup_value.ensures.0, c.flags_of-in-SetupStage.ensures, c.in-SetupStage.is)) (rw c.in-SetupStage.is c.setup_value.ensures.1)

pub returns-in-DataStage : goal.returns-in-DataStage
returns-in-DataStage c = numbers-said c.args.t (rw (c.flags_of-in-DataStage.ensures, c.in-DataStage.is)) (rw c.in-DataStage.is tt)

pub returns-in-StatusStage : goal.returns-in-StatusStage
returns-in-StatusStage c = numbers-said c.args.t (rw (c.flags_of-in-StatusStage.ensures, c.in-StatusStage.is)) (rw c.in-StatusStage.is tt)

pub returns-in-Normal : goal.returns-in-Normal
returns-in-Normal c = numbers-said c.args.t (rw (c.flags_of-in-Normal.ensures, c.in-Normal.is)) (rw c.in-Normal.is tt)

pub returns-in-EventData : goal.returns-in-EventData
returns-in-EventData c = numbers-said c.args.t (rw (c.flags_of-in-EventData.ensures, c.in-EventData.is)) (rw c.in-EventData.is tt)

pub returns-in-NoOp : goal.returns-in-NoOp
returns-in-NoOp c = numbers-said c.args.t (rw (c.flags_of-in-NoOp.ensures, c.in-NoOp.is)) (rw c.in-NoOp.is tt)

pub returns-in-Isoch : goal.returns-in-Isoch
returns-in-Isoch c = numbers-said c.args.t (rw (c.flags_of.ensures, c.in-Isoch.is)) (rw c.in-Isoch.is tt)

pub returns-in-Unrecognized : goal.returns-in-Unrecognized
returns-in-Unrecognized c = numbers-said c.args.t (rw (c.flags_of.ensures, c.in-Unrecognized.is)) (rw c.in-Unrecognized.is tt)
