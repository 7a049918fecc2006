-- 01, Submission: is the block sound? Whose turn is it? Both over facts: the block's own values, and what was found of the TRBs held.
-- Assumes nothing.
use Rattle.std.specs.Prelude.{Bool, true, false, ◌&&◌, leb}
use Rattle.trb.specs.Ids.{ids_in_range}
use Rattle.trb.specs.Limits.{max_held, max_collected}
use Rattle.trb.specs.declared.ControlSubmissionState.{ControlSubmissionState}
use Rattle.trb.specs.declared.ControlSubmissionState.TheVariants.{NoTrbSubmitted, CollectingTd, ParserError, UnexpectedTrb, AwaitingControlRequest}
use Rattle.held.specs.Sound.{held_sound}
use Rattle.held.specs.declared.EndpointKind.TheVariants.{Control}
use Rattle.control_block.specs.declared.BlockFacts.{BlockFacts}
use Rattle.control_block.specs.declared.ControlBlock.{ControlBlock}
use Rattle.control_block.specs.Blocks.{held_of}

-- submission and completion alternate, submission first
abbrev pub submission_due : ControlSubmissionState → Bool
submission_due NoTrbSubmitted = true
submission_due CollectingTd = false
submission_due (ParserError a) = false
submission_due (UnexpectedTrb a) = false
submission_due AwaitingControlRequest = false

-- 01, Control endpoint: the device has a request
abbrev pub awaits_device : ControlSubmissionState → Bool
awaits_device NoTrbSubmitted = false
awaits_device CollectingTd = false
awaits_device (ParserError a) = false
awaits_device (UnexpectedTrb a) = false
awaits_device AwaitingControlRequest = true

abbrev pub facts_of : ControlBlock → BlockFacts
facts_of b = record {
  endpoint_id = b.endpoint_id;
  slot_id = b.slot_id;
  phase = b.transfer.phase;
  state = b.state;
  direction = b.transfer.direction;
  collected = b.transfer.collected;
  held = b.held;
  sound = held_sound Control (held_of b);
}

-- ids in range; at most 512 TRBs held; collected count at most 65,535; all held of kinds this endpoint supports, each length at most 131,071
unfoldable pub sound_block : BlockFacts → Bool
sound_block f = ids_in_range f.endpoint_id f.slot_id && (leb f.held max_held && (leb f.collected max_collected && f.sound))
