-- A sound block holds at most 512 TRBs and 65,535 collected bytes.
use Rattle.std.proofs.Common.{rules}
use Rattle.control_block.proofs.BlockLaws.{sound-held, sound-collected}
use Rattle.control_questions.proofs.ask_submission.Goals as goal

pub ask_of_trb-requires : goal.ask_of_trb-requires
ask_of_trb-requires c = (sound-held c.args.facts (search rules), sound-collected c.args.facts (search rules))
