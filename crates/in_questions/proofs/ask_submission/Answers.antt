-- A sound block holds at most 512 TRBs.
use Rattle.std.proofs.Common.{rules}
use Rattle.in_block.proofs.SoundLaws.{sound-held}
use Rattle.in_questions.proofs.ask_submission.Goals as goal

pub ask_of_trb-requires : goal.ask_of_trb-requires
ask_of_trb-requires c = sound-held c.args.facts (search rules)
