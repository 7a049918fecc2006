-- 01, Completion: the questions, in this order. Assumes nothing.
use Rattle.std.specs.Prelude.{ℕ, Bool, true, false, not, List, [], ◌∷◌, leb, None, Option, Some}
use Rattle.trb.specs.Limits.{max_data, min_log}
use Rattle.trb.specs.Questions.{agree}
use Rattle.trb.specs.declared.ControlRequestProcessingResult.{ControlRequestProcessingResult}
use Rattle.control_block.specs.declared.BlockFacts.{BlockFacts}
use Rattle.control_block.specs.Facts.{sound_block, submission_due, awaits_device}

abbrev pub is_given : Option ControlRequestProcessingResult → Bool
is_given None = false
is_given (Some r) = true

-- of a log of this length and n bytes of device data
unfoldable pub completion_questions : ℕ → BlockFacts → Option ControlRequestProcessingResult → ℕ → List (Bool × ℕ)
completion_questions log f r n =
    (leb min_log log, 1)
    ∷ (sound_block f, 2)
    ∷ (not (submission_due f.state), 3)
    ∷ (agree (is_given r) (awaits_device f.state), 8)
    ∷ (leb n max_data, 9)
    ∷ []
