-- 01, Submission: the questions, in this order. Assumes nothing.
use Rattle.std.specs.Prelude.{ℕ, ◌+◌, Bool, not, cond, ◌&&◌, List, [], ◌∷◌, leb}
use Rattle.trb.specs.Limits.{max_held, max_transfer_length, max_collected, min_log}
use Rattle.trb.specs.Questions.{asked_if}
use Rattle.trb.specs.Trbs.{transfer_length}
use Rattle.trb.specs.declared.TransferTrb.{TransferTrb}
use Rattle.guest_memory.specs.declared.Regions.{Regions}
use Rattle.guest_memory.specs.Regions.{share_an_address}
use Rattle.phase_table.specs.declared.Outcome.{Outcome}
use Rattle.phase_table.specs.Outcomes.{holds, restarts}
use Rattle.control_block.specs.declared.BlockFacts.{BlockFacts}
use Rattle.control_block.specs.Facts.{sound_block, submission_due}
use Rattle.control_transfer.specs.declared.TrbData.{TrbData}
use Rattle.control_transfer.specs.Data.{data_of, in_reach}
use Rattle.control_transfer.specs.Transfers.{collectable}

-- is the log at least 32,768 bytes and the collect buffer at least 65,535?
abbrev pub long_enough : ℕ → ℕ → Bool
long_enough log collect = leb min_log log && leb max_collected collect

-- 02, R-14: immediate data is for sending. If this TRB would be held in an IN transfer, is its data not immediate?
abbrev pub immediate_allowed : Outcome → Bool → TrbData → Bool
immediate_allowed o input d = asked_if (holds o && input) (not d.immediate_data)

-- if this TRB would be held, are then at most 512 held?
unfoldable pub has_room : Outcome → ℕ → Bool
has_room o held = asked_if (holds o) (leb (cond (restarts o) 1 (held + 1)) max_held)

-- if it would be held, does its data lie in the guest window?
unfoldable pub reaches : Outcome → Bool → TrbData → Regions → Bool
reaches o input d regions = asked_if (holds o) (in_reach input d regions)

-- of a TRB that is held and moves this data
abbrev pub held_questions : BlockFacts → Outcome → TrbData → Regions → List (Bool × ℕ)
held_questions f o d regions =
    (immediate_allowed o f.direction d, 21)
    ∷ (has_room o f.held, 5)
    ∷ (reaches o f.direction d regions, 6)
    ∷ (collectable o f.direction f.collected d, 7)
    ∷ []

-- of a TRB that moves this data
abbrev pub trb_questions : BlockFacts → Outcome → TrbData → Regions → List (Bool × ℕ)
trb_questions f o d regions = (leb d.transfer_length max_transfer_length, 4) ∷ held_questions f o d regions

-- of a log and a collect buffer of these lengths, guest memory in these regions, and a TRB that becomes o; 02, R-1: do the regions share no
-- address?
unfoldable pub submission_questions : ℕ → ℕ → BlockFacts → Outcome → TransferTrb → Regions → List (Bool × ℕ)
submission_questions log collect f o t regions =
    (long_enough log collect, 1)
    ∷ (not (share_an_address regions), 13)
    ∷ (sound_block f, 2)
    ∷ (submission_due f.state, 3)
    ∷ (leb (transfer_length t.variant) max_transfer_length, 4)
    ∷ (immediate_allowed o f.direction (data_of t.variant), 21)
    ∷ (has_room o f.held, 5)
    ∷ (reaches o f.direction (data_of t.variant) regions, 6)
    ∷ (collectable o f.direction f.collected (data_of t.variant), 7)
    ∷ []
