-- 01, Questions asked, in this order, on an IN endpoint. Assumes nothing.
use Rattle.std.specs.Prelude.{ℕ, ◌+◌, Bool, true, false, not, List, [], ◌∷◌, leb, None, Option, Some}
use Rattle.trb.specs.Limits.{max_held, max_transfer_length, min_log, max_data}
use Rattle.trb.specs.Questions.{asked_if, agree}
use Rattle.trb.specs.Trbs.{transfer_length, immediate_of}
use Rattle.trb.specs.declared.InTrbProcessingStatus.{InTrbProcessingStatus}
use Rattle.trb.specs.declared.TransferTrb.{TransferTrb}
use Rattle.trb.specs.declared.TransferTrbVariant.{TransferTrbVariant}
use Rattle.held.specs.Sound.{supported}
use Rattle.held.specs.declared.EndpointKind.TheVariants.{In}
use Rattle.guest_memory.specs.declared.Regions.{Regions}
use Rattle.guest_memory.specs.Regions.{share_an_address}
use Rattle.in_block.specs.Facts.{submission_due, awaits_device, sound_block}
use Rattle.in_block.specs.declared.BlockFacts.{BlockFacts}
use Rattle.in_request.specs.Requests.{in_guest_memory}

-- ---- Submission

-- of a TRB behind h others that are held, with guest memory in these regions: is the length of a Normal TRB at most 131,071?
-- If it would be held, is its data not immediate (02, R-14), are then at most 512 held, and does its range lie in the guest window?
abbrev pub trb_questions : ℕ → TransferTrbVariant → Regions → List (Bool × ℕ)
trb_questions h v regions =
    (leb (transfer_length v) max_transfer_length, 4)
    ∷ (asked_if (supported In v) (not (immediate_of v)), 21)
    ∷ (asked_if (supported In v) (leb (h + 1) max_held), 5)
    ∷ (asked_if (supported In v) (in_guest_memory v regions), 6)
    ∷ []

-- with a log of l bytes: is it at least 32,768 bytes, do the regions share no address (02, R-1), is the block sound, is a submission due?
unfoldable pub submission_questions : ℕ → BlockFacts → TransferTrb → Regions → List (Bool × ℕ)
submission_questions l f t regions =
    (leb min_log l, 1) ∷ (not (share_an_address regions), 13) ∷ (sound_block f, 2) ∷ (submission_due f.state, 3) ∷ trb_questions f.held t.variant regions

-- ---- Completion

abbrev pub is_given : Option InTrbProcessingStatus → Bool
is_given None = false
is_given (Some st) = true

-- with a log of l bytes and n bytes of data: is a completion due, is a device result given exactly when the block awaits one, is the
-- data at most 67,108,352 bytes?
unfoldable pub completion_questions : ℕ → BlockFacts → Option InTrbProcessingStatus → ℕ → List (Bool × ℕ)
completion_questions l f r n =
    (leb min_log l, 1)
    ∷ (sound_block f, 2)
    ∷ (not (submission_due f.state), 3)
    ∷ (agree (is_given r) (awaits_device f.state), 8)
    ∷ (leb n max_data, 9)
    ∷ []
