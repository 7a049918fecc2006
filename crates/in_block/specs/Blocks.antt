-- The block of an IN endpoint, and each change of it. Assumes nothing.
use Rattle.std.specs.Prelude.{ℕ, ◌+◌, List, replicate, set, take}
use Rattle.trb.specs.Limits.{max_held}
use Rattle.trb.specs.declared.EndpointId.{EndpointId}
use Rattle.trb.specs.declared.SlotId.{SlotId}
use Rattle.trb.specs.declared.TdBasedNormalSubmissionState.{TdBasedNormalSubmissionState}
use Rattle.trb.specs.declared.TdBasedNormalSubmissionState.TheVariants.{SubmissionDue}
use Rattle.trb.specs.declared.TransferTrb.{TransferTrb}
use Rattle.held.specs.Places.{blank_trb, cleared}
use Rattle.in_td.specs.declared.InMode.{InMode}
use Rattle.in_block.specs.declared.InBlock.{InBlock}

-- the one place where a block is built
abbrev pub in_block : EndpointId → SlotId → InMode → TdBasedNormalSubmissionState → ℕ → List TransferTrb → InBlock
in_block e s mode state n ts = record { endpoint_id = e; slot_id = s; mode = mode; state = state; held = n; trbs = ts }

-- 01, Questions asked: a fresh block has only blanks, all else zero, a submission due. 02, R-4: it is made for a mode
abbrev pub fresh_block : EndpointId → SlotId → InMode → InBlock
fresh_block e s mode = in_block e s mode SubmissionDue 0 (replicate max_held blank_trb)

-- the TRBs that are held, in order
abbrev pub held_of : InBlock → List TransferTrb
held_of b = take b.held b.trbs

abbrev pub with_state : InBlock → TdBasedNormalSubmissionState → InBlock
with_state b state = in_block b.endpoint_id b.slot_id b.mode state b.held b.trbs

-- one TRB more is held
abbrev pub stored : InBlock → TransferTrb → InBlock
stored b t = in_block b.endpoint_id b.slot_id b.mode b.state (b.held + 1) (set b.trbs b.held t)

-- nothing is held any more, and the places freed are blank
abbrev pub emptied : InBlock → TdBasedNormalSubmissionState → InBlock
emptied b state = in_block b.endpoint_id b.slot_id b.mode state 0 (cleared b.held b.trbs)
