-- The block of a control endpoint and its changes. Assumes nothing.
use Rattle.std.specs.Prelude.{ℕ, ◌+◌, false, List, set, replicate, take}
use Rattle.trb.specs.Limits.{max_held}
use Rattle.trb.specs.declared.ControlSubmissionState.{ControlSubmissionState}
use Rattle.trb.specs.declared.ControlSubmissionState.TheVariants.{NoTrbSubmitted}
use Rattle.trb.specs.declared.ControlTransferState.{ControlTransferState}
use Rattle.trb.specs.declared.ControlTransferState.TheVariants.{ExpectSetupStageTrb}
use Rattle.trb.specs.declared.EndpointId.{EndpointId}
use Rattle.trb.specs.declared.SlotId.{SlotId}
use Rattle.trb.specs.declared.TransferTrb.{TransferTrb}
use Rattle.trb.specs.declared.UsbRequest.{UsbRequest}
use Rattle.held.specs.Places.{blank_trb, cleared}
use Rattle.control_block.specs.declared.ControlBlock.{ControlBlock}
use Rattle.control_block.specs.declared.ControlTransfer.{ControlTransfer}
use Rattle.control_block.specs.declared.GuestRelease.{GuestRelease}

-- every block of these definitions is built here
abbrev pub block_of : EndpointId → SlotId → GuestRelease → ControlTransfer → ControlSubmissionState → ℕ → List TransferTrb → ControlBlock
block_of e s release transfer state held trbs = record {
  endpoint_id = e;
  slot_id = s;
  release = release;
  state = state;
  transfer = transfer;
  held = held;
  trbs = trbs;
}

-- the block b with these in place of its own; what its creation gave it stays
abbrev pub changed : ControlBlock → ControlTransfer → ControlSubmissionState → ℕ → List TransferTrb → ControlBlock
changed b transfer state held trbs = block_of b.endpoint_id b.slot_id b.release transfer state held trbs

-- the transfer w at this phase
abbrev pub at_phase : ControlTransferState → ControlTransfer → ControlTransfer
at_phase phase w = record { phase = phase; direction = w.direction; request = w.request; collected = w.collected }

abbrev pub no_request : UsbRequest
no_request = record { address = 0; request_type = 0; request = 0; value = 0; index = 0; length = 0 }

-- 01, Questions asked: all else zero, phase ExpectSetupStageTrb
abbrev pub no_transfer : ControlTransfer
no_transfer = record { phase = ExpectSetupStageTrb; direction = false; request = no_request; collected = 0 }

-- 01, Questions asked: a fresh block has only blanks; a submission due. 02, R-11: it is created for one of the rules
abbrev pub fresh_block : EndpointId → SlotId → GuestRelease → ControlBlock
fresh_block e s release = block_of e s release no_transfer NoTrbSubmitted 0 (replicate max_held blank_trb)

-- the TRBs that are held, in order
abbrev pub held_of : ControlBlock → List TransferTrb
held_of b = take b.held b.trbs

-- one TRB more is held
abbrev pub stored : ControlBlock → TransferTrb → ControlBlock
stored b t = changed b b.transfer b.state (b.held + 1) (set b.trbs b.held t)

-- 01, Questions asked: nothing is held any more, and the places freed are blank
abbrev pub emptied : ControlBlock → ControlBlock
emptied b = changed b b.transfer b.state 0 (cleared b.held b.trbs)

abbrev pub advanced : ControlBlock → ControlTransfer → ControlSubmissionState → ControlBlock
advanced b transfer state = changed b transfer state b.held b.trbs
