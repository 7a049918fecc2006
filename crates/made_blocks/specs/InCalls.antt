-- The IN blocks that only calls made. Assumes nothing.
use Rattle.std.specs.Prelude.{ℕ, List, [], ◌∷◌, Option}
use Rattle.trb.specs.declared.EndpointId.{EndpointId}
use Rattle.trb.specs.declared.InTrbProcessingStatus.{InTrbProcessingStatus}
use Rattle.trb.specs.declared.SlotId.{SlotId}
use Rattle.trb.specs.declared.TransferTrb.{TransferTrb}
use Rattle.guest_memory.specs.declared.Regions.{Regions}
use Rattle.in_td.specs.declared.InMode.{InMode}
use Rattle.in_block.specs.declared.InBlock.{InBlock}
use Rattle.in_endpoint.specs.Completion.{completion}
use Rattle.in_endpoint.specs.Creation.{creation, cancelled}
use Rattle.in_endpoint.specs.Submission.{submission}

-- a submission has a log of so many bytes, and guest memory in these regions; a completion has a log, and n bytes of data
pub data InCall : Type 0 where
  submit : (log : ℕ) → TransferTrb → Regions → InCall
  complete : (log : ℕ) → Option InTrbProcessingStatus → (n : ℕ) → InCall
  cancel : InCall

-- the block that a call leaves, accepted or refused
abbrev pub after : InCall → InBlock → InBlock
after (submit l t regions) b = (submission l b t regions).state.block
after (complete l r n) b = (completion l b r n).state.block
after cancel b = cancelled b

abbrev pub after_all : List InCall → InBlock → InBlock
after_all [] b = b
after_all (c ∷ cs) b = after_all cs (after c b)

-- creation with these ids, in this mode, and these calls behind it
abbrev pub made : EndpointId → SlotId → InMode → List InCall → InBlock
made e s mode cs = after_all cs (creation e s mode).block
