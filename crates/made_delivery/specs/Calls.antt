-- The IN blocks that only calls made, with guest memory in the same regions all the time. Assumes nothing.
use Rattle.std.specs.Prelude.{ℕ, List, [], ◌∷◌, Option}
use Rattle.trb.specs.declared.EndpointId.{EndpointId}
use Rattle.trb.specs.declared.InTrbProcessingStatus.{InTrbProcessingStatus}
use Rattle.trb.specs.declared.SlotId.{SlotId}
use Rattle.trb.specs.declared.TransferTrb.{TransferTrb}
use Rattle.guest_memory.specs.declared.Regions.{Regions}
use Rattle.in_td.specs.declared.InMode.{InMode}
use Rattle.in_block.specs.declared.InBlock.{InBlock}
use Rattle.in_endpoint.specs.Completion.{completion}
use Rattle.in_endpoint.specs.Creation.{creation, cancelled}
use Rattle.in_endpoint.specs.Submission.{submission}
use Rattle.delivery.specs.Completing.{delivery}

-- each but cancel has a log of so many bytes; a completion, carried out at once or not, has n bytes of data
pub data InCall : Type 0 where
  submit : (log : ℕ) → TransferTrb → InCall
  complete : (log : ℕ) → Option InTrbProcessingStatus → (n : ℕ) → InCall
  deliver : (log : ℕ) → Option InTrbProcessingStatus → (n : ℕ) → InCall
  cancel : InCall

-- the block that a call leaves, accepted or refused
abbrev pub after : Regions → InCall → InBlock → InBlock
after regions (submit l t) b = (submission l b t regions).state.block
after regions (complete l r n) b = (completion l b r n).state.block
after regions (deliver l r n) b = (delivery l b r n regions).state.block
after regions cancel b = cancelled b

abbrev pub after_all : Regions → List InCall → InBlock → InBlock
after_all regions [] b = b
after_all regions (c ∷ cs) b = after_all regions cs (after regions c b)

-- creation with these ids, in this mode, and these calls behind it
abbrev pub made : Regions → EndpointId → SlotId → InMode → List InCall → InBlock
made regions e s mode cs = after_all regions cs (creation e s mode).block
