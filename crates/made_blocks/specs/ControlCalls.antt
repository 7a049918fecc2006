-- The control blocks that only calls made, and what these calls asked for. Assumes nothing.
use Rattle.std.specs.Prelude.{ℕ, ◌+◌, cond, ◌&&◌, List, [], ◌∷◌, Option}
use Rattle.trb.specs.Answers.{is_accepted}
use Rattle.trb.specs.declared.ControlRequestProcessingResult.{ControlRequestProcessingResult}
use Rattle.trb.specs.declared.EndpointId.{EndpointId}
use Rattle.trb.specs.declared.SlotId.{SlotId}
use Rattle.trb.specs.declared.TransferTrb.{TransferTrb}
use Rattle.trb.specs.declared.TransferTrbVariant.{TransferTrbVariant}
use Rattle.trb.specs.declared.TransferTrbVariant.TheVariants.{SetupStage, DataStage, StatusStage, Normal, EventData, NoOp, Isoch, Unrecognized}
use Rattle.guest_memory.specs.declared.Regions.{Regions}
use Rattle.phase_table.specs.Outcomes.{holds}
use Rattle.phase_table.specs.Table.{trb_outcome}
use Rattle.control_block.specs.declared.ControlBlock.{ControlBlock}
use Rattle.control_block.specs.declared.GuestRelease.{GuestRelease}
use Rattle.control_transfer.specs.Data.{data_of, size_of}
use Rattle.control_endpoint.specs.Completion.{completion}
use Rattle.control_endpoint.specs.Creation.{creation}
use Rattle.control_endpoint.specs.Submission.{submission}

-- a submission has a log and a collect buffer of so many bytes, and guest memory in these regions; a completion has a log, and n bytes of
-- data
pub data ControlCall : Type 0 where
  submit : (log collect : ℕ) → TransferTrb → Regions → ControlCall
  complete : (log : ℕ) → Option ControlRequestProcessingResult → (n : ℕ) → ControlCall
  cancel : ControlCall

-- the block that a call leaves, accepted or refused. 01, Questions asked: on control cancel changes nothing
abbrev pub after : ControlCall → ControlBlock → ControlBlock
after (submit l c t regions) b = (submission l c b t regions).state.block
after (complete l r n) b = (completion l b r n).state.block
after cancel b = b

abbrev pub after_all : List ControlCall → ControlBlock → ControlBlock
after_all [] b = b
after_all (c ∷ cs) b = after_all cs (after c b)

-- creation with these ids, for guests of this release, and these calls behind it
abbrev pub made : EndpointId → SlotId → GuestRelease → List ControlCall → ControlBlock
made e s release cs = after_all cs (creation e s release).block

-- ---- What was asked for, as a plain sum

-- of a TRB that is taken, where n was asked for before it: a Setup begins another request, a DataStage or Normal adds its length
abbrev pub asked_by : TransferTrbVariant → ℕ → ℕ
asked_by (SetupStage t) n = 0
asked_by (DataStage t) n = n + size_of (data_of (DataStage t))
asked_by (StatusStage t) n = n
asked_by (Normal t) n = n + size_of (data_of (Normal t))
asked_by (EventData t) n = n
asked_by (NoOp t) n = n
asked_by Isoch n = n
asked_by Unrecognized n = n

-- a TRB is taken where its submission is accepted and the phase table takes it
abbrev pub asked_after : ControlCall → ControlBlock → ℕ → ℕ
asked_after (submit l c t regions) b n =
    cond (is_accepted (submission l c b t regions).state.answer && holds (trb_outcome b.transfer.phase t.variant)) (asked_by t.variant n) n
asked_after (complete l r m) b n = n
asked_after cancel b n = n

abbrev pub asked_after_all : List ControlCall → ControlBlock → ℕ → ℕ
asked_after_all [] b n = n
asked_after_all (c ∷ cs) b n = asked_after_all cs (after c b) (asked_after c b n)

-- since the last Setup that was taken
abbrev pub asked : EndpointId → SlotId → GuestRelease → List ControlCall → ℕ
asked e s release cs = asked_after_all cs (creation e s release).block 0
