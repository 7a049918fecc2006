-- 01, Submission on a control endpoint: what a TRB that no question refuses makes of block and log, and of the collect buffer.
-- Assumes nothing.
use Rattle.std.specs.Prelude.{ℕ, ◌≡◌, Bool, cond, List, [], ◌++◌, length, Err, Ok}
use Rattle.buffers.specs.Patch.{patch}
use Rattle.trb.specs.Answers.{number_of, refusal_of}
use Rattle.trb.specs.Questions.{first_no, after_questions}
use Rattle.trb.specs.declared.TransferTrb.{TransferTrb}
use Rattle.call_log.specs.declared.Record.{Record}
use Rattle.call_log.specs.Calls.{Out, silent, Meets}
use Rattle.guest_memory.specs.declared.Regions.{Regions}
use Rattle.guest_memory.specs.Places.{Memory, regions_of}
use Rattle.phase_table.specs.declared.Outcome.{Outcome}
use Rattle.phase_table.specs.Outcomes.{holds, restarts, state_after}
use Rattle.phase_table.specs.Table.{trb_outcome}
use Rattle.control_block.specs.declared.ControlBlock.{ControlBlock}
use Rattle.control_block.specs.Blocks.{held_of, stored, emptied, advanced}
use Rattle.control_block.specs.Facts.{facts_of}
use Rattle.control_chain.specs.Dropped.{successes}
use Rattle.control_transfer.specs.Transfers.{transfer_after, requests_of, bytes_taken}
use Rattle.control_questions.specs.Submission.{submission_questions}
use Rattle.control_endpoint.specs.Returned.{Submitted}

-- ---- What the TRB does

-- a Setup outside ExpectSetupStageTrb first clears the held TRBs
abbrev pub dropped_before : Outcome → ControlBlock → ControlBlock
dropped_before o b = cond (restarts o) (emptied b) b

-- a TRB that is taken is held
abbrev pub held_after : Outcome → ControlBlock → TransferTrb → ControlBlock
held_after o b t = cond (holds o) (stored b t) b

unfoldable pub block_after : Outcome → ControlBlock → TransferTrb → ControlBlock
block_after o b t = advanced (held_after o (dropped_before o b) t) (transfer_after o t.variant t.addr b.transfer) (state_after o t.addr)

-- a Setup outside ExpectSetupStageTrb first logs Success for each held TRB with IOC; where the table says so, the request is logged
unfoldable pub records_of : Outcome → ControlBlock → List Record
records_of o b =
    cond (restarts o) (successes b.endpoint_id b.slot_id (held_of b)) [] ++ requests_of o b.transfer.request b.endpoint_id b.slot_id

-- the TRBs that are dropped, of those held
abbrev pub places_dropped : Bool → ℕ → ℕ
places_dropped restart held = cond restart held 0

-- ---- The call

-- a no: zero records, block and log unchanged
abbrev pub refused : ControlBlock → ℕ → Out Submitted
refused b n = silent (record { answer = Err (refusal_of n); records = 0; block = b })

unfoldable pub accepted : Outcome → ControlBlock → TransferTrb → Out Submitted
accepted o b t = record { state = record { answer = Ok tt; records = length (records_of o b); block = block_after o b t }; records = records_of o b }

abbrev pub questions_of : ℕ → ℕ → ControlBlock → TransferTrb → Regions → List (Bool × ℕ)
questions_of log collect b t regions = submission_questions log collect (facts_of b) (trb_outcome b.transfer.phase t.variant) t regions

-- with a log and a collect buffer of these lengths, and guest memory in these regions
unfoldable pub submission : ℕ → ℕ → ControlBlock → TransferTrb → Regions → Out Submitted
submission log collect b t regions =
    after_questions (questions_of log collect b t regions) (refused b) (accepted (trb_outcome b.transfer.phase t.variant) b t)

-- on OUT bytes are collected; a no leaves the collect buffer as it was
abbrev pub nothing_collected : ℕ → List ℕ
nothing_collected n = []

-- with guest memory m
unfoldable pub bytes_collected : ℕ → ℕ → ControlBlock → TransferTrb → Memory → List ℕ
bytes_collected log collect b t m =
    after_questions (questions_of log collect b t (regions_of m)) nothing_collected (bytes_taken (trb_outcome b.transfer.phase t.variant) b.transfer.direction t.variant m)

-- a submission to the block b, with guest memory m, the log l and the collect buffer c, returned r and left l' and c'. The bytes collected stand just
-- behind those already collected
pub record Submits (b : ControlBlock) (t : TransferTrb) (m : Memory) (l c : List ℕ) (r : Submitted) (l' c' : List ℕ) : Type 0 where
  pub number : number_of r.answer ≡ first_no (questions_of (length l) (length c) b t (regions_of m))
  pub met : Meets (submission (length l) (length c) b t (regions_of m)) 0 l r l'
  pub collect : c' ≡ patch c b.transfer.collected (bytes_collected (length l) (length c) b t m)
