-- A row of TDs that is carried out at once: the promise of a call. Assumes nothing.
use Rattle.std.specs.Prelude.{ℕ, ◌*◌, true, ◌≡◌, List, length, take}
use Rattle.trb.specs.Limits.{record_length}
use Rattle.trb.specs.declared.TransferTrb.{TransferTrb}
use Rattle.guest_memory.specs.Places.{Memory, regions_of}
use Rattle.carry_out.specs.Writes.{written}
use Rattle.in_block.specs.declared.InBlock.{InBlock}
use Rattle.in_endpoint.specs.Completion.{is_accepted}
use Rattle.row_walk.specs.Accounts.{started_by}
use Rattle.row_walk.specs.Rows.{row_tds}
use Rattle.row_walk.specs.declared.TdResult.{TdResult}
use Rattle.in_row.specs.Completion.{row_completion, result_of, CompletesTds}
use Rattle.in_row.specs.declared.TdsCompleted.{TdsCompleted}
use Rattle.row_delivery.specs.Frames.{RowDelivered}

-- of a row of k TRBs ts with n results rs, the joined data, the log l and guest memory m, which returned r and left the log l' and the memory m'
pub record DeliversTds (b : InBlock) (k : ℕ) (ts : List TransferTrb) (n : ℕ) (rs : List TdResult) (bytes l : List ℕ) (m : Memory) (r : TdsCompleted) (l' : List ℕ) (m' : Memory) : Type 0 where
  -- the questions of a row, number, answer, block, records and account: those of `complete_tds`
  pub completes : CompletesTds b k ts n rs (length bytes) (regions_of m) l r l'
  -- its writes are performed; after a no there are none
  pub memory : m' ≡ written bytes m (row_completion (length l) b k ts n rs (length bytes) (regions_of m)).records
  -- and at each TD's event, its bytes are there
  pub whole : is_accepted r.answer ≡ true
      → RowDelivered bytes m (row_tds ts rs) (started_by r.finished (result_of r.answer)) (take (record_length * r.records) l') m'
