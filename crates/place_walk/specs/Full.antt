-- The Normals that a TD begins with, as long as each is full and reports nothing. Assumes nothing.
use Rattle.std.specs.Prelude.{ℕ, ◌+◌, ◌*◌, ◌%◌, ◌≤◌, ◌≡◌, false, List, length, drop, get_or}
use Rattle.trb.specs.Limits.{max_transfer_length}
use Rattle.trb.specs.declared.TransferTrb.{TransferTrb}
use Rattle.buffers.specs.LittleEndian.{le_field}
use Rattle.call_log.specs.Logs.{logged, AllFit}
use Rattle.walks.specs.Walk.{walk}
use Rattle.td_part.specs.Parts.{Within}
use Rattle.in_td.specs.Td.{process_trb, ended}
use Rattle.in_td.specs.declared.InTd.{InTd}
use Rattle.in_td.specs.declared.TdProcessed.{TdProcessed}
use Rattle.raw_trb.specs.Layouts.{normal_type}
use Rattle.held_bytes.specs.Numbers.{completion_on}

-- 01, IN endpoint: a Normal is full where no more than the bytes left are asked for; without IOC it then has no event. l starts with its place
pub record SilentNormal (l : List ℕ) (left : ℕ) : Type 0 where
  pub kind : get_or l 20 0 ≡ normal_type
  pub silent : completion_on (get_or l 21 0) ≡ false
  pub full : le_field 16 4 l % (max_transfer_length + 1) ≤ left

-- a walk over ts from s₀ and the log l₀, with the state s and the log l behind the first i: the rest is what is left of the walk
pub record Reached (td : InTd) (s₀ : TdProcessed) (ts : List TransferTrb) (l₀ l : List ℕ) (s : TdProcessed) (i : ℕ) : Type 0 where
  pub good : Within td.info s.progress
  pub room : s.progress.records ≤ s₀.progress.records + 2 * i
  pub long : length l ≡ length l₀
  pub state : (walk (process_trb td) ended s (drop i ts)).state ≡ (walk (process_trb td) ended s₀ ts).state
  pub log : logged l s.progress.records (walk (process_trb td) ended s (drop i ts)).records ≡ logged l₀ s₀.progress.records (walk (process_trb td) ended s₀ ts).records
  pub fits : AllFit (walk (process_trb td) ended s (drop i ts)).records → AllFit (walk (process_trb td) ended s₀ ts).records
  pub on : ended s ≡ false
