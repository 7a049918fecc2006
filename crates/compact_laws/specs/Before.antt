-- 02, R-9: a log up to one of its events or requests, beside what is kept of it up to there. Assumes nothing.
use Rattle.std.specs.Prelude.{ℕ, ◌*◌, ◌≡◌, List, length, take, Ok}
use Rattle.trb.specs.Limits.{record_length}
use Rattle.guest_memory.specs.Places.{Memory, regions_of}
use Rattle.carry_out.specs.CarryOut.{answer_of, memory_after}
use Rattle.kept_records.specs.Rows.{row_at, rows_of}
use Rattle.kept_records.specs.Compact.{other_rows}
use Rattle.log_compact.specs.Compacting.{kept_bytes}

-- the log before record number k
abbrev pub log_before : ℕ → List ℕ → List ℕ
log_before k log = take (record_length * k) log

-- of record number k of a log: it is record number `place` of what is kept; what is kept before it is what is kept of the log before it, with the same
-- events and requests
pub record Stays (log : List ℕ) (k : ℕ) : Type 0 where
  pub place : ℕ
  pub row : row_at (kept_bytes log) place ≡ row_at log k
  pub front : log_before place (kept_bytes log) ≡ kept_bytes (log_before k log)
  pub others : other_rows (rows_of (log_before place (kept_bytes log))) ≡ other_rows (rows_of (log_before k log))

-- of the log before record number k, and what is kept before it: the latter is accepted, and leaves the same memory
pub record SameBefore (log bytes : List ℕ) (m : Memory) (k : ℕ) : Type 0 where
  pub stays : Stays log k
  pub accepted : answer_of (log_before stays.place (kept_bytes log)) (length bytes) (regions_of m) ≡ Ok tt
  pub same : memory_after (Ok tt) (log_before stays.place (kept_bytes log)) bytes m ≡ memory_after (Ok tt) (log_before k log) bytes m
