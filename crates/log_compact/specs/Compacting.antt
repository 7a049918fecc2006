-- 02, R-9: what compacting a log in its own buffer answers, and the buffer afterwards. Assumes nothing.
use Rattle.std.specs.Prelude.{ℕ, ◌*◌, ◌-◌, ◌≤◌, Bool, ◌≡◌, List, [], ◌∷◌, ◌++◌, length, replicate, Result, Ok, Err}
use Rattle.trb.specs.Answers.{number_of, refusal_of}
use Rattle.trb.specs.Limits.{record_length}
use Rattle.trb.specs.Questions.{first_no, after_questions}
use Rattle.log_check.specs.WellFormed.{well_formed}
use Rattle.trb.specs.declared.Refusal.{Refusal}
use Rattle.kept_records.specs.Rows.{rows_in, rows_of, bytes_of}
use Rattle.kept_records.specs.Compact.{compacted}

-- of a log whose kept rows were moved to its front: there are r of them, in log'
pub record RowsKept (log : List ℕ) (r : ℕ) (log' : List ℕ) : Type 0 where
  pub rows : rows_in r log' ≡ compacted (rows_of log)
  pub fits : record_length * r ≤ length log
  pub size : length log' ≡ length log

-- the bytes of the records kept
abbrev pub kept_bytes : List ℕ → List ℕ
kept_bytes log = bytes_of (compacted (rows_of log))

-- rows from the start of a buffer of n bytes, and zeros behind them
unfoldable pub padded_to : ℕ → List (List ℕ) → List ℕ
padded_to n rs = bytes_of rs ++ replicate (n - record_length * length rs) 0

-- 02, R-9: a malformed log is refused with 10
abbrev pub compact_questions : List ℕ → List (Bool × ℕ)
compact_questions log = (well_formed log, 10) ∷ []

-- 02, R-9: the new count is returned
abbrev pub answer_of : List ℕ → Result ℕ Refusal
answer_of log = after_questions (compact_questions log) (λ n. Err (refusal_of n)) (Ok (length (compacted (rows_of log))))

-- 02, R-9: freed records at the end are zeroed; a log that is refused is unchanged
abbrev pub log_after : List ℕ → List ℕ
log_after log = after_questions (compact_questions log) (λ n. log) (padded_to (length log) (compacted (rows_of log)))

-- of a call of compact with a log: it answered r and left log'
pub record Compacts (log : List ℕ) (r : Result ℕ Refusal) (log' : List ℕ) : Type 0 where
  pub number : number_of r ≡ first_no (compact_questions log)
  pub answer : r ≡ answer_of log
  pub after : log' ≡ log_after log
