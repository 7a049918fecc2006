-- Stored logs of any length: what is asked of them, answered and left. Assumes nothing.
use Rattle.std.specs.Prelude.{ℕ, ◌/◌, Bool, ◌≡◌, List, [], ◌∷◌, leb, length}
use Rattle.buffers.specs.Patch.{patch}
use Rattle.trb.specs.Limits.{record_length}
use Rattle.trb.specs.Questions.{first_no, after_questions}
use Rattle.log_check.specs.WellFormed.{well_formed}
use Rattle.log_text.specs.Lines.{lines_in}
use Rattle.log_text.specs.Widths.{lines_room}
use Rattle.kept_records.specs.Rows.{rows_of}
use Rattle.kept_records.specs.Compact.{compacted}
use Rattle.log_compact.specs.Compacting.{compact_questions, log_after}
use Rattle.answer_numbers.specs.declared.Answered.{Answered}

-- 01, Carry-out: is the log a multiple of 32 bytes with every kind 1, 2 or 3?
abbrev pub check_questions : List ℕ → List (Bool × ℕ)
check_questions log = (well_formed log, 10) ∷ []

-- of a call of compact with a log: it answered r and left log'. 02, R-9: the new count is returned
pub record Compacts (log : List ℕ) (r : Answered) (log' : List ℕ) : Type 0 where
  pub number : r.number ≡ first_no (compact_questions log)
  pub count : r.count ≡ after_questions (compact_questions log) (λ n. 0) (length (compacted (rows_of log)))
  pub after : log' ≡ log_after log

-- 01, Examples: a line for each record
unfoldable pub lines_of : List ℕ → List ℕ
lines_of log = lines_in (length log / record_length) log

-- is the text buffer long enough for a line of each record? is the log well formed?
abbrev pub print_questions : List ℕ → List ℕ → List (Bool × ℕ)
print_questions log text = (leb (lines_room (length log)) (length text), 1) ∷ check_questions log

-- of a call of print with a log and a text buffer: it answered r and left text', unchanged after a no
pub record Prints (log text : List ℕ) (r : Answered) (text' : List ℕ) : Type 0 where
  pub number : r.number ≡ first_no (print_questions log text)
  pub count : r.count ≡ after_questions (print_questions log text) (λ n. 0) (length (lines_of log))
  pub after : text' ≡ after_questions (print_questions log text) (λ n. text) (patch text 0 (lines_of log))
