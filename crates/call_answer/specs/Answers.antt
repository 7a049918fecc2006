-- The answer of a call: its text, and for a completion guest memory afterwards. Assumes nothing.
use Rattle.std.specs.Prelude.{ℕ, ◌+◌, ◌*◌, ◌≡◌, List, ◌++◌, length, take, Err, Ok}
use Rattle.trb.specs.Answers.{number_of}
use Rattle.trb.specs.Limits.{record_length}
use Rattle.trb.specs.Refusals.{refusal_number}
use Rattle.trb.specs.Answers.{Answer, CompletionAnswer}
use Rattle.text.specs.declared.Text.{Text}
use Rattle.text.specs.Wrote.{Wrote}
use Rattle.guest_memory.specs.Places.{Memory, regions_of}
use Rattle.carry_out.specs.CarryOut.{answer_of, memory_after}
use Rattle.call_text.specs.Widths.{max_first, max_record_lines, max_carried_out}
use Rattle.call_text.specs.Lines.{refused_line, accepted_line, completed_line, row_line, carried_out_line, count_of, record_lines}

-- creation, submission or cancel, with n records in the log
unfoldable pub answer_text : Answer → ℕ → List ℕ → List ℕ
answer_text (Ok tt) n log = accepted_line (count_of n) ++ record_lines n log
answer_text (Err q) n log = refused_line (refusal_number q)

-- what carry-out answers of the first n records of the log
abbrev pub carried_out : ℕ → List ℕ → List ℕ → Memory → Answer
carried_out n log bytes m = answer_of (take (record_length * n) log) (length bytes) (regions_of m)

-- a completion, with n records in the log and carry-out's answer
unfoldable pub completion_text : CompletionAnswer → ℕ → List ℕ → Answer → List ℕ
completion_text (Ok r) n log carried = completed_line (count_of n) r ++ record_lines n log ++ carried_out_line (number_of carried)
completion_text (Err q) n log carried = refused_line (refusal_number q)

-- a row, of which so many TDs were finished well
unfoldable pub row_text : CompletionAnswer → ℕ → ℕ → List ℕ → Answer → List ℕ
row_text (Ok r) finished n log carried = row_line (count_of n) r (count_of finished) ++ record_lines n log ++ carried_out_line (number_of carried)
row_text (Err q) finished n log carried = refused_line (refusal_number q)

-- guest memory afterwards: a completion or a row that is accepted is carried out
unfoldable pub completion_memory : CompletionAnswer → ℕ → List ℕ → List ℕ → Memory → Memory
completion_memory (Ok r) n log bytes m = memory_after (carried_out n log bytes m) (take (record_length * n) log) bytes m
completion_memory (Err q) n log bytes m = m

-- of carrying out the first n records of a log, with their lines and carry-out's line written behind the text t
pub record CarriedOut (n : ℕ) (log bytes : List ℕ) (m : Memory) (t t' : Text) (m' : Memory) : Type 0 where
  pub text : Wrote (max_record_lines + max_carried_out) t (record_lines n log ++ carried_out_line (number_of (carried_out n log bytes m))) t'
  pub after : m' ≡ memory_after (carried_out n log bytes m) (take (record_length * n) log) bytes m

-- of a completion's answer that was written behind the text t: the text became t', guest memory became m'
pub record Answered (a : CompletionAnswer) (n : ℕ) (log bytes : List ℕ) (m : Memory) (t t' : Text) (m' : Memory) : Type 0 where
  pub text : Wrote (max_first + max_record_lines + max_carried_out) t (completion_text a n log (carried_out n log bytes m)) t'
  pub after : m' ≡ completion_memory a n log bytes m

-- of a row's answer, likewise
pub record RowAnswered (a : CompletionAnswer) (finished n : ℕ) (log bytes : List ℕ) (m : Memory) (t t' : Text) (m' : Memory) : Type 0 where
  pub text : Wrote (max_first + max_record_lines + max_carried_out) t (row_text a finished n log (carried_out n log bytes m)) t'
  pub after : m' ≡ completion_memory a n log bytes m
