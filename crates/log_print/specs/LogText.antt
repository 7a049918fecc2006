-- 01, Examples from the bench: the text of a log, and what printing it into a lent buffer answers. Assumes nothing.
use Rattle.std.specs.Prelude.{ℕ, ◌/◌, ◌≤◌, Bool, cond, ◌&&◌, ◌≡◌, List, [], ◌∷◌, ◌++◌, leb, length, Err, IfOk, Ok, Result}
use Rattle.buffers.specs.Patch.{patch}
use Rattle.trb.specs.Limits.{record_length, max_printed_log}
use Rattle.trb.specs.declared.Refusal.{Refusal}
use Rattle.trb.specs.declared.Refusal.TheVariants.{MalformedLog}
use Rattle.trb.specs.Answers.{number_of, refusal_of}
use Rattle.trb.specs.Questions.{first_no, after_questions}
use Rattle.trb.specs.Refusals.{refusal_number}
use Rattle.numerals.specs.Digits.{decimal_of}
use Rattle.log_check.specs.WellFormed.{well_formed}
use Rattle.log_text.specs.Widths.{max_text}
use Rattle.log_text.specs.Lines.{line_feed, field, lines_in}

-- `refused`
abbrev pub refused_word : List ℕ
refused_word = 114 ∷ 101 ∷ 102 ∷ 117 ∷ 115 ∷ 101 ∷ 100 ∷ []

-- `refused 10` and a line feed
unfoldable pub refused_text : List ℕ
refused_text = field refused_word ++ decimal_of (refusal_number MalformedLog) ++ (line_feed ∷ [])

-- 01, Examples: a log refused with 10, or longer than 65,536 bytes, prints only `refused 10`
unfoldable pub printable : List ℕ → Bool
printable l = leb (length l) max_printed_log && well_formed l

-- the text of a log: a line for each record
unfoldable pub log_text : List ℕ → List ℕ
log_text l = cond (printable l) (lines_in (length l / record_length) l) refused_text

-- is the text buffer t long enough for the text of any log?
abbrev pub print_questions : List ℕ → List (Bool × ℕ)
print_questions t = (leb max_text (length t), 1) ∷ []

-- the answer for the log l and the text buffer t
unfoldable pub printed : List ℕ → List ℕ → Result ℕ Refusal
printed l t = after_questions (print_questions t) (λ n. Err (refusal_of n)) (Ok (length (log_text l)))

-- the text buffer afterwards: unchanged after a no
unfoldable pub text_after : List ℕ → List ℕ → List ℕ
text_after l t = after_questions (print_questions t) (λ n. t) (patch t 0 (log_text l))

-- of a call of print_log with the log l and the text buffer t: it returned r and left the buffer t', in which the text lies
pub record Prints (l t : List ℕ) (r : Result ℕ Refusal) (t' : List ℕ) : Type 0 where
  pub number : number_of r ≡ first_no (print_questions t)
  pub printed : r ≡ printed l t
  pub text : t' ≡ text_after l t
  pub within : IfOk r (λ n. n ≤ length t')
