-- What is printed of a log that is read into a buffer. Assumes nothing.
use Rattle.std.proofs.Common.{◌≡◌, ℕ, Result, ◌+◌, ◌≤◌, ◌<◌, List, ◌++◌, length, take, drop, ap, ◌∙◌, refl, arith, length-append}
use Rattle.std.specs.Result.{result_unwrap_or}
use lib.Seq.{take_at}
use borrow.Author.Tests.{le-leb, lt-leb}
use Rattle.trb.specs.Limits.{max_printed_log}
use Rattle.buffers.specs.Patch.{patch}
use Rattle.trb.specs.Questions.{first_no}
use Rattle.log_text.specs.Widths.{max_text}
use Rattle.trb.specs.declared.Refusal.{Refusal}
use Rattle.log_print.specs.LogText.{printable, log_text, printed, text_after, Prints}

-- a log that is too long prints the same whatever stands behind it
pub longer-same : (l rest : List ℕ) → max_printed_log + 1 ≤ length l → log_text (l ++ rest) ≡ log_text l
unfolding log_text printable
longer-same l rest long =
    let both : max_printed_log < length (l ++ rest) = omega (arith, length-append l rest) in
    simp (lt-leb (length l) max_printed_log (omega (arith, long)), lt-leb (length (l ++ rest)) max_printed_log both)

-- in a buffer that is long enough the text stands first
pub text-first : (l t : List ℕ) (r : Result ℕ Refusal) (t' : List ℕ) → Prints l t r t' → max_text ≤ length t → take (result_unwrap_or r 0) t' ≡ log_text l
unfolding printed text_after patch first_no
text-first l t r t' prints room =
    let size : result_unwrap_or r 0 ≡ length (log_text l) = ap (λ (p : Result ℕ Refusal). result_unwrap_or p 0) prints.printed ∙ simp (le-leb max_text (length t) room) in
    let text : t' ≡ log_text l ++ drop (0 + length (log_text l)) t = prints.text ∙ simp (le-leb max_text (length t) room) in
    rw (size, text) (take_at (log_text l) (drop (0 + length (log_text l)) t) (length (log_text l)) refl)
