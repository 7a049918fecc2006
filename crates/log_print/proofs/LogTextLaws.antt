-- Laws of a log's text. Assumes nothing.
use Prim.Native.Nat.{ℕ, ◌/◌, ◌≤◌}
use mathlib.Core.Bool.{Bool, true, false, cond}
use mathlib.Core.Path.{◌≡◌, refl}
use mathlib.Core.List.{List}
use native.Mathlib.Omega.{arith}
use lib.ListN.{length}
use borrow.Author.Tests.{leb-true}
use Rattle.trb.specs.Limits.{record_length, max_printed_log}
use Rattle.trb.proofs.TestLaws.{and_left}
use Rattle.log_check.specs.WellFormed.{well_formed}
use Rattle.numerals.specs.Digits.{digit_char, digits, trimmed, decimal_of}
use Rattle.log_text.specs.Widths.{max_text}
use Rattle.log_text.specs.Lines.{lines_in}
use Rattle.log_print.specs.LogText.{refused_text, printable, log_text}
use Rattle.log_text.proofs.LineLaws.{length-lines_in}

length-refused_text : length refused_text ≤ max_text
unfolding digit_char digits trimmed decimal_of refused_text
length-refused_text = omega arith

pub length-printable : (l : List ℕ) → printable l ≡ true → length l ≤ max_printed_log
unfolding printable
length-printable l e = leb-true (length l) max_printed_log (and_left _ (well_formed l) e)

-- by whether the log is printable
length-text : (l : List ℕ) (b : Bool) → printable l ≡ b → length (cond b (lines_in (length l / record_length) l) refused_text) ≤ max_text
length-text l true e = omega (arith, length-printable l e, length-lines_in (length l / record_length) l)
length-text l false e = length-refused_text

-- a text buffer of max_text bytes has room for the text of any log
pub length-log_text : (l : List ℕ) → length (log_text l) ≤ max_text
unfolding log_text
length-log_text l = length-text l (printable l) refl
