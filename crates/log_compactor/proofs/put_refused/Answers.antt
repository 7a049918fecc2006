-- `log_compactor::put_refused` meets its contract: the bytes laid are those of `refused_text`, by computing it. Assumes nothing.
use Rattle.buffers.specs.Patch.{patch}
use Rattle.numerals.specs.Digits.{digit_char, digits, trimmed, decimal_of}
use Rattle.log_print.specs.LogText.{refused_text}
use borrow.Author.Rules.{rules}
use Rattle.log_compactor.proofs.put_refused.Goals as goal

pub returns : goal.returns
unfolding digit_char digits trimmed decimal_of refused_text patch
returns c = record { bytes = rw c.copy_into.ensures; within = search rules }
