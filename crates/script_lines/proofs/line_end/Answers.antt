-- `script_lines::line_end` meets its contract: the bytes before a line feed are the first line. Assumes nothing.
use native.Mathlib.Omega.{arith}
use mathlib.Core.Path.{◌≡◌, ◌∙◌}
use lib.ListN.{length, drop, length-drop}
use Rattle.numerals.proofs.ListLaws.{take_rest}
use Rattle.script_lines.specs.Lines.{first_line}
use Rattle.script_lines.proofs.LineLaws.{length-take_while, length-first_line}
use Rattle.script_lines.proofs.line_end.Goals as goal

pub returns : goal.returns
returns c =
    let rest = drop c.args.from c.args.input.now in
    let size : c.line_length.result ≡ length (first_line rest) = (rw (take_rest c.args.input.now c.args.from) at c.line_length.ensures) ∙ length-take_while rest in
    record { start = omega arith; inside = omega (arith, size, length-first_line rest, length-drop c.args.from c.args.input.now); line = omega (arith, size) }
