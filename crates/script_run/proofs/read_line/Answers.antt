-- `script_run::read_line` meets its contract: a line that is too long is bad. Assumes nothing.
use borrow.Author.Tests.{le-leb, lt-leb}
use Rattle.script_lines.specs.Lines.{max_line}
use Rattle.script_run.specs.Runs.{line_call}
use Rattle.script_run.proofs.read_line.Goals as goal

pub returns-then-line-gt-MAX_LINE : goal.returns-then-line-gt-MAX_LINE
unfolding line_call
returns-then-line-gt-MAX_LINE c = rw (lt-leb _ max_line c.if-line-gt-MAX_LINE.true)

pub returns : goal.returns
unfolding line_call
returns c = rw (le-leb _ max_line c.if-line-gt-MAX_LINE.false) c.read_call.ensures
