-- `shape_lines::request_made` lays one line where no letter is left, and none else. Assumes nothing.
use Rattle.shapes.specs.Lists.{request_made}
use Rattle.shape_lines.specs.Chosen.{letters_of}
use Rattle.shape_lines.proofs.LinesLaws as laws
use Rattle.shape_lines.proofs.request_made.Goals as goal

pub returns-then-left-eq0 : goal.returns-then-left-eq0
returns-then-left-eq0 c =
    laws.laid_end (letters_of c.args.chosen) request_made c.args.left c.if-left-eq0.true (rw c.letters.ensures at c.put_line.ensures)

pub returns-else-left-eq0 : goal.returns-else-left-eq0
returns-else-left-eq0 c = laws.laid-left (letters_of c.args.chosen) request_made c.args.left c.if-left-eq0.false (laws.laid_none _)
