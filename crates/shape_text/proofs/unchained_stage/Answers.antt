-- `shape_text::unchained_stage` lays the lines behind d and then those behind t. Assumes nothing.
use Rattle.shapes.specs.Letters.{d, t}
use Rattle.shapes.specs.Lists.{request_made, status_stage}
use Rattle.shape_lines.specs.Chosen.{letters_of}
use Rattle.shape_lines.proofs.LinesLaws as laws
use Rattle.shape_text.proofs.unchained_stage.Goals as goal

pub returns : goal.returns
returns c =
    laws.laid-two (letters_of c.args.chosen) d t (status_stage c.args.left) (request_made c.args.left)
    (rw c.with_letter.ensures.letters at c.status_stage.ensures) (rw c.with_letter-2.ensures.letters at c.request_made.ensures)
