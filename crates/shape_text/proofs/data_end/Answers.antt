-- `shape_text::data_end` lays the lines behind e and then those behind n. Assumes nothing.
use Rattle.shapes.specs.Letters.{e, n}
use Rattle.shapes.specs.Lists.{status_stage}
use Rattle.shape_lines.specs.Chosen.{letters_of}
use Rattle.shape_lines.proofs.LinesLaws as laws
use Rattle.shape_text.proofs.data_end.Goals as goal

pub returns : goal.returns
returns c =
    let stage = status_stage c.args.left in
    laws.laid-two (letters_of c.args.chosen) e n stage stage (rw c.with_letter.ensures.letters at c.status_stage.ensures) (rw c.with_letter-2.ensures.letters at c.status_stage-2.ensures)
