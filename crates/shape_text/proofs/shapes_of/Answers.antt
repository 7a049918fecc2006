-- `shape_text::shapes_of` lays the lines behind s. Assumes nothing.
use mathlib.Core.List.{[]}
use Rattle.shape_lines.proofs.LinesLaws as laws
use Rattle.shape_text.proofs.shapes_of.Goals as goal

pub returns-then-size-eq0 : goal.returns-then-size-eq0
returns-then-size-eq0 c = laws.laid-no-shape [] c.args.size _ c.if-size-eq0.true

pub returns : goal.returns
returns c = laws.laid-setup c.args.size c.if-size-eq0.false (rw (c.with_letter.ensures.letters, c.new.ensures) at c.data_stage.ensures)
