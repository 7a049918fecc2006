-- `shape_text::more_data` lays the lines behind E, N, e and n, in this order. Assumes nothing.
use Rattle.shape_lines.specs.Chosen.{letters_of}
use Rattle.shape_lines.proofs.LinesLaws as laws
use Rattle.shape_text.proofs.more_data.Goals as goal

pub returns-then-left-eq0 : goal.returns-then-left-eq0
returns-then-left-eq0 c = laws.laid-no-more (letters_of c.args.chosen) c.args.left _ c.if-left-eq0.true

pub returns : goal.returns
returns c = laws.laid_more (letters_of c.args.chosen) c.args.left c.if-left-eq0.false c.event_data.ensures c.normal.ensures c.data_end.ensures
