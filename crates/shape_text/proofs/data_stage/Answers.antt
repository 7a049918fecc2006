-- `shape_text::data_stage` lays the lines behind D, T, d and t, in this order. Assumes nothing.
use Rattle.shape_lines.specs.Chosen.{letters_of}
use Rattle.shape_lines.proofs.LinesLaws as laws
use Rattle.shape_text.proofs.data_stage.Goals as goal

pub returns-then-left-eq0 : goal.returns-then-left-eq0
returns-then-left-eq0 c = laws.laid-no-stage (letters_of c.args.chosen) c.args.left _ c.if-left-eq0.true

pub returns : goal.returns
returns c =
    laws.laid-data (letters_of c.args.chosen) c.args.left c.if-left-eq0.false (rw c.with_letter.ensures.letters at c.more_data.ensures)
    (rw c.with_letter-2.ensures.letters at c.final_event_data.ensures) c.unchained_stage.ensures
