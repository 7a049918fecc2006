-- Each lays the lines behind its letter, which are those of MoreData with one letter less left.
use Rattle.shapes.specs.Letters.{E, N}
use Rattle.shape_lines.specs.Chosen.{letters_of}
use Rattle.shape_lines.proofs.LinesLaws as laws
use Rattle.shape_text.proofs.+event_data_normal.Goals as goal

pub event_data-returns-then-left-eq0 : goal.event_data-returns-then-left-eq0
event_data-returns-then-left-eq0 t c = laws.laid-no-data (letters_of c.args.chosen) E c.args.left _ c.if-left-eq0.true

pub event_data-returns : goal.event_data-returns
event_data-returns t c =
    let next = c.with_letter-next.ensures.letters in
    laws.laid-chained (letters_of c.args.chosen) E c.args.left c.if-left-eq0.false
    (rw next at c.event_data.ensures) (rw next at c.normal.ensures) (rw next at c.data_end.ensures)

pub normal-returns-then-left-eq0 : goal.normal-returns-then-left-eq0
normal-returns-then-left-eq0 t c = laws.laid-no-data (letters_of c.args.chosen) N c.args.left _ c.if-left-eq0.true

pub normal-returns : goal.normal-returns
normal-returns t c =
    let next = c.with_letter-next.ensures.letters in
    laws.laid-chained (letters_of c.args.chosen) N c.args.left c.if-left-eq0.false
    (rw next at c.event_data.ensures) (rw next at c.normal.ensures) (rw next at c.data_end.ensures)
