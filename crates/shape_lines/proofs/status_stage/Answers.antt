-- `shape_lines::status_stage` lays the lines behind T and then those behind t. Assumes nothing.
use Rattle.shapes.specs.Letters.{T, t}
use Rattle.shapes.specs.Lists.{final_event_data, request_made, status_stage}
use Prim.Native.Nat.{◌-◌}
use Rattle.shape_lines.specs.Chosen.{letters_of}
use Rattle.shape_lines.proofs.LinesLaws as laws
use Rattle.shape_lines.proofs.status_stage.Goals as goal

pub returns-then-left-eq0 : goal.returns-then-left-eq0
returns-then-left-eq0 c = laws.laid_end (letters_of c.args.chosen) status_stage c.args.left c.if-left-eq0.true (laws.laid_none _)

pub returns : goal.returns
returns c =
    laws.laid-left (letters_of c.args.chosen) status_stage c.args.left c.if-left-eq0.false
    (laws.laid-two (letters_of c.args.chosen) T t (final_event_data (c.args.left - 1)) (request_made (c.args.left - 1))
    (rw c.with_letter.ensures.letters at c.final_event_data.ensures) (rw c.with_letter-2.ensures.letters at c.request_made.ensures))
