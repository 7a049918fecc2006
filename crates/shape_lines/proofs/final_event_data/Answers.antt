-- `shape_lines::final_event_data` lays the lines behind E and then those behind e. Assumes nothing.
use Rattle.shapes.specs.Letters.{E, e}
use Rattle.shapes.specs.Lists.{final_event_data, request_made}
use Prim.Native.Nat.{◌-◌}
use Rattle.shape_lines.specs.Chosen.{letters_of}
use Rattle.shape_lines.proofs.LinesLaws as laws
use Rattle.shape_lines.proofs.final_event_data.Goals as goal

pub returns-then-left-eq0 : goal.returns-then-left-eq0
returns-then-left-eq0 c = laws.laid_end (letters_of c.args.chosen) final_event_data c.args.left c.if-left-eq0.true (laws.laid_none _)

pub returns : goal.returns
returns c =
    let made = request_made (c.args.left - 1) in
    laws.laid-left (letters_of c.args.chosen) final_event_data c.args.left c.if-left-eq0.false
    (laws.laid-two (letters_of c.args.chosen) E e made made (rw c.with_letter.ensures.letters at c.request_made.ensures) (rw c.with_letter-2.ensures.letters at c.request_made-2.ensures))
