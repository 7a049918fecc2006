use Rattle.shape_lines.specs.Lines.{shapes_text, Laid}
use Rattle.shape_text.proofs.shapes_up_to.Given as goal

abbrev pub invariant-loop-size : goal.invariant-loop-size
invariant-loop-size l = Laid (shapes_text l.size) l.initial.text l.text
