-- `shape_text::shapes_up_to` meets its contract. The loop's invariant: the shapes up to `size` are laid. Assumes nothing.
use Rattle.shape_lines.specs.Lines.{max_text}
use mathlib.Core.Path.{◌≡◌}
use Rattle.shape_lines.proofs.LinesLaws as laws
use native.Mathlib.Omega.{arith}
use Rattle.shape_text.proofs.shapes_up_to.Goals as goal

pub loop-size-init : goal.loop-size-init
loop-size-init c = laws.laid-start _

pub shapes_of-requires : goal.shapes_of-requires
shapes_of-requires c = omega arith

pub loop-size-preserved : goal.loop-size-preserved
loop-size-preserved c = laws.laid_next c.loop-size.size c.loop-size.invariant c.shapes_of.ensures

pub returns : goal.returns
returns c =
    let h : c.loop-size.size ≡ c.args.longest = omega arith in
    laws.laid-wrote max_text (laws.length-shapes_text c.args.longest c.requires.longest_le_max_shape) c.requires.has_room (rw h at c.loop-size.invariant)
