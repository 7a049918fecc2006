-- R-10: the room that the longest text takes, computed on the definition. Assumes nothing.
use mathlib.Core.Path.{◌≡◌, refl}
use lib.ListN.{length}
use Rattle.shapes.specs.Lists.{max_shape, more_data, data_stage, shapes, shapes_up_to}
use Rattle.shape_lines.specs.Lines.{shapes_text, max_text}

-- the longest text
pub room : length (shapes_text max_shape) ≡ max_text
unfolding more_data data_stage shapes shapes_up_to
room = refl
