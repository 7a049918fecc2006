-- `control_places::log_completion` meets its contract, by whether the completion keeps collecting. Assumes nothing.
use mathlib.Core.Path.{sym, ◌∙◌}
use Rattle.control_bytes.specs.Layout.{block_of}
use Rattle.control_places.proofs.LoggedLaws.{silent-completion}
use Rattle.control_places.proofs.log_completion.Goals as goal

pub returns-then-is_collecting : goal.returns-then-is_collecting
returns-then-is_collecting c =
    let a = c.args in
    silent-completion a.ending (block_of a.block.now) a.log.now (sym c.is_collecting.ensures ∙ c.if-is_collecting.true)
