-- `in_place::result_of` meets its contract: the numbers up to 3 are those of a status. Assumes nothing.
use Rattle.std.specs.Bool.{then_some}
use Rattle.std.specs.Prelude.{leb}
use mathlib.Core.Path.{sym, ◌∙◌}
use Rattle.in_place.proofs.CallLaws.{result-by}
use Rattle.in_place.proofs.result_of.Goals as goal

pub returns : goal.returns
returns c =
    c.then_some.ensures
    ∙ (λ j. then_some (leb c.args.status 3) (c.status_of.ensures j))
    ∙ sym (result-by c.args.status)
