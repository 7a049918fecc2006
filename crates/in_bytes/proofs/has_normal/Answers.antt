-- `in_bytes::has_normal` meets its contract: the test of each place is the definition's. Assumes nothing.
use mathlib.Core.Path.{◌∙◌}
use borrow.Author.Rules.{rules}
use borrow.Author.Tests.{tests}
use Rattle.std.proofs.lemmas.Iterator.{YieldsList-from_slice}
use Rattle.std.proofs.lemmas.Iterator.Search.{any_from_yields_List}
use Rattle.in_bytes.proofs.HeldLaws.{normal, some-normal}
use Rattle.in_bytes.proofs.has_normal.Goals as goal

pub returns : goal.returns
returns c =
    let cells = c.args.places.now in
    any_from_yields_List normal _ _ _ c.any.ensures.ran (YieldsList-from_slice cells (cc)) (λ x b q k. search (rules, tests)) ∙ some-normal cells
