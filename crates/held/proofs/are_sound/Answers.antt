-- `held::are_sound` meets its contract: the test that is asked of each TRB is the definition's. Assumes nothing.
use mathlib.Core.Path.{◌∙◌}
use borrow.Author.Rules.{rules}
use borrow.Author.Tests.{tests}
use Rattle.std.proofs.lemmas.Iterator.{YieldsList-from_slice}
use Rattle.std.proofs.lemmas.Iterator.Search.{all_from_yields_List}
use Rattle.walks.proofs.AllLaws.{list_all-all}
use Rattle.held.specs.Sound.{sound_trb}
use Rattle.held.proofs.are_sound.Goals as goal

pub returns : goal.returns
returns c =
    all_from_yields_List (sound_trb c.args.kind) _ _ _ c.all.ensures.ran (YieldsList-from_slice c.args.trbs.now (cc)) (λ x b q k. search (rules, tests))
    ∙ list_all-all (sound_trb c.args.kind) c.args.trbs.now
