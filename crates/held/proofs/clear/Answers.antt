-- `held::clear` meets its contract: as many places as are held become blank, or all. Assumes nothing.
use mathlib.Core.Path.{◌≡◌}
use lib.ListN.{length}
use Rattle.trb.specs.Limits.{max_held}
use Rattle.held.proofs.PlaceLaws.{cleared-least}
use borrow.Author.Rules.{rules}
use Rattle.held.proofs.clear.Goals as goal

pub returns : goal.returns
returns c =
    let len : length c.args.trbs.now ≡ max_held = search rules in
    rw (c.fill.ensures.after (λ y e. e), c.blank.ensures, c.places_held.ensures, ← len) (cleared-least c.args.held c.args.trbs.now)
