-- `in_place_submission::share_none` meets its contract. Assumes nothing.
use mathlib.Core.Bool.{not}
use mathlib.Core.Path.{sym, ap}
use borrow.Author.Tests.{eq-eqb}
use Rattle.guest_memory.proofs.RegionLaws.{empty-high}
use Rattle.in_place_submission.proofs.share_none.Goals as goal

pub returns-then-regions-eq0 : goal.returns-then-regions-eq0
returns-then-regions-eq0 c = rw (eq-eqb _ _ c.if-regions-eq0.true) (sym (ap not (empty-high c.args.regions c.if-regions-eq0.true)))
