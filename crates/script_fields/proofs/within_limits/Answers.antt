-- `script_fields::within_limits` meets its contract: each branch rewrites the definition's first test, and the second is the law of pairs.
-- Assumes nothing.
use native.Mathlib.Omega.{arith}
use borrow.Author.Tests.{eq-eqb, ne_eqb}
use Rattle.script_fields.specs.Fields.{within_limits}
use Rattle.script_fields.proofs.FieldLaws.{all_at_most-zip}
use Rattle.script_fields.proofs.within_limits.Goals as goal

pub returns-then-fields-limits : goal.returns-then-fields-limits
unfolding within_limits
returns-then-fields-limits c =
    rw (c.all_at_most.ensures, eq-eqb _ _ c.if-fields-limits.true) (all_at_most-zip c.args.fields.numbers c.args.limits.now (omega (arith, c.requires)))

pub returns-else-fields-limits : goal.returns-else-fields-limits
unfolding within_limits
returns-else-fields-limits c = rw (ne_eqb _ _ c.if-fields-limits.false)
