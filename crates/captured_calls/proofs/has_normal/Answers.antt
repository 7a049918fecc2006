-- `captured_calls::has_normal` meets its contract: `any` says of each TRB whether it is a Normal. Assumes nothing.
use Rattle.std.proofs.Common.{◌≡◌, true, false, rules, tests}
use Rattle.std.proofs.lemmas.Iterator.{cases_from_any, YieldsList-from_slice}
use Rattle.in_td.specs.Td.{is_normal}
use Rattle.captured_calls.proofs.RowLaws.{has_normal-decided}
use Rattle.captured_calls.proofs.has_normal.Goals as goal

pub returns : goal.returns
returns c =
    has_normal-decided _ _
    (cases_from_any _ _ _ (λ t. is_normal t.variant ≡ true) (λ t. is_normal t.variant ≡ false) c.any.ensures.ran (YieldsList-from_slice c.args.td.now cc) (λ x q k. search (rules, tests)) (λ x q k. search (rules, tests)))
