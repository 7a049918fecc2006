-- `capture_tests::all_zero` meets its contract: what `all` says of each byte is the definition's answer. Assumes nothing.
use Rattle.std.proofs.Common.{◌≡◌, ◌≢◌, rules, tests}
use Rattle.std.proofs.lemmas.Iterator.{cases_from_all, YieldsList-from_slice}
use Rattle.capture_tests.proofs.ZeroLaws.{zero-decided}
use Rattle.capture_tests.proofs.all_zero.Goals as goal

pub returns : goal.returns
returns c =
    zero-decided _ _ (cases_from_all _ _ _ (λ x. x ≡ 0) (λ x. x ≢ 0) c.all.ensures.ran (YieldsList-from_slice c.args.bytes.now cc) (λ x q k. search (rules, tests)) (λ x q k. search (rules, tests)))
