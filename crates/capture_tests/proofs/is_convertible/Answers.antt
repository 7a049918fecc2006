-- `capture_tests::is_convertible` meets its contract: the transfer type, and then the added bytes. Assumes nothing.
use Rattle.std.proofs.Common.{ℕ, ◌+◌, ◌-◌, ◌≡◌, ◌∙◌, eqb, take, drop, ap, arith, eq-eqb, ne_eqb}
use Rattle.capture_file.specs.Reading.{every}
use Rattle.capture_file.proofs.SurveyLaws.{convertible-here}
use Rattle.capture_tests.proofs.is_convertible.Goals as goal

pub returns-then-transfer_type-ne0 : goal.returns-then-transfer_type-ne0
returns-then-transfer_type-ne0 c =
    let count : 64 + c.args.extra - 64 ≡ c.args.extra = omega arith in
    let zero = c.all_zero.ensures ∙ ap (λ (n : ℕ). every (eqb 0) (take n (drop 64 c.args.rest.now))) count in
    rw (convertible-here c.args.extra c.args.rest.now, ne_eqb _ 0 c.if-transfer_type-ne0.true) zero

pub returns-else-transfer_type-ne0 : goal.returns-else-transfer_type-ne0
returns-else-transfer_type-ne0 c = rw (convertible-here c.args.extra c.args.rest.now, eq-eqb _ 0 c.if-transfer_type-ne0.false)
