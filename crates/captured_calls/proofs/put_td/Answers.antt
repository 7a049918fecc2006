-- `captured_calls::put_td` meets its contract: without a Normal nothing, and nothing where there is no request. Assumes nothing.
use Rattle.std.proofs.Common.{refl}
use Rattle.captured_calls.proofs.WrittenLaws.{laid-none}
use Rattle.captured_calls.specs.Rows.{requests_in}
use Rattle.captured_calls.proofs.put_td.Goals as goal

pub returns-then-not-has_normal-clause-laid : goal.returns-then-not-has_normal-clause-laid
returns-then-not-has_normal-clause-laid c = rw c.if-not-has_normal.true laid-none

pub returns-in_default-clause-laid : goal.returns-in_default-clause-laid
returns-in_default-clause-laid c = rw (c.if-not-has_normal.false, c.in_default.ensures.rest) laid-none

pub returns-in_default-clause-left : goal.returns-in_default-clause-left
unfolding requests_in
returns-in_default-clause-left c = rw (c.if-not-has_normal.false, c.in_default.ensures.rest) refl
