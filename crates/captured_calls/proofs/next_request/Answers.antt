-- `captured_calls::next_request` meets its contract: no record in front of the one that `position` found is a request. Assumes nothing.
use Rattle.std.proofs.Common.{rules, tests, true, false}
use Rattle.std.proofs.lemmas.Iterator.{IsFirst-from_position, YieldsList-from_slice}
use Rattle.captured_calls.proofs.RowLaws.{Request, First, request-found}
use Rattle.captured_calls.proofs.next_request.Goals.{After-position}
use Rattle.captured_calls.proofs.next_request.Goals as goal

module _ (c : After-position) where
  first : First c.args.rows.now c.position.result
  first =
      IsFirst-from_position _ _ _ (Request true) (Request false) c.position.ensures.ran (YieldsList-from_slice c.args.rows.now cc) (λ x q k. search (rules, tests)) (λ x q k. search (rules, tests))

pub returns-clause-rest : goal.returns-clause-rest
returns-clause-rest c = request-found c.args.rows.now _ (first c)
