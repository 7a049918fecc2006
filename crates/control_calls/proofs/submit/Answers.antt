-- `control_calls::submit` meets its contract: the lent part of the collect buffer is what the endpoint makes of it; then answer and state line. Assumes nothing.
use Rattle.control_calls.proofs.CallLaws.{runs-submitted, take-least, collected-behind}
use Rattle.control_calls.proofs.submit.Goals as goal

pub returns : goal.returns
returns c =
    let kept = collected-behind c.args.block c.args.t c.args.collect_lent c.args.collect.now _ _ c.min-end.ensures c.submit_trb-submitted.ensures.collect in
    record {
      runs = runs-submitted c.args.block _ _ c.args.collect_lent c.args.collect.now (take-least _ _ c.min-end.ensures)
          c.submit_trb-submitted.ensures.met kept c.put_answer.ensures c.answered.ensures;
      collected = kept;
    }
