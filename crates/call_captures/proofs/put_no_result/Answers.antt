-- `call_captures::put_no_result` meets its contract: on no endpoint, and on an IN one, nothing is laid. Assumes nothing.
use Rattle.std.proofs.Common.{◌≡◌, Some, None, arith}
use Rattle.held.specs.declared.EndpointKind.TheVariants.{In}
use Rattle.captured_calls.proofs.WrittenLaws.{laid-none}
use Rattle.call_captures.proofs.put_no_result.Goals as goal

pub returns : goal.returns
returns c =
    let input : c.args.made.now.after.endpoint ≡ Some In = grind arith in
    rw input laid-none

pub returns-2 : goal.returns-2
returns-2 c =
    let none : c.args.made.now.after.endpoint ≡ None = grind arith in
    rw none laid-none
