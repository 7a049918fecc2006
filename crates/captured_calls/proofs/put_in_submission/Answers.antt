-- `captured_calls::put_in_submission` meets its contract: the events are those of `in_request_event` for its pipe. Assumes nothing.
use Rattle.std.proofs.Common.{rules}
use Rattle.capture_calls.specs.Events.{in_request_event}
use Rattle.captured_calls.proofs.put_in_submission.Goals as goal

pub returns : goal.returns
returns c = rw (← c.in_pipe-pipe.ensures) (c.put_requests.ensures (in_request_event c.in_pipe-pipe.result) (λ r e p. search rules))
