-- `captured_calls::put_control_submission` meets its contract: the events are those of `control_request_event`. Assumes nothing.
use Rattle.capture_calls.specs.Events.{control_request_event}
use Rattle.captured_calls.proofs.put_control_submission.Goals as goal

pub returns : goal.returns
returns c = c.put_requests.ensures control_request_event (λ r e p. p.1)
