-- `captured_calls::put_started` meets its contract: the completion is laid behind the request, in the same setting. Assumes nothing.
use Rattle.std.proofs.Common.{Some}
use Rattle.trb.specs.declared.TdBasedNormalSubmissionState.TheVariants.{AwaitingRealTransfer}
use Rattle.capture_calls.specs.Captures.{writer_call}
use Rattle.capture_calls.specs.Events.{in_completion_event}
use Rattle.captured_calls.specs.Submitted.{captured_of, pipe_of}
use Rattle.captured_calls.proofs.WrittenLaws.{laid-append, in-setting}
use Rattle.captured_calls.proofs.put_started.Goals as goal

pub returns : goal.returns
returns c =
    laid-append (rw (c.in_request_event-submitted.ensures, c.in_pipe-pipe.ensures) at c.put.ensures)
    (in-setting (λ s. writer_call (captured_of s) (in_completion_event (pipe_of s c.args.endpoint_id) AwaitingRealTransfer c.args.request.address (Some c.args.status)) c.args.«data».now) c.put.ensures.setting c.put_in_completion.ensures)
