-- The request records that the engine logs give their submissions, with nothing lost; its writes and events give none. Assumes nothing.
use Prim.Native.Nat.{ℕ}
use Rattle.std.proofs.Common.{Some, None}
use mathlib.Core.Bool.{Bool}
use mathlib.Core.Path.{◌≡◌, refl}
use Rattle.trb.specs.declared.CompletionCode.{CompletionCode}
use Rattle.trb.specs.declared.EndpointId.{EndpointId}
use Rattle.trb.specs.declared.SlotId.{SlotId}
use Rattle.trb.specs.declared.UsbRequest.{UsbRequest}
use Rattle.call_log.specs.Records.{transfer_event, guest_write, in_request, control_request}
use Rattle.capture_record.specs.declared.CaptureEvent.TheVariants.{InSubmission, ControlSubmission}
use Rattle.capture_record.specs.declared.InPipe.{InPipe}
use Rattle.capture_calls.specs.Events.{in_request_event, control_request_event}

module _ (e : EndpointId) (s : SlotId) where
  pub in-request : (p : InPipe) (address length : ℕ) → in_request_event p (in_request address length e s) ≡ Some (InSubmission p address length)
  in-request p address length = refl

  pub control-request : (r : UsbRequest) → control_request_event (control_request r e s) ≡ Some (ControlSubmission r)
  control-request r = refl

  pub write-none : (p : InPipe) (address length start : ℕ) → in_request_event p (guest_write address length start e s) ≡ None
  write-none p address length start = refl

  pub event-none : (p : InPipe) (address residual : ℕ) (c : CompletionCode) (flag : Bool) → in_request_event p (transfer_event address residual c flag e s) ≡ None
  event-none p address residual c flag = refl

  pub control-event-none : (address residual : ℕ) (c : CompletionCode) (flag : Bool) → control_request_event (transfer_event address residual c flag e s) ≡ None
  control-event-none address residual c flag = refl
