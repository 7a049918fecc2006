-- A header that the writer makes names an event that makes it again; and a header that is made again has the fields of a call. Assumes nothing.
use Prim.Native.Nat.{ℕ, ◌%◌, ◌<◌, ◌^◌}
use mathlib.Core.Bool.{Bool, true, false, cond, not, ◌&&◌}
use mathlib.Core.Path.{◌≡◌, refl}
use native.Mathlib.Omega.{arith}
use lib.Dec.{eqb, leb}
use borrow.Author.Tests.{eqb-true, eq-eqb}
use Rattle.trb.specs.declared.InTrbProcessingStatus.{InTrbProcessingStatus}
use Rattle.trb.specs.declared.InTrbProcessingStatus.TheVariants as device
use Rattle.trb.specs.declared.UsbRequest.{UsbRequest}
use Rattle.capture_file.proofs.LayoutLaws.{both}
use Rattle.capture_record.specs.declared.CaptureEvent.{CaptureEvent}
use Rattle.capture_record.specs.declared.CaptureEvent.TheVariants.{InSubmission, InCompletion, ControlSubmission, ControlCompletionIn, ControlCompletionOut, ControlError, TrbError}
use Rattle.capture_record.specs.declared.InPipe.{InPipe}
use Rattle.capture_record.specs.declared.InTransferType.{InTransferType}
use Rattle.capture_record.specs.declared.InTransferType.TheVariants.{Interrupt, Bulk}
use Rattle.capture_record.specs.declared.TransferError.{TransferError}
use Rattle.capture_record.specs.declared.TransferError.TheVariants as failed
use Rattle.capture_record.specs.declared.UsbDevice.{UsbDevice}
use Rattle.capture_record.specs.declared.UsbHeader.{UsbHeader}
use Rattle.capture_record.specs.declared.UsbSetup.{UsbSetup}
use Rattle.capture_record.specs.Headers.{no_setup, usb_header, HeaderFits}
use Rattle.capture_record.specs.Events.{submission, completion, control, with_setup, type_number, transfer_type, is_in_pipe, rotated_right, endpoint_zero, in_status, error_status, trb_error_status, to_host, setup_of, carries, header_of}
use Rattle.capture_record.specs.Calls.{RequestFits, EventFits}
use Rattle.capture_header.specs.Made.{rotated_left, type_named, pipe_named, status_named, error_named, request_named, submission_named, completion_named, failure_named, control_named, in_named, event_named, count_named, made_again, same_setup, same_front, same_numbers, same_header}

-- ---- Two headers with the same fields

same_number : (n : ℕ) → eqb n n ≡ true
same_number n = eq-eqb n n refl

pub same_header-same : (h : UsbHeader) → same_header h h ≡ true
unfolding same_header
same_header-same h = simp same_number

equal-and : (x y : ℕ) (b : Bool) → (eqb x y && b) ≡ true → (x ≡ y) × (b ≡ true)
equal-and x y b h =
    let parts = both (eqb x y) b h in
    (eqb-true x y parts.0, parts.1)

same_setup-equal : (a b : UsbSetup) → same_setup a b ≡ true → a ≡ b
same_setup-equal a b h =
    let request-type = equal-and a.request_type b.request_type _ h in
    let request = equal-and a.request b.request _ request-type.1 in
    let value = equal-and a.value b.value _ request.1 in
    let index = equal-and a.index b.index _ value.1 in
    let last = eqb-true a.length b.length index.1 in
    λ i. record { request_type = request-type.0 i; request = request.0 i; value = value.0 i; index = index.0 i; length = last i }

pub same_header-equal : (a b : UsbHeader) → same_header a b ≡ true → a ≡ b
unfolding same_header
same_header-equal a b h =
    let parts = both (same_front a b) _ h in
    let numbers = both (same_numbers a b) _ parts.1 in
    let setup = same_setup-equal a.setup b.setup numbers.1 in
    let id = equal-and a.id b.id _ parts.0 in
    let event-type = equal-and a.event_type b.event_type _ id.1 in
    let transfer-type = equal-and a.transfer_type b.transfer_type _ event-type.1 in
    let endpoint-address = equal-and a.endpoint_address b.endpoint_address _ transfer-type.1 in
    let device-address = equal-and a.device_address b.device_address _ endpoint-address.1 in
    let bus-number = equal-and a.bus_number b.bus_number _ device-address.1 in
    let setup-flag = equal-and a.setup_flag b.setup_flag _ bus-number.1 in
    let data-flag = eqb-true a.data_flag b.data_flag setup-flag.1 in
    let seconds = equal-and a.seconds b.seconds _ numbers.0 in
    let microseconds = equal-and a.microseconds b.microseconds _ seconds.1 in
    let status = equal-and a.status b.status _ microseconds.1 in
    let length = equal-and a.length b.length _ status.1 in
    let delivered = eqb-true a.delivered b.delivered length.1 in
    λ i. record {
      id = id.0 i;
      event_type = event-type.0 i;
      transfer_type = transfer-type.0 i;
      endpoint_address = endpoint-address.0 i;
      device_address = device-address.0 i;
      bus_number = bus-number.0 i;
      setup_flag = setup-flag.0 i;
      data_flag = data-flag i;
      seconds = seconds.0 i;
      microseconds = microseconds.0 i;
      status = status.0 i;
      length = length.0 i;
      delivered = delivered i;
      setup = setup i;
    }

-- ---- What a header names, part by part

not-control : (p : InPipe) → eqb (transfer_type p) control ≡ false
not-control p = by p.transfer_type
  where
    by : (t : InTransferType) → eqb (type_number t) control ≡ false
    by Interrupt = refl
    by Bulk = refl

type-back : (t : InTransferType) → type_named (type_number t) ≡ t
type-back Interrupt = refl
type-back Bulk = refl

rotated-back : (byte : ℕ) → byte < 256 → rotated_left (rotated_right byte) ≡ byte
rotated-back byte h = omega arith

status-back : (s : InTrbProcessingStatus) → status_named (in_status s) ≡ s
status-back device.Disconnect = refl
status-back device.Stall = refl
status-back device.TransactionError = refl
status-back device.Success = refl

error-back : (e : TransferError) → error_named (error_status e) ≡ e
error-back failed.Disconnect = refl
error-back failed.Stall = refl
error-back failed.TransactionError = refl

zero-back : (to_host : Bool) → leb 128 (endpoint_zero to_host) ≡ to_host
zero-back true = refl
zero-back false = refl

low_again : (n : ℕ) → n % 65536 % 65536 ≡ n % 65536
low_again n = omega arith

-- ---- A header that the writer makes is made again

pub made_again-header_of : (d : UsbDevice) (s m : ℕ) (e : CaptureEvent) (n : ℕ) → EventFits e → made_again s m (header_of d s m e n) ≡ header_of d s m e n
unfolding made_again event_named count_named
made_again-header_of d s m (InSubmission p id length) n fits =
    rw (not-control p, type-back p.transfer_type, rotated-back p.endpoint_id.0 fits.0)
made_again-header_of d s m (InCompletion p id status) n fits =
    rw (not-control p, type-back p.transfer_type, rotated-back p.endpoint_id.0 fits.0, status-back status)
made_again-header_of d s m (ControlSubmission r) n fits = by (leb 128 r.request_type) refl
  where
    by : (b : Bool) → leb 128 r.request_type ≡ b → made_again s m (header_of d s m (ControlSubmission r) n) ≡ header_of d s m (ControlSubmission r) n
    by true e = rw e
    by false e = rw (e, low_again r.length)
made_again-header_of d s m (ControlCompletionIn id) n fits = refl
made_again-header_of d s m (ControlCompletionOut id length) n fits = refl
made_again-header_of d s m (ControlError to_host error r collected) n fits = rw (zero-back to_host, error-back error, low_again r.length)
made_again-header_of d s m (TrbError id) n fits = refl

-- the delivered length: that of the payload, where the record carries it
pub delivered-header_of : (d : UsbDevice) (s m : ℕ) (e : CaptureEvent) (n : ℕ) → (header_of d s m e n).delivered ≡ cond (carries e) n 0
delivered-header_of d s m (InSubmission p id length) n = refl
delivered-header_of d s m (InCompletion p id status) n = refl
delivered-header_of d s m (ControlSubmission r) n = by (to_host r)
  where
    by : (b : Bool) → cond b 0 n ≡ cond (not b) n 0
    by true = refl
    by false = refl
delivered-header_of d s m (ControlCompletionIn id) n = refl
delivered-header_of d s m (ControlCompletionOut id length) n = refl
delivered-header_of d s m (ControlError to_host error r collected) n = refl
delivered-header_of d s m (TrbError id) n = refl

-- ---- The event that a header names fits its types

module _ (h : UsbHeader) (fits : HeaderFits h) (endpoint : h.endpoint_address < 256) (type : h.setup.request_type < 256) (request : h.setup.request < 256) where
  either : (b : Bool) (x y : CaptureEvent) → EventFits x → EventFits y → EventFits (cond b x y)
  either true x y hx hy = hx
  either false x y hx hy = hy

  request-fits : (length : ℕ) → length < 256 ^ 4 → RequestFits (request_named h length)
  request-fits length small = record {
    address = fits.id;
    request_type = type;
    request = request;
    value = fits.value;
    index = fits.index;
    length = small;
  }

  known-length : (b : Bool) → cond b h.length h.setup.length < 256 ^ 4
  known-length true = fits.length
  known-length false = omega (arith, fits.setup_length)

  completion-fits : EventFits (completion_named h)
  completion-fits = either (leb 128 h.endpoint_address) (ControlCompletionIn h.id) (ControlCompletionOut h.id h.length) fits.id (fits.id, fits.length)

  failure-fits : EventFits (failure_named h)
  failure-fits =
      either (eqb h.setup_flag with_setup) (ControlError (leb 128 h.endpoint_address) (error_named h.status) (request_named h h.setup.length) h.length) (TrbError h.id)
      (request-fits h.setup.length (omega (arith, fits.setup_length)), fits.length) fits.id

  control-fits : EventFits (control_named h)
  control-fits =
      either (eqb h.event_type submission) (ControlSubmission (submission_named h)) (cond (eqb h.event_type completion) (completion_named h) (failure_named h))
      (request-fits _ (known-length (leb 128 h.setup.request_type)))
      (either (eqb h.event_type completion) (completion_named h) (failure_named h) completion-fits failure-fits)

  in-fits : EventFits (in_named h)
  in-fits =
      let named : rotated_left h.endpoint_address < 256 = omega arith in
      either (eqb h.event_type submission) (InSubmission (pipe_named h) h.id h.length) (InCompletion (pipe_named h) h.id (status_named h.status))
      (named, fits.id, fits.length) (named, fits.id)

  pub event_named-fits : EventFits (event_named h)
  unfolding event_named
  event_named-fits = either (eqb h.transfer_type control) (control_named h) (in_named h) control-fits in-fits

pub count_named-fits : (h : UsbHeader) → HeaderFits h → count_named h < 256 ^ 4
unfolding count_named
count_named-fits h fits = by (eqb h.event_type submission)
  where
    by : (b : Bool) → cond b h.delivered h.length < 256 ^ 4
    by true = fits.delivered
    by false = fits.length

-- ---- The header of an event fits its bytes

module _ (d : UsbDevice) (s m : ℕ) (bus : d.bus_number < 256 ^ 2) (seconds : s < 256 ^ 4) (microseconds : m < 256 ^ 4) where
  request-header : (r : UsbRequest) → RequestFits r → (status length delivered : ℕ) → status < 256 ^ 4 → length < 256 ^ 4 → delivered < 256 ^ 4
      → (e t a f g : ℕ) → HeaderFits (usb_header d s m r.address e t a f g status length delivered (setup_of r))
  request-header r fits status length delivered hs hl hd e t a f g = record {
    id = fits.address;
    bus = bus;
    seconds = omega (arith, seconds);
    microseconds = microseconds;
    status = hs;
    length = hl;
    delivered = hd;
    value = fits.value;
    index = fits.index;
    setup_length = omega arith;
  }

  plain-header : (id status length delivered : ℕ) → id < 256 ^ 8 → status < 256 ^ 4 → length < 256 ^ 4 → delivered < 256 ^ 4
      → (e t a f g : ℕ) → HeaderFits (usb_header d s m id e t a f g status length delivered no_setup)
  plain-header id status length delivered hi hs hl hd e t a f g = record {
    id = hi;
    bus = bus;
    seconds = omega (arith, seconds);
    microseconds = microseconds;
    status = hs;
    length = hl;
    delivered = hd;
    value = omega arith;
    index = omega arith;
    setup_length = omega arith;
  }

  one_of : (b : Bool) (x y : ℕ) → x < 256 ^ 4 → y < 256 ^ 4 → cond b x y < 256 ^ 4
  one_of true x y hx hy = hx
  one_of false x y hx hy = hy

  in-status : (status : InTrbProcessingStatus) → in_status status < 256 ^ 4
  in-status device.Disconnect = omega arith
  in-status device.Stall = omega arith
  in-status device.TransactionError = omega arith
  in-status device.Success = omega arith

  error-status : (error : TransferError) → error_status error < 256 ^ 4
  error-status failed.Disconnect = omega arith
  error-status failed.Stall = omega arith
  error-status failed.TransactionError = omega arith

  pub header_of-fits : (e : CaptureEvent) (n : ℕ) → EventFits e → n < 256 ^ 4 → HeaderFits (header_of d s m e n)
  header_of-fits (InSubmission p id length) n fits few = plain-header id 0 length 0 fits.1 (omega arith) fits.2 (omega arith) _ _ _ _ _
  header_of-fits (InCompletion p id status) n fits few =
      plain-header id (in_status status) n (cond (is_in_pipe p) n 0) fits.1 (in-status status) few (one_of (is_in_pipe p) n 0 few (omega arith)) _ _ _ _ _
  header_of-fits (ControlSubmission r) n fits few =
      request-header r fits 0 (cond (to_host r) r.length 0) (cond (to_host r) 0 n) (omega arith) (one_of (to_host r) r.length 0 fits.length (omega arith)) (one_of (to_host r) 0 n (omega arith) few) _ _ _ _ _
  header_of-fits (ControlCompletionIn id) n fits few = plain-header id 0 n n fits (omega arith) few few _ _ _ _ _
  header_of-fits (ControlCompletionOut id length) n fits few = plain-header id 0 length 0 fits.0 (omega arith) fits.1 (omega arith) _ _ _ _ _
  header_of-fits (ControlError to_host error r collected) n fits few =
      request-header r fits.0 (error_status error) collected 0 (error-status error) fits.1 (omega arith) _ _ _ _ _
  header_of-fits (TrbError id) n fits few = plain-header id trb_error_status 0 0 fits (omega arith) (omega arith) (omega arith) _ _ _ _ _
