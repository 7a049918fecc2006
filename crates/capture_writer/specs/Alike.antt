-- 02, R-8: captures do depend on the bytes of payloads; what the writer answers depends on their lengths alone. Assumes nothing.
use Rattle.std.specs.Prelude.{◌≡◌, length}
use Rattle.capture_record.specs.Calls.{CaptureCall}

-- two calls that differ in the bytes of their payloads alone
pub record SameButBytes (c c' : CaptureCall) : Type 0 where
  pub device : c.device ≡ c'.device
  pub seconds : c.seconds ≡ c'.seconds
  pub microseconds : c.microseconds ≡ c'.microseconds
  pub event : c.event ≡ c'.event
  pub count : length c.payload ≡ length c'.payload
