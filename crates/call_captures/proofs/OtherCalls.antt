-- A call that is neither a submission, a completion nor a row gives no record, and none but `t` and `m` sets what captures say. Assumes nothing.
use Prim.Native.Nat.{ℕ}
use mathlib.Core.Path.{◌≡◌, refl}
use mathlib.Core.List.{List, []}
use Rattle.call_log.specs.declared.Record.{Record}
use Rattle.trb.specs.declared.TransferTrb.{TransferTrb}
use Rattle.call_script.specs.declared.DeviceStatus.{DeviceStatus}
use Rattle.std.specs.Prelude.{Option}
use Rattle.capture_file.specs.declared.CaptureTime.{CaptureTime}
use Rattle.capture_record.specs.declared.InTransferType.{InTransferType}
use Rattle.capture_record.specs.declared.UsbDevice.{UsbDevice}
use Rattle.call_script.specs.declared.Call.{Call}
use Rattle.call_script.specs.declared.Call.TheVariants.{Window, Buffers, CreateIn, CreateControl, Submit, Complete, Cancel, Hold, MakeUpIn, MakeUpControl, AppendTrb, AppendResult, CompleteRow, Time, Captured}
use Rattle.session.specs.declared.Session.{Session}
use Rattle.captured_calls.specs.declared.Setting.{Setting}
use Rattle.call_captures.specs.Settings.{setting_after}
use Rattle.call_captures.specs.CallCaptures.{call_captures}

module _ (s : Setting) (before after : Session) (rows : List Record) (collect bytes : List ℕ) where
  pub call_captures-other : (c : Call) → ((t : TransferTrb) → c ≡ Submit t → ⊥) → ((status : Option DeviceStatus) (n : ℕ) → c ≡ Complete status n → ⊥) → ((n : ℕ) → c ≡ CompleteRow n → ⊥)
      → call_captures s before after c rows collect bytes ≡ []
  unfolding call_captures
  call_captures-other (Window window) submits completes completes-row = refl
  call_captures-other (Buffers l n) submits completes completes-row = refl
  call_captures-other (CreateIn e i mode) submits completes completes-row = refl
  call_captures-other (CreateControl e i release) submits completes completes-row = refl
  call_captures-other (Submit t) submits completes completes-row = absurd (submits t refl)
  call_captures-other (Complete status n) submits completes completes-row = absurd (completes status n refl)
  call_captures-other Cancel submits completes completes-row = refl
  call_captures-other (Hold t) submits completes completes-row = refl
  call_captures-other (MakeUpIn state) submits completes completes-row = refl
  call_captures-other (MakeUpControl phase state direction n) submits completes completes-row = refl
  call_captures-other (AppendTrb t) submits completes completes-row = refl
  call_captures-other (AppendResult status n) submits completes completes-row = refl
  call_captures-other (CompleteRow n) submits completes completes-row = absurd (completes-row n refl)
  call_captures-other (Time time) submits completes completes-row = refl
  call_captures-other (Captured device transfer_type) submits completes completes-row = refl

module _ (s : Setting) where
  pub setting_after-other : (c : Call) → ((time : CaptureTime) → c ≡ Time time → ⊥) → ((device : UsbDevice) (transfer_type : InTransferType) → c ≡ Captured device transfer_type → ⊥) → setting_after s c ≡ s
  unfolding setting_after
  setting_after-other (Window window) times captures = refl
  setting_after-other (Buffers l n) times captures = refl
  setting_after-other (CreateIn e i mode) times captures = refl
  setting_after-other (CreateControl e i release) times captures = refl
  setting_after-other (Submit t) times captures = refl
  setting_after-other (Complete status n) times captures = refl
  setting_after-other Cancel times captures = refl
  setting_after-other (Hold t) times captures = refl
  setting_after-other (MakeUpIn state) times captures = refl
  setting_after-other (MakeUpControl phase state direction n) times captures = refl
  setting_after-other (AppendTrb t) times captures = refl
  setting_after-other (AppendResult status n) times captures = refl
  setting_after-other (CompleteRow n) times captures = refl
  setting_after-other (Time time) times captures = absurd (times time refl)
  setting_after-other (Captured device transfer_type) times captures = absurd (captures device transfer_type refl)
