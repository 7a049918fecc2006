-- Every call that is no line of the session itself is one on the endpoint. Assumes nothing.
use Prim.Native.Nat.{ℕ}
use mathlib.Core.Path.{◌≡◌, refl}
use mathlib.Core.List.{List}
use Rattle.guest_memory.specs.declared.Regions.{Regions}
use Rattle.trb.specs.declared.EndpointId.{EndpointId}
use Rattle.trb.specs.declared.InTrbProcessingStatus.{InTrbProcessingStatus}
use Rattle.trb.specs.declared.SlotId.{SlotId}
use Rattle.trb.specs.declared.TransferTrb.{TransferTrb}
use Rattle.control_block.specs.declared.GuestRelease.{GuestRelease}
use Rattle.in_td.specs.declared.InMode.{InMode}
use Rattle.call_script.specs.declared.Call.{Call}
use Rattle.call_script.specs.declared.Call.TheVariants.{Window, Buffers, CreateIn, CreateControl, Submit, Complete, Cancel, Hold, MakeUpIn, MakeUpControl, AppendTrb, AppendResult, CompleteRow, Time, Captured}
use Rattle.capture_file.specs.declared.CaptureTime.{CaptureTime}
use Rattle.capture_record.specs.declared.InTransferType.{InTransferType}
use Rattle.capture_record.specs.declared.UsbDevice.{UsbDevice}
use Rattle.session_calls.specs.Answers.{State, endpoint_answer, answer_of}

-- a call that is none of the session's lines, and no row
pub record OnEndpoint (c : Call) : Type 0 where
  pub window : (window : Regions) → c ≡ Window window → ⊥
  pub buffers : (log collect : ℕ) → c ≡ Buffers log collect → ⊥
  pub create_in : (e : EndpointId) (i : SlotId) (mode : InMode) → c ≡ CreateIn e i mode → ⊥
  pub create_control : (e : EndpointId) (i : SlotId) (release : GuestRelease) → c ≡ CreateControl e i release → ⊥
  pub append_trb : (t : TransferTrb) → c ≡ AppendTrb t → ⊥
  pub append_result : (status : InTrbProcessingStatus) (n : ℕ) → c ≡ AppendResult status n → ⊥
  pub complete_row : (n : ℕ) → c ≡ CompleteRow n → ⊥
  pub time : (time : CaptureTime) → c ≡ Time time → ⊥
  pub captured : (device : UsbDevice) (transfer_type : InTransferType) → c ≡ Captured device transfer_type → ⊥

module _ (bytes : List ℕ) (s : State) where
  pub answer_of-other : (c : Call) → OnEndpoint c → answer_of bytes s c ≡ endpoint_answer s.session.endpoint bytes s c
  unfolding answer_of
  answer_of-other (Window window) h = absurd (h.window window refl)
  answer_of-other (Buffers l n) h = absurd (h.buffers l n refl)
  answer_of-other (CreateIn e i mode) h = absurd (h.create_in e i mode refl)
  answer_of-other (CreateControl e i release) h = absurd (h.create_control e i release refl)
  answer_of-other (Submit t) h = refl
  answer_of-other (Complete status n) h = refl
  answer_of-other Cancel h = refl
  answer_of-other (Hold t) h = refl
  answer_of-other (MakeUpIn state) h = refl
  answer_of-other (MakeUpControl phase state direction n) h = refl
  answer_of-other (AppendTrb t) h = absurd (h.append_trb t refl)
  answer_of-other (AppendResult status n) h = absurd (h.append_result status n refl)
  answer_of-other (CompleteRow n) h = absurd (h.complete_row n refl)
  answer_of-other (Time time) h = absurd (h.time time refl)
  answer_of-other (Captured device transfer_type) h = absurd (h.captured device transfer_type refl)
