-- What a call's record carries, and how long it is. Assumes nothing.
use Prim.Native.Nat.{ℕ, ◌+◌}
use mathlib.Core.Bool.{Bool, true, false, cond}
use mathlib.Core.Path.{◌≡◌, refl, ◌∙◌}
use mathlib.Core.List.{List, []}
use native.Mathlib.Omega.{arith}
use lib.ListN.{length, take}
use lib.Seq.{take-length}
use Rattle.capture_file.specs.Records.{captured, layout}
use Rattle.capture_file.specs.Files.{link_short}
use Rattle.capture_file.proofs.FileLaws.{length-file_head}
use Rattle.capture_file.proofs.LayoutLaws.{length-layout}
use Rattle.capture_record.specs.declared.CaptureEvent.{CaptureEvent}
use Rattle.capture_record.specs.Events.{snap_length, carries, delivered_of}
use Rattle.capture_record.specs.Calls.{CaptureCall, delivered_by, captured_by, record_of, writer_head}
use Rattle.capture_record.proofs.HeaderLaws.{length-header_bytes}

-- what a record carries, as the code counts and takes it
module _ (e : CaptureEvent) (l : List ℕ) where
  pub length-delivered_of : length (delivered_of e l []) ≡ cond (carries e) (length l) 0
  length-delivered_of = by (carries e)
    where
      by : (b : Bool) → length (cond b l []) ≡ cond b (length l) 0
      by true = refl
      by false = refl

  pub take-delivered_of : take (cond (carries e) (length l) 0) l ≡ delivered_of e l []
  take-delivered_of = by (carries e)
    where
      by : (b : Bool) → take (cond b (length l) 0) l ≡ cond b l []
      by true = take-length l
      by false = refl

module _ (c : CaptureCall) where
  pub captured-record_of : captured (record_of c) ≡ captured_by c
  captured-record_of = rw length-header_bytes

  pub length-record_of : length (layout (record_of c)) ≡ 64 + length (delivered_by c)
  length-record_of = length-layout (record_of c) ∙ rw captured-record_of (omega arith)

pub length-writer_head : length writer_head ≡ 24
length-writer_head = length-file_head 0 0 snap_length link_short
