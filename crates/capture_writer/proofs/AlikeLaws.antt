-- 02, R-8: two calls of the writer that differ in the bytes of their payloads alone, over buffers of one length, are answered alike. Assumes nothing.
use Prim.Native.Nat.{ℕ, ◌+◌}
use mathlib.Core.Path.{◌≡◌, sym, ap, ◌∙◌}
use mathlib.Core.List.{List}
use lib.ListN.{length}
use Rattle.capture_file.specs.Records.{layout}
use Rattle.capture_record.specs.Calls.{CaptureCall, delivered_by, record_of}
use Rattle.capture_record.proofs.CallLaws.{length-delivered_of, length-record_of}
use Rattle.capture_writer.specs.Writing.{Written, record_questions, Writes}
use Rattle.capture_writer.specs.Alike.{SameButBytes}

module _ (c c' : CaptureCall) (s : SameButBytes c c') where
  same-delivered : length (delivered_by c) ≡ length (delivered_by c')
  same-delivered =
      length-delivered_of c.event c.payload
      ∙ rw (s.event, s.count) (sym (length-delivered_of c'.event c'.payload))

  same_size : length (layout (record_of c)) ≡ length (layout (record_of c'))
  same_size = length-record_of c ∙ ap (λ (n : ℕ). 64 + n) same-delivered ∙ sym (length-record_of c')

  same-questions : (room : ℕ) → record_questions c room ≡ record_questions c' room
  same-questions room = rw (same_size, same-delivered, s.microseconds)

  -- whatever functions meet the writer's contract
  pub writer-alike : (output output' : List ℕ) → length output ≡ length output' → (r r' : Written) (after after' : List ℕ)
      → Writes c output r after → Writes c' output' r' after' → r ≡ r'
  writer-alike output output' room r r' after after' w w' =
      w.answer ∙ rw (room, same-questions (length output'), same_size) (sym w'.answer)
