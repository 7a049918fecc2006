-- `capture_writer::write_record` meets its contract: a no ends the call with its number, and the record is written otherwise. Assumes nothing.
use Prim.Native.Nat.{ℕ}
use mathlib.Core.Path.{◌≡◌, refl, sym, ap, ◌∙◌}
use native.Mathlib.Omega.{arith}
use lib.ListN.{length, take}
use Rattle.std.proofs.lemmas.Nat.{and_mask}
use Rattle.capture_record.specs.Calls.{delivered_by}
use Rattle.capture_record.proofs.CallLaws.{length-delivered_of, take-delivered_of, length-record_of}
use Rattle.capture_writer.specs.Writing.{call_of}
use Rattle.capture_writer.proofs.WritingLaws.{writes, writes-not, layout-record_of, late-no, long-no, room-no, all_yes}
use Rattle.capture_writer.proofs.write_record.Goals.{After-delivered_count-delivered, then-stamp-gt-MAX_MICROSECONDS-via-then-stamp-gt-MAX_MICROSECONDS, then-stamp-gt-MAX_MICROSECONDS-via-else-stamp-gt-MAX_MICROSECONDS+then-delivered}
use Rattle.capture_writer.proofs.write_record.Goals as goal

-- the bytes that the record carries
module _ (k : After-delivered_count-delivered) where
  carried : length (delivered_by (call_of k.args.stamp.device k.args.stamp.time.seconds k.args.stamp.time.microseconds k.args.event k.args.payload.now)) ≡ k.delivered_count-delivered.result
  carried = length-delivered_of k.args.event k.args.payload.now ∙ sym k.delivered_count-delivered.ensures

  taken : take k.delivered_count-delivered.result k.args.payload.now ≡ delivered_by (call_of k.args.stamp.device k.args.stamp.time.seconds k.args.stamp.time.microseconds k.args.event k.args.payload.now)
  taken =
      ap (λ (n : ℕ). take n k.args.payload.now) k.delivered_count-delivered.ensures ∙ take-delivered_of k.args.event k.args.payload.now

  size : length (take k.delivered_count-delivered.result k.args.payload.now) ≡ k.delivered_count-delivered.result
  size = ap length taken ∙ carried

pub returns-then-stamp-gt-MAX_MICROSECONDS : goal.returns-then-stamp-gt-MAX_MICROSECONDS
returns-then-stamp-gt-MAX_MICROSECONDS c =
    let call = call_of c.args.stamp.device c.args.stamp.time.seconds c.args.stamp.time.microseconds c.args.event c.args.payload.now in
    let size = carried (goal.at.returns-then-stamp-gt-MAX_MICROSECONDS c).After-delivered_count-delivered in
    let room = length c.args.output.now in
    elim c.then-stamp-gt-MAX_MICROSECONDS.branch [
      | then-stamp-gt-MAX_MICROSECONDS-via-then-stamp-gt-MAX_MICROSECONDS w ↦
          writes-not _ _ c.args.output.now 24 refl (late-no call room w.if-stamp-gt-MAX_MICROSECONDS.true)
      | then-stamp-gt-MAX_MICROSECONDS-via-else-stamp-gt-MAX_MICROSECONDS+then-delivered w ↦
          writes-not _ _ c.args.output.now 24 refl (long-no call room w.if-stamp-gt-MAX_MICROSECONDS.false (omega (arith, w.if-delivered.true, size)))
    ]

pub returns-then-output-delivered : goal.returns-then-output-delivered
returns-then-output-delivered c =
    (writes-not _ _ c.args.output.now 14 refl
    (room-no (call_of c.args.stamp.device c.args.stamp.time.seconds c.args.stamp.time.microseconds c.args.event c.args.payload.now) (length c.args.output.now) c.if-stamp-gt-MAX_MICROSECONDS.false (omega (arith, c.if-delivered.false, carried (goal.at.returns-then-output-delivered c).After-delivered_count-delivered)) (omega (arith, c.if-output-delivered.true, carried (goal.at.returns-then-output-delivered c).After-delivered_count-delivered, length-record_of (call_of c.args.stamp.device c.args.stamp.time.seconds c.args.stamp.time.microseconds c.args.event c.args.payload.now)))))

pub slice_bounds-put_record-end : goal.slice_bounds-put_record-end
slice_bounds-put_record-end c = sym (size (goal.at.slice_bounds-put_record-end c).After-delivered_count-delivered)

pub put_record-requires : goal.put_record-requires
put_record-requires c = (omega (arith, size (goal.at.put_record-requires c).After-delivered_count-delivered, c.if-output-delivered.false), omega (arith, size (goal.at.put_record-requires c).After-delivered_count-delivered, c.if-delivered.false))

pub returns : goal.returns
returns c =
    let d = c.args.output.now in
    rw (c.put_record.ensures, c.header_of-header.ensures, and_mask (length c.args.payload.now) 32, taken (goal.at.returns c).After-delivered_count-delivered, ← layout-record_of (call_of c.args.stamp.device c.args.stamp.time.seconds c.args.stamp.time.microseconds c.args.event c.args.payload.now))
    (writes _ _ d _ (sym (length-record_of (call_of c.args.stamp.device c.args.stamp.time.seconds c.args.stamp.time.microseconds c.args.event c.args.payload.now) ∙ rw (carried (goal.at.returns c).After-delivered_count-delivered)))
    (all_yes (call_of c.args.stamp.device c.args.stamp.time.seconds c.args.stamp.time.microseconds c.args.event c.args.payload.now) (length d) c.if-stamp-gt-MAX_MICROSECONDS.false (omega (arith, c.if-delivered.false, carried (goal.at.returns c).After-delivered_count-delivered)) (omega (arith, c.if-output-delivered.false, carried (goal.at.returns c).After-delivered_count-delivered, length-record_of (call_of c.args.stamp.device c.args.stamp.time.seconds c.args.stamp.time.microseconds c.args.event c.args.payload.now)))))
