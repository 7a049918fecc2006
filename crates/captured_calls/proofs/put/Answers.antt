-- `captured_calls::put` meets its contract: one call of the writer over the part behind the records, or none. Assumes nothing.
use Rattle.std.proofs.Common.{◌≡◌, ◌∙◌, ◌+◌, ◌≤◌, sym, ap, arith, refl, length}
use Rattle.capture_calls.specs.Captures.{writer_call}
use Rattle.capture_writer.specs.Writing.{in_numbers}
use Rattle.captured_calls.specs.Submitted.{captured_of}
use Rattle.captured_calls.proofs.WrittenLaws.{laid-none, length-in_numbers, part-inside, laid-one}
use Rattle.captured_calls.proofs.put.Goals.{After-unwrap_or}
use Rattle.captured_calls.proofs.put.Goals as goal

module _ (c : After-unwrap_or) where
  -- what was written lies in the buffer
  written-inside : c.args.capture.now.end + c.unwrap_or.result ≤ length c.args.capture.now.bytes.now
  written-inside =
      omega (arith, part-inside c.args.capture.now c.write_record-written.ensures, length-in_numbers c.write_record-written.result, c.unwrap_or.ensures)

pub overflow_add-capture : goal.overflow_add-capture
overflow_add-capture c = omega (arith, written-inside c)

pub invariant_of-capture : goal.invariant_of-capture
invariant_of-capture c = omega (arith, written-inside c)

pub returns-in-Some : goal.returns-in-Some
returns-in-Some c =
    let a = c.args in
    let size : c.unwrap_or.result ≡ (in_numbers c.write_record-written.result).length =
    c.unwrap_or.ensures ∙ sym (length-in_numbers c.write_record-written.result) in
    laid-one a.capture.now _ _ _ (ap (λ e. writer_call (captured_of a.capture.now.setting) e a.payload.now) c.in-Some.is) c.write_record-written.ensures refl
    (omega (arith, size)) refl refl

pub returns-in_default : goal.returns-in_default
returns-in_default c = rw c.in_default.is laid-none
