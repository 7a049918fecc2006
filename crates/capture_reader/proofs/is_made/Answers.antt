-- `capture_reader::is_made` meets its contract: the tests are those of the record, at its offsets. Assumes nothing.
use Rattle.std.proofs.Common.{◌≡◌, ◌∙◌, ◌≢◌, false, sym, ap, arith, rules, tests}
use Rattle.std.proofs.lemmas.Bool.Decides.{nat_tests}
use Rattle.buffers.specs.LittleEndian.{AllBytes}
use Rattle.buffers.proofs.LittleEndianLaws.{AllBytes-each}
use Rattle.capture_file.specs.declared.CaptureTime.{CaptureTime}
use Rattle.capture_file.specs.Reading.{captured_at, original_at}
use Rattle.capture_header.specs.Made.{same_header}
use Rattle.capture_reader.proofs.ReadingLaws.{made-late, made-longer, made-by-header}
use Rattle.capture_reader.proofs.is_made.Goals.{After-eq, then-time-le-MAX_MICROSECONDS, else-time-le-MAX_MICROSECONDS}
use Rattle.capture_reader.proofs.is_made.Goals as goal

-- all fields of the two headers are compared
again : (c : After-eq) → c.eq.result ≡ same_header c.header_in-header.result c.made_again.result
unfolding same_header
again c = search (rules, tests)

pub returns-then-original-captured : goal.returns-then-original-captured
unfolding captured_at original_at
returns-then-original-captured c =
    let l = c.args.rest.now in
    let bytes : AllBytes l = AllBytes-each l (λ i. omega (arith, c.shared_slice_known-1.given i)) in
    elim c.if-time-le-MAX_MICROSECONDS.branch [
      | then-time-le-MAX_MICROSECONDS w ↦
          let same : c.original_at-original.result ≡ c.captured_at-captured.result = grind (arith, nat_tests) in
          rw (again (goal.at.returns-then-original-captured c).After-eq, c.made_again.ensures, c.header_in-header.ensures, c.time_at-time.ensures)
          (made-by-header l c.requires.whole bytes (omega (arith, ap (λ (t : CaptureTime). t.microseconds) c.time_at-time.ensures, w.if-time-le-MAX_MICROSECONDS.true)) (sym c.original_at-original.ensures ∙ same ∙ c.captured_at-captured.ensures))
      | else-time-le-MAX_MICROSECONDS w ↦ absurd (grind arith)
    ]

pub returns-else-original-captured : goal.returns-else-original-captured
unfolding captured_at original_at
returns-else-original-captured c =
    let l = c.args.rest.now in
    let bytes : AllBytes l = AllBytes-each l (λ i. omega (arith, c.shared_slice_known-1.given i)) in
    elim c.if-time-le-MAX_MICROSECONDS.branch [
      | then-time-le-MAX_MICROSECONDS w ↦
          let other : c.original_at-original.result ≢ c.captured_at-captured.result = grind (arith, nat_tests) in
          let no : c.if-time-le-MAX_MICROSECONDS.t-12 ≡ false = grind arith in
          rw no
          (made-longer l c.requires.whole bytes (omega (arith, ap (λ (t : CaptureTime). t.microseconds) c.time_at-time.ensures, w.if-time-le-MAX_MICROSECONDS.true)) (λ e. other (c.original_at-original.ensures ∙ e ∙ sym c.captured_at-captured.ensures)))
      | else-time-le-MAX_MICROSECONDS w ↦
          let no : c.if-time-le-MAX_MICROSECONDS.t-12 ≡ false = grind arith in
          rw no (made-late l c.requires.whole bytes (omega (arith, ap (λ (t : CaptureTime). t.microseconds) c.time_at-time.ensures, w.if-time-le-MAX_MICROSECONDS.false)))
    ]
