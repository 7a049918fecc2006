-- `script_fields::read_fields` meets its contract. The loop's invariant: the fields read so far, with the rest behind them, are the line's fields.
-- The measure is what is left of the line. Assumes nothing.
use mathlib.Core.Path.{◌≡◌, sym, ◌∙◌}
use Prim.Native.Nat.{◌<◌}
use native.Mathlib.Omega.{arith}
use lib.ListN.{length}
use Rattle.script_fields.specs.Words.{first_word}
use Rattle.script_fields.specs.Fields.{fields_of}
use Rattle.script_fields.proofs.WordLaws.{length-take_while, take-first_word}
use Rattle.script_fields.proofs.FieldLaws.{behind_letter-end, fields_of-empty, behind_letter-none, behind_letter-full, behind_letter-bad, behind_letter-number}
use Rattle.script_fields.proofs.read_fields.Goals.{then-space-ne32-via-then-space-ne32, then-space-ne32-via-else-space-ne32+then-fields-eq-MAX_NUMBERS}
use Rattle.script_fields.proofs.read_fields.Goals as goal

pub returns-in_err-letter : goal.returns-in_err-letter
returns-in_err-letter c = c.from_residual.ensures ∙ sym (fields_of-empty c.args.line.now c.in_err-letter.ensures.cases)

pub loop-space-init : goal.loop-space-init
unfolding fields_of
loop-space-init c = (omega arith, rw c.in_ok-letter.ensures.cases.0)

pub returns-then-space-ne32 : goal.returns-then-space-ne32
returns-then-space-ne32 c =
    let f = c.loop-space.fields in
    let whole = rw c.in-Some.ensures.cases.0 at c.loop-space.invariant.1 in
    elim c.then-space-ne32.branch [
      | then-space-ne32-via-then-space-ne32 w ↦ sym (behind_letter-none f _ _ w.if-space-ne32.true) ∙ whole
      | then-space-ne32-via-else-space-ne32+then-fields-eq-MAX_NUMBERS w ↦
          sym (behind_letter-full f _ _ w.if-space-ne32.false (omega (arith, w.if-fields-eq-MAX_NUMBERS.true))) ∙ whole
    ]

pub returns-in_err-fields : goal.returns-in_err-fields
returns-in_err-fields c =
    let f = c.loop-space.fields in
    let cs = c.in-Some.behind.now in
    let whole = rw c.in-Some.ensures.cases.0 at c.loop-space.invariant.1 in
    let size : c.word_length.result ≡ length (first_word cs) = c.word_length.ensures ∙ length-take_while cs in
    let word = rw (c.split_at.ensures.front, size, take-first_word cs) at c.read_number.ensures in
    c.from_residual-in_err-fields.ensures ∙ sym (behind_letter-bad f _ cs c.if-space-ne32.false (sym word ∙ c.in_err-fields.was)) ∙ whole

pub loop-space-preserved : goal.loop-space-preserved
loop-space-preserved c =
    let f = c.loop-space.fields in
    let cs = c.in-Some.behind.now in
    let whole = rw c.in-Some.ensures.cases.0 at c.loop-space.invariant.1 in
    let size : c.word_length.result ≡ length (first_word cs) = c.word_length.ensures ∙ length-take_while cs in
    let word = rw (c.split_at.ensures.front, size, take-first_word cs) at c.read_number.ensures in
    let room : f.count < 5 = omega (arith, c.loop-space.invariant.0, c.if-fields-eq-MAX_NUMBERS.false) in
    (omega (arith, room), rw (c.split_at.ensures.back, size) (sym (behind_letter-number f _ cs _ c.if-space-ne32.false (sym word ∙ c.in_ok-fields.was) room) ∙ whole))

pub returns : goal.returns
returns c = sym (behind_letter-end c.loop-space.fields c.loop-space.rest.now c.in_default.ensures.cases) ∙ c.loop-space.invariant.1
