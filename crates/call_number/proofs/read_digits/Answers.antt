-- `call_number::read_digits` meets its contract. The loop's invariant: the characters from `character-index` on, behind the digits so far, give what
-- all of them give, and the digits so far are worth less than sixteen to their number. Assumes nothing.
use mathlib.Core.Path.{◌≡◌, refl, sym, ◌∙◌}
use mathlib.Core.List.{[]}
use native.Mathlib.Omega.{arith}
use lib.Dec.{lit<}
use lib.ListN.{drop, drop_of_length-le}
use Rattle.call_number.specs.Numbers.{digits_from}
use Rattle.call_number.proofs.NumberLaws.{more-digits, digits-fit, digit-Some, digit-None, digits_from-digit, digits_from-bad}
use Rattle.call_number.proofs.read_digits.Goals as goal

pub loop-character-init : goal.loop-character-init
loop-character-init c = (lit< tt, refl)

pub overflow_mul-value : goal.overflow_mul-value
overflow_mul-value c =
    record { fits = omega (arith, digits-fit c.loop-character.value 0 c.loop-character.character-index (omega arith) c.loop-character.invariant.0 (lit< tt)) }

pub returns-in_err-value : goal.returns-in_err-value
returns-in_err-value c =
    let l = c.args.field.now in
    let i = c.loop-character.character-index in
    let bad = digits_from-bad l c.loop-character.value i (omega arith) (digit-None _ (sym c.in_err-value.was ∙ c.digit.ensures)) in
    c.from_residual.ensures ∙ sym bad ∙ c.loop-character.invariant.1

pub overflow_add-value : goal.overflow_add-value
overflow_add-value c =
    let digit = digit-Some _ _ (sym c.in_ok-value.was ∙ c.digit.ensures) in
    record { fits = digits-fit c.loop-character.value _ c.loop-character.character-index (omega arith) c.loop-character.invariant.0 digit.1 }

pub loop-character-preserved : goal.loop-character-preserved
loop-character-preserved c =
    let l = c.args.field.now in
    let i = c.loop-character.character-index in
    let v = c.loop-character.value in
    let digit = digit-Some _ _ (sym c.in_ok-value.was ∙ c.digit.ensures) in
    (more-digits v _ i c.loop-character.invariant.0 digit.1, rw (← digit.0) (sym (digits_from-digit l v i (omega arith) (rw digit.0 digit.1)) ∙ c.loop-character.invariant.1))

pub returns : goal.returns
unfolding digits_from
returns c =
    let l = c.args.field.now in
    let i = c.loop-character.character-index in
    let none : drop i l ≡ [] = drop_of_length-le l {i = i} (omega arith) in
    rw none at c.loop-character.invariant.1
