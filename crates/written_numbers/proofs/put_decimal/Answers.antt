-- `written_numbers::put_decimal` meets its contract. The loop's invariant: the characters of the digits below `place` remain to be written,
-- and `rest` is the number cut to these places. Behind the loop one is left, and `rest` is its digit. Assumes nothing.
use Prim.Native.Nat.{ℕ, suc, ◌-◌, ◌/◌, ◌%◌, ◌<◌, ◌^◌}
use mathlib.Core.Path.{◌≡◌, sym, ap, ◌∙◌}
use mathlib.Core.List.{◌∷◌}
use native.Mathlib.Nat.{mod-eq_of_lt, mod-lt, div-one}
use native.Mathlib.Numerals.{add-one}
use native.Mathlib.Omega.{arith}
use lib.ListN.{length-map}
use Rattle.numerals.specs.Digits.{digit_char, digits, decimal_of}
use Rattle.numerals.proofs.DigitLaws.{length_digits, digits-next, length-decimal_of}
use Rattle.numerals.proofs.PlaceLaws.{rest_below, digit-at-place, rest-below-place, decimal_of-first}
use Rattle.text.proofs.WroteLaws.{remaining-all, remaining-less, remaining-room, remaining-none}
use Rattle.written_numbers.proofs.put_decimal.Goals as goal

pub loop-place-init : goal.loop-place-init
loop-place-init c =
    let first = c.first_place-place.ensures in
    let all = remaining-all c.args.text.now (decimal_of c.args.n) (omega (arith, length-decimal_of c.args.n, c.requires)) in
    ((omega arith, omega (arith, first.within)), rw add-one (sym (mod-eq_of_lt first.below)), rw (add-one, ← decimal_of-first first) all)

pub subtract_power-high-requires : goal.subtract_power-high-requires
subtract_power-high-requires c =
    let lower : suc (c.loop-place.place - 1) ≡ c.loop-place.place = omega arith in
    rest_below (c.loop-place.place - 1) c.args.n (rw lower c.loop-place.invariant.1) c.power_of_ten.ensures

pub decimal_char-requires : goal.decimal_char-requires
decimal_char-requires c =
    let k = c.loop-place.place - 1 in
    let n = c.args.n in
    let lower : suc (c.loop-place.place - 1) ≡ c.loop-place.place = omega arith in
    rw (digit-at-place k n (rw lower c.loop-place.invariant.1) c.power_of_ten.ensures c.subtract_power-high.ensures.0) (mod-lt (n / 10 ^ k) (omega arith))

pub put_char-requires : goal.put_char-requires
put_char-requires c =
    remaining-room c.loop-place.invariant.2 (omega (arith, length-map (digits 10 c.loop-place.place c.args.n) digit_char, length_digits 10 c.loop-place.place c.args.n))

pub loop-place-preserved : goal.loop-place-preserved
loop-place-preserved c =
    let k = c.loop-place.place - 1 in
    let n = c.args.n in
    let power = c.power_of_ten.ensures in
    let lower : suc (c.loop-place.place - 1) ≡ c.loop-place.place = omega arith in
    let cut : c.loop-place.rest ≡ n % 10 ^ suc k = rw lower c.loop-place.invariant.1 in
    let next : digits 10 c.loop-place.place n ≡ n / 10 ^ k % 10 ∷ digits 10 k n = ap (λ (i : ℕ). digits 10 i n) (sym lower) ∙ digits-next 10 k n in
    let digit = digit-at-place k n cut power c.subtract_power-high.ensures.0 in
    ((omega arith, omega (arith, c.loop-place.invariant.0.1)), rest-below-place k n cut power c.subtract_power-high.ensures.1, remaining-less _ _ (rw next at c.loop-place.invariant.2) (rw (c.decimal_char.ensures, digit) at c.put_char.ensures))

-- what the loop leaves of the number is its last digit
last-digit : {rest : ℕ} (place n : ℕ) → place ≡ 1 → rest ≡ n % 10 ^ place → rest ≡ n / 1 % 10
last-digit place n lowest cut = cut ∙ rw (lowest, div-one)

last-below : {rest : ℕ} (place n : ℕ) → place ≡ 1 → rest ≡ n % 10 ^ place → rest < 10
last-below place n lowest cut = rw (last-digit place n lowest cut) (mod-lt (n / 1) (omega arith))

pub overflow_cast-rest : goal.overflow_cast-rest
overflow_cast-rest c = omega (arith, last-below c.loop-place.place c.args.n (omega (arith, c.loop-place.invariant.0.0)) c.loop-place.invariant.1)

pub decimal_char-requires-2 : goal.decimal_char-requires-2
decimal_char-requires-2 c = last-below c.loop-place.place c.args.n (omega (arith, c.loop-place.invariant.0.0)) c.loop-place.invariant.1

pub put_char-requires-2 : goal.put_char-requires-2
put_char-requires-2 c =
    remaining-room c.loop-place.invariant.2 (omega (arith, c.loop-place.invariant.0.0, length-map (digits 10 c.loop-place.place c.args.n) digit_char, length_digits 10 c.loop-place.place c.args.n))

pub returns : goal.returns
unfolding digits
returns c =
    let n = c.args.n in
    let lowest : c.loop-place.place ≡ 1 = omega (arith, c.loop-place.invariant.0.0) in
    let last = last-digit c.loop-place.place n lowest c.loop-place.invariant.1 in
    remaining-none (length-decimal_of n) (remaining-less _ _ (rw lowest at c.loop-place.invariant.2) (rw (c.decimal_char-2.ensures, last) at c.put_char-2.ensures))
