-- Laws of the digit at a place: what subtracting a power of the base leaves, and where the first digit stands. Assumes nothing.
use Prim.Native.Nat.{ℕ, zero, suc, ◌+◌, ◌-◌, ◌*◌, ◌/◌, ◌%◌, ◌<◌, ◌≤◌, ◌^◌}
use mathlib.Core.Bool.{Bool, true, false, cond}
use mathlib.Core.Logic.{⊎_elim}
use mathlib.Core.Path.{◌≡◌, refl, sym, ap, ◌∙◌}
use mathlib.Core.List.{List, [], ◌∷◌, map}
use native.Mathlib.Nat.{add-zero, zero-add, add-suc, add_comm, suc-add, pow-succ', pow-le-pow_right, one-le-pow, mod-lt, mod-eq_of_lt, div-eq_of_lt, zero-mod, add-mul, one-mul, zero-mul, lt_of_mul-lt-mul_right}
use native.Mathlib.Numerals.{add-one}
use native.Mathlib.Omega.{arith}
use lib.Arith.{digits_div, digits_mod, mod-mul}
use lib.Dec.{leb}
use lib.ListN.{length, get_or}
use Rattle.std.specs.List.{prefix_len, take_while}
use Rattle.std.proofs.lemmas.List.Folds.{length-prefix_len}
use Rattle.std.proofs.lemmas.Bool.{leb-true, leb-false, cases_lt}
use Rattle.numerals.specs.Digits.{digit_char, digits, trimmed, FirstPlace, decimal_of}
use Rattle.numerals.specs.Widths.{decimal_places}
use Rattle.numerals.proofs.DigitLaws.{length_digits, trimmed-zero, trimmed-nonzero}

-- ---- A power subtracted as often as it goes into a number

-- once more, and the rest without it
pub power-once-more : {power n : ℕ} (d rest : ℕ) → power ≤ rest → d * power + rest ≡ n → (d + 1) * power + (rest - power) ≡ n
power-once-more {power} d rest h e = omega (arith, add-mul d 1 power, one-mul power)

-- of a number below ten of it, there are at most nine
pub power-below-ten : {power n : ℕ} (d rest : ℕ) → power ≤ rest → n < 10 * power → d * power + rest ≡ n → d + 1 < 10
power-below-ten {power} d rest h b e = lt_of_mul-lt-mul_right power (omega (arith, add-mul d 1 power, one-mul power))

pub quotient-by-rest : {power n rest : ℕ} (d : ℕ) → rest < power → d * power + rest ≡ n → d ≡ n / power
quotient-by-rest d h e = rw (sym e, digits_div d h)

pub remainder-by-rest : {power n rest : ℕ} (d : ℕ) → rest < power → d * power + rest ≡ n → rest ≡ n % power
remainder-by-rest d h e = rw (sym e, digits_mod d h)

-- ---- A number cut to the places up to k

-- its digit at place k is the number's
digit-of-rest : (base k n : ℕ) → 0 < base → n % base ^ suc k / base ^ k ≡ n / base ^ k % base
digit-of-rest base k n h =
    rw (pow-succ' base k, mod-mul n h (one-le-pow k base h)) (digits_div (n / base ^ k % base) (mod-lt n (one-le-pow k base h)))

-- below place k it has what the number has there
rest-of-rest : (base k n : ℕ) → 0 < base → n % base ^ suc k % base ^ k ≡ n % base ^ k
rest-of-rest base k n h =
    rw (pow-succ' base k, mod-mul n h (one-le-pow k base h)) (digits_mod (n / base ^ k % base) (mod-lt n (one-le-pow k base h)))

-- it is below the power behind place k
pub rest_below : {rest power : ℕ} (k n : ℕ) → rest ≡ n % 10 ^ suc k → power ≡ 10 ^ k → rest < 10 * power
rest_below k n r p = rw (r, p, ← pow-succ' 10 k) (mod-lt n (one-le-pow (suc k) 10 (omega arith)))

pub digit-at-place : {rest power d : ℕ} (k n : ℕ) → rest ≡ n % 10 ^ suc k → power ≡ 10 ^ k → d ≡ rest / power → d ≡ n / 10 ^ k % 10
digit-at-place k n r p e = e ∙ rw (r, p) (digit-of-rest 10 k n (omega arith))

pub rest-below-place : {rest power low : ℕ} (k n : ℕ) → rest ≡ n % 10 ^ suc k → power ≡ 10 ^ k → low ≡ rest % power → low ≡ n % 10 ^ k
rest-below-place k n r p e = e ∙ rw (r, p) (rest-of-rest 10 k n (omega arith))

-- ---- The first digit

-- the digits above place k of a number below the next power are leading zeros
trimmed-above : (base j k n : ℕ) → 0 < base → n < base ^ suc k → trimmed (digits base (j + suc k) n) ≡ trimmed (digits base (suc k) n)
unfolding digits
trimmed-above base zero k n h b = rw zero-add
trimmed-above base (suc j) k n h b =
    let ds = digits base (suc (j + suc k)) n in
    let up : base ^ suc k ≤ base ^ (j + suc k) = pow-le-pow_right h (omega arith) in
    let none : n / base ^ (j + suc k) ≡ 0 = div-eq_of_lt (omega arith) in
    rw (suc-add j (suc k)) (trimmed-zero ds 0 (omega (arith, length_digits base (suc (j + suc k)) n)) (rw none (zero-mod base)) ∙ trimmed-above base j k n h b)

-- the digit at place k of a number between that place's power and the next is not zero
digit-nonzero : (base k n : ℕ) → 0 < base → n < base ^ suc k → base ^ k ≤ n → n / base ^ k % base ≡ 0 → ⊥
digit-nonzero base k n h b r z =
    let pos = one-le-pow k base h in
    let cut : n ≡ n / base ^ k % base * base ^ k + n % base ^ k =
    sym (mod-eq_of_lt b) ∙ rw (pow-succ' base k) (mod-mul n h pos) in
    let low : n ≡ 0 * base ^ k + n % base ^ k = rw z at cut in
    omega (arith, zero-mul (base ^ k), mod-lt n pos)

-- so nothing is trimmed
trimmed-from : (base k n : ℕ) → 0 < base → n < base ^ suc k → (0 < k → base ^ k ≤ n) → trimmed (digits base (suc k) n) ≡ digits base (suc k) n
unfolding digits trimmed
trimmed-from base zero n h b r = refl
trimmed-from base (suc k) n h b r =
    let ds = digits base (suc (suc k)) n in
    trimmed-nonzero ds 0 (omega (arith, length_digits base (suc (suc k)) n)) (digit-nonzero base (suc k) n h b (r (omega arith)))

trimmed-places : {m : ℕ} (base j k n : ℕ) → j + suc k ≡ m → 0 < base → n < base ^ suc k → (0 < k → base ^ k ≤ n)
    → trimmed (digits base m n) ≡ digits base (suc k) n
trimmed-places base j k n e h b r = rw (sym e) (trimmed-above base j k n h b ∙ trimmed-from base k n h b r)

-- the first digit of n stands at place k, where n reaches that place's power, or k is the lowest, and n is below the next power
pub first-place : (k n : ℕ) → k < decimal_places → n < 10 ^ suc k → (0 < k → 10 ^ k ≤ n) → FirstPlace n k
first-place k n w b r = record {
  within = w;
  below = b;
  digits = trimmed-places 10 (decimal_places - suc k) k n (omega arith) (omega arith) b r;
}

pub decimal_of-first : {n k : ℕ} → FirstPlace n k → decimal_of n ≡ map digit_char (digits 10 (suc k) n)
unfolding decimal_of
decimal_of-first p = ap (map digit_char) p.digits

-- ---- The table

-- so many powers of ten, from place i on
abbrev pub powers_from : ℕ → ℕ → List ℕ
powers_from i zero = []
powers_from i (suc m) = 10 ^ i ∷ powers_from (suc i) m

-- the first k of the m powers from place i on go into n, and no other does
abbrev Reaches : ℕ → ℕ → ℕ → ℕ → Type 0
Reaches i m n k = (k ≤ m) × ((0 < k → 10 ^ (i + k - 1) ≤ n) × (k < m → n < 10 ^ (i + k)))

reaches-by : (b : Bool) (i m n k : ℕ) → leb (10 ^ i) n ≡ b → Reaches (suc i) m n k → Reaches i (suc m) n (cond b (1 + k) 0)
reaches-by true i m n zero e r =
    let here : i + (1 + zero) - 1 ≡ i = omega arith in
    let next : i + (1 + zero) ≡ suc i + zero = omega arith in
    (omega arith, (λ h. rw here (leb-true (10 ^ i) n e), λ h. rw next (r.1.1 (omega arith))))
reaches-by true i m n (suc k) e r =
    let here : i + (1 + suc k) - 1 ≡ suc i + suc k - 1 = omega arith in
    let next : i + (1 + suc k) ≡ suc i + suc k = omega arith in
    (omega (arith, r.0), (λ h. rw here (r.1.0 (omega arith)), λ h. rw next (r.1.1 (omega arith))))
reaches-by false i m n k e r =
    let here : i + 0 ≡ i = omega arith in
    (omega arith, (λ h. absurd (omega arith), λ h. rw here (leb-false (10 ^ i) n e)))

reaches : (i m n : ℕ) → Reaches i m n (prefix_len (λ p. leb p n) (powers_from i m))
reaches i zero n = (omega arith, (λ h. absurd (omega arith), λ h. absurd (omega arith)))
reaches i (suc m) n = reaches-by (leb (10 ^ i) n) i m n (prefix_len (λ p. leb p n) (powers_from (suc i) m)) refl (reaches (suc i) m n)

-- it is the place of n's first digit
first-place-below : (k n : ℕ) → Reaches 1 9 n k → n < 2 ^ 32 → FirstPlace n k
first-place-below k n r w =
    let here : 1 + k - 1 ≡ k = omega arith in
    let below : n < 10 ^ suc k = ⊎_elim
    (λ (l : k < 9). rw (← add-one k, add_comm k 1) (r.1.1 l))
    (λ (g : 9 ≤ k). let last : k ≡ 9 = omega (arith, r.0) in rw last (omega arith))
    (cases_lt k 9) in
    first-place k n (omega (arith, r.0)) below (λ h. rw here at (r.1.0 h))

-- so the first digit's place is how many powers above 1 go into n
pub first-place-reached : (n : ℕ) → n < 2 ^ 32 → FirstPlace n (length (take_while (λ p. leb p n) (powers_from 1 9)))
first-place-reached n w =
    let k = prefix_len (λ p. leb p n) (powers_from 1 9) in
    rw (length-prefix_len (λ p. leb p n) (powers_from 1 9)) (first-place-below k n (reaches 1 9 n) w)

pub get_or-powers_from : (i m k : ℕ) → k < m → get_or (powers_from i m) k 0 ≡ 10 ^ (i + k)
get_or-powers_from i zero k h = absurd (omega arith)
get_or-powers_from i (suc m) zero h = rw add-zero
get_or-powers_from i (suc m) (suc k) h = rw (add-suc i k ∙ sym (suc-add i k)) (get_or-powers_from (suc i) m k (omega arith))
