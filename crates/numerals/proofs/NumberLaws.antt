-- The digits of a number, trimmed or not, say that number. Assumes nothing.
use Prim.Native.Nat.{ℕ, zero, suc, ◌%◌, ◌<◌, ◌^◌}
use mathlib.Core.Bool.{Bool, true, false, cond}
use mathlib.Core.Path.{◌≡◌, refl, sym, ◌∙◌}
use mathlib.Core.List.{List, [], ◌∷◌}
use native.Mathlib.Nat.{pow-zero, pow-succ', one-le-pow, mod-one, mod-eq_of_lt, zero-mul, zero-add}
use native.Mathlib.Omega.{arith}
use lib.Arith.{mod-mul}
use lib.Dec.{eqb}
use borrow.Author.Tests.{eqb-true}
use Rattle.numerals.specs.Digits.{digits, trimmed, number_of}
use Rattle.numerals.specs.Widths.{decimal_places, hex_places}
use Rattle.numerals.proofs.DigitLaws.{length_digits}

pub number_of-digits : (base k n : ℕ) → 0 < base → number_of base (digits base k n) ≡ n % base ^ k
unfolding digits
number_of-digits base zero n h = rw (pow-zero, mod-one)
number_of-digits base (suc k) n h =
    rw (length_digits base k n, number_of-digits base k n h, pow-succ' base k) (sym (mod-mul n h (one-le-pow k base h)))

-- by whether the first digit is zero
number_of-first : (base d : ℕ) (ds ts : List ℕ) (b : Bool) → eqb d 0 ≡ b → number_of base ts ≡ number_of base ds
    → number_of base (cond b ts (d ∷ ds)) ≡ number_of base (d ∷ ds)
number_of-first base d ds ts true e h = rw (eqb-true d 0 e, zero-mul, zero-add) h
number_of-first base d ds ts false e h = refl

pub number_of-trimmed : (base : ℕ) (ds : List ℕ) → number_of base (trimmed ds) ≡ number_of base ds
unfolding trimmed
number_of-trimmed base [] = refl
number_of-trimmed base (d ∷ []) = refl
number_of-trimmed base (d ∷ e ∷ ds) = number_of-first base d (e ∷ ds) (trimmed (e ∷ ds)) (eqb d 0) refl (number_of-trimmed base (e ∷ ds))

-- a 32-bit number's decimal digits say it
pub number_of-decimal : (n : ℕ) → n < 2 ^ 32 → number_of 10 (trimmed (digits 10 decimal_places n)) ≡ n
number_of-decimal n h = number_of-trimmed 10 (digits 10 decimal_places n) ∙ number_of-digits 10 decimal_places n (omega arith) ∙ mod-eq_of_lt (omega arith)

-- a 64-bit number's hex digits say it
pub number_of-hex : (n : ℕ) → n < 2 ^ 64 → number_of 16 (trimmed (digits 16 hex_places n)) ≡ n
number_of-hex n h = number_of-trimmed 16 (digits 16 hex_places n) ∙ number_of-digits 16 hex_places n (omega arith) ∙ mod-eq_of_lt (omega arith)
