-- Laws of numerals. Assumes nothing.
use Prim.Native.Nat.{ℕ, ◌+◌, ◌*◌, ◌<◌, ◌≤◌, ◌^◌}
use mathlib.Core.Path.{◌≡◌, refl}
use mathlib.Core.Bool.{Bool, true, false, cond}
use mathlib.Core.List.{List}
use native.Mathlib.Nat.{pow-suc, pow-le-pow_right}
use native.Mathlib.Numerals.{add-one}
use native.Mathlib.Omega.{arith}
use lib.Dec.{lit<, ltb}
use lib.ListN.{length, drop, get_or}
use borrow.Author.Tests.{lt-ltb, le-ltb, ltb-true, ltb-false}
use Rattle.numerals.proofs.ListLaws.{drop-next}
use Rattle.std.specs.Prelude.{Some, None}
use Rattle.call_number.specs.Numbers.{digit_value, digit, digits_from}

-- one digit more
pub more-digits : (v d i : ℕ) → v < 16 ^ i → d < 16 → v * 16 + d < 16 ^ (i + 1)
more-digits v d i h k = rw (add-one, pow-suc) (omega arith)

-- sixteen digits fit 64 bits
pub digits-fit : (v d i : ℕ) → i < 16 → v < 16 ^ i → d < 16 → v * 16 + d < 2 ^ 64
digits-fit v d i l h k =
    let more : v * 16 + d < 16 ^ (i + 1) = more-digits v d i h k in
    omega (arith, pow-le-pow_right {n = 16} (lit< tt) {i = i + 1} {j = 16} (omega arith))

some-digit : (v d : ℕ) (b : Bool) → ltb v 16 ≡ b → Some d ≡ cond b (Some v) None → (v ≡ d) × (d < 16)
some-digit v d true e s = grind (arith, ltb-true)
some-digit v d false e s = grind arith

no-digit : (v : ℕ) (b : Bool) → ltb v 16 ≡ b → None ≡ cond b (Some v) None → 16 ≤ v
no-digit v true e s = grind arith
no-digit v false e s = ltb-false v 16 e

-- what is worth d as a digit
pub digit-Some : (c d : ℕ) → Some d ≡ digit c → (digit_value c ≡ d) × (d < 16)
digit-Some c d s = some-digit (digit_value c) d (ltb (digit_value c) 16) refl s

pub digit-None : (c : ℕ) → None ≡ digit c → 16 ≤ digit_value c
digit-None c s = no-digit (digit_value c) (ltb (digit_value c) 16) refl s

module _ (l : List ℕ) (v i : ℕ) (h : i < length l) where
  -- the character at index i is a digit
  pub digits_from-digit : digit_value (get_or l i 0) < 16 → digits_from v (drop i l) ≡ digits_from (v * 16 + digit_value (get_or l i 0)) (drop (i + 1) l)
  unfolding digits_from
  digits_from-digit k = rw (drop-next l i h, lt-ltb (digit_value (get_or l i 0)) 16 k)

  -- it is none
  pub digits_from-bad : 16 ≤ digit_value (get_or l i 0) → digits_from v (drop i l) ≡ None
  unfolding digits_from
  digits_from-bad k = rw (drop-next l i h, le-ltb (digit_value (get_or l i 0)) 16 k)
