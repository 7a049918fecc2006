-- R-10: what is accepted is exactly the decimals of 2 to 12, and these with a line feed after them. Assumes nothing.
use Rattle.std.specs.Prelude.{Option, Some, None, IfSome}
use Rattle.std.proofs.lemmas.Option.{IfSome_then}
use Prim.Native.Nat.{ℕ, zero, suc, ◌+◌, ◌-◌, ◌*◌, ◌≤◌}
use mathlib.Core.Path.{◌≡◌, refl, ap, subst}
use mathlib.Core.Bool.{Bool, true, false, cond}
use mathlib.Core.List.{List, [], ◌∷◌, ◌++◌, map}
use mathlib.Core.Logic.{inl, inr}
use native.Mathlib.Omega.{arith}
use borrow.Author.Tests.{ltb-false, eqb-true}
use lib.Dec.{eqb, ltb}
use Rattle.numerals.specs.Digits.{digit_char, digits, trimmed, decimal_of}
use Rattle.log_text.specs.Lines.{line_feed}
use Rattle.shapes.specs.Lists.{min_shape, max_shape}
use Rattle.control_shapes.specs.Answers.{in_range, one_digit, two_digits, asked, Says}

-- ---- Each of them is accepted

abbrev lengths : List ℕ
lengths = 2 ∷ 3 ∷ 4 ∷ 5 ∷ 6 ∷ 7 ∷ 8 ∷ 9 ∷ 10 ∷ 11 ∷ 12 ∷ []

pub asked-decimal : map (λ (m : ℕ). asked (decimal_of m)) lengths ≡ map Some lengths
unfolding digit_char digits trimmed decimal_of
asked-decimal = refl

pub asked-decimal-feed : map (λ (m : ℕ). asked (decimal_of m ++ (line_feed ∷ []))) lengths ≡ map Some lengths
unfolding digit_char digits trimmed decimal_of
asked-decimal-feed = refl

-- ---- And nothing else

one-decimal : (k : ℕ) → k ≤ 9 → (48 + k) ∷ [] ≡ decimal_of k
unfolding digit_char digits trimmed decimal_of
one-decimal zero h = refl
one-decimal (suc zero) h = refl
one-decimal (suc (suc zero)) h = refl
one-decimal (suc (suc (suc zero))) h = refl
one-decimal (suc (suc (suc (suc zero)))) h = refl
one-decimal (suc (suc (suc (suc (suc zero))))) h = refl
one-decimal (suc (suc (suc (suc (suc (suc zero)))))) h = refl
one-decimal (suc (suc (suc (suc (suc (suc (suc zero))))))) h = refl
one-decimal (suc (suc (suc (suc (suc (suc (suc (suc zero)))))))) h = refl
one-decimal (suc (suc (suc (suc (suc (suc (suc (suc (suc zero))))))))) h = refl
one-decimal (suc (suc (suc (suc (suc (suc (suc (suc (suc (suc k)))))))))) h = absurd (omega arith)

two-decimal : (k : ℕ) → 10 + k ≤ max_shape → 49 ∷ (48 + k) ∷ [] ≡ decimal_of (10 + k)
unfolding digit_char digits trimmed decimal_of
two-decimal zero h = refl
two-decimal (suc zero) h = refl
two-decimal (suc (suc zero)) h = refl
two-decimal (suc (suc (suc k))) h = absurd (omega arith)

-- a length in range is itself
in_range-most : (m : ℕ) → IfSome (in_range m) (λ n. (n ≡ m) × (m ≤ max_shape))
in_range-most m = go (ltb m min_shape) (ltb max_shape m) refl
  where
    go : (p q : Bool) → ltb max_shape m ≡ q → IfSome (cond p None (cond q None (Some m))) (λ n. (n ≡ m) × (m ≤ max_shape))
    go true q g = tt
    go false true g = tt
    go false false g = (refl, ltb-false max_shape m g)

one_digit-decimal : (c : ℕ) → IfSome (one_digit c) (λ n. c ∷ [] ≡ decimal_of n)
one_digit-decimal c = go (ltb c 48) refl (ltb 57 c) refl
  where
    go : (p : Bool) → ltb c 48 ≡ p → (q : Bool) → ltb 57 c ≡ q → IfSome (cond p None (cond q None (in_range (c - 48)))) (λ n. c ∷ [] ≡ decimal_of n)
    go true g q h = tt
    go false g true h = tt
    go false g false h = IfSome_then (in_range (c - 48)) (in_range-most (c - 48)) (λ n is.
        let low : 48 ≤ c = ltb-false c 48 g in
        let high : c ≤ 57 = ltb-false 57 c h in
        let k : 48 + (c - 48) ≡ c = omega arith in
        rw is.0 (subst (λ (x : ℕ). x ∷ [] ≡ decimal_of (c - 48)) k (one-decimal (c - 48) (omega arith))))

-- digits of a number in range
two-in-range : (b c : ℕ) → 49 ≤ b → 48 ≤ c → 10 * (b - 48) + (c - 48) ≤ max_shape → b ∷ c ∷ [] ≡ decimal_of (10 * (b - 48) + (c - 48))
two-in-range b c f g h =
    let first : b ≡ 49 = omega arith in
    let second : 48 + (c - 48) ≡ c = omega arith in
    let m : 10 * (b - 48) + (c - 48) ≡ 10 + (c - 48) = omega arith in
    rw (m, first) (subst (λ (x : ℕ). 49 ∷ x ∷ [] ≡ decimal_of (10 + (c - 48))) second (two-decimal (c - 48) (omega arith)))

two_digits-decimal : (b c : ℕ) → IfSome (two_digits b c) (λ n. b ∷ c ∷ [] ≡ decimal_of n)
two_digits-decimal b c = go (ltb b 49) refl (ltb 57 b) (ltb c 48) refl (ltb 57 c)
  where
    m : ℕ
    m = 10 * (b - 48) + (c - 48)

    read : (p q i j : Bool) → Option ℕ
    read p q i j = cond p None (cond q None (cond i None (cond j None (in_range m))))

    go : (p : Bool) → ltb b 49 ≡ p → (q i : Bool) → ltb c 48 ≡ i → (j : Bool) → IfSome (read p q i j) (λ n. b ∷ c ∷ [] ≡ decimal_of n)
    go true g q i h j = tt
    go false g true i h j = tt
    go false g false true h j = tt
    go false g false false h true = tt
    go false g false false h false = IfSome_then (in_range m) (in_range-most m) (λ n is.
        rw is.0 (two-in-range b c (ltb-false b 49 g) (ltb-false c 48 h) is.1))

-- a list is asked of what the input says, and of nothing else
pub asked-says : (l : List ℕ) → IfSome (asked l) (Says l)
asked-says [] = tt
asked-says (b ∷ []) = IfSome_then (one_digit b) (one_digit-decimal b) (λ n is. inl is)
asked-says (b ∷ c ∷ []) = go (eqb c line_feed) refl
  where
    go : (p : Bool) → eqb c line_feed ≡ p → IfSome (cond p (one_digit b) (two_digits b c)) (Says (b ∷ c ∷ []))
    go true g = let h : c ≡ line_feed = eqb-true c line_feed g in
        IfSome_then (one_digit b) (one_digit-decimal b) (λ n is. inr (rw h (ap (λ (l : List ℕ). l ++ (line_feed ∷ [])) is)))
    go false g = IfSome_then (two_digits b c) (two_digits-decimal b c) (λ n is. inl is)
asked-says (b ∷ c ∷ d ∷ []) = go (eqb d line_feed) refl
  where
    go : (p : Bool) → eqb d line_feed ≡ p → IfSome (cond p (two_digits b c) None) (Says (b ∷ c ∷ d ∷ []))
    go true g = let h : d ≡ line_feed = eqb-true d line_feed g in
        IfSome_then (two_digits b c) (two_digits-decimal b c) (λ n is. inr (rw h (ap (λ (l : List ℕ). l ++ (line_feed ∷ [])) is)))
    go false g = tt
asked-says (b ∷ c ∷ d ∷ x ∷ l) = tt
