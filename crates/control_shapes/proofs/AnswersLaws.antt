-- The length asked for: it is at most max_shape, so that every answer fits the program's buffer. Assumes nothing.
use Rattle.std.specs.Prelude.{Option, Some, None, IfSome}
use Prim.Native.Nat.{ℕ, ◌+◌, ◌-◌, ◌*◌, ◌≤◌}
use mathlib.Core.Path.{◌≡◌, refl, sym, subst, ◌∙◌}
use mathlib.Core.Bool.{Bool, true, false, cond}
use mathlib.Core.List.{List, [], ◌∷◌, ◌++◌}
use native.Mathlib.Omega.{arith}
use borrow.Author.Tests.{ltb-false}
use lib.Dec.{eqb, ltb}
use lib.ListN.{length, take, drop}
use lib.Seq.{take_at}
use Rattle.buffers.specs.Patch.{patch}
use Rattle.text.specs.declared.Text.{Text}
use Rattle.text.specs.Wrote.{Wrote}
use Rattle.log_text.specs.Lines.{line_feed}
use Rattle.shapes.specs.Lists.{min_shape, max_shape}
use Rattle.shape_lines.specs.Lines.{shapes_text, max_text}
use Rattle.control_shapes.specs.Answers.{in_range, one_digit, two_digits, asked, refused_text, answer_text}

-- ---- An input of four bytes, or more

asked-longer : (l rest : List ℕ) → 4 ≤ length l → asked (l ++ rest) ≡ asked l
asked-longer [] rest h = absurd (omega arith)
asked-longer (b ∷ []) rest h = absurd (omega arith)
asked-longer (b ∷ c ∷ []) rest h = absurd (omega arith)
asked-longer (b ∷ c ∷ f ∷ []) rest h = absurd (omega arith)
asked-longer (b ∷ c ∷ f ∷ x ∷ l) rest h = refl

-- whatever stands behind it does not matter
pub longer-same : (l rest : List ℕ) → 4 ≤ length l → answer_text (l ++ rest) ≡ answer_text l
unfolding answer_text
longer-same l rest h = rw (asked-longer l rest h)

-- ---- A text that was written first in its buffer

pub text-first : (t : List ℕ) {vs t' : List ℕ} {r : ℕ} → t' ≡ patch t 0 vs → r ≡ length vs → take r t' ≡ vs
unfolding patch
text-first t {vs = vs} e n = rw (e, n) (take_at vs (drop (0 + length vs) t) (length vs) refl)

-- ---- At most max_shape

abbrev Most : Option ℕ → Type 0
Most m = IfSome m (λ n. n ≤ max_shape)

unless : (b : Bool) (m : Option ℕ) → (b ≡ false → Most m) → Most (cond b None m)
unless true m f = tt
unless false m f = f refl

either : (b : Bool) (m n : Option ℕ) → Most m → Most n → Most (cond b m n)
either true m n f g = f
either false m n f g = g

in_range-most : (m : ℕ) → Most (in_range m)
in_range-most m = unless (ltb m min_shape) (cond (ltb max_shape m) None (Some m)) (λ _. unless (ltb max_shape m) (Some m) (λ q. ltb-false max_shape m q))

one_digit-most : (c : ℕ) → Most (one_digit c)
one_digit-most c =
    unless (ltb c 48) (cond (ltb 57 c) None (in_range (c - 48))) (λ _. unless (ltb 57 c) (in_range (c - 48)) (λ _. in_range-most (c - 48)))

two_digits-most : (b c : ℕ) → Most (two_digits b c)
two_digits-most b c = let m : ℕ = 10 * (b - 48) + (c - 48) in
    unless (ltb b 49) (cond (ltb 57 b) None (cond (ltb c 48) None (cond (ltb 57 c) None (in_range m)))) λ _.
    unless (ltb 57 b) (cond (ltb c 48) None (cond (ltb 57 c) None (in_range m))) λ _.
    unless (ltb c 48) (cond (ltb 57 c) None (in_range m)) λ _.
    unless (ltb 57 c) (in_range m) λ _. in_range-most m

pub asked-most : (l : List ℕ) → IfSome (asked l) (λ n. n ≤ max_shape)
asked-most [] = tt
asked-most (b ∷ []) = one_digit-most b
asked-most (b ∷ c ∷ []) = either (eqb c line_feed) (one_digit b) (two_digits b c) (one_digit-most b) (two_digits-most b c)
asked-most (b ∷ c ∷ f ∷ []) = either (eqb f line_feed) (two_digits b c) None (two_digits-most b c) tt
asked-most (b ∷ c ∷ f ∷ x ∷ l) = tt

-- ---- The answer, by the length asked for

module _ (input : List ℕ) {m : Option ℕ} (e : m ≡ asked input) where
  pub most : (longest : ℕ) → m ≡ Some longest → longest ≤ max_shape
  most longest is = subst Most (sym e ∙ is) (asked-most input)

  pub refused-answered : m ≡ None → {t t' : Text} → Wrote max_text t refused_text t' → Wrote max_text t (answer_text input) t'
  unfolding answer_text
  refused-answered is g = rw (← e, is) g

  pub shapes-answered : (longest : ℕ) → m ≡ Some longest → {t t' : Text} → Wrote max_text t (shapes_text longest) t' → Wrote max_text t (answer_text input) t'
  unfolding answer_text
  shapes-answered longest is g = rw (← e, is) g
