-- R-10: the list of the shapes up to a length rises, has none twice, and holds each shape of at most that length and nothing else.
-- The list of one length is those of all its words that lead to a request. Assumes nothing.
use Prim.Native.Nat.{ℕ, zero, suc, ◌≤◌, ◌<◌}
use mathlib.Core.Path.{◌≡◌, refl, sym, subst, ◌∙◌}
use mathlib.Core.Bool.{Bool, true, false, false≢true}
use mathlib.Core.List.{List, [], ◌∷◌, ◌++◌, Memᴰ}
use mathlib.Core.Logic.{◌⊎◌, inl, inr}
use native.Mathlib.Omega.{arith}
use borrow.Author.Tests.{eq-eqb, ne_eqb, lt-ltb, eqb-true, eqb-false}
use lib.Dec.{eqb}
use lib.ListN.{length}
use Rattle.shapes.specs.Letters.{Word, D, E, N, T, d, e, n, s, t}
use Rattle.shapes.specs.Shapes.{is_shape}
use Rattle.shapes.specs.Lists.{min_shape, before, precedes, AllAfter, Increasing, Distinct, Lists, shapes, shapes_up_to}
use Rattle.shapes.proofs.Words.{words, shapes-those}
use Rattle.shapes.proofs.Order.{increasing-words, increasing-those, member-after, before-itself, distinct-increasing, those-sound, those-complete, member-words, length-words}

-- ---- One length

shapes-increasing : (m : ℕ) → Increasing before (shapes m)
shapes-increasing m = rw shapes-those at (increasing-those is_shape (words m) (increasing-words m))

shapes-sound : (m : ℕ) (w : Word) → Memᴰ w (shapes m) → (is_shape w ≡ true) × (length w ≡ m)
shapes-sound m w h =
    let f : Memᴰ w (words m) × (is_shape w ≡ true) = those-sound is_shape w (words m) (rw (← (shapes-those m)) at h) in
    (f.1, length-words m w f.0)

shapes-complete : (w : Word) → is_shape w ≡ true → Memᴰ w (shapes (length w))
shapes-complete w h = rw shapes-those at (those-complete is_shape w (member-words w) h)

-- ---- Shorter first

precedes-before : (w v : Word) → length w ≡ length v → precedes w v ≡ before w v
precedes-before w v h = rw (eq-eqb (length w) (length v) h)

precedes-longer : (w v : Word) → length w < length v → precedes w v ≡ true
precedes-longer w v h = let f : length w ≡ length v → ⊥ = λ q. omega arith in rw (ne_eqb (length w) (length v) f, lt-ltb (length w) (length v) h)

precedes-itself : (w : Word) → precedes w w ≡ false
precedes-itself w = precedes-before w w refl ∙ before-itself w

all_after-members : (w : Word) (ws : List Word) → ((v : Word) → Memᴰ v ws → precedes w v ≡ true) → AllAfter precedes w ws
all_after-members w [] h = tt
all_after-members w (v ∷ vs) h = (h v (mathlib.Core.List.Memᴰ.head refl), all_after-members w vs (λ u m. h u (mathlib.Core.List.Memᴰ.tail m)))

increasing-precedes : (k : ℕ) (ws : List Word) → ((v : Word) → Memᴰ v ws → length v ≡ k) → Increasing before ws → Increasing precedes ws
increasing-precedes k [] g h = tt
increasing-precedes k (w ∷ ws) g h = (
  all_after-members w ws (λ v m. precedes-before w v (g w (mathlib.Core.List.Memᴰ.head refl) ∙ sym (g v (mathlib.Core.List.Memᴰ.tail m))) ∙ member-after before w v ws h.0 m),
  increasing-precedes k ws (λ v m. g v (mathlib.Core.List.Memᴰ.tail m)) h.1,
)

increasing-append : (us vs : List Word) → ((u v : Word) → Memᴰ u us → Memᴰ v vs → length u < length v) → Increasing precedes us → Increasing precedes vs → Increasing precedes (us ++ vs)
increasing-append [] vs f g h = h
increasing-append (u ∷ us) vs f g h = (all_after-members u (us ++ vs) (λ v m. go v (mathlib.Core.List.Memᴰ.append_cases us m)), increasing-append us vs (λ x y m. f x y (mathlib.Core.List.Memᴰ.tail m)) g.1 h)
  where
    go : (v : Word) → Memᴰ v us ⊎ Memᴰ v vs → precedes u v ≡ true
    go v (inl m) = member-after precedes u v us g.0 m
    go v (inr m) = precedes-longer u v (f u v (mathlib.Core.List.Memᴰ.head refl) m)

-- ---- Up to a length

-- nothing else appears
shapes_up_to-sound : (k : ℕ) (w : Word) → Memᴰ w (shapes_up_to k) → (is_shape w ≡ true) × (length w ≤ k)
unfolding shapes_up_to
shapes_up_to-sound zero w m = absurd (mathlib.Core.List.Memᴰ.not-nil m)
shapes_up_to-sound (suc k) w m = go (mathlib.Core.List.Memᴰ.append_cases (shapes_up_to k) m) (shapes_up_to-sound k w)
  where
    go : Memᴰ w (shapes_up_to k) ⊎ Memᴰ w (shapes (suc k)) → (Memᴰ w (shapes_up_to k) → (is_shape w ≡ true) × (length w ≤ k)) → (is_shape w ≡ true) × (length w ≤ suc k)
    go (inl h) g = ((g h).0, omega (arith, (g h).1))
    go (inr h) g = ((shapes-sound (suc k) w h).0, omega (arith, (shapes-sound (suc k) w h).1))

-- each appears
shapes_up_to-complete : (k : ℕ) (w : Word) → is_shape w ≡ true → length w ≤ k → Memᴰ w (shapes_up_to k)
unfolding shapes_up_to
shapes_up_to-complete zero [] h f = absurd (false≢true h)
shapes_up_to-complete zero (l ∷ w) h f = absurd (omega arith)
shapes_up_to-complete (suc k) w h f = go (eqb (length w) (suc k)) refl (shapes_up_to-complete k w h)
  where
    go : (b : Bool) → eqb (length w) (suc k) ≡ b → (length w ≤ k → Memᴰ w (shapes_up_to k)) → Memᴰ w (shapes_up_to k ++ shapes (suc k))
    go true q g = mathlib.Core.List.Memᴰ.append_right (shapes_up_to k) (subst (λ (i : ℕ). Memᴰ w (shapes i)) (eqb-true (length w) (suc k) q) (shapes-complete w h))
    go false q g = mathlib.Core.List.Memᴰ.append_left (shapes (suc k)) (g (omega (arith, eqb-false (length w) (suc k) q)))

-- in the order asked for
shapes_up_to-increasing : (k : ℕ) → Increasing precedes (shapes_up_to k)
unfolding shapes_up_to
shapes_up_to-increasing zero = tt
shapes_up_to-increasing (suc k) =
    increasing-append (shapes_up_to k) (shapes (suc k)) (λ u v g h. omega (arith, (shapes_up_to-sound k u g).1, (shapes-sound (suc k) v h).1)) (shapes_up_to-increasing k)
    (increasing-precedes (suc k) (shapes (suc k)) (λ v m. (shapes-sound (suc k) v m).1) (shapes-increasing (suc k)))

-- exactly once
shapes_up_to-distinct : (k : ℕ) → Distinct (shapes_up_to k)
shapes_up_to-distinct k = distinct-increasing precedes precedes-itself (shapes_up_to k) (shapes_up_to-increasing k)

-- a Setup alone makes no request
shape-least : (w : Word) → is_shape w ≡ true → min_shape ≤ length w
shape-least [] h = absurd (false≢true h)
shape-least (l ∷ k ∷ w) h = omega arith
shape-least (D ∷ []) h = absurd (false≢true h)
shape-least (E ∷ []) h = absurd (false≢true h)
shape-least (N ∷ []) h = absurd (false≢true h)
shape-least (T ∷ []) h = absurd (false≢true h)
shape-least (d ∷ []) h = absurd (false≢true h)
shape-least (e ∷ []) h = absurd (false≢true h)
shape-least (n ∷ []) h = absurd (false≢true h)
shape-least (s ∷ []) h = absurd (false≢true h)
shape-least (t ∷ []) h = absurd (false≢true h)

-- ---- The whole, for any length

pub shapes_up_to-lists : (m : ℕ) → Lists m (shapes_up_to m)
shapes_up_to-lists m = record {
  sorted = shapes_up_to-increasing m;
  distinct = shapes_up_to-distinct m;
  sound = λ w h. ((shapes_up_to-sound m w h).0, shape-least w (shapes_up_to-sound m w h).0, (shapes_up_to-sound m w h).1);
  complete = shapes_up_to-complete m;
}
