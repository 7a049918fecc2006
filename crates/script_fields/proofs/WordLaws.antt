-- Laws of words. Assumes nothing.
use Prim.Native.Nat.{ℕ, ◌+◌, ◌≤◌}
use mathlib.Core.Path.{◌≡◌, refl, ap, ◌∙◌}
use mathlib.Core.Bool.{Bool, true, false, cond, not}
use mathlib.Core.List.{List, [], ◌∷◌}
use native.Mathlib.Omega.{arith}
use lib.Dec.{eqb}
use lib.ListN.{length, take, drop}
use Rattle.std.specs.List.{prefix_len, take_while}
use Rattle.std.proofs.lemmas.List.Folds.{length-prefix_len}
use Rattle.script_fields.specs.Words.{space, first_word, words_behind}

length-cond : (b : Bool) (xs ys : List ℕ) {n : ℕ} → length xs ≤ n → length ys ≤ n → length (cond b xs ys) ≤ n
length-cond true xs ys h k = h
length-cond false xs ys h k = k

pub length-first_word : (l : List ℕ) → length (first_word l) ≤ length l
unfolding first_word
length-first_word [] = omega arith
length-first_word (c ∷ cs) = length-cond (eqb c space) [] (c ∷ first_word cs) (omega arith) (omega (arith, length-first_word cs))

-- behind the first word, a space or nothing follows
module _ (c : ℕ) (cs : List ℕ) where
  take-word : (b : Bool) → take (length (first_word cs)) cs ≡ first_word cs
      → take (length (cond b [] (c ∷ first_word cs))) (c ∷ cs) ≡ cond b [] (c ∷ first_word cs)
  take-word true h = refl
  take-word false h = ap (λ (l : List ℕ). c ∷ l) h

  words-of-rest : (b : Bool) → eqb c space ≡ b → words_behind (drop (length (first_word cs)) cs) ≡ words_behind cs
      → words_behind (drop (length (cond b [] (c ∷ first_word cs))) (c ∷ cs)) ≡ cond b (first_word cs ∷ words_behind cs) (words_behind cs)
  unfolding words_behind
  words-of-rest true e h = rw e
  words-of-rest false e h = h

  word-of-rest : (b : Bool) → eqb c space ≡ b → first_word (drop (length (first_word cs)) cs) ≡ []
      → first_word (drop (length (cond b [] (c ∷ first_word cs))) (c ∷ cs)) ≡ []
  unfolding first_word
  word-of-rest true e h = rw e
  word-of-rest false e h = h

pub take-first_word : (l : List ℕ) → take (length (first_word l)) l ≡ first_word l
unfolding first_word
take-first_word [] = refl
take-first_word (c ∷ cs) = take-word c cs (eqb c space) (take-first_word cs)

pub words_behind-rest : (l : List ℕ) → words_behind (drop (length (first_word l)) l) ≡ words_behind l
unfolding first_word words_behind
words_behind-rest [] = refl
words_behind-rest (c ∷ cs) = words-of-rest c cs (eqb c space) refl (words_behind-rest cs)

pub first_word-rest : (l : List ℕ) → first_word (drop (length (first_word l)) l) ≡ []
unfolding first_word
first_word-rest [] = refl
first_word-rest (c ∷ cs) = word-of-rest c cs (eqb c space) refl (first_word-rest cs)

-- the first word is what passes from the front on
module _ (p : ℕ → Bool) (c : ℕ) (cs : List ℕ) where
  prefix-more : (b : Bool) → prefix_len p cs ≡ length (first_word cs) → cond (not b) (1 + prefix_len p cs) 0 ≡ length (cond b [] (c ∷ first_word cs))
  prefix-more true h = refl
  prefix-more false h = omega arith

prefix-word : (l : List ℕ) → prefix_len (λ c. not (eqb c space)) l ≡ length (first_word l)
unfolding first_word
prefix-word [] = refl
prefix-word (c ∷ cs) = prefix-more (λ c. not (eqb c space)) c cs (eqb c space) (prefix-word cs)

pub length-take_while : (l : List ℕ) → length (take_while (λ c. not (eqb c space)) l) ≡ length (first_word l)
length-take_while l = length-prefix_len (λ c. not (eqb c space)) l ∙ prefix-word l
