-- Laws of fields: what the loop over a line meets. Assumes nothing.
use Prim.Native.Nat.{ℕ, zero, suc, ◌+◌, ◌<◌, ◌≤◌}
use mathlib.Core.Path.{◌≡◌, refl, ◌∙◌}
use mathlib.Core.Bool.{Bool, true, false, ◌&&◌}
use mathlib.Core.List.{List, [], ◌∷◌}
use native.Mathlib.Omega.{arith}
use lib.Dec.{eqb, leb}
use lib.ListN.{length, take, drop, get_or}
use lib.Seq.{get_or-take}
use borrow.Author.Tests.{eq-eqb, ne_eqb, lt-ltb, le-ltb, leb-true}
use Rattle.std.specs.Prelude.{Option, Some, None}
use Rattle.std.specs.List.{list_all, zip}
use Rattle.call_number.specs.Numbers.{number_of}
use Rattle.script_fields.specs.declared.Fields.{Fields}
use Rattle.script_fields.specs.Words.{space, first_word, words_behind}
use Rattle.script_fields.specs.Fields.{max_numbers, with_number, then_number, with_words, behind_letter, fields_of, all_at_most, within_limits, AtMost}
use Rattle.script_fields.proofs.WordLaws.{words_behind-rest, first_word-rest}

-- at the end of the line
pub behind_letter-end : (f : Fields) (l : List ℕ) → length l ≡ 0 → behind_letter f l ≡ Some f
unfolding behind_letter first_word words_behind with_words
behind_letter-end f [] h = refl
behind_letter-end f (c ∷ cs) h = absurd (omega arith)

pub fields_of-empty : (l : List ℕ) → length l ≡ 0 → fields_of l ≡ None
unfolding fields_of
fields_of-empty [] h = refl
fields_of-empty (c ∷ cs) h = absurd (omega arith)

then_number-full : (f : Fields) (o : Option ℕ) (g : Fields → Option Fields) → max_numbers ≤ f.count → then_number f o g ≡ None
then_number-full f None g h = refl
then_number-full f (Some n) g h = rw (le-ltb f.count max_numbers h)

module _ (f : Fields) (c : ℕ) (cs : List ℕ) where
  -- something else than a space
  pub behind_letter-none : (c ≡ space → ⊥) → behind_letter f (c ∷ cs) ≡ None
  unfolding behind_letter first_word
  behind_letter-none k = rw (ne_eqb c space k, ne_eqb (suc (length (first_word cs))) 0 (λ e. omega arith))

  behind_letter-space : c ≡ space → behind_letter f (c ∷ cs) ≡ with_words f (first_word cs ∷ words_behind cs)
  unfolding behind_letter first_word words_behind
  behind_letter-space k = rw (eq-eqb c space k)

  -- a field too many
  pub behind_letter-full : c ≡ space → max_numbers ≤ f.count → behind_letter f (c ∷ cs) ≡ None
  unfolding with_words
  behind_letter-full k h = behind_letter-space k ∙ then_number-full f (number_of (first_word cs)) (λ g. with_words g (words_behind cs)) h

  -- a field that is no numeral
  pub behind_letter-bad : c ≡ space → number_of (first_word cs) ≡ None → behind_letter f (c ∷ cs) ≡ None
  unfolding with_words
  behind_letter-bad k e = behind_letter-space k ∙ rw e

  -- a number; the line goes on at the next space
  pub behind_letter-number : (v : ℕ) → c ≡ space → number_of (first_word cs) ≡ Some v → f.count < max_numbers
      → behind_letter f (c ∷ cs) ≡ behind_letter (with_number f v) (drop (length (first_word cs)) cs)
  unfolding with_words behind_letter
  behind_letter-number v k e room = behind_letter-space k ∙ rw (e, lt-ltb f.count max_numbers room, first_word-rest cs, words_behind-rest cs)

-- ---- Limits

-- where each limit has its number
pub all_at_most-zip : (ns ms : List ℕ) → length ms ≤ length ns → list_all (λ p. leb p.0 p.1) (zip ns ms) ≡ all_at_most ns ms
unfolding all_at_most
all_at_most-zip [] [] h = refl
all_at_most-zip [] (m ∷ ms) h = absurd (omega arith)
all_at_most-zip (n ∷ ns) [] h = refl
all_at_most-zip (n ∷ ns) (m ∷ ms) h = rw (all_at_most-zip ns ms (omega arith))

and-true : (a b : Bool) → a && b ≡ true → (a ≡ true) × (b ≡ true)
and-true true b h = (refl, h)
and-true false b h = (h, absurd (let z : ◌≡◌ {A = ℕ} 0 1 = cc in omega arith))

all_at_most-at : (ns ms : List ℕ) (i : ℕ) → all_at_most ns ms ≡ true → i < length ms → get_or ns i 0 ≤ get_or ms i 0
unfolding all_at_most
all_at_most-at ns [] i h k = absurd (omega arith)
all_at_most-at [] (m ∷ ms) i h k = absurd (let z : ◌≡◌ {A = ℕ} 0 1 = cc in omega arith)
all_at_most-at (n ∷ ns) (m ∷ ms) zero h k = leb-true n m (and-true (leb n m) (all_at_most ns ms) h).0
all_at_most-at (n ∷ ns) (m ∷ ms) (suc i) h k = all_at_most-at ns ms i (and-true (leb n m) (all_at_most ns ms) h).1 (omega arith)

-- a number that has a limit is at most that
pub within_limits-at : (limits : List ℕ) (f : Fields) (i : ℕ) → within_limits limits f ≡ true → i < length limits → get_or f.numbers i 0 ≤ get_or limits i 0
unfolding within_limits
within_limits-at limits f i h k = all_at_most-at f.numbers limits i (and-true (eqb f.count (length limits)) (all_at_most f.numbers limits) h).1 k

at-most : (ms : List ℕ) (f : Fields) (n k : ℕ) → k + length ms ≤ n → ((i j : ℕ) → j ≡ k + i → i < length ms → get_or f.numbers j 0 ≤ get_or ms i 0)
    → AtMost (take n f.numbers) f k ms
at-most [] f n k h each = tt
at-most (m ∷ ms) f n k h each = (
  get_or-take n f.numbers k 0 (omega (arith, h)),
  each 0 k (omega arith) (omega arith),
  at-most ms f n (k + 1) (omega (arith, h)) (λ i j e l. each (suc i) j (omega (arith, e)) (omega (arith, l))),
)

-- the numbers of a line that is within its limits
pub within-at-most : (limits : List ℕ) (f : Fields) (n : ℕ) → within_limits limits f ≡ true → length limits ≡ n → AtMost (take n f.numbers) f 0 limits
within-at-most limits f n w size =
    at-most limits f n 0 (omega (arith, size)) (λ i j e l. let same : j ≡ i = omega (arith, e) in rw same (within_limits-at limits f i w l))
