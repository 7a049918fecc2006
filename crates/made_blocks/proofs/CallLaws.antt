-- Laws of a call by its questions, and of one TRB more in the places. Assumes nothing.
use Prim.Native.Nat.{ℕ, zero, suc, ◌+◌, ◌≤◌}
use mathlib.Core.Path.{◌≡◌, refl}
use mathlib.Core.Bool.{Bool, true, cond}
use mathlib.Core.List.{List, [], ◌∷◌}
use native.Mathlib.Numerals.{add-one}
use native.Mathlib.Omega.{arith}
use lib.Dec.{eqb}
use borrow.Author.Tests.{ne_eqb}
use lib.ListN.{take, set}
use Rattle.trb.specs.Questions.{first_no, after_questions}
use Rattle.trb.specs.Trbs.{transfer_length}
use Rattle.trb.specs.declared.TransferTrb.{TransferTrb}
use Rattle.trb.proofs.TestLaws.{and_left, and_right}
use Rattle.walks.specs.All.{all}
use Rattle.made_blocks.specs.Held.{lengths}

-- what holds after every no, and where every answer is yes, holds of the call
pub by-questions : {A : Type 0} (P : A → Type 0) (qs : List (Bool × ℕ)) (refused : ℕ → A) (accepted : A)
    → ((n : ℕ) → P (refused n)) → (first_no qs ≡ 0 → P accepted) → P (after_questions qs refused accepted)
by-questions P qs refused accepted after-no after-yes = by (first_no qs) refl
  where
    by : (n : ℕ) → first_no qs ≡ n → P (cond (eqb n 0) accepted (refused n))
    by zero none = after-yes none
    by (suc n) first = rw (ne_eqb (suc n) 0 (λ z. omega arith)) (after-no (suc n))

-- ---- The places xs, of which the first n are held, with one TRB more

all_set : (ok : TransferTrb → Bool) (xs : List TransferTrb) (n : ℕ) (t : TransferTrb) → all ok (take n xs) ≡ true → ok t ≡ true
    → all ok (take (suc n) (set xs n t)) ≡ true
unfolding all
all_set ok [] n t h own = refl
all_set ok (x ∷ xs) zero t h own = rw own
all_set ok (x ∷ xs) (suc n) t h own =
    rw (and_left (ok x) (all ok (take n xs)) h) (all_set ok xs n t (and_right (ok x) (all ok (take n xs)) h) own)

lengths-set : (xs : List TransferTrb) (n : ℕ) (t : TransferTrb) → lengths (take (suc n) (set xs n t)) ≤ lengths (take n xs) + transfer_length t.variant
lengths-set [] n t = omega arith
lengths-set (x ∷ xs) zero t = omega arith
lengths-set (x ∷ xs) (suc n) t = omega (arith, lengths-set xs n t)

pub all-stored : (ok : TransferTrb → Bool) (xs : List TransferTrb) (n : ℕ) (t : TransferTrb) → all ok (take n xs) ≡ true → ok t ≡ true
    → all ok (take (n + 1) (set xs n t)) ≡ true
all-stored ok xs n t h own = rw add-one (all_set ok xs n t h own)

pub lengths-stored : (xs : List TransferTrb) (n : ℕ) (t : TransferTrb) → lengths (take (n + 1) (set xs n t)) ≤ lengths (take n xs) + transfer_length t.variant
lengths-stored xs n t = rw add-one (lengths-set xs n t)
