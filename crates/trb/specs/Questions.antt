-- 01, Questions asked, in this order. Assumes nothing.
use Rattle.std.specs.Prelude.{ℕ, Bool, not, cond, ◌||◌, List, [], ◌∷◌, eqb}

-- each question with its number: the number of the first that is answered no, 0 where every answer is yes
unfoldable pub first_no : List (Bool × ℕ) → ℕ
first_no [] = 0
first_no (q ∷ qs) = cond q.0 (first_no qs) q.1

-- a no ends the call with its number; every other call is accepted
abbrev pub after_questions : {A : Type 0} → List (Bool × ℕ) → (ℕ → A) → A → A
after_questions qs refused accepted = cond (eqb (first_no qs) 0) accepted (refused (first_no qs))

-- a question that is asked only if this is so
abbrev pub asked_if : Bool → Bool → Bool
asked_if so answer = not so || answer

-- is a device result given exactly when the block awaits one?
abbrev pub agree : Bool → Bool → Bool
agree given awaited = cond given awaited (not awaited)
