-- A table by numbers. Assumes nothing.
use Rattle.std.specs.Prelude.{ℕ, cond, List, [], ◌∷◌, eqb}

-- what stands in the first row of this number; where there is none, x
unfoldable pub row_of : {A : Type 0} → List (ℕ × A) → A → ℕ → A
row_of [] x n = x
row_of (row ∷ rows) x n = cond (eqb n row.0) row.1 (row_of rows x n)
