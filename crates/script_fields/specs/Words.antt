-- The words of a line: what stands between its spaces. Assumes nothing.
use Rattle.std.specs.Prelude.{ℕ, cond, List, [], ◌∷◌, eqb}

-- the character of a space
abbrev pub space : ℕ
space = 32

-- what stands before the first space
unfoldable pub first_word : List ℕ → List ℕ
first_word [] = []
first_word (c ∷ cs) = cond (eqb c space) [] (c ∷ first_word cs)

-- the words behind it, one behind each space
unfoldable pub words_behind : List ℕ → List (List ℕ)
words_behind [] = []
words_behind (c ∷ cs) = cond (eqb c space) (first_word cs ∷ words_behind cs) (words_behind cs)
