-- A lent buffer with bytes laid over it: what every contract says of a log, a collect buffer and guest memory. Assumes nothing.
use Rattle.std.specs.Prelude.{ℕ, ◌+◌, List, ◌++◌, length, take, drop}

-- the buffer l with the bytes vs in place of those from index at on
unfoldable pub patch : List ℕ → ℕ → List ℕ → List ℕ
patch l at vs = take at l ++ vs ++ drop (at + length vs) l
