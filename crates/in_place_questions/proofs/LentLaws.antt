-- The log that counts. Assumes nothing.
use Prim.Native.Nat.{ℕ, ◌<◌, ◌≤◌}
use mathlib.Core.Path.{◌≡◌, ap}
use mathlib.Core.Bool.{Bool, cond}
use mathlib.Core.List.{List}
use lib.ListN.{length}
use borrow.Author.Tests.{le-leb, lt-leb}
use Rattle.in_bytes.specs.Layout.{block_length}
use Rattle.in_place_questions.specs.Lent.{lent_log}

module _ (l b : List ℕ) where
  pub lent-long : block_length ≤ length b → lent_log l b ≡ length l
  lent-long h = ap (λ (x : Bool). cond x (length l) 0) (le-leb block_length (length b) h)

  pub lent-short : length b < block_length → lent_log l b ≡ 0
  lent-short h = ap (λ (x : Bool). cond x (length l) 0) (lt-leb block_length (length b) h)
