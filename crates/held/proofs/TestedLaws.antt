-- The places that are tested are those held. Assumes nothing.
use Prim.Native.Nat.{ℕ, ◌≤◌, min}
use mathlib.Core.Path.{◌≡◌, sym, ap, ◌∙◌}
use mathlib.Core.List.{List}
use native.Mathlib.Omega.{arith}
use lib.ListN.{length, take}
use Rattle.std.proofs.lemmas.List.{take_min}
use Rattle.trb.specs.Limits.{max_held}
use Rattle.trb.specs.declared.TransferTrb.{TransferTrb}

-- over the places xs of a block that says n are held, of which p are tested
module _ (xs : List TransferTrb) (n p : ℕ) (all-places : length xs ≡ max_held) (tested : p ≡ min n max_held) where
  pub places-few : p ≤ length xs
  places-few = omega (arith, all-places, tested)

  -- these are the TRBs held
  pub places-held : take p xs ≡ take n xs
  places-held = ap (λ (k : ℕ). take k xs) (tested ∙ ap (λ (k : ℕ). min n k) (sym all-places)) ∙ take_min n xs
