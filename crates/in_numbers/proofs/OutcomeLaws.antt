-- What becomes of a TRB by its kind and chain bit. Assumes nothing.
use Prim.Native.Nat.{ℕ, ◌+◌, min}
use mathlib.Core.Path.{◌≡◌, ap}
use mathlib.Core.Bool.{Bool, false, cond}
use native.Mathlib.Omega.{arith}
use lib.Dec.{eqb}
use borrow.Author.Tests.{ne_eqb}
use Rattle.trb.specs.Limits.{max_held}
use Rattle.trb.specs.declared.TransferTrbVariant.TheVariants.{Normal}
use Rattle.in_block.specs.Outcomes.{outcome_of}
use Rattle.in_block.specs.declared.HeldTest.{HeldTest}
use Rattle.in_block.specs.declared.Outcome.{Outcome}
use Rattle.in_block.specs.declared.Outcome.TheVariants.{Collect, CompleteLocally, Request}
use Rattle.held_bytes.specs.Numbers.{chain_on, normal_of}

-- by how many Normals a TD has, where its last TRB is given
abbrev ends : Bool → ℕ → Outcome
ends chain n = cond chain Collect (cond (eqb n 0) CompleteLocally Request)

more-than-none : (n : ℕ) → eqb (min (n + 1) max_held) 0 ≡ false
more-than-none n = ne_eqb (min (n + 1) max_held) 0 (λ z. omega (arith, z))

module _ (found : HeldTest) (flags value len addr : ℕ) (cycle : Bool) where
  pub outcome-normal : outcome_of found (record { variant = Normal (normal_of flags value len); addr = addr; cycle_bit = cycle }) ≡ ends (chain_on flags) 1
  unfolding outcome_of
  outcome-normal = ap (λ (b : Bool). cond (chain_on flags) Collect (cond b CompleteLocally Request)) (more-than-none found.normals)
