-- What is found of the TRBs held: of one more, and of as many as fit a block. Assumes nothing.
use Prim.Native.Nat.{◌+◌, ◌≤◌, min}
use mathlib.Core.Path.{◌≡◌, refl}
use mathlib.Core.Bool.{Bool, true, false, ◌&&◌, cond}
use mathlib.Core.List.{List, [], ◌∷◌, ◌++◌}
use native.Mathlib.Omega.{arith}
use lib.ListN.{length}
use Rattle.trb.specs.Limits.{max_held}
use Rattle.trb.specs.declared.TransferTrb.{TransferTrb}
use Rattle.held.specs.Sound.{sound_trb}
use Rattle.held.specs.declared.EndpointKind.TheVariants.{In}
use Rattle.walks.specs.All.{all}
use Rattle.walks.proofs.AllLaws.{all-more}
use Rattle.in_td.specs.Td.{is_normal, normal_count, normals}
use Rattle.in_block.specs.Facts.{trb_test, held_test}
use Rattle.in_block.specs.declared.HeldTest.{HeldTest}

-- ---- One TRB more

normals-more : (ts : List TransferTrb) (t : TransferTrb) → normals (ts ++ (t ∷ [])) ≡ normals ts + normal_count t.variant
normals-more [] t = omega arith
normals-more (x ∷ xs) t = omega (arith, normals-more xs t)

pub held_test-none : ◌≡◌ {A = HeldTest} (record { sound = true; normals = 0 }) (held_test [])
unfolding all
held_test-none = refl

pub held_test-more : (ts : List TransferTrb) (t : TransferTrb) → held_test (ts ++ (t ∷ [])) ≡ trb_test (held_test ts) t
unfolding sound_trb
held_test-more ts t =
    let sound : all (sound_trb In) (ts ++ (t ∷ [])) ≡ (all (sound_trb In) ts && sound_trb In t) = all-more (sound_trb In) ts t in
    let counted : min (normals (ts ++ (t ∷ []))) max_held ≡ min (min (normals ts) max_held + normal_count t.variant) max_held = omega (arith, normals-more ts t) in
    λ j. record { sound = sound j; normals = counted j }

-- of a list that fits a block every Normal is counted
pub normals-length : (ts : List TransferTrb) → normals ts ≤ length ts
normals-length [] = omega arith
normals-length (t ∷ ts) = omega (arith, at_most_one (is_normal t.variant), normals-length ts)
  where
    at_most_one : (b : Bool) → cond b 1 0 ≤ 1
    at_most_one true = omega arith
    at_most_one false = omega arith

pub all-counted : (ts : List TransferTrb) → length ts ≤ max_held → (held_test ts).normals ≡ normals ts
all-counted ts few = omega (arith, normals-length ts)
