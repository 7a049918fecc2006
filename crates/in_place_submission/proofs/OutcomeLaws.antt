-- What of the TRBs held the outcome of a TRB depends on. Assumes nothing.
use Prim.Native.Nat.{ℕ, ◌+◌, min}
use mathlib.Core.Path.{◌≡◌, refl, sym, ap, ◌∙◌}
use mathlib.Core.Bool.{Bool, true, false, cond, not}
use mir.Val.{bool_byte}
use mathlib.Core.List.{List}
use native.Mathlib.Omega.{arith}
use lib.Dec.{eqb}
use lib.ListN.{take}
use borrow.Author.Tests.{eqb-true, eqb-false, ne_eqb}
use Rattle.trb.specs.Limits.{max_held}
use Rattle.trb.specs.Trbs.{chain_of}
use Rattle.trb.specs.declared.TransferTrb.{TransferTrb}
use Rattle.held.specs.Sound.{supported}
use Rattle.held.specs.declared.EndpointKind.TheVariants.{In}
use Rattle.in_td.specs.Td.{normal_count, normals}
use Rattle.in_block.specs.Facts.{held_test}
use Rattle.in_block.specs.Outcomes.{outcome_of}
use Rattle.in_block.specs.declared.HeldTest.{HeldTest}
use Rattle.in_block.specs.declared.Outcome.{Outcome}
use Rattle.in_block.specs.declared.Outcome.TheVariants.{Drop, Collect, CompleteLocally, Request}
use Rattle.in_bytes.specs.Layout.{places}
use Rattle.in_place_questions.proofs.FactLaws.{zero-least}

-- a sum is 0 where there is none
zero_more : (n m c : ℕ) → eqb n 0 ≡ eqb m 0 → eqb (min (n + c) max_held) 0 ≡ eqb (min (m + c) max_held) 0
zero_more n m c e = by_zero (eqb m 0) refl
  where
    by_zero : (b : Bool) → eqb m 0 ≡ b → eqb (min (n + c) max_held) 0 ≡ eqb (min (m + c) max_held) 0
    by_zero true k =
        let zm = eqb-true m 0 k in
        let zn = eqb-true n 0 (e ∙ k) in
        rw (zn, zm) refl
    by_zero false k =
        let nm = eqb-false m 0 k in
        let nn = eqb-false n 0 (e ∙ k) in
        ne_eqb (min (n + c) max_held) 0 (λ z. nn (omega arith)) ∙ sym (ne_eqb (min (m + c) max_held) 0 (λ z. nm (omega arith)))

-- the outcome of a TRB depends on whether there is a Normal, and that only where the TRB ends its TD
outcome-by : (kind chain x y : Bool) → (chain ≡ false → x ≡ y)
    → ◌≡◌ {A = Outcome} (cond kind (cond chain Collect (cond x CompleteLocally Request)) Drop) (cond kind (cond chain Collect (cond y CompleteLocally Request)) Drop)
outcome-by false chain x y e = refl
outcome-by true true x y e = refl
outcome-by true false x y e = ap (λ (b : Bool). cond b CompleteLocally Request) (e refl)

pub outcome-same : (f g : HeldTest) (t : TransferTrb) → (chain_of t.variant ≡ false → eqb f.normals 0 ≡ eqb g.normals 0) → outcome_of f t ≡ outcome_of g t
unfolding outcome_of
outcome-same f g t e =
    outcome-by (supported In t.variant) (chain_of t.variant) _ _ (λ off. zero_more f.normals g.normals (normal_count t.variant) (e off))

-- whether there is one, as a count
pub as-count : (some : Bool) → eqb (bool_byte some) 0 ≡ not some
as-count true = refl
as-count false = refl

-- the outcome behind the first n, once it was looked whether there is a Normal
pub outcome-seen : (b : List ℕ) (n k : ℕ) (s : Bool) (t : TransferTrb) → (chain_of t.variant ≡ false → eqb k 0 ≡ eqb (normals (take n (places b))) 0)
    → outcome_of (record { sound = s; normals = k }) t ≡ outcome_of (held_test (take n (places b))) t
outcome-seen b n k s t e =
    outcome-same (record { sound = s; normals = k }) (held_test (take n (places b))) t (λ off. e off ∙ sym (zero-least (normals (take n (places b)))))
