-- Laws of bytes laid over a buffer: the parts before and behind them. Assumes nothing.
use Prim.Native.Nat.{ℕ, zero, suc, ◌+◌, ◌-◌, ◌≤◌}
use mathlib.Core.Path.{◌≡◌, refl, sym, ap, ◌∙◌}
use mathlib.Core.List.{List, [], ◌∷◌, ◌++◌, append_assoc}
use native.Mathlib.Nat.{not-suc-le-zero}
use native.Mathlib.Omega.{arith}
use lib.ListN.{length, take, drop, length-drop}
use lib.Seq.{take-take, drop-drop, length-take-le, take-append-le, drop-append-le, drop-append-add}
use Rattle.buffers.specs.Patch.{patch}
use Rattle.buffers.proofs.PatchLaws.{drop-patch}

pub take-drop-take : (n k m : ℕ) (l : List ℕ) → k + n ≤ m → take n (drop k (take m l)) ≡ take n (drop k l)
take-drop-take n zero m l h = take-take n m l (omega arith)
take-drop-take n (suc k) zero l h = absurd (not-suc-le-zero {n = k + n} (omega arith))
take-drop-take n (suc k) (suc m) [] h = refl
take-drop-take n (suc k) (suc m) (x ∷ l) h = take-drop-take n k m l (omega arith)

module _ (l : List ℕ) (at : ℕ) (vs : List ℕ) (fits : at + length vs ≤ length l) where
  pub take-drop-before : (n k : ℕ) → k + n ≤ at → take n (drop k (patch l at vs)) ≡ take n (drop k l)
  unfolding patch
  take-drop-before n k h =
      let rest : List ℕ = vs ++ drop (at + length vs) l in
      let front : length (take at l) ≡ at = length-take-le at l (omega arith) in
      let long : length (drop k (take at l)) ≡ at - k = omega (arith, length-drop k (take at l)) in
      rw (append_assoc (take at l) vs (drop (at + length vs) l), drop-append-le k (take at l) rest (omega arith), take-append-le n (drop k (take at l)) rest (omega arith))
      (take-drop-take n k at l h)

  pub drop-behind : (k : ℕ) → at + length vs ≤ k → drop k (patch l at vs) ≡ drop k l
  drop-behind k h =
      let j : ℕ = k - (at + length vs) in
      let e : at + (length vs + j) ≡ k = omega arith in
      let f : at + length vs + j ≡ k = omega arith in
      ap (λ (m : ℕ). drop m (patch l at vs)) (sym e) ∙ sym (drop-drop (length vs + j) at (patch l at vs))
      ∙ ap (drop (length vs + j)) (drop-patch l at vs (omega arith)) ∙ drop-append-add vs (drop (at + length vs) l) j
      ∙ drop-drop j (at + length vs) l ∙ ap (λ (m : ℕ). drop m l) f
