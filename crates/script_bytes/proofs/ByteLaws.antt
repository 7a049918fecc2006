-- Laws of filling a buffer by a rule, and of the weighted sum. Assumes nothing.
use Rattle.std.proofs.Common.{◌≡◌, ℕ, zero, suc, ◌+◌, ◌*◌, ◌%◌, ◌^◌, ◌<◌, ◌≤◌, List, length, get_or, drop, set, sym, refl, ap, ◌∙◌, lt_of_le_of_lt, mul-le-mul, add-one, arith, lit<, length-set, drop-cons, get_or-set_other, get_or-set_same, ext_get_or, below_more}
use native.Mathlib.Nat.{add-mul-mod_self_left}
use Rattle.script_bytes.specs.Bytes.{first_of, weighted_sum}

-- of a loop that fills the buffer l₀ by a rule, and has come to index k of the buffer l: the bytes below k follow the rule
pub record Filled (rule : ℕ → ℕ) (l₀ l : List ℕ) (k : ℕ) : Type 0 where
  pub within : k ≤ length l
  pub long : length l ≡ length l₀
  pub below : (j : ℕ) → j < k → get_or l j 0 ≡ rule j

pub filled_none : (rule : ℕ → ℕ) (l : List ℕ) → Filled rule l l 0
filled_none rule l = record { within = omega arith; long = refl; below = λ j h. absurd (omega (arith, h)) }

pub filled_more : {rule : ℕ → ℕ} {l₀ l : List ℕ} {k : ℕ} (v : ℕ) → Filled rule l₀ l k → k < length l → v ≡ rule k → Filled rule l₀ (set l k v) (k + 1)
filled_more {rule} {l = l} {k = k} v f h e = record {
  within = simp length-set (omega arith);
  long = simp length-set f.long;
  below = below_more (λ (j : ℕ). get_or (set l k v) j 0 ≡ rule j) k
      (λ j m. get_or-set_other l k j v 0 (λ same. omega (arith, same, m)) ∙ f.below j m)
      (get_or-set_same l k v 0 h ∙ e);
}

length-first_of : (rule : ℕ → ℕ) (n : ℕ) → length (first_of rule n) ≡ n
unfolding first_of
length-first_of rule zero = refl
length-first_of rule (suc n) = ap suc (length-first_of (λ (k : ℕ). rule (suc k)) n)

get_or-first_of : (rule : ℕ → ℕ) (n k : ℕ) → k < n → get_or (first_of rule n) k 0 ≡ rule k
unfolding first_of
get_or-first_of rule zero k h = absurd (omega arith)
get_or-first_of rule (suc n) zero h = refl
get_or-first_of rule (suc n) (suc k) h = get_or-first_of (λ (j : ℕ). rule (suc j)) n k (omega arith)

pub filled-all : {rule : ℕ → ℕ} {l₀ l : List ℕ} {k : ℕ} → Filled rule l₀ l k → length l ≤ k → l ≡ first_of rule (length l₀)
filled-all {rule} {l₀ = l₀} {l = l} f h =
    ext_get_or 0 l (first_of rule (length l₀)) (f.long ∙ sym (length-first_of rule (length l₀)))
    (λ (j : ℕ) m. f.below j (omega (arith, f.long)) ∙ sym (get_or-first_of rule (length l₀) j (omega (arith, f.long))))

-- whole multiples of 256 do not matter modulo 256
pub mod-multiple : (x y q : ℕ) → y ≡ x + 256 * q → x % 256 ≡ y % 256
mod-multiple x y q e = rw (e, add-mul-mod_self_left)

-- a weight of at most 65,536 times a byte fits 32 bits
pub weighted-fits : (w b : ℕ) → w ≤ 65536 → b < 256 → w * b < 2 ^ 32
weighted-fits w b h k = lt_of_le_of_lt (mul-le-mul {m₂ = 255} h (omega arith)) (lit< tt)

pub weighted_sum-next : (s k : ℕ) (l : List ℕ) → k < length l
    → weighted_sum s k (drop k l) ≡ weighted_sum ((s + (k + 1) * get_or l k 0) % 2 ^ 32) (k + 1) (drop (k + 1) l)
unfolding weighted_sum
weighted_sum-next s k l h = rw (drop-cons l k 0 h, ← add-one k)
