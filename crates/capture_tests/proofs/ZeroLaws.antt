-- Bytes that are all zero, from each byte by its index and back to the definition. Assumes nothing.
use Rattle.std.proofs.Common.{◌≡◌, ◌≢◌, ℕ, zero, suc, ◌<◌, Bool, true, false, List, [], ◌∷◌, length, get_or, eqb, refl, sym, arith, ne_eqb}
use Rattle.std.specs.Bool.{MatchBool}
use Rattle.std.specs.List.{AllWithin, HoldsAt}
use Rattle.capture_file.specs.Reading.{every}

all-zero : (l : List ℕ) → AllWithin (λ x. x ≡ 0) l 0 (length l) → every (eqb 0) l ≡ true
all-zero [] h = refl
all-zero (b ∷ bs) h =
    let first : b ≡ 0 = h 0 0 (omega arith) (omega arith) in
    rw first (all-zero bs (λ k d low high. h (suc k) d (omega arith) (omega arith)))

one-not : (l : List ℕ) (k : ℕ) → k < length l → get_or l k 0 ≢ 0 → every (eqb 0) l ≡ false
one-not [] k h n = absurd (omega arith)
one-not (b ∷ bs) zero h n = rw (ne_eqb 0 b (λ e. n (sym e)))
one-not (b ∷ bs) (suc k) h n = rw (one-not bs k (omega arith) n) (grind arith)

-- what the iterator's `all` says of them
pub zero-decided : (r : Bool) (l : List ℕ) → MatchBool r (AllWithin (λ x. x ≡ 0) l 0 (length l)) ((k : ℕ) × (k < length l) × HoldsAt (λ x. x ≢ 0) l k) → r ≡ every (eqb 0) l
zero-decided true l h = sym (all-zero l h)
zero-decided false l h = sym (one-not l h.0 h.1 (h.2 0))
