-- The bytes that a call script leaves unsaid, and the sum that stands for the bytes collected. Assumes nothing.
use Rattle.std.specs.Prelude.{ℕ, zero, suc, ◌+◌, ◌*◌, ◌%◌, ◌^◌, List, [], ◌∷◌}

-- the byte at guest address base + k: that at address a is (7a + 13) mod 256
unfoldable pub guest_byte : ℕ → ℕ → ℕ
guest_byte base k = (7 * (base + k) + 13) % 256

-- byte k of the device's data
unfoldable pub device_byte : ℕ → ℕ
device_byte k = (11 * k + 5) % 256

-- the first n values of a rule
unfoldable pub first_of : (ℕ → ℕ) → ℕ → List ℕ
first_of rule zero = []
first_of rule (suc n) = rule 0 ∷ first_of (λ (k : ℕ). rule (suc k)) n

-- n bytes of guest memory from base on, and the first n bytes of the device's data
abbrev pub guest_bytes : ℕ → ℕ → List ℕ
guest_bytes base n = first_of (guest_byte base) n

abbrev pub device_bytes : ℕ → List ℕ
device_bytes n = first_of device_byte n

-- the sum over the bytes of (k + 1) times byte k, modulo 2^32, where s is the sum over the first k bytes and the rest follow
unfoldable pub weighted_sum : ℕ → ℕ → List ℕ → ℕ
weighted_sum s k [] = s
weighted_sum s k (b ∷ bs) = weighted_sum ((s + (k + 1) * b) % 2 ^ 32) (k + 1) bs
