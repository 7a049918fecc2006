-- The bytes that `to_le_bytes` gives are the definition's. Assumes nothing.
use Rattle.std.proofs.Common.{◌≡◌, ℕ, arith, w16, w32, w64}
use Rattle.std.specs.Int.{to_le_bytes}
use Rattle.buffers.specs.LittleEndian.{le_bytes}

pub le_bytes_2 : (n : ℕ) → to_le_bytes w16 n ≡ le_bytes 2 n
le_bytes_2 n = grind arith

pub le_bytes_4 : (n : ℕ) → to_le_bytes w32 n ≡ le_bytes 4 n
le_bytes_4 n = grind arith

pub le_bytes_8 : (n : ℕ) → to_le_bytes w64 n ≡ le_bytes 8 n
le_bytes_8 n = grind arith
