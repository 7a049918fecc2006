-- Each number stands above the others before it, so that joining them by bits is adding them. Assumes nothing.
use Prim.Native.Nat.{ℕ, ◌+◌, ◌*◌, ◌%◌, ◌^◌, ◌<◌, ◌≤◌}
use mathlib.Core.Path.{◌≡◌}
use native.Mathlib.Omega.{arith}
use Rattle.std.specs.Int.Bits.{bit_or}
use Rattle.raw_trb.proofs.DwordLaws.{bit-small, byte-of-bit, or-above}
use Rattle.raw_trb_encoder.proofs.control.Goals as goal

joined : (c s h i m k d : ℕ) → c ≤ 1 → s ≤ 1 → h ≤ 1 → i ≤ 1 → m ≤ 1 → k < 64 → d ≤ 1
    → bit_or (bit_or (bit_or (bit_or (bit_or (bit_or c (s * 4 % 2 ^ 32)) (h * 16 % 2 ^ 32)) (i * 32 % 2 ^ 32)) (m * 64 % 2 ^ 32)) (k * 1024 % 2 ^ 32)) (d * 65536 % 2 ^ 32)
    ≡ c * 1 + s * 4 + h * 16 + i * 32 + m * 64 + k * 1024 + d * 65536
joined c s h i m k d hc hs hh hi hm hk hd =
    let above = or-above (2 ^ 32) in
    rw (
      above 2 s c (omega arith) (omega arith),
      above 4 h (c + s * 4) (omega arith) (omega arith),
      above 5 i (c + s * 4 + h * 16) (omega arith) (omega arith),
      above 6 m (c + s * 4 + h * 16 + i * 32) (omega arith) (omega arith),
      above 10 k (c + s * 4 + h * 16 + i * 32 + m * 64) (omega arith) (omega arith),
      above 16 d (c + s * 4 + h * 16 + i * 32 + m * 64 + k * 1024) (omega arith) (omega arith),
    ) (omega arith)

pub returns : goal.returns
returns c =
    let a = c.args in
    simp byte-of-bit
    (joined _ _ _ _ _ _ _ (bit-small a.cycle_bit) (bit-small a.interrupt_on_short) (bit-small a.chain) (bit-small a.interrupt_on_completion) (bit-small a.immediate_data) c.requires (bit-small a.direction))
