-- `held_bytes::flags_of` meets its contract: each flag stands above the others before it, so that joining them by bits is adding them. Assumes nothing.
use Prim.Native.Nat.{ℕ, ◌+◌, ◌*◌, ◌%◌, ◌^◌, ◌≤◌}
use mathlib.Core.Path.{◌≡◌}
use native.Mathlib.Omega.{arith}
use Rattle.std.specs.Int.Bits.{bit_or}
use Rattle.raw_trb.proofs.DwordLaws.{bit-small, byte-of-bit, or-above}
use Rattle.held_bytes.proofs.flags_of.Goals as goal

joined : (y c i s m d : ℕ) → y ≤ 1 → c ≤ 1 → i ≤ 1 → s ≤ 1 → m ≤ 1 → d ≤ 1
    → bit_or (bit_or (bit_or (bit_or (bit_or y (c * 2 % 2 ^ 8)) (i * 4 % 2 ^ 8)) (s * 8 % 2 ^ 8)) (m * 16 % 2 ^ 8)) (d * 32 % 2 ^ 8)
    ≡ y + 2 * c + 4 * i + 8 * s + 16 * m + 32 * d
joined y c i s m d hy hc hi hs hm hd =
    let above = or-above (2 ^ 8) in
    rw (
      above 1 c y (omega arith) (omega arith),
      above 2 i (y + c * 2) (omega arith) (omega arith),
      above 3 s (y + c * 2 + i * 4) (omega arith) (omega arith),
      above 4 m (y + c * 2 + i * 4 + s * 8) (omega arith) (omega arith),
      above 5 d (y + c * 2 + i * 4 + s * 8 + m * 16) (omega arith) (omega arith),
    ) (omega arith)

pub returns : goal.returns
returns c =
    let f = c.args.flags in
    simp byte-of-bit (joined _ _ _ _ _ _ (bit-small f.cycle) (bit-small f.chain) (bit-small f.interrupt_on_completion) (bit-small f.interrupt_on_short) (bit-small f.immediate_data) (bit-small f.direction))
