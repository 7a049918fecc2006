-- `event_header::pipe_address` meets its contract: the low bit comes before the seven others. Assumes nothing.
use Rattle.std.proofs.Common.{◌≡◌, ◌∙◌, ℕ, ◌+◌, ◌*◌, ◌/◌, ◌%◌, ◌^◌, ◌<◌, w8, arith}
use Rattle.std.specs.Int.{rotate_right}
use Rattle.std.proofs.lemmas.Nat.{or_comm, or_shifted}
use Rattle.event_header.proofs.pipe_address.Goals as goal

rotated : (n : ℕ) → n < 2 ^ 8 → rotate_right w8 n 1 ≡ n / 2 + 128 * (n % 2)
rotated n h =
    let high : n * 2 ^ 7 % 2 ^ 8 ≡ n % 2 * 2 ^ 7 = omega arith in
    rw (high, or_comm (n / 2) (n % 2 * 2 ^ 7), or_shifted (n % 2) 7 (n / 2) (omega arith)) (omega arith)

pub returns : goal.returns
returns c = c.rotate_right.ensures ∙ rotated _ (omega arith)
