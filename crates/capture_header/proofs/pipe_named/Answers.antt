-- `capture_header::pipe_named` meets its contract: the high bit of the address comes behind the seven others. Assumes nothing.
use Rattle.std.proofs.Common.{◌≡◌, ◌∙◌, ℕ, ◌+◌, ◌*◌, ◌/◌, ◌%◌, ◌^◌, ◌<◌, w8, arith, refl}
use Rattle.std.specs.Int.{rotate_left}
use Rattle.std.proofs.lemmas.Nat.{or_shifted}
use Rattle.capture_header.proofs.pipe_named.Goals as goal

rotated : (n : ℕ) → n < 2 ^ 8 → rotate_left w8 n 1 ≡ n % 128 * 2 + n / 128
rotated n h =
    let low : n * 2 ^ 1 % 2 ^ 8 ≡ n % 128 * 2 ^ 1 = omega arith in
    rw (low, or_shifted (n % 128) 1 (n / 2 ^ 7) (omega arith)) (omega arith)

pub returns : goal.returns
returns c =
    let id : c.rotate_left.result ≡ c.args.header.endpoint_address % 128 * 2 + c.args.header.endpoint_address / 128 = c.rotate_left.ensures ∙ rotated _ (omega arith) in
    rw (id, c.type_named.ensures) refl
