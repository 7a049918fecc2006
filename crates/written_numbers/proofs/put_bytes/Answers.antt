-- `written_numbers::put_bytes` meets its contract. The loop's invariant: the bytes from `byte-index` on remain to be written.
-- Assumes nothing.
use mathlib.Core.Path.{◌≡◌}
use mathlib.Core.List.{[]}
use native.Mathlib.Omega.{arith}
use lib.ListN.{drop, length-drop, drop_of_length-le}
use Rattle.numerals.specs.Digits.{bytes_hex}
use Rattle.numerals.proofs.DigitLaws.{length-bytes_hex, bytes_hex-next}
use Rattle.text.proofs.WroteLaws.{remaining-all, remaining-less, remaining-none}
use Rattle.written_numbers.proofs.put_bytes.Goals as goal

pub loop-byte-init : goal.loop-byte-init
loop-byte-init c = (remaining-all _ _ (omega (arith, length-bytes_hex c.args.bytes.now, c.requires)))

pub put_byte-requires : goal.put_byte-requires
put_byte-requires c =
    let bs = c.args.bytes.now in
    let rest = drop c.loop-byte.byte-index bs in
    omega (arith, c.loop-byte.invariant.end, c.loop-byte.invariant.size, c.loop-byte.invariant.room, length-bytes_hex rest, length-drop c.loop-byte.byte-index bs)

pub loop-byte-preserved : goal.loop-byte-preserved
loop-byte-preserved c =
    let bs = c.args.bytes.now in
    (remaining-less _ _ (rw (bytes_hex-next bs c.loop-byte.byte-index (omega arith)) at c.loop-byte.invariant) c.put_byte.ensures)

pub returns : goal.returns
unfolding bytes_hex
returns c =
    let bs = c.args.bytes.now in
    let none : drop c.loop-byte.byte-index bs ≡ [] = drop_of_length-le bs {i = c.loop-byte.byte-index} (omega arith) in
    remaining-none (omega (arith, length-bytes_hex bs)) (rw none at c.loop-byte.invariant)
