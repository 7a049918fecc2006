-- `log_text::put_line` meets its contract: the fields, the bytes 24 to 31 and the line feed stand one behind the other. Assumes nothing.
use Prim.Native.Nat.{◌*◌, ◌≤◌}
use native.Mathlib.Omega.{arith}
use lib.ListN.{length, take, drop, length-take}
use Rattle.log_text.specs.Lines.{line_of}
use Rattle.text.proofs.WroteLaws.{wrote-append, wrote-within}
use Rattle.log_text.proofs.put_line.Goals as goal

pub returns : goal.returns
unfolding line_of
returns c =
    let bytes : 2 * length (take 8 (drop 24 c.args.cells.now)) ≤ 2 * 8 = omega (arith, length-take 8 (drop 24 c.args.cells.now)) in
    wrote-append
    (wrote-append (rw c.decoded.ensures at c.put_fields.ensures)
    (wrote-within bytes c.put_bytes.ensures))
    c.put_char.ensures
