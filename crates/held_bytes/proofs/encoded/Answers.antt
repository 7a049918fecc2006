-- Each field's bytes stand where `place_bytes` has them.
use mathlib.Core.Path.{◌≡◌}
use borrow.Author.Rules.{rules}
use Rattle.buffers.specs.LittleEndian.{le_bytes}
use Rattle.held_bytes.proofs.encoded.Goals as goal

pub returns : goal.returns
returns c =
    let n = c.args.numbers in
    let addr : c.copy_from_slice.new.self ≡ le_bytes 8 n.addr = search rules in
    let value : c.copy_from_slice-2.new.self ≡ le_bytes 8 n.value = search rules in
    let size : c.copy_from_slice-3.new.self ≡ le_bytes 4 n.transfer_length = search rules in
    rw (size, value, addr)
