-- Each field's bytes stand where `encode` has them.
use mathlib.Core.Path.{◌≡◌}
use borrow.Author.Rules.{rules}
use Rattle.buffers.specs.LittleEndian.{le_bytes}
use Rattle.call_log.proofs.encoded.Goals as goal

pub returns : goal.returns
returns c =
    let r = c.args.record in
    let address : c.copy_from_slice.new.self ≡ le_bytes 8 r.address = search rules in
    let size : c.copy_from_slice-2.new.self ≡ le_bytes 4 r.length = search rules in
    let start : c.copy_from_slice-3.new.self ≡ le_bytes 4 r.start = search rules in
    let value : c.copy_from_slice-4.new.self ≡ le_bytes 2 r.value = search rules in
    let index : c.copy_from_slice-5.new.self ≡ le_bytes 2 r.index = search rules in
    rw (index, value, start, size, address)
