-- Each dword's bytes stand where `bytes_of` has them.
use mathlib.Core.Path.{◌≡◌}
use borrow.Author.Rules.{rules}
use Rattle.buffers.specs.LittleEndian.{le_bytes}
use Rattle.raw_trb_encoder.proofs.bytes_of.Goals as goal

pub returns : goal.returns
returns c =
    let d = c.args.d in
    let first : c.copy_from_slice.new.self ≡ le_bytes 4 d.d0 = search rules in
    let second : c.copy_from_slice-2.new.self ≡ le_bytes 4 d.d1 = search rules in
    let third : c.copy_from_slice-3.new.self ≡ le_bytes 4 d.d2 = search rules in
    let fourth : c.copy_from_slice-4.new.self ≡ le_bytes 4 d.d3 = search rules in
    rw (fourth, third, second, first)
