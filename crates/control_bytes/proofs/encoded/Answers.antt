-- Each field's bytes stand where `head_bytes` has them.
use mathlib.Core.Path.{◌≡◌, ◌∙◌}
use native.Mathlib.Omega.{arith}
use borrow.Author.Rules.{rules}
use Rattle.buffers.specs.LittleEndian.{le_bytes}
use Rattle.control_bytes.specs.Head.{state_address, direction_number}
use Rattle.control_bytes.proofs.HeadLaws.{direction-byte}
use Rattle.control_bytes.proofs.encoded.Goals as goal

pub returns-clause-cells : goal.returns-clause-cells
returns-clause-cells c =
    let s = c.args in
    let w = s.transfer in
    let state-address : c.copy_from_slice.new.self ≡ le_bytes 8 (state_address s.state) = rw (← c.state_address.ensures) (search rules) in
    let address : c.copy_from_slice-2.new.self ≡ le_bytes 8 w.request.address = search rules in
    let value : c.copy_from_slice-3.new.self ≡ le_bytes 2 w.request.value = search rules in
    let index : c.copy_from_slice-4.new.self ≡ le_bytes 2 w.request.index = search rules in
    let collected : c.copy_from_slice-5.new.self ≡ le_bytes 8 w.collected = search rules in
    let request-length : c.copy_from_slice-6.new.self ≡ le_bytes 4 w.request.length = search rules in
    let held : c.copy_from_slice-7.new.self ≡ le_bytes 4 s.held = search rules in
    let direction : c.from.result ≡ direction_number s.transfer.direction = c.from.ensures ∙ direction-byte s.transfer.direction in
    rw (held, request-length, collected, index, value, address, state-address, c.state_number.ensures, c.phase_number.ensures, direction)

pub returns-clause-address : goal.returns-clause-address
returns-clause-address c = omega (arith, c.state_address.ensures)
