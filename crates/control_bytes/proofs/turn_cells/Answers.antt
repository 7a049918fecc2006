-- Each field's bytes stand where `turn_cells` has them.
use mathlib.Core.Path.{◌≡◌, ◌∙◌}
use native.Mathlib.Omega.{arith}
use borrow.Author.Rules.{rules}
use Rattle.buffers.specs.LittleEndian.{le_bytes}
use Rattle.control_bytes.specs.Head.{state_address, direction_number}
use Rattle.control_bytes.proofs.HeadLaws.{direction-byte}
use Rattle.control_bytes.proofs.turn_cells.Goals as goal

pub returns-clause-cells : goal.returns-clause-cells
returns-clause-cells c =
    let state-address : c.copy_from_slice.new.self ≡ le_bytes 8 (state_address c.args.state) = rw (← c.state_address.ensures) (search rules) in
    let direction : c.from.result ≡ direction_number c.args.direction = c.from.ensures ∙ direction-byte c.args.direction in
    rw (state-address, c.state_number.ensures, c.phase_number.ensures, direction)

pub returns-clause-address : goal.returns-clause-address
returns-clause-address c = omega (arith, c.state_address.ensures)
