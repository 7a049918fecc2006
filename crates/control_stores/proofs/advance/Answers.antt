-- `control_stores::advance` meets its contract: the whole head of a transfer that begins, otherwise the parts that change. Assumes nothing.
use mathlib.Core.Path.{sym, ap, ◌∙◌}
use native.Mathlib.Omega.{arith}
use Rattle.held_bytes.specs.Numbers.{trb_of, setup_stage_of}
use Rattle.control_block.specs.declared.ControlTransfer.{ControlTransfer}
use Rattle.control_transfer.specs.declared.TrbData.{TrbData}
use Rattle.control_transfer.specs.Transfers.{begun, grown, transfer_after}
use Rattle.control_bytes.specs.Layout.{block_of}
use Rattle.control_bytes.specs.Stores.{turned, counting}
use Rattle.control_numbers.specs.Transfers.{size_taken}
use Rattle.control_numbers.proofs.TransferLaws.{counted-by, begun-by}
use Rattle.control_stores.proofs.StoreLaws.{progress-stored, headed-as}
use Rattle.control_stores.proofs.advance.Goals as goal

pub returns-then-begins : goal.returns-then-begins
returns-then-begins c =
    let a = c.args in
    let m = a.t.numbers in
    headed-as a.block.now c.begun-begun.result (transfer_after a.outcome (trb_of m).variant m.addr a.transfer) _ _ a.held _
    (c.begun-begun.ensures ∙ (λ j. begun (c.phase_after-phase.ensures j) (setup_stage_of m.flags m.value) m.addr)
    ∙ begun-by m.kind m.flags m.value m.transfer_length m.addr a.transfer a.outcome (sym c.begins.ensures ∙ c.if-begins.true))
    c.state_after-state.ensures c.put_head.ensures

pub put_counts-requires : goal.put_counts-requires
put_counts-requires c = (omega (arith, c.put_turn.ensures.long, c.requires.head_length_in_bounds.0), c.requires.head_length_in_bounds.1)

pub returns : goal.returns
returns c =
    let a = c.args in
    let m = a.t.numbers in
    let w = a.transfer in
    let own = c.requires.transfer_value.0 in
    let size = c.size_taken-size.ensures ∙ ap (λ (d : TrbData). size_taken a.outcome d) a.t.by_kind in
    let v = c.grow-grown.result in
    headed-as a.block.now (counting v.collected v.request.length (turned c.phase_after-phase.result w.direction (block_of a.block.now).transfer)) (transfer_after a.outcome (trb_of m).variant m.addr w) _ _ a.held _
    (ap (λ (x : ControlTransfer). counting v.collected v.request.length (turned c.phase_after-phase.result w.direction x)) (sym own)
    ∙ counted-by m.kind m.flags m.value m.transfer_length m.addr w (omega (arith, c.well_formed.1.1.0)) a.outcome c.phase_after-phase.result v (sym c.begins.ensures ∙ c.if-begins.false)
    c.phase_after-phase.ensures (c.grow-grown.ensures ∙ ap (grown w) size))
    c.state_after-state.ensures
    (progress-stored a.block.now c.put_turn.new.block c.put_counts.new.block c.phase_after-phase.result c.state_after-state.result w.direction v.collected v.request.length a.held c.put_turn.ensures c.put_counts.ensures)
