-- `control_stores::end_transfer` meets its contract: as many places are held as stay, and of the rest of the head the phase and the state change. Assumes nothing.
use Prim.Native.Nat.{ℕ, ◌-◌}
use mathlib.Core.Path.{ap, ◌∙◌}
use Rattle.trb.specs.declared.ControlSubmissionState.TheVariants.{NoTrbSubmitted}
use Rattle.control_block.specs.Endings.{places_freed, phase_behind}
use Rattle.control_bytes.specs.Layout.{block_of}
use Rattle.control_bytes.specs.Stores.{turned, counting}
use Rattle.control_stores.proofs.StoreLaws.{progress-stored, ended}
use Rattle.control_stores.proofs.end_transfer.Goals as goal

pub returns : goal.returns
returns c =
    let b = c.args.block.now in
    let x = c.args.ending in
    let w = c.transfer-transfer.result in
    let old = c.transfer-transfer.ensures in
    let phase = c.phase_behind-phase.ensures ∙ (λ j. phase_behind (c.state-state.ensures j) (old j).phase) in
    ended b c.put_counts.new.block x (counting w.collected w.request.length (turned c.phase_behind-phase.result w.direction (block_of b).transfer)) (c.held-held.result - c.places_freed-freed.result) c.places_freed-freed.result
    (λ j. counting (old j).collected (old j).request.length (turned (phase j) (old j).direction (block_of b).transfer))
    (c.places_freed-freed.ensures ∙ ap (λ (n : ℕ). places_freed x n) c.held-held.ensures.0) (ap (λ (n : ℕ). n - c.places_freed-freed.result) c.held-held.ensures.0)
    (progress-stored b c.put_turn.new.block c.put_counts.new.block c.phase_behind-phase.result NoTrbSubmitted w.direction w.collected w.request.length (c.held-held.result - c.places_freed-freed.result) c.put_turn.ensures c.put_counts.ensures)
