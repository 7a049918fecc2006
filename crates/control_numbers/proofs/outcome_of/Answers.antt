-- `control_numbers::outcome_of` meets its contract: the table, by kind and chain bit. Assumes nothing.
use Rattle.std.proofs.Common.{◌∙◌}
use Rattle.phase_table.specs.Table.{outcome_of}
use Rattle.control_numbers.proofs.KindLaws.{outcome-by}
use Rattle.control_numbers.proofs.outcome_of.Goals as goal

pub returns : goal.returns
returns c =
    let s = c.args in
    let n = s.numbers in
    c.outcome_of.ensures ∙ (λ j. outcome_of s.phase (c.kind_of.ensures n.flags n.value n.transfer_length j) (c.bit-chain.ensures j))
    ∙ outcome-by n.kind n.flags n.value n.transfer_length s.phase
