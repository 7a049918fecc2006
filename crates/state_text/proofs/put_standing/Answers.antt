-- `state_text::put_standing` meets its contract: its parts stand one behind the other. Assumes nothing.
use Rattle.state_text.specs.Lines.{standing_fields}
use Rattle.text.proofs.WroteLaws.{wrote-append}
use Rattle.state_text.proofs.put_standing.Goals as goal

pub returns : goal.returns
unfolding standing_fields
returns c =
    wrote-append
    (wrote-append
    (wrote-append
    (wrote-append
    c.put_word.ensures
    c.put_phase.ensures)
    c.put_control_state.ensures)
    c.put_decimal_behind.ensures)
    c.put_direction.ensures
