-- `state_text::put_control_line` meets its contract: its parts stand one behind the other. Assumes nothing.
use Rattle.state_text.specs.Lines.{control_line}
use Rattle.text.proofs.WroteLaws.{wrote-append}
use Rattle.state_text.proofs.put_control_line.Goals as goal

pub returns : goal.returns
unfolding control_line
returns c =
    wrote-append
    (wrote-append
    (wrote-append
    (wrote-append
    (wrote-append
    c.put_standing.ensures
    c.put_decimal_behind.ensures)
    (rw c.count.ensures at c.put_decimal_behind-2.ensures))
    c.put_hex_behind.ensures)
    c.put_request.ensures)
    c.put_char.ensures
