-- `state_text::put_in_line` meets its contract: its parts stand one behind the other. Assumes nothing.
use lib.Dec.{lit≤}
use Rattle.state_text.specs.Lines.{in_line}
use Rattle.text.proofs.WroteLaws.{wrote-append, wrote-within}
use Rattle.state_text.proofs.put_in_line.Goals as goal

pub returns : goal.returns
unfolding in_line
returns c =
    wrote-within (lit≤ tt)
    (wrote-append
    (wrote-append
    (wrote-append
    c.put_word.ensures
    c.put_in_state.ensures)
    c.put_decimal_behind.ensures)
    c.put_char.ensures)
