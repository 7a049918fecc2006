-- `call_text::put_row_completed` meets its contract: its parts stand one behind the other. Assumes nothing.
use Rattle.call_text.specs.Lines.{row_line}
use Rattle.text.proofs.WroteLaws.{wrote-append}
use Rattle.call_text.proofs.put_row_completed.Goals as goal

pub returns : goal.returns
unfolding row_line
returns c =
    wrote-append
    (wrote-append c.put_completed_fields.ensures c.put_decimal_behind.ensures)
    c.put_char.ensures
