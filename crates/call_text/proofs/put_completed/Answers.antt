-- `call_text::put_completed` meets its contract: its parts stand one behind the other. Assumes nothing.
use lib.Dec.{lit≤}
use Rattle.call_text.specs.Lines.{completed_line}
use Rattle.text.proofs.WroteLaws.{wrote-append, wrote-within}
use Rattle.call_text.proofs.put_completed.Goals as goal

pub returns : goal.returns
unfolding completed_line
returns c = wrote-within (lit≤ tt) (wrote-append c.put_completed_fields.ensures c.put_char.ensures)
