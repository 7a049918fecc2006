-- `call_text::put_accepted` meets its contract: its parts stand one behind the other. Assumes nothing.
use lib.Dec.{lit≤}
use Rattle.call_text.specs.Lines.{accepted_line}
use Rattle.text.proofs.WroteLaws.{wrote-append, wrote-within}
use Rattle.call_text.proofs.put_accepted.Goals as goal

pub returns : goal.returns
unfolding accepted_line
returns c = wrote-within (lit≤ tt) (wrote-append c.put_numbered.ensures c.put_word.ensures)
