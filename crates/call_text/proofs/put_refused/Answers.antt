-- `call_text::put_refused` meets its contract: its parts stand one behind the other. Assumes nothing.
use lib.Dec.{lit≤}
use Rattle.call_text.specs.Lines.{refused_line}
use Rattle.text.proofs.WroteLaws.{wrote-append, wrote-within}
use Rattle.call_text.proofs.put_refused.Goals as goal

pub returns : goal.returns
unfolding refused_line
returns c = wrote-within (lit≤ tt) (wrote-append c.put_numbered.ensures c.put_char.ensures)
