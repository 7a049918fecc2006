-- `call_text::put_carried_out` meets its contract: its parts stand one behind the other. Assumes nothing.
use Rattle.call_text.specs.Lines.{carried_out_line}
use Rattle.text.proofs.WroteLaws.{wrote-append}
use Rattle.call_text.proofs.put_carried_out.Goals as goal

pub returns : goal.returns
unfolding carried_out_line
returns c = wrote-append c.put_numbered.ensures c.put_char.ensures
