-- `call_text::put_completed_fields` meets its contract: its parts stand one behind the other. Assumes nothing.
use Rattle.call_text.specs.Lines.{completed_fields}
use Rattle.text.proofs.WroteLaws.{wrote-append}
use Rattle.call_text.proofs.put_completed_fields.Goals as goal

pub returns : goal.returns
unfolding completed_fields
returns c = wrote-append c.put_numbered.ensures c.put_result.ensures
