-- `log_text::put_fields` meets its contract: the fields stand one behind the other. Assumes nothing.
use Rattle.log_text.specs.Lines.{fields_of}
use Rattle.text.proofs.WroteLaws.{wrote-append}
use Rattle.log_text.proofs.put_fields.Goals as goal

pub returns : goal.returns
unfolding fields_of
returns c = wrote-append (wrote-append c.put_kinds.ensures c.put_ids.ensures) c.put_numbers.ensures
