-- `log_text::put_ids` meets its contract: the fields stand one behind the other. Assumes nothing.
use Rattle.log_text.specs.Lines.{id_fields}
use Rattle.text.proofs.WroteLaws.{wrote-append}
use Rattle.log_text.proofs.put_ids.Goals as goal

pub returns : goal.returns
unfolding id_fields
returns c = wrote-append c.put_decimal_field.ensures c.put_decimal_field-2.ensures
