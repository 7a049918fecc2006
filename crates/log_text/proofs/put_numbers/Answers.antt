-- `log_text::put_numbers` meets its contract: the fields stand one behind the other. Assumes nothing.
use Rattle.log_text.specs.Lines.{number_fields}
use Rattle.text.proofs.WroteLaws.{wrote-append}
use Rattle.log_text.proofs.put_numbers.Goals as goal

pub returns : goal.returns
unfolding number_fields
returns c = wrote-append (wrote-append c.put_hex_field.ensures c.put_decimal_field.ensures) c.put_decimal_field-2.ensures
