-- `log_text::put_decimal_field` meets its contract: the space stands behind the number. Assumes nothing.
use Rattle.text.proofs.WroteLaws.{wrote-append}
use Rattle.log_text.proofs.put_decimal_field.Goals as goal

pub returns : goal.returns
returns c = wrote-append c.put_decimal.ensures c.put_char.ensures
