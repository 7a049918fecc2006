-- `log_text::put_hex_field` meets its contract: the space stands behind the number. Assumes nothing.
use Rattle.text.proofs.WroteLaws.{wrote-append}
use Rattle.log_text.proofs.put_hex_field.Goals as goal

pub returns : goal.returns
returns c = wrote-append c.put_hex.ensures c.put_char.ensures
