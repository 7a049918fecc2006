-- `log_text::put_kinds` meets its contract: the fields stand one behind the other. Assumes nothing.
use Rattle.log_text.specs.Lines.{kind_fields}
use Rattle.text.proofs.WroteLaws.{wrote-append}
use Rattle.log_text.proofs.put_kinds.Goals as goal

pub returns : goal.returns
unfolding kind_fields
returns c =
    wrote-append (wrote-append c.put_decimal_field.ensures c.put_decimal_field-2.ensures) c.put_decimal_field-3.ensures
