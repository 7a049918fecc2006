-- `call_text::put_decimal_behind` meets its contract: the number stands behind the space. Assumes nothing.
use Rattle.text.proofs.WroteLaws.{wrote-append}
use Rattle.call_text.proofs.put_decimal_behind.Goals as goal

pub returns : goal.returns
returns c =
    wrote-append
    c.put_char.ensures
    c.put_decimal.ensures
