-- `call_text::put_numbered` meets its contract: the number stands behind the word. Assumes nothing.
use Rattle.text.proofs.WroteLaws.{wrote-append}
use Rattle.call_text.proofs.put_numbered.Goals as goal

pub returns : goal.returns
returns c = wrote-append c.put_word.ensures c.put_decimal.ensures
