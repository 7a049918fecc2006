-- `state_text::put_bytes_behind` meets its contract: the bytes stand behind the space. Assumes nothing.
use Rattle.text.proofs.WroteLaws.{wrote-append}
use Rattle.state_text.proofs.put_bytes_behind.Goals as goal

pub returns : goal.returns
returns c =
    wrote-append
    c.put_char.ensures
    c.put_bytes.ensures
