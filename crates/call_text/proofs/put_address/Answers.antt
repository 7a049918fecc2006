-- `call_text::put_address` meets its contract: the cycle bit stands behind the address. Assumes nothing.
use Rattle.call_text.specs.Lines.{address_fields}
use Rattle.text.proofs.WroteLaws.{wrote-append}
use Rattle.call_text.proofs.put_address.Goals as goal

pub returns : goal.returns
unfolding address_fields
returns c =
    wrote-append
    c.put_hex_behind.ensures
    c.put_cycle_bit.ensures
