-- `raw_text::put_decoded` meets its contract: its numbers stand one behind the other. Assumes nothing.
use lib.Dec.{lit≤}
use Rattle.text.proofs.WroteLaws.{wrote-append, wrote-within}
use Rattle.raw_text.specs.RawLines.{trb_line}
use Rattle.raw_text.proofs.put_decoded.Goals as goal

pub returns : goal.returns
unfolding trb_line
returns c =
    rw (← c.numbers_of-numbers.ensures.0)
    (wrote-within (lit≤ tt)
    (wrote-append
    (wrote-append (wrote-append (wrote-append c.put_hex.ensures c.put_hex_behind.ensures) c.put_hex_behind-2.ensures) c.put_hex_behind-3.ensures)
    c.put_char.ensures))
