-- `row_bytes::trb_in` meets its contract: the numbers are read where the place has them. Assumes nothing.
use Rattle.row_bytes.specs.Layout.{given_trb}
use Rattle.row_bytes.proofs.trb_in.Goals as goal

pub returns : goal.returns
unfolding given_trb
returns c = rw (c.trb_of.ensures, c.numbers_at.ensures)
