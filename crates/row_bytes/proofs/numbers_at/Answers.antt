-- `row_bytes::numbers_at` meets its contract: but for the length these are the numbers of a place. Assumes nothing.
use Rattle.row_bytes.proofs.numbers_at.Goals as goal

pub returns : goal.returns
returns c = rw (c.le32.ensures, c.numbers_at.ensures)
