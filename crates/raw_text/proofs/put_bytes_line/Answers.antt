-- `raw_text::put_bytes_line` meets its contract: a line feed stands behind the digits. Assumes nothing.
use native.Mathlib.Omega.{arith}
use Rattle.text.proofs.WroteLaws.{wrote-append, wrote-within}
use Rattle.raw_text.specs.RawLines.{bytes_line}
use Rattle.raw_text.proofs.put_bytes_line.Goals as goal

pub returns : goal.returns
unfolding bytes_line
returns c = wrote-within (omega arith) (wrote-append c.put_bytes.ensures c.put_char.ensures)
