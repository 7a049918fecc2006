-- `shape_lines::copy_line` meets its contract: the letters are laid, and the line feed is written behind them. Assumes nothing.
use Rattle.text.proofs.WroteLaws.{wrote-append}
use Rattle.shape_lines.proofs.copy_line.Goals as goal

pub returns : goal.returns
returns c = wrote-append c.put_word.ensures c.put_char.ensures
