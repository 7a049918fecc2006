-- `row_bytes::result_from` meets its contract: status and length are read where a result has them. Assumes nothing.
use mathlib.Core.Path.{sym}
use Rattle.row_bytes.proofs.CellLaws.{result-drop}
use Rattle.row_bytes.proofs.result_from.Goals as goal

pub returns : goal.returns
returns c =
    let s = c.args in
    rw (c.le32.ensures, c.status_of.ensures) (sym (result-drop s.results.now s.at))
