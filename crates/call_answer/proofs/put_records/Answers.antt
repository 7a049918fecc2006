-- `call_answer::put_records` meets its contract: a log that is no longer than a row's has no more lines. Assumes nothing.
use native.Mathlib.Omega.{arith}
use Rattle.text.proofs.WroteLaws.{wrote-within}
use Rattle.call_answer.proofs.put_records.Goals as goal

pub put_lines-requires : goal.put_lines-requires
put_lines-requires c = omega (arith, c.requires.has_room, c.requires.log_len_bound)

pub returns : goal.returns
returns c = wrote-within (omega (arith, c.requires.log_len_bound)) c.put_lines.ensures
