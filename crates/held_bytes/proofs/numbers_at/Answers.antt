-- `held_bytes::numbers_at` meets its contract: each field is read where the place has it, of the length its 17 bits. Assumes nothing.
use mathlib.Core.Path.{sym}
use Rattle.std.proofs.lemmas.Nat.{and_mask}
use Rattle.held_bytes.proofs.NumberLaws.{numbers-drop}
use Rattle.held_bytes.proofs.numbers_at.Goals as goal

pub returns : goal.returns
returns c = rw (c.le32.ensures, c.le64-2.ensures, c.le64.ensures, and_mask _ 17) (sym (numbers-drop c.args.block.now c.args.at))
