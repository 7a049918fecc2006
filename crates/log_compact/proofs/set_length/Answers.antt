-- `log_compact::set_length` meets its contract: four bytes laid over the log are a row laid over it, with another length. Assumes nothing.
use Rattle.std.proofs.Common.{◌≡◌, ◌∙◌, ℕ, w32, arith}
use Rattle.std.specs.Int.{to_le_bytes}
use Rattle.buffers.specs.LittleEndian.{le_bytes}
use Rattle.log_compact.proofs.RowLaws.{patch-length}
use Rattle.log_compact.proofs.set_length.Goals as goal

le_bytes_4 : (n : ℕ) → to_le_bytes w32 n ≡ le_bytes 4 n
le_bytes_4 n = grind arith

pub returns : goal.returns
returns c = rw (c.copy_into.ensures, c.to_le_bytes.ensures ∙ le_bytes_4 _) (patch-length c.args.log.now c.args.index c.args.count c.requires)
