-- `capture_reader::is_head` meets its contract: bytes that start so are the header's, eight at a time. Assumes nothing.
use native.Mathlib.Omega.{arith}
use Rattle.buffers.proofs.LittleEndianLaws.{AllBytes-each}
use Rattle.capture_reader.proofs.Inverse.{made_head-starts}
use Rattle.capture_reader.proofs.is_head.Goals as goal

pub returns-clause-answer : goal.returns-clause-answer
returns-clause-answer c =
    let l = c.args.input.now in
    made_head-starts l (AllBytes-each l (λ i. omega (arith, c.type_inv.input i))) c.starts_with.result (rw (← c.file_head-cells.ensures) c.starts_with.ensures.value)
