-- `log_compactor::compact_input` meets its contract: what is written is the output for what is read, and a longer log gives the same.
use Rattle.std.proofs.Common.{◌+◌, take, subst, arith}
use Rattle.std.proofs.lemmas.Result.{on_ok_weaker}
use Rattle.std.specs.Io.KnownBytes.{Appends}
use Rattle.input_bytes.proofs.InputLaws.{writes-for}
use Rattle.log_compactor.specs.Output.{max_log, output_of}
use Rattle.log_compactor.proofs.OutputLaws.{longer-same}
use Rattle.log_compactor.proofs.compact_input.Goals as goal

pub returns : goal.returns
returns g c =
    let read = c.in_ok-read.ensures in
    on_ok_weaker c.write_all.result
    (λ written. writes-for output_of (max_log + 1) longer-same _ _ (take c.in_ok-read.read c.read_full.new.buffer) read.bytes
    (λ short. read.end (omega (arith, short, read.bound.1))) _ _ (subst (Appends _ _) c.put_output-end.ensures.bytes written))
    c.write_all.ensures.bytes
