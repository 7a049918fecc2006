-- `log_printer::print_input` meets its contract: of what is read, its text is written; a longer log prints the same as what is read of it.
use Rattle.std.proofs.Common.{ℕ, ◌+◌, take, subst, ap, ◌∙◌, arith}
use Rattle.std.proofs.lemmas.Result.{on_ok_weaker}
use Rattle.std.specs.Io.KnownBytes.{Appends}
use Rattle.trb.specs.Limits.{max_printed_log}
use Rattle.log_print.specs.LogText.{log_text}
use Rattle.input_bytes.proofs.InputLaws.{writes-for}
use Rattle.log_printer.proofs.PrinterLaws.{longer-same, text-first}
use Rattle.log_printer.proofs.print_input.Goals as goal

pub returns : goal.returns
returns g c =
    let log = take c.in_ok-read.read c.read_full.new.buffer in
    let read = c.in_ok-read.ensures in
    let print = c.print_log in
    let text = text-first log _ print.result print.new.text print.ensures (omega arith) in
    on_ok_weaker c.write_all.result
    (λ written. writes-for log_text (max_printed_log + 1) longer-same _ _ log read.bytes (λ short. read.end (omega (arith, short, read.bound.1))) _ _ (subst (Appends _ _) (ap (λ (n : ℕ). take n print.new.text) c.unwrap_or-length.ensures ∙ text) written))
    c.write_all.ensures.bytes
