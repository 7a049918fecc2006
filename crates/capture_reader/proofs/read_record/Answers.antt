-- `capture_reader::read_record` meets its contract: the fields of a record of the writer's are read at their offsets. Assumes nothing.
use Rattle.std.proofs.Common.{◌≡◌, ◌∙◌, ◌≤◌, true, length, drop, None, sym, arith}
use Rattle.capture_file.proofs.ReadingLaws.{part-from}
use Rattle.capture_file.specs.Reading.{delivered_at}
use Rattle.capture_reader.specs.Reading.{made_record}
use Rattle.capture_reader.proofs.ReadingLaws.{read_past, read_none, read_found}
use Rattle.capture_reader.proofs.read_record.Goals.{In_ok-rest}
use Rattle.capture_reader.proofs.read_record.Goals as goal

-- what stands from index `at` on
behind : (c : In_ok-rest) → c.in_ok-rest.rest.now ≡ drop c.args.at c.args.input.now
behind c = grind (arith, part-from c.args.input.now c.args.at)

pub returns-in_err-rest : goal.returns-in_err-rest
returns-in_err-rest c =
    let past : length c.args.input.now ≤ c.args.at = grind arith in
    let none : c.from_residual.result ≡ None = grind arith in
    rw none (read_past c.args.input.now c.args.at past)

pub returns-then-not-is_record : goal.returns-then-not-is_record
returns-then-not-is_record c =
    read_none c.args.input.now c.args.at (rw (behind (goal.at.returns-then-not-is_record c).In_ok-rest) at (sym c.is_record.ensures.answer ∙ c.if-not-is_record.true))

pub returns : goal.returns
unfolding delivered_at
returns c =
    let here = behind (goal.at.returns c).In_ok-rest in
    let passes : made_record c.in_ok-rest.rest.now ≡ true = sym c.is_record.ensures.answer ∙ c.if-not-is_record.false in
    rw (c.header_in.ensures, c.time_at.ensures, c.delivered_at-payload_length.ensures, here)
    (read_found c.args.input.now c.args.at (rw here at passes))
