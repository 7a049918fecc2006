-- `capture_convert::convert` meets its contract: a refused length is refused, a buffer too short for it is 14, and otherwise the file is written.
-- Assumes nothing.
use Rattle.std.proofs.Common.{◌≡◌, ◌≤◌, ◌<◌, Err, Some, None, false, length, arith, rules}
use Rattle.trb.specs.Answers.{refusal_of}
use Rattle.trb.specs.Questions.{first_no}
use Rattle.trb.specs.declared.Refusal.TheVariants.{OutputTooShort, NotACapture}
use Rattle.capture_file.specs.Files.{whole_file}
use Rattle.capture_file.proofs.FileLaws.{headless}
use Rattle.capture_convert.specs.Converting.{added_length}
use Rattle.capture_convert.proofs.ConvertingLaws.{Measured, measured, measured-refused, converts, converts-not}
use Rattle.capture_convert.proofs.convert.Goals.{In_ok-length}
use Rattle.capture_convert.proofs.convert.Goals as goal

-- the length that was measured
size : (c : In_ok-length) → Measured c.args.src.now c.in_ok-length.length
size c = measured _ _ (rw c.in_ok-length.was at c.length_of.ensures)

pub returns-in_err-link : goal.returns-in_err-link
unfolding first_no refusal_of
returns-in_err-link c =
    let none : c.link_in.result ≡ None = grind arith in
    let no : whole_file added_length c.args.src.now ≡ false = headless added_length _ (rw none at c.link_in.ensures) in
    let refused : c.from_residual.result ≡ Err NotACapture = grind arith in
    rw refused (record { number = rw no; answer = rw no; after = rw no })

pub returns-in_err-length : goal.returns-in_err-length
returns-in_err-length c =
    let same : c.from_residual-in_err-length.result ≡ c.length_of.result = grind arith in
    rw (same, c.in_err-length.was) (measured-refused _ _ _ (rw c.in_err-length.was at c.length_of.ensures))

pub returns-in_err-ask : goal.returns-in_err-ask
returns-in_err-ask c =
    let short : length c.args.dst.now < c.in_ok-length.length = search rules in
    let refused : c.from_residual-in_err-ask.result ≡ Err OutputTooShort = grind arith in
    rw refused (converts-not c.args.src.now c.args.dst.now c.in_ok-length.length (size (goal.at.returns-in_err-ask c).In_ok-length) short)

pub write_file-requires : goal.write_file-requires
write_file-requires c =
    let m = size (goal.at.write_file-requires c).In_ok-length in
    let fits : c.in_ok-length.length ≤ length c.args.dst.now = search rules in
    let is : c.link_in.result ≡ Some c.in_ok-link.link = grind arith in
    (m.whole, (rw is at c.link_in.ensures).linked, omega (arith, m.size, fits))

pub returns : goal.returns
returns c =
    let fits : c.in_ok-length.length ≤ length c.args.dst.now = search rules in
    rw c.write_file.ensures (converts c.args.src.now c.args.dst.now c.in_ok-length.length (size (goal.at.returns c).In_ok-length) fits)
