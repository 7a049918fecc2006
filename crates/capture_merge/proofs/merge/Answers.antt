-- `capture_merge::merge` meets its contract: a refused length is refused, a buffer too short for it is 14, and otherwise the file is written.
-- Assumes nothing.
use Rattle.std.proofs.Common.{◌≡◌, ◌≤◌, ◌<◌, Err, Some, None, false, length, arith, rules}
use Rattle.trb.specs.Answers.{refusal_of}
use Rattle.trb.specs.Questions.{first_no}
use Rattle.trb.specs.declared.Refusal.TheVariants.{OutputTooShort, NotACapture}
use borrow.Author.Tests.{eqb-true}
use Rattle.buffers.proofs.LittleEndianLaws.{AllBytes-each}
use Rattle.capture_file.specs.Files.{whole_file}
use Rattle.capture_file.proofs.FileLaws.{headless}
use Rattle.capture_merge.specs.Merging.{no_growth}
use Rattle.capture_merge.proofs.FileMerging.{Measured, measured, measured-refused, merges, merges-not, length_merged}
use Rattle.capture_merge.proofs.merge.Goals.{In_ok-length}
use Rattle.capture_merge.proofs.merge.Goals as goal

-- the length that was measured
size : (c : In_ok-length) → Measured c.args.a.now c.args.b.now c.in_ok-length.length
size c = measured _ _ _ (rw c.in_ok-length.was at c.length_of.ensures)

pub returns-in_err-link : goal.returns-in_err-link
unfolding first_no refusal_of
returns-in_err-link c =
    let none : c.link_in.result ≡ None = grind arith in
    let no : whole_file no_growth c.args.a.now ≡ false = headless no_growth _ (rw none at c.link_in.ensures) in
    let refused : c.from_residual.result ≡ Err NotACapture = grind arith in
    rw refused (record { number = rw no; answer = rw no; after = rw no })

pub returns-in_err-length : goal.returns-in_err-length
returns-in_err-length c =
    let same : c.from_residual-in_err-length.result ≡ c.length_of.result = grind arith in
    rw (same, c.in_err-length.was) (measured-refused _ _ _ _ (rw c.in_err-length.was at c.length_of.ensures))

pub returns-in_err-ask : goal.returns-in_err-ask
returns-in_err-ask c =
    let short : length c.args.dst.now < c.in_ok-length.length = search rules in
    let refused : c.from_residual-in_err-ask.result ≡ Err OutputTooShort = grind arith in
    rw refused (merges-not c.args.a.now c.args.b.now c.args.dst.now c.in_ok-length.length (size (goal.at.returns-in_err-ask c).In_ok-length) short)

pub write_merged-requires-clause-whole : goal.write_merged-requires-clause-whole
write_merged-requires-clause-whole c =
    let m = size (goal.at.write_merged-requires-clause-whole c).In_ok-length in
    (m.first, m.second)

pub write_merged-requires-clause-linked : goal.write_merged-requires-clause-linked
write_merged-requires-clause-linked c =
    let m = size (goal.at.write_merged-requires-clause-linked c).In_ok-length in
    let is : c.link_in.result ≡ Some c.in_ok-link.link = grind arith in
    ((rw is at c.link_in.ensures).linked, eqb-true _ _ m.linked)

pub write_merged-requires-clause-room : goal.write_merged-requires-clause-room
write_merged-requires-clause-room c =
    let m = size (goal.at.write_merged-requires-clause-room c).In_ok-length in
    let long =
    length_merged c.args.a.now c.args.b.now (eqb-true _ _ m.linked) m.first m.second
    (AllBytes-each c.args.a.now (λ i. omega (arith, c.shared_slice_known-1.given i)))
    (AllBytes-each c.args.b.now (λ i. omega (arith, c.shared_slice_known-2-1.given i))) in
    let fits : c.in_ok-length.length ≤ length c.args.dst.now = search rules in
    omega (arith, m.size, long, fits)

pub returns : goal.returns
returns c =
    let fits : c.in_ok-length.length ≤ length c.args.dst.now = search rules in
    rw c.write_merged.ensures
    (merges c.args.a.now c.args.b.now c.args.dst.now c.in_ok-length.length (size (goal.at.returns c).In_ok-length) fits)
