-- `capture_writer::put_record` meets its contract: three patches side by side are one. Assumes nothing.
use Prim.Native.Nat.{◌+◌}
use mathlib.Core.Path.{◌≡◌, refl, ap, ◌∙◌}
use mathlib.Core.List.{◌++◌}
use native.Mathlib.Omega.{arith}
use lib.ListN.{length, length-append}
use Rattle.buffers.specs.Patch.{patch}
use Rattle.buffers.proofs.PatchLaws.{patch-behind}
use Rattle.capture_file.specs.Records.{head}
use Rattle.capture_record.specs.Headers.{header_bytes}
use Rattle.capture_record.proofs.HeaderLaws.{length-header_bytes}
use Rattle.capture_writer.specs.Writing.{record_bytes}
use Rattle.capture_writer.proofs.put_record.Goals as goal

pub returns : goal.returns
unfolding record_bytes head
returns c =
    let d = c.args.output.now in
    let n = 48 + length c.args.payload.now in
    let front = head c.args.time.seconds c.args.time.microseconds n n in
    let link = header_bytes c.args.header in
    let sized : length (front ++ link) ≡ 64 = rw (length-append, length-header_bytes) in
    let one : c.copy_into.new.dst ≡ patch d 0 front = c.copy_into.ensures ∙ ap (patch d 0) c.record_head-front.ensures in
    let two : c.copy_into-2.new.dst ≡ patch d 0 (front ++ link) =
    c.copy_into-2.ensures ∙ ap (patch c.copy_into.new.dst 16) c.header_bytes-link.ensures ∙ patch-behind d _ 0 16 front link one refl (omega (arith, c.requires.0)) in
    c.copy_into-3.ensures ∙ patch-behind d _ 0 64 (front ++ link) c.args.payload.now two (omega (arith, sized)) (omega (arith, sized, c.requires.0))
