-- `capture_convert::write_file` meets its contract: the records stand behind the file header. Assumes nothing.
use Prim.Native.Nat.{ℕ}
use mathlib.Core.Path.{◌≡◌, sym, ap, ◌∙◌}
use mathlib.Core.List.{List}
use native.Mathlib.Omega.{arith}
use lib.ListN.{length}
use Rattle.buffers.specs.LittleEndian.{le_field}
use Rattle.buffers.specs.Patch.{patch}
use Rattle.capture_file.specs.Files.{link_number, extra_of, file_head}
use Rattle.capture_file.proofs.FileLaws.{file-headed, length-file_head}
use Rattle.capture_file.proofs.ReadingLaws.{part-from}
use Rattle.text.proofs.WroteLaws.{wrote-append}
use Rattle.capture_convert.specs.Converting.{other_link}
use Rattle.capture_convert.proofs.ConvertingLaws.{file-resizable, converted_bytes-are, length-converted}
use borrow.Author.Rules.{rules}
use Rattle.capture_convert.proofs.write_file.Goals as goal

pub le32-requires : goal.le32-requires
le32-requires c = omega (arith, (file-headed 16 c.args.src.now c.requires.0).long)

pub le32-requires-2 : goal.le32-requires-2
le32-requires-2 c = omega (arith, (file-headed 16 c.args.src.now c.requires.0).long)

pub le32-requires-3 : goal.le32-requires-3
le32-requires-3 c = omega (arith, (file-headed 16 c.args.src.now c.requires.0).long)

pub put_word-requires : goal.put_word-requires
put_word-requires c = omega (arith, c.requires.2, length-converted c.args.src.now)

pub slice_bounds-write_records-count : goal.slice_bounds-write_records-count
slice_bounds-write_records-count c = (file-headed 16 c.args.src.now c.requires.0).long

pub slice_bounds-write_records-start : goal.slice_bounds-write_records-start
slice_bounds-write_records-start c =
    let long = (file-headed 16 c.args.src.now c.requires.0).long in
    search rules

pub write_records-requires : goal.write_records-requires
write_records-requires c =
    let l = c.args.src.now in
    let from : c.extra.result ≡ extra_of (le_field 20 4 l) = c.extra.ensures.0 ∙ ap extra_of c.requires.1 in
    let to : c.extra-2.result ≡ extra_of (other_link (le_field 20 4 l)) = c.extra-2.ensures.0 ∙ ap extra_of (c.other_link-other.ensures ∙ ap other_link c.requires.1) in
    rw (part-from l 24, from, to)
    (file-resizable l c.requires.0, omega (arith, c.put_word.ensures.end, c.put_word.ensures.size, ap length c.file_head.ensures, c.requires.2, length-converted l, length-file_head (le_field 8 4 l) (le_field 12 4 l) (le_field 16 4 l) (other_link (le_field 20 4 l))))

pub returns : goal.returns
returns c =
    let l = c.args.src.now in
    let from : c.extra.result ≡ extra_of (le_field 20 4 l) = c.extra.ensures.0 ∙ ap extra_of c.requires.1 in
    let other : link_number c.other_link-other.result ≡ other_link (le_field 20 4 l) = c.other_link-other.ensures ∙ ap other_link c.requires.1 in
    let to : c.extra-2.result ≡ extra_of (other_link (le_field 20 4 l)) = c.extra-2.ensures.0 ∙ ap extra_of other in
    let front : List ℕ = file_head (le_field 8 4 l) (le_field 12 4 l) (le_field 16 4 l) (other_link (le_field 20 4 l)) in
    let cells : c.file_head.result ≡ front =
    c.file_head.ensures ∙ (λ i. file_head (c.le32.ensures i) (c.le32-2.ensures i) (c.le32-3.ensures i) ((c.from.ensures ∙ other) i)) in
    let wrote = wrote-append (rw cells at c.put_word.ensures) (rw (part-from l 24, from, to) at c.write_records.ensures) in
    let last = wrote.bytes ∙ ap (patch c.args.dst.now 0) (sym (converted_bytes-are l)) in
    search rules
