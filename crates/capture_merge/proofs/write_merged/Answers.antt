-- `capture_merge::write_merged` meets its contract: the records stand behind the file header. Assumes nothing.
use Prim.Native.Nat.{ℕ}
use mathlib.Core.Path.{◌≡◌, sym, ap, ◌∙◌}
use mathlib.Core.List.{List}
use native.Mathlib.Omega.{arith}
use lib.ListN.{drop, length-drop}
use borrow.Author.Rules.{rules}
use Rattle.buffers.specs.LittleEndian.{le_field}
use Rattle.buffers.specs.Patch.{patch}
use Rattle.text.proofs.WroteLaws.{wrote-append}
use Rattle.capture_file.specs.Reading.{Records}
use Rattle.capture_file.specs.Files.{extra_of, file_head}
use Rattle.capture_file.proofs.FileLaws.{file-headed}
use Rattle.capture_file.proofs.ReadingLaws.{part-from}
use Rattle.capture_merge.specs.Merging.{larger, no_growth}
use Rattle.capture_merge.proofs.FileMerging.{records-of, merged_file_bytes-are}
use Rattle.std.proofs.Common.{max}
use Rattle.std.proofs.lemmas.Bool.Decides.{nat_tests}
use Rattle.capture_merge.proofs.write_merged.Goals as goal

pub le32-requires : goal.le32-requires
le32-requires c = omega (arith, (file-headed no_growth c.args.a.now c.requires.whole.0).long)

pub le32-requires-2 : goal.le32-requires-2
le32-requires-2 c = omega (arith, (file-headed no_growth c.args.b.now c.requires.whole.1).long)

pub le32-requires-3 : goal.le32-requires-3
le32-requires-3 c = omega (arith, (file-headed no_growth c.args.a.now c.requires.whole.0).long)

pub le32-requires-4 : goal.le32-requires-4
le32-requires-4 c = omega (arith, (file-headed no_growth c.args.a.now c.requires.whole.0).long)

pub put_word-requires : goal.put_word-requires
put_word-requires c = omega (arith, (file-headed no_growth c.args.a.now c.requires.whole.0).long, c.requires.room)

pub slice_bounds-merge_records-count : goal.slice_bounds-merge_records-count
slice_bounds-merge_records-count c =
    let long = (file-headed no_growth c.args.a.now c.requires.whole.0).long in
    search rules

pub slice_bounds-merge_records-start : goal.slice_bounds-merge_records-start
slice_bounds-merge_records-start c =
    let long = (file-headed no_growth c.args.a.now c.requires.whole.0).long in
    search rules

pub slice_bounds-merge_records-count-2 : goal.slice_bounds-merge_records-count-2
slice_bounds-merge_records-count-2 c =
    let long = (file-headed no_growth c.args.b.now c.requires.whole.1).long in
    search rules

pub slice_bounds-merge_records-start-2 : goal.slice_bounds-merge_records-start-2
slice_bounds-merge_records-start-2 c =
    let long = (file-headed no_growth c.args.b.now c.requires.whole.1).long in
    search rules

pub merge_records-requires : goal.merge_records-requires
merge_records-requires c =
    let a = c.args.a.now in
    let b = c.args.b.now in
    let extra : c.extra.result ≡ extra_of (le_field 20 4 a) = c.extra.ensures.0 ∙ ap extra_of c.requires.linked.0 in
    let second : Records (extra_of (le_field 20 4 a)) (drop 24 b) = rw c.requires.linked.1 (records-of b c.requires.whole.1) in
    let first = length-drop 24 a in
    let behind = length-drop 24 b in
    let long = (file-headed no_growth a c.requires.whole.0).long in
    rw (part-from a 24, part-from b 24, extra)
    (records-of a c.requires.whole.0, second, omega (arith, long, first, behind, c.requires.room, c.put_word.ensures.end, c.put_word.ensures.size))

max-larger : (x y : ℕ) → max x y ≡ larger x y
unfolding larger
max-larger x y = grind (arith, nat_tests)

pub returns : goal.returns
returns c =
    let a = c.args.a.now in
    let b = c.args.b.now in
    let extra : c.extra.result ≡ extra_of (le_field 20 4 a) = c.extra.ensures.0 ∙ ap extra_of c.requires.linked.0 in
    let snap : ℕ = larger (le_field 16 4 a) (le_field 16 4 b) in
    let chosen : c.max-snap.result ≡ snap = rw (← c.le32-2.ensures, ← c.le32.ensures) (c.max-snap.ensures ∙ max-larger _ _) in
    let front : List ℕ = file_head (le_field 8 4 a) (le_field 12 4 a) snap (le_field 20 4 a) in
    let cells : c.file_head.result ≡ front =
    c.file_head.ensures ∙ rw (chosen, c.le32-4.ensures, c.le32-3.ensures, c.from.ensures, c.requires.linked.0) in
    let wrote = wrote-append (rw cells at c.put_word.ensures) (rw (part-from a 24, part-from b 24, extra) at c.merge_records.ensures) in
    let last = wrote.bytes ∙ ap (patch c.args.dst.now 0) (sym (merged_file_bytes-are a b c.requires.linked.1)) in
    search rules
