-- `capture_convert::write_record` meets its contract: the payload stands behind the headers. Assumes nothing.
use Prim.Native.Nat.{◌+◌, ◌-◌}
use mathlib.Core.Path.{◌≡◌}
use native.Mathlib.Omega.{arith}
use lib.ListN.{drop, length-drop}
use lib.Seq.{length-take-le}
use Rattle.capture_file.specs.Reading.{delivered_at}
use Rattle.capture_file.proofs.LayoutLaws.{whole-tests}
use Rattle.text.proofs.WroteLaws.{wrote-append, wrote-within}
use Rattle.capture_convert.proofs.ConvertingLaws.{sized, layout-resized}
use borrow.Author.Rules.{rules}
use Rattle.capture_convert.proofs.write_record.Goals as goal

pub delivered_at-requires : goal.delivered_at-requires
delivered_at-requires c = omega (arith, (sized c.requires.0).long)

pub slice_bounds-put_word-end : goal.slice_bounds-put_word-end
slice_bounds-put_word-end c =
    let long = (sized c.requires.0).long in
    search rules

pub put_word-requires : goal.put_word-requires
put_word-requires c =
    let l = c.args.rest.now in
    let from = c.args.added.from in
    let count : 64 + from + c.delivered_at.result - (64 + from) ≡ delivered_at l = omega (arith, c.delivered_at.ensures) in
    let paid = length-take-le (delivered_at l) (drop (64 + from) l) (simp length-drop (omega (arith, (sized c.requires.0).long))) in
    rw count (search rules)

pub returns : goal.returns
returns c =
    let l = c.args.rest.now in
    let from = c.args.added.from in
    let w = whole-tests from c.requires.0.most l c.requires.0.whole in
    let count : 64 + from + c.delivered_at.result - (64 + from) ≡ delivered_at l = omega (arith, c.delivered_at.ensures) in
    let paid = length-take-le (delivered_at l) (drop (64 + from) l) (simp length-drop (omega (arith, (sized c.requires.0).long))) in
    rw (layout-resized c.args.added.to l w) (wrote-within (omega (arith, paid)) (wrote-append c.write_front.ensures (rw count at c.put_word.ensures)))
