-- `capture_convert::write_front` meets its contract: three parts one behind the other. Assumes nothing.
use Prim.Native.Nat.{ℕ, ◌+◌, ◌-◌}
use mathlib.Core.Path.{◌≡◌}
use mathlib.Core.List.{List, ◌++◌}
use native.Mathlib.Omega.{arith}
use lib.ListN.{length, take, drop, replicate, length-append, length-drop, length-replicate}
use lib.Seq.{length-take-le}
use Rattle.buffers.specs.LittleEndian.{le_field}
use Rattle.capture_file.specs.Records.{head}
use Rattle.capture_file.specs.Reading.{original_at, delivered_at}
use Rattle.text.proofs.WroteLaws.{wrote-append, wrote-within, wrote-exact}
use Rattle.capture_convert.specs.Converting.{resized_front}
use Rattle.capture_convert.proofs.ConvertingLaws.{sized, take-replicate}
use borrow.Author.Rules.{rules}
use Rattle.capture_convert.proofs.write_front.Goals as goal

pub slice_bounds-put_word-end-2 : goal.slice_bounds-put_word-end-2
slice_bounds-put_word-end-2 c =
    let long = (sized c.requires.0).long in
    search rules

pub returns : goal.returns
unfolding resized_front head
returns c =
    let l = c.args.rest.now in
    let to = c.args.added.to in
    let link : List ℕ = take 48 (drop 16 l) in
    let h : List ℕ = head (le_field 0 4 l) (le_field 4 4 l) (48 + to + delivered_at l) (original_at l + to - c.args.added.from) in
    let linked : length link ≡ 48 = length-take-le 48 (drop 16 l) (simp length-drop (omega (arith, (sized c.requires.0).long))) in
    let one = rw c.resized_head.ensures at c.put_word.ensures in
    let three = rw (take-replicate to 16 c.requires.0.small.1) at c.put_word-3.ensures in
    wrote-within (omega (arith, linked, length-replicate {A = ℕ} to 0, length-append h (link ++ replicate to 0), length-append link (replicate to 0))) (wrote-exact (wrote-append one (wrote-append c.put_word-2.ensures three)))
