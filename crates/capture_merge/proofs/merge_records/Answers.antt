-- `capture_merge::merge_records` meets its contract. The loop's invariant: the records left of both are what is left to copy. Assumes nothing.
use Prim.Native.Nat.{◌+◌}
use mathlib.Core.Bool.{true, false}
use mathlib.Core.Path.{◌≡◌, sym, ◌∙◌}
use native.Mathlib.Omega.{arith}
use lib.ListN.{length-drop}
use borrow.Author.Rules.{rules}
use Rattle.buffers.proofs.LittleEndianLaws.{AllBytes-each}
use Rattle.capture_file.specs.Reading.{captured_at}
use Rattle.capture_merge.specs.Merging.{second_next}
use Rattle.capture_merge.proofs.CopyLaws.{length-merged, first-whole, merging-all, second-here, second-room, merging-second, first-here, first-room, merging-first, merging-ends}
use Rattle.capture_merge.proofs.merge_records.Goals.{Then-second_next, Else-second_next}
use Rattle.capture_merge.proofs.merge_records.Goals as goal

pub loop-firsts-init : goal.loop-firsts-init
loop-firsts-init c =
    merging-all c.requires.0 c.requires.1 (AllBytes-each c.args.a.now (λ i. omega (arith, c.shared_slice_known-1.given i)))
    (AllBytes-each c.args.b.now (λ i. omega (arith, c.shared_slice_known-2-1.given i))) c.requires.2

pub overflow_add-firsts : goal.overflow_add-firsts
overflow_add-firsts c =
    let few = c.loop-firsts.invariant.few in
    search rules

pub second_next-requires : goal.second_next-requires
second_next-requires c =
    let i = c.loop-firsts.invariant in (
      λ h. omega (arith, (first-whole c.loop-firsts.firsts.now h i.first).header),
      λ h. omega (arith, (first-whole c.loop-firsts.seconds.now h i.second).header),
    )

-- the second's record comes next, or the first's does
second-asked : (c : Then-second_next) → second_next c.loop-firsts.firsts.now c.loop-firsts.seconds.now ≡ true
second-asked c = sym c.second_next.ensures ∙ c.if-second_next.true

first-asked : (c : Else-second_next) → second_next c.loop-firsts.firsts.now c.loop-firsts.seconds.now ≡ false
first-asked c = sym c.second_next.ensures ∙ c.if-second_next.false

pub copy_record-seconds-requires : goal.copy_record-seconds-requires
copy_record-seconds-requires c =
    let i = c.loop-firsts.invariant in
    let asked = second-asked (goal.at.copy_record-seconds-requires c).Then-second_next in
    let w = second-here i asked in
    (omega (arith, w.header), w.complete, second-room i asked)

pub copy_record-firsts-requires : goal.copy_record-firsts-requires
copy_record-firsts-requires c =
    let i = c.loop-firsts.invariant in
    let asked = first-asked (goal.at.copy_record-firsts-requires c).Else-second_next in
    let w = first-here i asked c.loop-firsts-test.true in
    (omega (arith, w.header), w.complete, first-room i asked c.loop-firsts-test.true)

pub loop-firsts-preserved-then-second_next : goal.loop-firsts-preserved-then-second_next
loop-firsts-preserved-then-second_next c =
    let i = c.loop-firsts.invariant in
    merging-second i (second-asked (goal.at.loop-firsts-preserved-then-second_next c).Then-second_next) c.copy_record-seconds.ensures.left c.copy_record-seconds.ensures.wrote

pub loop-firsts-smaller-then-second_next : goal.loop-firsts-smaller-then-second_next
loop-firsts-smaller-then-second_next c =
    let w = second-here c.loop-firsts.invariant (second-asked (goal.at.loop-firsts-smaller-then-second_next c).Then-second_next) in
    rw c.copy_record-seconds.ensures.left (omega (arith, w.complete, length-drop (16 + captured_at c.loop-firsts.seconds.now) c.loop-firsts.seconds.now))

pub loop-firsts-preserved : goal.loop-firsts-preserved
loop-firsts-preserved c =
    let i = c.loop-firsts.invariant in
    merging-first i (first-asked (goal.at.loop-firsts-preserved c).Else-second_next) c.loop-firsts-test.true c.copy_record-firsts.ensures.left c.copy_record-firsts.ensures.wrote

pub loop-firsts-smaller : goal.loop-firsts-smaller
loop-firsts-smaller c =
    let w = first-here c.loop-firsts.invariant (first-asked (goal.at.loop-firsts-smaller c).Else-second_next) c.loop-firsts-test.true in
    rw c.copy_record-firsts.ensures.left (omega (arith, w.complete, length-drop (16 + captured_at c.loop-firsts.firsts.now) c.loop-firsts.firsts.now))

pub returns : goal.returns
returns c =
    let made =
    length-merged c.args.a.now c.args.b.now c.requires.0 c.requires.1 (AllBytes-each c.args.a.now (λ i. omega (arith, c.shared_slice_known-1.given i)))
    (AllBytes-each c.args.b.now (λ i. omega (arith, c.shared_slice_known-2-1.given i))) in
    merging-ends c.loop-firsts.invariant (omega (arith, c.loop-firsts-test.false)) (omega (arith, made))
