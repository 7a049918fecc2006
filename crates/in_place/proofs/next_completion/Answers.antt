-- `in_place::next_completion` meets its contract. Assumes nothing.
use Rattle.std.specs.Prelude.{Option}
use mathlib.Core.Path.{◌≡◌, subst}
use lib.ListN.{length}
use Rattle.trb.specs.declared.InTrbProcessingStatus.{InTrbProcessingStatus}
use Rattle.in_place.specs.InPlace.{result_of, CompletesInPlace}
use Rattle.in_place_questions.specs.Lent.{lent_log}
use Rattle.in_place_questions.proofs.LentLaws.{lent-long}
use Rattle.in_place.proofs.CallLaws.{completes-short, completes-kept}
use Rattle.in_place.proofs.next_completion.Goals.{Else-block-lt-BLOCK}
use Rattle.in_place.proofs.next_completion.Goals as goal

pub returns-then-block-lt-BLOCK : goal.returns-then-block-lt-BLOCK
returns-then-block-lt-BLOCK c =
    let s = c.args in
    completes-short (result_of s.status) s.data_length s.log.now s.block.now c.if-block-lt-BLOCK.true c.completed_as.ensures

-- the log counts, since the bytes are enough for a block
long : (c : Else-block-lt-BLOCK) → let s = c.args in lent_log s.log.now s.block.now ≡ length s.log.now
long c = let s = c.args in lent-long s.log.now s.block.now c.if-block-lt-BLOCK.false

pub returns-then-goes_on : goal.returns-then-goes_on
returns-then-goes_on c =
    let s = c.args in
    rw (long (goal.at.returns-then-goes_on c).Else-block-lt-BLOCK) (completes-kept (result_of s.status) s.data_length s.log.now s.block.now (c.goes_on.ensures c.if-goes_on.true) c.completed_as-then-goes_on.ensures c.keep.ensures)

pub returns : goal.returns
returns c =
    let s = c.args in
    let l = s.log.now in
    let b = s.block.now in
    rw (long (goal.at.returns c).Else-block-lt-BLOCK)
    (subst (λ (x : Option InTrbProcessingStatus). CompletesInPlace (length l) x s.data_length l b c.complete.result c.complete.new.log c.complete.new.block) c.result_of.ensures c.complete.ensures)
