-- `in_place_submission::submit_trb` meets its contract. Assumes nothing.
use mathlib.Core.Path.{◌≡◌}
use lib.ListN.{length}
use Rattle.held_bytes.specs.Numbers.{trb_of}
use Rattle.in_place_questions.specs.Lent.{lent_log}
use Rattle.in_place_questions.proofs.LentLaws.{lent-long}
use Rattle.in_place_submission.proofs.CollectedLaws.{collected-fits, submits-collected}
use Rattle.in_place_submission.proofs.SubmissionLaws.{submits-short}
use Rattle.in_place_submission.proofs.submit_trb.Goals.{Else-block-lt-BLOCK}
use Rattle.in_place_submission.proofs.submit_trb.Goals as goal

pub returns-then-block-lt-BLOCK : goal.returns-then-block-lt-BLOCK
returns-then-block-lt-BLOCK c =
    let s = c.args in
    submits-short (trb_of s.numbers) s.regions s.log.now s.block.now c.if-block-lt-BLOCK.true c.answered_as.ensures

-- the log counts, since the bytes are enough for a block
long : (c : Else-block-lt-BLOCK) → let s = c.args in lent_log s.log.now s.block.now ≡ length s.log.now
long c = let s = c.args in lent-long s.log.now s.block.now c.if-block-lt-BLOCK.false

pub store-requires : goal.store-requires
store-requires c =
    let s = c.args in
    let fits = collected-fits s.block.now (trb_of s.numbers) c.args.regions (length s.log.now) (c.is_collected.ensures c.if-is_collected.true) in
    record { block_length_in_bounds = (c.if-block-lt-BLOCK.false, fits.0); numbers_bound = fits.1 }

pub returns-then-is_collected : goal.returns-then-is_collected
returns-then-is_collected c =
    let s = c.args in
    rw (long (goal.at.returns-then-is_collected c).Else-block-lt-BLOCK)
    (submits-collected s.block.now (trb_of s.numbers) c.args.regions (length s.log.now) s.log.now (c.is_collected.ensures c.if-is_collected.true) c.answered_as-then-is_collected.ensures c.store.ensures)

pub returns : goal.returns
returns c = rw (long (goal.at.returns c).Else-block-lt-BLOCK) c.submit.ensures
