-- `in_place_submission::is_collected` meets its contract: behind each test one question says yes. Assumes nothing.
use Prim.Native.Nat.{ℕ}
use mathlib.Core.Bool.{true≢false}
use mathlib.Core.Path.{sym, ap, ◌∙◌}
use native.Mathlib.Omega.{arith}
use borrow.Author.Tests.{not-true}
use Rattle.trb.specs.Questions.{first_no}
use Rattle.trb.specs.declared.TransferTrbVariant.TheVariants.{Normal}
use Rattle.trb.proofs.AnswerLaws.{answered-all, accepted-ok}
use Rattle.in_block.specs.Facts.{facts_of}
use Rattle.in_block.proofs.SoundLaws.{sound-held}
use Rattle.in_questions.specs.Questions.{trb_questions}
use Rattle.held_bytes.specs.Numbers.{normal_of}
use Rattle.in_bytes.specs.Layout.{block_of}
use Rattle.in_place_questions.specs.Lent.{SoundIn}
use Rattle.in_place_submission.proofs.CollectedLaws.{collected}
use Rattle.in_place_submission.proofs.is_collected.Goals.{Else-not-is_sound_in}
use Rattle.in_place_submission.proofs.is_collected.Goals as goal

pub returns-then-numbers-ne-NORMAL : goal.returns-then-numbers-ne-NORMAL
returns-then-numbers-ne-NORMAL c = λ yes. absurd (true≢false (sym yes))

pub returns-then-not-bit : goal.returns-then-not-bit
returns-then-not-bit c = λ yes. absurd (true≢false (sym yes))

pub returns-then-not-is_sound_in : goal.returns-then-not-is_sound_in
returns-then-not-is_sound_in c = λ yes. absurd (true≢false (sym yes))

-- a submission is due
in-state : (c : Else-not-is_sound_in) → SoundIn 0 c.args.block.now
in-state c = c.is_sound_in.ensures c.if-not-is_sound_in.false

pub returns-then-log_length-lt-MIN_LOG : goal.returns-then-log_length-lt-MIN_LOG
returns-then-log_length-lt-MIN_LOG c = λ yes. absurd (true≢false (sym yes))

pub returns-then-not-share_none : goal.returns-then-not-share_none
returns-then-not-share_none c = λ yes. absurd (true≢false (sym yes))

pub ask_of_normal-answer-requires : goal.ask_of_normal-answer-requires
unfolding block_of
ask_of_normal-answer-requires c = omega (arith, c.held-held.ensures, sound-held (facts_of (block_of c.args.block.now)) (in-state (goal.at.ask_of_normal-answer-requires c).Else-not-is_sound_in).sound)

pub returns : goal.returns
returns c =
    λ yes.
    let s = c.args in
    let n = s.numbers in
    collected s.block.now s.log_length n s.regions c.if-numbers-ne-NORMAL.false (sym c.bit.ensures ∙ c.if-not-bit.false) (in-state (goal.at.returns c).Else-not-is_sound_in) c.if-log_length-lt-MIN_LOG.false
    (not-true _ (sym c.share_none.ensures ∙ c.if-not-share_none.false))
    (ap (λ (held : ℕ). first_no (trb_questions held (Normal (normal_of n.flags n.value n.transfer_length)) s.regions)) (sym c.held-held.ensures)
    ∙ answered-all c.ask_of_normal-answer.result _ c.ask_of_normal-answer.ensures (accepted-ok _ (sym c.is_ok.ensures.value ∙ yes)))
