-- `in_place_delivery::ask` meets its contract: behind 1 and 13 the number is that of a completion's questions, and where each was answered with yes, question 11 is
-- told by the places held. Assumes nothing.
use Prim.Native.Nat.{ℕ}
use mathlib.Core.Bool.{cond}
use mathlib.Core.Path.{◌≡◌, ap, ◌∙◌}
use native.Mathlib.Omega.{arith}
use lib.ListN.{take}
use Rattle.trb.specs.Answers.{is_accepted}
use Rattle.trb.specs.declared.TdBasedNormalSubmissionState.{TdBasedNormalSubmissionState}
use Rattle.in_block.specs.Blocks.{held_of}
use Rattle.in_block.specs.Facts.{awaits_device, facts_of}
use Rattle.in_questions.proofs.PassedLaws.{PassedCompletion}
use Rattle.in_bytes.specs.Layout.{held_count, places, block_of}
use Rattle.delivery_laws.specs.Ranges.{writes_inside}
use Rattle.delivery.proofs.QuestionLaws.{number-no, known, number-yes}
use borrow.Author.Rules.{rules}
use Rattle.in_place_delivery.proofs.ask.Goals.{In_ok-ask_completion, After-writes_inside}
use Rattle.in_place_delivery.proofs.ask.Goals as goal

module _ (c : In_ok-ask_completion) where
  completes : PassedCompletion c.args.log_length (facts_of (block_of c.args.block.now)) c.args.res c.args.data_length
  completes =
      let s = c.args in
      known s.log_length (block_of s.block.now) s.res s.data_length s.regions (search rules) (search rules) c.ask_completion.result c.ask_completion.ensures (ap is_accepted c.in_ok-ask_completion.was)

pub returns-in_err-ask_completion : goal.returns-in_err-ask_completion
returns-in_err-ask_completion c =
    let s = c.args in
    let same : c.from_residual-in_err-ask_completion.result ≡ c.ask_completion.result = grind arith in
    rw same
    (number-no s.log_length (block_of s.block.now) s.res s.data_length s.regions (search rules) (search rules) _ c.ask_completion.ensures (ap is_accepted c.in_err-ask_completion.was))

pub overflow_cast-data_length : goal.overflow_cast-data_length
overflow_cast-data_length c =
    let short = (completes (goal.at.overflow_cast-data_length c).In_ok-ask_completion).short in
    search rules

-- the places that are walked hold the TRBs held
inside : (c : After-writes_inside) → let s = c.args in
    c.writes_inside.result ≡ writes_inside s.regions (cond (awaits_device (block_of s.block.now).state) s.data_length 0) (held_of (block_of s.block.now))
unfolding block_of
inside c =
    let s = c.args in
    let b = s.block.now in
    c.writes_inside.ensures
    ∙ ap (writes_inside s.regions c.bytes_given-given.result) c.held_places-places.ensures.trbs
    ∙ ap (λ (n : ℕ). writes_inside s.regions n (take (held_count b) (places b)))
    (c.bytes_given-given.ensures ∙ ap (λ (x : TdBasedNormalSubmissionState). cond (awaits_device x) s.data_length 0) c.state_of-state.ensures)

pub returns : goal.returns
returns c =
    let s = c.args in
    rw c.ask-3.ensures
    (number-yes s.log_length (block_of s.block.now) s.res s.data_length s.regions (search rules) (search rules) _ c.ask_completion.ensures (ap is_accepted c.in_ok-ask_completion.was)
    c.writes_inside.result (inside (goal.at.returns c).After-writes_inside))
