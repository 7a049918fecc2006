-- What follows for a completion where no question is answered no. Assumes nothing.
use Rattle.std.specs.Prelude.{Option}
use Prim.Native.Nat.{ℕ, ◌≤◌}
use mathlib.Core.Path.{◌≡◌}
use mathlib.Core.Bool.{Bool, not}
use mathlib.Core.List.{List, [], ◌∷◌}
use lib.Dec.{leb}
use borrow.Author.Tests.{leb-true}
use Rattle.trb.specs.Limits.{max_held, max_data, min_log}
use Rattle.trb.specs.Questions.{first_no, agree}
use Rattle.trb.proofs.QuestionLaws.{yes-first, yes-behind}
use Rattle.trb.specs.declared.ControlRequestProcessingResult.{ControlRequestProcessingResult}
use Rattle.control_block.specs.declared.BlockFacts.{BlockFacts}
use Rattle.control_block.specs.Facts.{sound_block, submission_due, awaits_device}
use Rattle.control_block.proofs.BlockLaws.{sound-held}
use Rattle.control_questions.specs.Completion.{is_given, completion_questions}

-- the numbers of a call that is accepted
pub record Passed (log : ℕ) (f : BlockFacts) (n : ℕ) : Type 0 where
  pub log-long : min_log ≤ log
  pub held : f.held ≤ max_held
  pub data-short : n ≤ max_data

-- the questions from each on
module _ (f : BlockFacts) (r : Option ControlRequestProcessingResult) (n : ℕ) where
  abbrev pub from-data : List (Bool × ℕ)
  from-data = (leb n max_data, 9) ∷ []

  abbrev pub from-result : List (Bool × ℕ)
  from-result = (agree (is_given r) (awaits_device f.state), 8) ∷ from-data

  abbrev pub from-turn : List (Bool × ℕ)
  from-turn = (not (submission_due f.state), 3) ∷ from-result

  abbrev pub from_block : List (Bool × ℕ)
  from_block = (sound_block f, 2) ∷ from-turn

  pub passed : (log : ℕ) → first_no (completion_questions log f r n) ≡ 0 → Passed log f n
  unfolding completion_questions
  passed log none =
      let second : first_no from_block ≡ 0 = yes-behind (leb min_log log) 0 from_block none in
      let third : first_no from-turn ≡ 0 = yes-behind (sound_block f) 1 from-turn second in
      let eighth : first_no from-result ≡ 0 = yes-behind (not (submission_due f.state)) 2 from-result third in
      let ninth : first_no from-data ≡ 0 = yes-behind (agree (is_given r) (awaits_device f.state)) 7 from-data eighth in
      record {
        log-long = leb-true _ _ (yes-first (leb min_log log) 0 from_block none);
        held = sound-held f (yes-first (sound_block f) 1 from-turn second);
        data-short = leb-true _ _ (yes-first (leb n max_data) 8 [] ninth);
      }
