-- What follows for a submission where no question is answered no. Assumes nothing.
use Prim.Native.Nat.{ℕ, ◌+◌, ◌<◌, ◌≤◌}
use mathlib.Core.Path.{◌≡◌}
use mathlib.Core.Bool.{Bool, true, false, not}
use mathlib.Core.List.{List, [], ◌∷◌}
use native.Mathlib.Omega.{arith}
use lib.Dec.{leb}
use borrow.Author.Tests.{leb-true}
use Rattle.trb.specs.Limits.{max_held, max_transfer_length, max_collected, min_log}
use Rattle.trb.specs.Questions.{first_no}
use Rattle.trb.specs.Trbs.{transfer_length}
use Rattle.trb.proofs.QuestionLaws.{yes-first, yes-behind}
use Rattle.trb.proofs.TestLaws.{and_left, and_right}
use Rattle.trb.specs.declared.TransferTrb.{TransferTrb}
use Rattle.guest_memory.specs.declared.Regions.{Regions}
use Rattle.guest_memory.specs.Regions.{share_an_address}
use Rattle.phase_table.specs.declared.Outcome.{Outcome}
use Rattle.phase_table.specs.Outcomes.{holds, restarts}
use Rattle.control_block.specs.declared.BlockFacts.{BlockFacts}
use Rattle.control_block.specs.Facts.{sound_block, submission_due}
use Rattle.control_block.proofs.BlockLaws.{sound-held, sound-collected}
use Rattle.control_transfer.specs.Data.{data_of}
use Rattle.control_transfer.specs.Transfers.{collectable}
use Rattle.control_questions.specs.Submission.{long_enough, immediate_allowed, has_room, reaches, submission_questions}

-- a TRB that is held, behind those held, has a place
pub room-held : (o : Outcome) (held : ℕ) → has_room o held ≡ true → holds o ≡ true → restarts o ≡ false → held < max_held
unfolding has_room
room-held o held room holding restart =
    let free : leb (held + 1) max_held ≡ true = rw (holding, restart) at room in
    omega (arith, leb-true (held + 1) max_held free)

-- what is known of a call that is accepted
pub record Passed (log collect : ℕ) (f : BlockFacts) (o : Outcome) (t : TransferTrb) : Type 0 where
  pub log-long : min_log ≤ log
  pub collect-long : max_collected ≤ collect
  pub held : f.held ≤ max_held
  pub collected : f.collected ≤ max_collected
  pub from-memory : immediate_allowed o f.direction (data_of t.variant) ≡ true
  pub room : has_room o f.held ≡ true
  pub size : collectable o f.direction f.collected (data_of t.variant) ≡ true

-- the questions from each on
module _ (f : BlockFacts) (o : Outcome) (t : TransferTrb) (regions : Regions) where
  abbrev pub from-collected : List (Bool × ℕ)
  from-collected = (collectable o f.direction f.collected (data_of t.variant), 7) ∷ []

  abbrev pub from-window : List (Bool × ℕ)
  from-window = (reaches o f.direction (data_of t.variant) regions, 6) ∷ from-collected

  abbrev pub from-held : List (Bool × ℕ)
  from-held = (has_room o f.held, 5) ∷ from-window

  abbrev pub from-flag : List (Bool × ℕ)
  from-flag = (immediate_allowed o f.direction (data_of t.variant), 21) ∷ from-held

  abbrev pub from-length : List (Bool × ℕ)
  from-length = (leb (transfer_length t.variant) max_transfer_length, 4) ∷ from-flag

  abbrev pub from-turn : List (Bool × ℕ)
  from-turn = (submission_due f.state, 3) ∷ from-length

  abbrev pub from_block : List (Bool × ℕ)
  from_block = (sound_block f, 2) ∷ from-turn

  abbrev pub from-regions : List (Bool × ℕ)
  from-regions = (not (share_an_address regions), 13) ∷ from_block

  pub passed : (log collect : ℕ) → first_no (submission_questions log collect f o t regions) ≡ 0 → Passed log collect f o t
  unfolding submission_questions
  passed log collect none =
      let long = yes-first (long_enough log collect) 0 from-regions none in
      let apart : first_no from-regions ≡ 0 = yes-behind (long_enough log collect) 0 from-regions none in
      let second : first_no from_block ≡ 0 = yes-behind (not (share_an_address regions)) 12 from_block apart in
      let sound = yes-first (sound_block f) 1 from-turn second in
      let third : first_no from-turn ≡ 0 = yes-behind (sound_block f) 1 from-turn second in
      let fourth : first_no from-length ≡ 0 = yes-behind (submission_due f.state) 2 from-length third in
      let flag : first_no from-flag ≡ 0 = yes-behind (leb (transfer_length t.variant) max_transfer_length) 3 from-flag fourth in
      let fifth : first_no from-held ≡ 0 = yes-behind (immediate_allowed o f.direction (data_of t.variant)) 20 from-held flag in
      let sixth : first_no from-window ≡ 0 = yes-behind (has_room o f.held) 4 from-window fifth in
      let seventh : first_no from-collected ≡ 0 = yes-behind (reaches o f.direction (data_of t.variant) regions) 5 from-collected sixth in
      record {
        log-long = leb-true _ _ (and_left (leb min_log log) (leb max_collected collect) long);
        collect-long = leb-true _ _ (and_right (leb min_log log) (leb max_collected collect) long);
        held = sound-held f sound;
        collected = sound-collected f sound;
        from-memory = yes-first (immediate_allowed o f.direction (data_of t.variant)) 20 from-held flag;
        room = yes-first (has_room o f.held) 4 from-window fifth;
        size = yes-first (collectable o f.direction f.collected (data_of t.variant)) 6 [] seventh;
      }
