-- What is known of a call on an IN endpoint once every question was answered with yes. Assumes nothing.
use Rattle.std.specs.Prelude.{Option}
use Prim.Native.Nat.{ℕ, ◌+◌, ◌<◌, ◌≤◌}
use mathlib.Core.Path.{◌≡◌}
use mathlib.Core.Bool.{Bool, true, false, not}
use mathlib.Core.List.{List, [], ◌∷◌}
use native.Mathlib.Omega.{arith}
use lib.Dec.{leb}
use borrow.Author.Tests.{leb-true, not-true}
use Rattle.trb.specs.Limits.{max_held, max_transfer_length, min_log, max_data}
use Rattle.trb.specs.Questions.{first_no, asked_if, agree}
use Rattle.trb.specs.Trbs.{transfer_length, immediate_of}
use Rattle.trb.specs.declared.InTrbProcessingStatus.{InTrbProcessingStatus}
use Rattle.trb.specs.declared.TransferTrb.{TransferTrb}
use Rattle.trb.specs.declared.TransferTrbVariant.{TransferTrbVariant}
use Rattle.trb.proofs.QuestionLaws.{yes-first, yes-behind}
use Rattle.held.specs.Sound.{supported}
use Rattle.held.specs.declared.EndpointKind.TheVariants.{In}
use Rattle.guest_memory.specs.declared.Regions.{Regions}
use Rattle.guest_memory.specs.Regions.{share_an_address}
use Rattle.in_block.specs.Facts.{submission_due, awaits_device, sound_block}
use Rattle.in_block.specs.declared.BlockFacts.{BlockFacts}
use Rattle.in_request.specs.Requests.{in_guest_memory}
use Rattle.in_questions.specs.Questions.{trb_questions, submission_questions, is_given, completion_questions}

pub record PassedSubmission (l : ℕ) (f : BlockFacts) (t : TransferTrb) : Type 0 where
  pub log-long : min_log ≤ l
  pub sound : sound_block f ≡ true
  pub short : transfer_length t.variant ≤ max_transfer_length
  pub from-memory : supported In t.variant ≡ true → immediate_of t.variant ≡ false
  pub room : supported In t.variant ≡ true → f.held < max_held

-- the questions of a TRB behind h others that are left, number by number
module _ (h : ℕ) (v : TransferTrbVariant) (regions : Regions) where
  abbrev from-window : List (Bool × ℕ)
  from-window = (asked_if (supported In v) (in_guest_memory v regions), 6) ∷ []

  abbrev from-held : List (Bool × ℕ)
  from-held = (asked_if (supported In v) (leb (h + 1) max_held), 5) ∷ from-window

  abbrev from-flag : List (Bool × ℕ)
  from-flag = (asked_if (supported In v) (not (immediate_of v)), 21) ∷ from-held

  -- question 6
  pub passed-window : first_no (trb_questions h v regions) ≡ 0 → supported In v ≡ true → in_guest_memory v regions ≡ true
  passed-window none kind =
      let flag = yes-behind (leb (transfer_length v) max_transfer_length) 3 from-flag none in
      let held = yes-behind (asked_if (supported In v) (not (immediate_of v))) 20 from-held flag in
      let window = yes-behind (asked_if (supported In v) (leb (h + 1) max_held)) 4 from-window held in
      rw kind at (yes-first (asked_if (supported In v) (in_guest_memory v regions)) 5 [] window)

module _ (l : ℕ) (f : BlockFacts) (t : TransferTrb) (regions : Regions) (none : first_no (submission_questions l f t regions) ≡ 0) where
  abbrev from-trb : List (Bool × ℕ)
  from-trb = trb_questions f.held t.variant regions

  abbrev from-turn : List (Bool × ℕ)
  from-turn = (submission_due f.state, 3) ∷ from-trb

  abbrev from_block : List (Bool × ℕ)
  from_block = (sound_block f, 2) ∷ from-turn

  abbrev from-regions : List (Bool × ℕ)
  from-regions = (not (share_an_address regions), 13) ∷ from_block

  block : first_no from_block ≡ 0
  unfolding submission_questions
  block = yes-behind (not (share_an_address regions)) 12 from_block (yes-behind (leb min_log l) 0 from-regions none)

  pub passed-trb : first_no from-trb ≡ 0
  passed-trb = yes-behind (submission_due f.state) 2 from-trb (yes-behind (sound_block f) 1 from-turn block)

  pub passed-submission : PassedSubmission l f t
  unfolding submission_questions
  passed-submission =
      let flag = yes-behind (leb (transfer_length t.variant) max_transfer_length) 3 (from-flag f.held t.variant regions) passed-trb in
      let held = yes-behind (asked_if (supported In t.variant) (not (immediate_of t.variant))) 20 (from-held f.held t.variant regions) flag in
      record {
        log-long = leb-true _ _ (yes-first (leb min_log l) 0 from-regions none);
        sound = yes-first (sound_block f) 1 from-turn block;
        short = leb-true _ _ (yes-first (leb (transfer_length t.variant) max_transfer_length) 3 (from-flag f.held t.variant regions) passed-trb);
        from-memory = λ kind. not-true _ (rw kind at (yes-first (asked_if (supported In t.variant) (not (immediate_of t.variant))) 20 (from-held f.held t.variant regions) flag));
        room = λ kind.
            let fits : leb (f.held + 1) max_held ≡ true = rw kind at (yes-first (asked_if (supported In t.variant) (leb (f.held + 1) max_held)) 4 (from-window f.held t.variant regions) held) in
            omega (arith, leb-true (f.held + 1) max_held fits);
      }

pub record PassedCompletion (l : ℕ) (f : BlockFacts) (r : Option InTrbProcessingStatus) (n : ℕ) : Type 0 where
  pub log-long : min_log ≤ l
  pub sound : sound_block f ≡ true
  pub agreed : agree (is_given r) (awaits_device f.state) ≡ true
  pub short : n ≤ max_data

module _ (l : ℕ) (f : BlockFacts) (r : Option InTrbProcessingStatus) (n : ℕ) where
  abbrev from-data : List (Bool × ℕ)
  from-data = (leb n max_data, 9) ∷ []

  abbrev from-result : List (Bool × ℕ)
  from-result = (agree (is_given r) (awaits_device f.state), 8) ∷ from-data

  abbrev from-due : List (Bool × ℕ)
  from-due = (not (submission_due f.state), 3) ∷ from-result

  abbrev from-sound : List (Bool × ℕ)
  from-sound = (sound_block f, 2) ∷ from-due

  pub passed-completion : first_no (completion_questions l f r n) ≡ 0 → PassedCompletion l f r n
  unfolding completion_questions
  passed-completion none =
      let block = yes-behind (leb min_log l) 0 from-sound none in
      let turn = yes-behind (sound_block f) 1 from-due block in
      let given = yes-behind (not (submission_due f.state)) 2 from-result turn in
      let bytes = yes-behind (agree (is_given r) (awaits_device f.state)) 7 from-data given in
      record {
        log-long = leb-true _ _ (yes-first (leb min_log l) 0 from-sound none);
        sound = yes-first (sound_block f) 1 from-due block;
        agreed = yes-first (agree (is_given r) (awaits_device f.state)) 7 from-data given;
        short = leb-true _ _ (yes-first (leb n max_data) 8 [] bytes);
      }
