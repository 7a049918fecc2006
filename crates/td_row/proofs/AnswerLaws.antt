-- The entry for a lent row answers as completion does for a block that holds the row and awaits the device. Assumes nothing.
use Rattle.std.specs.Prelude.{Err, None, Ok, Option, Result, Some}
use Prim.Native.Nat.{ℕ, ◌*◌, ◌≤◌}
use mathlib.Core.Path.{◌≡◌, refl, sym, ap, ◌∙◌, subst}
use mathlib.Core.Bool.{Bool, true, false, true≢false}
use mathlib.Core.List.{List, ◌++◌}
use native.Mathlib.Omega.{arith}
use lib.Dec.{leb, eqb}
use lib.ListN.{length, replicate}
use lib.Seq.{take-take, take-append_seam}
use borrow.Author.Tests.{leb-true, eqb-true}
use Rattle.trb.specs.Answers.{number_of, refusal_of, CompletionAnswer}
use Rattle.trb.specs.Limits.{max_held, record_length}
use Rattle.trb.specs.Questions.{first_no, agree}
use Rattle.trb.specs.declared.EndpointId.{EndpointId}
use Rattle.trb.specs.declared.InTrbProcessingStatus.{InTrbProcessingStatus}
use Rattle.trb.specs.declared.Refusal.{Refusal}
use Rattle.trb.specs.declared.SlotId.{SlotId}
use Rattle.trb.specs.declared.TdBasedNormalSubmissionState.TheVariants.{AwaitingRealTransfer}
use Rattle.trb.specs.declared.TransferTrb.{TransferTrb}
use Rattle.call_log.specs.Calls.{Out, Meets}
use Rattle.call_log.specs.Logs.{records_in}
use Rattle.call_log.proofs.CallLaws.{meets-silent}
use Rattle.held.specs.Places.{blank_trb}
use Rattle.account.specs.Guest.{Distinct, IspOnNormals, LastNormalWithIoc, Account}
use Rattle.in_td.specs.Td.{in_td, normals, process_td}
use Rattle.in_td.specs.declared.InMode.{InMode}
use Rattle.in_td.specs.declared.InTd.{InTd}
use Rattle.in_td.specs.declared.TdProcessed.{TdProcessed}
use Rattle.in_block.specs.Blocks.{held_of}
use Rattle.in_block.specs.Facts.{held_test, facts_of, sound_block}
use Rattle.in_block.specs.Outcomes.{ending_of}
use Rattle.in_block.specs.declared.HeldTest.{HeldTest}
use Rattle.in_block.specs.declared.InBlock.{InBlock}
use Rattle.in_block.proofs.SoundLaws.{sound-held}
use Rattle.in_block.proofs.TestLaws.{all-counted}
use Rattle.in_questions.specs.Questions.{is_given, completion_questions}
use Rattle.in_questions.proofs.PassedLaws.{PassedCompletion, passed-completion}
use Rattle.in_endpoint.specs.Completion.{transferred, completed_as, completion, is_accepted}
use Rattle.in_endpoint.specs.Returned.{Completed}
use Rattle.in_endpoint.proofs.CompletionLaws.{process_td-counts, accepted-none, accounted-completion, completion-number}
use Rattle.row_plan.specs.Plans.{row_facts, status_of, row_plan}
use Rattle.row_plan.specs.Rows.{row_block, row_completion, CompletesRow, AccountedRow}
use Rattle.trb.specs.declared.Logged.{Logged}

module _ (e : EndpointId) (s : SlotId) (mode : InMode) (ts : List TransferTrb) where
  abbrev block : InBlock
  block = row_block e s mode ts

  -- a block that has room for the row holds it
  held_of-row_block : length ts ≤ max_held → held_of block ≡ ts
  held_of-row_block few = take-take (length ts) max_held (ts ++ replicate max_held blank_trb) few ∙ take-append_seam ts (replicate max_held blank_trb)

  -- question 2 asks of the row what it asks of the block: a longer row is refused by its length
  sound_block-row_block : sound_block (facts_of block) ≡ sound_block (row_facts e s (length ts) (held_test ts))
  unfolding sound_block
  sound_block-row_block = by_length (leb (length ts) max_held) refl
    where
      by_length : (b : Bool) → leb (length ts) max_held ≡ b → sound_block (facts_of block) ≡ sound_block (row_facts e s (length ts) (held_test ts))
      by_length true few = rw (held_of-row_block (leb-true _ _ few))
      by_length false many = rw many

  module _ (l : List ℕ) (res : Option InTrbProcessingStatus) (n : ℕ) where
    abbrev out : Out Completed
    out = completion (length l) block res n

    abbrev asked : ℕ
    asked = first_no (completion_questions (length l) (row_facts e s (length ts) (held_test ts)) res n)

    -- and so do the other questions
    asked-block : first_no (completion_questions (length l) (facts_of block) res n) ≡ asked
    unfolding completion_questions
    asked-block = rw sound_block-row_block

    known : asked ≡ 0 → PassedCompletion (length l) (facts_of block) res n
    known none = passed-completion (length l) (facts_of block) res n (asked-block ∙ none)

    few : asked ≡ 0 → length ts ≤ max_held
    few none = sound-held (facts_of block) (known none).sound

    -- what the call returns, and the log behind it, are what completion does for the block
    abbrev Met : Logged CompletionAnswer → List ℕ → Type 0
    Met r l' = Meets (row_completion (length l) e s mode ts res n) 0 l r l'

    -- ---- Demand 3

    module _ (r : Logged CompletionAnswer) (l' : List ℕ) (m : Met r l') where
      abbrev whole : Completed
      whole = record { answer = r.answer; records = r.records; block = out.state.block }

      whole-met : Meets out 0 l whole l'
      whole-met = record { state = ap (λ (x : Logged CompletionAnswer). record { answer = x.answer; records = x.records; block = out.state.block }) m.state; log = m.log; fits = m.fits }

      accounted-few : length ts ≤ max_held → AccountedRow ts n r.answer (records_in r.records l')
      accounted-few most accepted =
          subst (λ (x : List TransferTrb). Distinct x → IspOnNormals x → LastNormalWithIoc x → Account n x (records_in r.records l')) (held_of-row_block most)
          (accounted-completion l l' block res n whole whole-met refl accepted)

      -- an accepted row is no longer than a block holds
      accounted-row : AccountedRow ts n r.answer (records_in r.records l')
      accounted-row accepted =
          accounted-few (few (sym asked-block ∙ accepted-none (length l) block res n (ap (λ (x : Logged CompletionAnswer). is_accepted x.answer) (sym m.state) ∙ accepted))) accepted

    -- ---- What the entry's contract says

    abbrev Answered : Logged CompletionAnswer → List ℕ → Type 0
    Answered r l' = CompletesRow e s mode ts res n l r l' × AccountedRow ts n r.answer (records_in r.records l')

    answered-row : (r : Logged CompletionAnswer) (l' : List ℕ) → Met r l' → Answered r l'
    answered-row r l' m =
        (record { number = ap (λ (x : Logged CompletionAnswer). number_of x.answer) m.state ∙ completion-number (length l) block res n; met = m }, accounted-row r l' m)

    -- what the walk gave
    abbrev walked_as : TdProcessed → Logged CompletionAnswer
    walked_as p = record { answer = Ok p.result; records = p.progress.records }

    -- what the walk asks for: as many Normals as the row has, and two records for each TRB in the log
    abbrev Walkable : Type 0
    Walkable = ((held_test ts).normals ≡ normals ts) × (record_length * (2 * length ts) ≤ length l)

    -- of the refusal, or of what a walk over the row as that TD made of the log
    abbrev Answers : Result InTd Refusal → Type 0
    Answers (Err r) = Answered (record { answer = Err r; records = 0 }) l
    Answers (Ok td) = Walkable × ((p : TdProcessed) (l' : List ℕ) → Meets (process_td td ts) 0 l p l' → Answered (walked_as p) l')

    refused-met : eqb asked 0 ≡ false → Met (record { answer = Err (refusal_of asked); records = 0 }) l
    unfolding completion
    refused-met some = rw (asked-block, some) (meets-silent 0 l refl)

    walked-of : (r : Option InTrbProcessingStatus) → agree (is_given r) true ≡ true → completed_as (ending_of AwaitingRealTransfer r n) block ≡ transferred block (status_of r) n
    walked-of None agreed = absurd (true≢false (sym agreed))
    walked-of (Some st) agreed = refl

    abbrev td : InTd
    td = in_td e s mode (status_of res) n

    walkable : asked ≡ 0 → Walkable
    walkable none = let most = few none in let long = (known none).log-long in (all-counted ts most, omega arith)

    walked-met : asked ≡ 0 → (p : TdProcessed) (l' : List ℕ) → Meets (process_td td ts) 0 l p l' → Met (walked_as p) l'
    unfolding completion transferred
    walked-met none p l' k =
        let counted : p.progress.records ≡ length (process_td td ts).records = ap (λ (x : TdProcessed). x.progress.records) k.state ∙ process_td-counts td ts in
        rw (asked-block, none, walked-of res (known none).agreed, held_of-row_block (few none)) (record { state = rw (counted, k.state); log = k.log; fits = k.fits })

    answers-td : Answers (row_plan (length l) e s mode (length ts) (held_test ts) res n)
    unfolding row_plan
    answers-td = by_number (eqb asked 0) refl
      where
        by_number : (b : Bool) → eqb asked 0 ≡ b → Answers (row_plan (length l) e s mode (length ts) (held_test ts) res n)
        by_number true same = let none = eqb-true asked 0 same in rw same (walkable none, λ p l' m. answered-row (walked_as p) l' (walked-met none p l' m))
        by_number false some = rw some (answered-row _ l (refused-met some))

    -- of what was found of the row, and of the TD that the questions leave
    pub answers : (t : HeldTest) (r : Result InTd Refusal) → t ≡ held_test ts → r ≡ row_plan (length l) e s mode (length ts) t res n → Answers r
    answers t r tested planned = subst Answers (sym (planned ∙ ap (λ (x : HeldTest). row_plan (length l) e s mode (length ts) x res n) tested)) answers-td
