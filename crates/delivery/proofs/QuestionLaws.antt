-- The questions of a completion that is carried out at once, behind 1 and 13: those of a completion, and where each was answered with yes, question 11.
-- Assumes nothing.
use Rattle.std.specs.Prelude.{Err, Ok, Option}
use Prim.Native.Nat.{ℕ, zero, suc}
use mathlib.Core.Bool.{Bool, true, false, not, cond}
use mathlib.Core.Path.{◌≡◌, refl, sym, ap, ◌∙◌}
use mathlib.Core.List.{[], ◌∷◌}
use native.Mathlib.Omega.{arith}
use lib.Dec.{eqb, leb}
use borrow.Author.Tests.{ne_eqb, not-true}
use Rattle.trb.specs.Answers.{number_of, is_accepted}
use Rattle.trb.specs.Limits.{min_log, max_data}
use Rattle.trb.specs.Questions.{first_no, after_questions, agree}
use Rattle.trb.specs.Answers.{Answer}
use Rattle.trb.specs.declared.InTrbProcessingStatus.{InTrbProcessingStatus}
use Rattle.trb.specs.declared.Refusal.TheVariants.{WriteOutOfRange}
use Rattle.trb.proofs.AnswerLaws.{answered-yes, answered-no, answered-all}
use Rattle.trb.proofs.QuestionLaws.{yes-first, yes-behind}
use Rattle.guest_memory.specs.declared.Regions.{Regions}
use Rattle.guest_memory.specs.Regions.{share_an_address}
use Rattle.carry_out.specs.Writes.{writes_in_range}
use Rattle.in_block.specs.Blocks.{held_of}
use Rattle.in_block.specs.Facts.{submission_due, awaits_device, sound_block, facts_of}
use Rattle.in_block.specs.declared.InBlock.{InBlock}
use Rattle.in_questions.specs.Questions.{is_given, completion_questions}
use Rattle.in_questions.proofs.PassedLaws.{PassedCompletion, passed-completion}
use Rattle.delivery_laws.specs.Ranges.{writes_inside}
use Rattle.delivery.specs.Completing.{completed, delivery_questions}
use Rattle.delivery.proofs.CompletionLaws.{inside-ended}

asked-number : (t : Bool) → number_of {A = Unit {0}} (cond t (Ok tt) (Err WriteOutOfRange)) ≡ cond t 0 11
asked-number true = refl
asked-number false = refl

module _ (l : ℕ) (b : InBlock) (r : Option InTrbProcessingStatus) (n : ℕ) (regions : Regions) where
  abbrev inside : Bool
  inside = writes_in_range n regions (completed b r n).records

  behind-both : (sound due agreed short told : Bool)
      → first_no ((sound, 2) ∷ (due, 3) ∷ (agreed, 8) ∷ (short, 9) ∷ (told, 11) ∷ [])
      ≡ after_questions ((sound, 2) ∷ (due, 3) ∷ (agreed, 8) ∷ (short, 9) ∷ []) (λ k. k) (cond told 0 11)
  unfolding first_no
  behind-both true true true true told = refl
  behind-both true true true false told = refl
  behind-both true true false short told = refl
  behind-both true false agreed short told = refl
  behind-both false due agreed short told = refl

  module _ (long : leb min_log l ≡ true) (apart : share_an_address regions ≡ false) where
    delivery-number : first_no (delivery_questions l b r n regions) ≡ after_questions (completion_questions l (facts_of b) r n) (λ k. k) (cond inside 0 11)
    unfolding delivery_questions completion_questions first_no
    delivery-number =
        rw (long, apart)
        (behind-both (sound_block (facts_of b)) (not (submission_due b.state)) (agree (is_given r) (awaits_device b.state)) (leb n max_data) inside)

    module _ (a : Answer) (asked : number_of a ≡ first_no (completion_questions l (facts_of b) r n)) where
      pub number-no : is_accepted a ≡ false → number_of a ≡ first_no (delivery_questions l b r n regions)
      number-no failed = sym (delivery-number ∙ answered-no (completion_questions l (facts_of b) r n) (λ k. k) (cond inside 0 11) a asked failed)

      module _ (passed : is_accepted a ≡ true) where
        pub known : PassedCompletion l (facts_of b) r n
        known = passed-completion l (facts_of b) r n (answered-all a (completion_questions l (facts_of b) r n) asked passed)

        -- only question 11 is left, which the TRBs held tell
        pub number-yes : (t : Bool) → t ≡ writes_inside regions (cond (awaits_device b.state) n 0) (held_of b) → number_of {A = Unit {0}} (cond t (Ok tt) (Err WriteOutOfRange)) ≡ first_no (delivery_questions l b r n regions)
        number-yes t e =
            asked-number t
            ∙ ap (λ (u : Bool). cond u 0 11) (e ∙ sym (inside-ended b n regions b.state r known.agreed))
            ∙ sym (delivery-number ∙ answered-yes (completion_questions l (facts_of b) r n) (λ k. k) (cond inside 0 11) a asked passed)

-- what is known once every question was answered with yes
pub record PassedDelivery (l : ℕ) (b : InBlock) (r : Option InTrbProcessingStatus) (n : ℕ) (regions : Regions) : Type 0 where
  pub apart : share_an_address regions ≡ false
  pub completes : first_no (completion_questions l (facts_of b) r n) ≡ 0
  pub writes : writes_in_range n regions (completed b r n).records ≡ true

-- of k, the first no of a completion's questions, and question 11 behind them
both-passed : (k : ℕ) (inside : Bool) → cond (eqb k 0) (cond inside 0 11) k ≡ 0 → (k ≡ 0) × (inside ≡ true)
both-passed zero true e = (refl, refl)
both-passed zero false e = absurd (omega arith)
both-passed (suc k) inside e = absurd (omega (arith, rw (ne_eqb (suc k) 0 (λ q. omega arith)) at e))

pub passed-delivery : (l : ℕ) (b : InBlock) (r : Option InTrbProcessingStatus) (n : ℕ) (regions : Regions) → first_no (delivery_questions l b r n regions) ≡ 0
    → PassedDelivery l b r n regions
unfolding delivery_questions
passed-delivery l b r n regions none =
    let long = yes-first (leb min_log l) 0 _ none in
    let apart = not-true (share_an_address regions) (yes-first (not (share_an_address regions)) 12 _ (yes-behind (leb min_log l) 0 _ none)) in
    let both = both-passed (first_no (completion_questions l (facts_of b) r n)) (writes_in_range n regions (completed b r n).records)
    (sym (delivery-number l b r n regions long apart) ∙ none) in
    record { apart = apart; completes = both.0; writes = both.1 }
