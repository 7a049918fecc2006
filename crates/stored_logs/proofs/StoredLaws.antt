-- What compacting answers, as numbers. Assumes nothing.
use Prim.Native.Nat.{ℕ}
use mathlib.Core.Bool.{Bool, true, false}
use mathlib.Core.Path.{◌≡◌, refl, ap, ◌∙◌}
use mathlib.Core.List.{List, [], ◌∷◌}
use lib.ListN.{length}
use Rattle.trb.specs.Answers.{number_of, refusal_of}
use Rattle.trb.specs.Questions.{first_no, after_questions}
use Rattle.log_check.specs.WellFormed.{well_formed}
use Rattle.std.proofs.Common.{Result, Ok, Err}
use Rattle.trb.specs.declared.Refusal.{Refusal}
use Rattle.kept_records.specs.Rows.{rows_of}
use Rattle.kept_records.specs.Compact.{compacted}
use Rattle.log_compact.specs.Compacting.{compact_questions, answer_of}
use Rattle.log_compact.specs.Compacting as compacting
use Rattle.answer_numbers.specs.Numbers.{counted}
use Rattle.stored_logs.specs.Stored.{Compacts}

count-answer_of : (log : List ℕ)
    → (counted (answer_of log)).count ≡ after_questions (compact_questions log) (λ (n : ℕ). 0) (length (compacted (rows_of log)))
unfolding first_no
count-answer_of log = by (well_formed log) (length (compacted (rows_of log)))
  where
    by : (t : Bool) (k : ℕ)
        → (counted (after_questions ((t, 10) ∷ []) (λ n. Err (refusal_of n)) (Ok k))).count ≡ after_questions ((t, 10) ∷ []) (λ (n : ℕ). 0) k
    by true k = refl
    by false k = refl

number-counted : (r : Result ℕ Refusal) → (counted r).number ≡ number_of r
number-counted (Ok n) = refl
number-counted (Err q) = refl

-- the answer of `compact` as numbers is what is promised
pub compacts : (log log' : List ℕ) (r : Result ℕ Refusal) → compacting.Compacts log r log' → Compacts log (counted r) log'
compacts log log' r c = record {
  number = number-counted r ∙ c.number;
  count = ap (λ (a : Result ℕ Refusal). (counted a).count) c.answer ∙ count-answer_of log;
  after = c.after;
}
