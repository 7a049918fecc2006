-- Laws of what the program writes, by the length of the log and what compacting it answers. Assumes nothing.
use Prim.Native.Nat.{ℕ, ◌+◌, ◌*◌, ◌≤◌, ◌<◌}
use mathlib.Core.Bool.{Bool, true, false}
use mathlib.Core.Path.{◌≡◌, refl}
use mathlib.Core.List.{List, [], ◌∷◌, ◌++◌, append_assoc}
use native.Mathlib.Omega.{arith}
use lib.ListN.{length, length-append}
use lib.Seq.{take_at}
use borrow.Author.Tests.{le-leb, lt-leb}
use Rattle.trb.specs.Answers.{refusal_of}
use Rattle.trb.specs.Limits.{record_length}
use Rattle.trb.specs.Questions.{first_no, after_questions}
use Rattle.trb.specs.declared.Refusal.{Refusal}
use Rattle.log_check.specs.WellFormed.{well_formed}
use Rattle.log_print.specs.LogText.{refused_text}
use Rattle.std.proofs.Common.{Ok, Err}
use Rattle.kept_records.specs.Rows.{rows_of}
use Rattle.kept_records.specs.Compact.{compacted}
use Rattle.log_compact.specs.Compacting.{kept_bytes, padded_to, answer_of, log_after}
use Rattle.compact_laws.proofs.LogLaws.{length-bytes_of, sized}
use Rattle.log_compactor.specs.Output.{max_log, is_taken, output_of, Leads}

leads : (vs rest : List ℕ) (n : ℕ) → length vs ≡ n → Leads vs n (vs ++ rest)
leads vs rest n e = record { bytes = take_at vs rest n e; within = omega (arith, length-append vs rest) }

-- a log that is too long gives the same whatever stands behind it
pub longer-same : (l rest : List ℕ) → max_log + 1 ≤ length l → output_of (l ++ rest) ≡ output_of l
unfolding output_of is_taken
longer-same l rest long =
    let both : max_log < length (l ++ rest) = omega (arith, length-append l rest) in
    simp (lt-leb (length l) max_log (omega (arith, long)), lt-leb (length (l ++ rest)) max_log both)

module _ (log : List ℕ) where
  pub output-long : max_log < length log → output_of log ≡ refused_text
  unfolding output_of is_taken
  output-long h = simp (lt-leb (length log) max_log h)

  module _ (short : length log ≤ max_log) where
    pub output-refused : (q : Refusal) → Err q ≡ answer_of log → output_of log ≡ refused_text
    unfolding output_of is_taken first_no
    output-refused q e = by (well_formed log) refl e
      where
        by : (t : Bool) → well_formed log ≡ t → Err q ≡ after_questions ((t, 10) ∷ []) (λ k. Err (refusal_of k)) (Ok (length (compacted (rows_of log))))
            → output_of log ≡ refused_text
        by true ok e = let z : ◌≡◌ {A = ℕ} 0 1 = cc in absurd (omega arith)
        by false off e = simp (le-leb (length log) max_log short, off)

    -- whatever stands behind the log in its buffer
    pub output-kept : (n : ℕ) → Ok n ≡ answer_of log → (rest : List ℕ) → Leads (output_of log) (record_length * n) (log_after log ++ rest)
    unfolding output_of is_taken first_no padded_to
    output-kept n e rest = by (well_formed log) refl e
      where
        by : (t : Bool) → well_formed log ≡ t → Ok n ≡ after_questions ((t, 10) ∷ []) (λ k. Err (refusal_of k)) (Ok (length (compacted (rows_of log))))
            → Leads (output_of log) (record_length * n) (log_after log ++ rest)
        by true ok e =
            let count : n ≡ length (compacted (rows_of log)) = cc in
            let size : length (kept_bytes log) ≡ record_length * length (compacted (rows_of log)) = length-bytes_of (compacted (rows_of log)) (sized log) in
            rw (ok, le-leb (length log) max_log short, count, append_assoc) (leads (kept_bytes log) _ (record_length * length (compacted (rows_of log))) size)
        by false off e = let z : ◌≡◌ {A = ℕ} 0 1 = cc in absurd (omega arith)
