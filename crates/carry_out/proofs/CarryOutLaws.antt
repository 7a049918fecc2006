-- Carrying out the log of a call: its records are what is carried out. Assumes nothing.
use Rattle.std.specs.Prelude.{Err, Ok}
use Prim.Native.Nat.{ℕ, ◌*◌, ◌/◌, ◌%◌}
use mathlib.Core.Bool.{true, cond, Bool, false}
use mathlib.Core.Path.{◌≡◌, sym, ap, ◌∙◌, refl}
use mathlib.Core.List.{List, [], append-nil, ◌∷◌}
use native.Mathlib.Omega.{arith}
use lib.ListN.{length, take}
use lib.Seq.{take_at}
use borrow.Author.Tests.{eq-eqb}
use Rattle.trb.specs.Answers.{refusal_of}
use Rattle.trb.specs.Questions.{first_no, after_questions}
use Rattle.buffers.specs.Patch.{patch}
use Rattle.trb.specs.Limits.{record_length}
use Rattle.trb.specs.declared.Refusal.TheVariants.{WriteOutOfRange}
use Rattle.call_log.specs.declared.Record.{Record}
use Rattle.call_log.specs.Logs.{encode_all, logged, records_in, AllFit}
use Rattle.call_log.proofs.LogLaws.{length-encode_all, records_in-encode_all}
use Rattle.guest_memory.specs.declared.Regions.{Regions}
use Rattle.guest_memory.specs.Regions.{share_an_address}
use Rattle.guest_memory.specs.Places.{Memory}
use Rattle.log_check.specs.WellFormed.{kinds_known, well_formed}
use Rattle.carry_out.specs.Writes.{records_of, writes_in_range, written}
use Rattle.carry_out.specs.CarryOut.{answer_of, memory_after}

-- the bytes that a call wrote
pub take-logged : (l : List ℕ) (rs : List Record) → take (record_length * length rs) (logged l 0 rs) ≡ encode_all rs
unfolding logged patch
take-logged l rs = take_at (encode_all rs) _ (record_length * length rs) (length-encode_all rs)

module _ (rs : List Record) (fits : AllFit rs) where
  count : length (encode_all rs) / record_length ≡ length rs
  count = omega (arith, length-encode_all rs)

  pub records_of-encode_all : records_of (encode_all rs) ≡ rs
  records_of-encode_all =
      ap (λ (k : ℕ). records_in k (encode_all rs)) count ∙ ap (records_in (length rs)) (sym (append-nil (encode_all rs))) ∙ records_in-encode_all rs [] fits

  pub well_formed-encode_all : well_formed (encode_all rs) ≡ kinds_known rs
  unfolding well_formed
  well_formed-encode_all =
      let whole : length (encode_all rs) % record_length ≡ 0 = omega (arith, length-encode_all rs) in
      rw (eq-eqb _ _ whole, records_of-encode_all)

  -- of known kinds, on regions that share no address: only question 11 is left
  pub answer_of-encode_all : (n : ℕ) (regions : Regions) → share_an_address regions ≡ false → kinds_known rs ≡ true
      → answer_of (encode_all rs) n regions ≡ cond (writes_in_range n regions rs) (Ok tt) (Err WriteOutOfRange)
  unfolding first_no refusal_of
  answer_of-encode_all n regions apart known = rw (apart, well_formed-encode_all, known, records_of-encode_all) (by-range (writes_in_range n regions rs))
    where
      by-range : (b : Bool) → after_questions ((true, 13) ∷ (true, 10) ∷ (b, 11) ∷ []) (λ k. Err (refusal_of k)) (Ok (tt {0})) ≡ cond b (Ok tt) (Err WriteOutOfRange)
      by-range true = refl
      by-range false = refl

  -- accepted: the records are carried out
  pub memory_after-encode_all : (bytes : List ℕ) (m : Memory) → memory_after (Ok tt) (encode_all rs) bytes m ≡ written bytes m rs
  memory_after-encode_all bytes m = ap (written bytes m) records_of-encode_all
