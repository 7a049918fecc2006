-- What a call that encodes leaves, by the encoder's answer. Assumes nothing.
use Rattle.std.specs.Prelude.{Result, Err, Ok}
use Prim.Native.Nat.{ℕ, ◌<◌, ◌≤◌}
use mathlib.Core.Bool.{Bool, false, cond}
use mathlib.Core.Path.{◌≡◌, refl, sym, ap, subst, ◌∙◌}
use mathlib.Core.List.{List}
use lib.Dec.{eqb}
use lib.ListN.{length}
use borrow.Author.Tests.{le-leb, lt-leb}
use Rattle.trb.specs.Answers.{refusal_of}
use Rattle.trb.specs.Questions.{first_no, after_questions}
use Rattle.trb.specs.Refusals.{refusal_number}
use Rattle.trb.specs.declared.Refusal.{Refusal}
use Rattle.trb.specs.declared.TransferTrb.{TransferTrb}
use Rattle.trb.proofs.AnswerLaws.{refusal_number-positive}
use Rattle.buffers.specs.Patch.{patch}
use Rattle.raw_trb.specs.Raw as raw
use Rattle.raw_numbers.specs.RawNumbers.{raw_length, room_questions, Encodes}

-- after a yes to all of the questions, and after a no
after-yes : {A : Type 0} (qs : List (Bool × ℕ)) (refused : ℕ → A) (accepted : A) → first_no qs ≡ 0 → after_questions qs refused accepted ≡ accepted
after-yes qs refused accepted e = rw e

after-no : {A : Type 0} (qs : List (Bool × ℕ)) (a b : A) → eqb (first_no qs) 0 ≡ false → after_questions qs (λ n. a) b ≡ a
after-no qs a b e = rw e

module _ (t : TransferTrb) (room : List ℕ) (e : Result (List ℕ) Refusal) (met : raw.Encodes t.variant t.cycle_bit e) where
  pub accepted : {room' bytes : List ℕ} → e ≡ Ok bytes → room' ≡ patch room 0 bytes → Encodes (raw.encode_questions t.variant) t room 0 room'
  accepted {room'} {bytes} told left =
      let all : first_no (raw.encode_questions t.variant) ≡ 0 = sym met.number ∙ ap raw.encoding_number told in
      let taken : e ≡ Ok (raw.encoded_bytes t.variant t.cycle_bit)
      = met.encoded ∙ after-yes (raw.encode_questions t.variant) (λ n. Err (refusal_of n)) (Ok (raw.encoded_bytes t.variant t.cycle_bit)) all in
      let same : bytes ≡ raw.encoded_bytes t.variant t.cycle_bit = same-bytes (sym told ∙ taken) in
      record {
        number = sym all;
        after =
            left
            ∙ ap (λ (d : List ℕ). patch room 0 d) same
            ∙ sym (after-yes (raw.encode_questions t.variant) (λ n. room) (patch room 0 (raw.encoded_bytes t.variant t.cycle_bit)) all);
      }
    where
      same-bytes : {a b : List ℕ} → ◌≡◌ {A = Result (List ℕ) Refusal} (Ok a) (Ok b) → a ≡ b
      same-bytes is = cc

  pub refused : (q : Refusal) → e ≡ Err q → Encodes (raw.encode_questions t.variant) t room (refusal_number q) room
  refused q told =
      let first : first_no (raw.encode_questions t.variant) ≡ refusal_number q = sym met.number ∙ ap raw.encoding_number told in
      record {
        number = sym first;
        after =
            sym (after-no (raw.encode_questions t.variant) room (patch room 0 (raw.encoded_bytes t.variant t.cycle_bit))
            (ap (λ (n : ℕ). eqb n 0) first ∙ refusal_number-positive q));
      }

-- too few bytes
pub no_room : (t : TransferTrb) (room : List ℕ) → length room < raw_length → Encodes (room_questions t room) t room 1 room
unfolding first_no
no_room t room h = rw (lt-leb raw_length (length room) h) (record { number = refl; after = refl })

-- with room for a TRB the other questions are left
left-questions : (t : TransferTrb) (room : List ℕ) → raw_length ≤ length room → first_no (room_questions t room) ≡ first_no (raw.encode_questions t.variant)
unfolding first_no
left-questions t room h = rw (le-leb raw_length (length room) h)

pub with-room : {t u : TransferTrb} {room room' : List ℕ} {r : ℕ} → raw_length ≤ length room → t ≡ u → Encodes (raw.encode_questions t.variant) t room r room'
    → Encodes (room_questions u room) u room r room'
with-room {t} {u} {room} {room'} {r} h e met =
    let own = subst (λ (v : TransferTrb). Encodes (raw.encode_questions v.variant) v room r room') e met in
    let same = left-questions u room h in
    let bytes = patch room 0 (raw.encoded_bytes u.variant u.cycle_bit) in
    record { number = own.number ∙ sym same; after = own.after ∙ sym (ap (λ (n : ℕ). cond (eqb n 0) bytes room) same) }
