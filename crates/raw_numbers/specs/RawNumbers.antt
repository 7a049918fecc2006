-- 02, R-6, for C and Rust: a raw TRB decoded to plain numbers and encoded from them. Assumes nothing.
use Rattle.std.specs.Prelude.{ℕ, Bool, ◌≡◌, List, ◌∷◌, leb, length}
use Rattle.trb.specs.Questions.{first_no, after_questions}
use Rattle.trb.specs.declared.TransferTrb.{TransferTrb}
use Rattle.buffers.specs.Patch.{patch}
use Rattle.raw_trb.specs.Raw.{decode_trb, encode_questions, encoded_bytes}
use Rattle.held_bytes.specs.Numbers.{trb_of, trb_numbers}

-- 02, R-6: the ring walker gives us 16 bytes
abbrev pub raw_length : ℕ
raw_length = 16

-- a TRB at this address by the 16 bytes of the ring
abbrev pub raw_trb : List ℕ → ℕ → TransferTrb
raw_trb raw a = record { variant = (decode_trb raw).variant; addr = a; cycle_bit = (decode_trb raw).cycle_bit }

-- the TRB of these numbers
abbrev pub numbered_trb : ℕ → ℕ → ℕ → ℕ → TransferTrb
numbered_trb kind flags value length = trb_of (trb_numbers kind flags 0 value length)

-- 02, R-6: the encoder answers 23, then 4; before it, is there room?
abbrev pub room_questions : TransferTrb → List ℕ → List (Bool × ℕ)
room_questions t raw = (leb raw_length (length raw), 1) ∷ encode_questions t.variant

-- of a call with these questions that encodes a TRB into raw: it answered r and left raw', unchanged after a no
pub record Encodes (questions : List (Bool × ℕ)) (t : TransferTrb) (raw : List ℕ) (r : ℕ) (raw' : List ℕ) : Type 0 where
  pub number : r ≡ first_no questions
  pub after : raw' ≡ after_questions questions (λ n. raw) (patch raw 0 (encoded_bytes t.variant t.cycle_bit))
