-- USB 2.0, chapters 5, 8 and 9: the setup packet, the stages of a control transfer, and the data packets that answer an IN transfer. Assumes nothing.
use Rattle.std.specs.Prelude.{ℕ, ◌+◌, ◌*◌, ◌/◌, ◌%◌, ◌^◌, ◌≤◌, ◌<◌, Bool, true, false, not, cond, List, [], ◌∷◌, get_or, eqb}

-- ---- The setup packet

-- USB 2.0, 9.3, Table 9-2.
pub record Setup : Type 0 where
  pub bm_request_type : ℕ
  pub b_request : ℕ
  pub w_value : ℕ
  pub w_index : ℕ
  pub w_length : ℕ

-- USB 2.0, 8.1: a field of two bytes has its low byte first.
abbrev pub word_at : (offset : ℕ) (bytes : List ℕ) → ℕ
word_at offset bytes = get_or bytes offset 0 + 256 * get_or bytes (offset + 1) 0

-- USB 2.0, Table 9-2: the fields of a setup packet's eight bytes, and those bytes, which go out in the setup stage.
abbrev pub setup_of : (bytes : List ℕ) → Setup
setup_of bytes =
    record { bm_request_type = get_or bytes 0 0; b_request = get_or bytes 1 0; w_value = word_at 2 bytes; w_index = word_at 4 bytes; w_length = word_at 6 bytes }

abbrev pub setup_bytes : Setup → List ℕ
setup_bytes s =
    s.bm_request_type ∷ s.b_request ∷ s.w_value % 256 ∷ s.w_value / 256 ∷ s.w_index % 256 ∷ s.w_index / 256
    ∷ s.w_length % 256 ∷ s.w_length / 256 ∷ []

-- USB 2.0, 9.3.1, Table 9-2: bit 7 of bmRequestType is the direction, 1 device to host.
abbrev pub to_host : Setup → Bool
to_host s = eqb (s.bm_request_type / 2 ^ 7 % 2) 1

-- ---- The stages of a control transfer

-- USB 2.0, 8.5.3.
pub data Stage : Type 0 where
  setup_stage : Stage
  data_stage status_stage : (to_host : Bool) → Stage

-- USB 2.0, 8.5.3, 9.3.5: there is no data stage where wLength is 0. The status stage goes against the data stage, and to the host where
-- there is none (8.5.3.1).
abbrev pub stages : Setup → List Stage
stages s =
    cond (eqb s.w_length 0)
    (setup_stage ∷ status_stage true ∷ [])
    (setup_stage ∷ data_stage (to_host s) ∷ status_stage (not (to_host s)) ∷ [])

-- ---- The data packets of an IN transfer

-- USB 2.0, 5.5.3, 5.7.3, 5.8.3: the lengths of the packets that answer a transfer with room for so many bytes, at a maximum packet size:
-- full ones, until the room is filled or a short packet comes.
pub data Packets (max : ℕ) : (room : ℕ) → List ℕ → Type 0 where
  filled : Packets max 0 []
  full : {room : ℕ} {ks : List ℕ} → Packets max room ks → Packets max (max + room) (max ∷ ks)
  rest : {room : ℕ} → room ≤ max → Packets max room (room ∷ [])
  short : {room k : ℕ} → k < max → k < room → Packets max room (k ∷ [])

abbrev pub total : List ℕ → ℕ
total [] = 0
total (k ∷ ks) = k + total ks

-- Does a short packet end the transfer before its room is filled?
abbrev pub ends_short : {max room : ℕ} {ks : List ℕ} → Packets max room ks → Bool
ends_short filled = false
ends_short (full p) = ends_short p
ends_short (rest h) = false
ends_short (short h g) = true
