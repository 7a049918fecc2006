-- A header's bytes, read, are the header, and the fields read from 48 bytes are those bytes. Assumes nothing.
use Prim.Native.Nat.{ℕ, ◌+◌, ◌<◌, ◌≤◌}
use mathlib.Core.Path.{◌≡◌, refl, sym, ap, ◌∙◌}
use mathlib.Core.List.{List, [], ◌∷◌, ◌++◌}
use native.Mathlib.Omega.{arith}
use lib.ListN.{length, take, drop, get_or}
use lib.Seq.{take-length, take-add, drop-cons}
use Rattle.buffers.specs.LittleEndian.{le_bytes, le_field, AllBytes}
use Rattle.buffers.proofs.LittleEndianLaws.{le_number-le_bytes, le_bytes-le_field}
use Rattle.capture_record.specs.declared.UsbHeader.{UsbHeader}
use Rattle.capture_record.specs.Headers.{HeaderFits, header_bytes, header_in}

pub length-header_bytes : (h : UsbHeader) → length (header_bytes h) ≡ 48
unfolding header_bytes
length-header_bytes h = refl

pub header_in-header_bytes : (h : UsbHeader) → HeaderFits h → header_in (header_bytes h) ≡ h
unfolding header_in header_bytes
header_in-header_bytes h f = λ i. record {
  id = le_number-le_bytes 8 h.id f.id i;
  event_type = h.event_type;
  transfer_type = h.transfer_type;
  endpoint_address = h.endpoint_address;
  device_address = h.device_address;
  bus_number = le_number-le_bytes 2 h.bus_number f.bus i;
  setup_flag = h.setup_flag;
  data_flag = h.data_flag;
  seconds = le_number-le_bytes 8 h.seconds f.seconds i;
  microseconds = le_number-le_bytes 4 h.microseconds f.microseconds i;
  status = le_number-le_bytes 4 h.status f.status i;
  length = le_number-le_bytes 4 h.length f.length i;
  delivered = le_number-le_bytes 4 h.delivered f.delivered i;
  setup = record {
    request_type = h.setup.request_type;
    request = h.setup.request;
    value = le_number-le_bytes 2 h.setup.value f.value i;
    index = le_number-le_bytes 2 h.setup.index f.index i;
    length = le_number-le_bytes 2 h.setup.length f.setup_length i;
  };
}

-- bytes that stand side by side
module _ (l : List ℕ) (long : length l ≡ 48) (bytes : AllBytes l) where
  field : (at n : ℕ) → at + n ≤ 48 → le_bytes n (le_field at n l) ≡ take n (drop at l)
  field at n h = le_bytes-le_field at n l (omega (arith, long)) bytes

  one : (at : ℕ) → at < 48 → get_or l at 0 ∷ [] ≡ take 1 (drop at l)
  one at h = rw (drop-cons l at 0 (omega (arith, long)))

  joined : {a b c d e f g h i j k m n o p q r s : List ℕ} → a ≡ take 8 l → b ≡ take 1 (drop 8 l) → c ≡ take 1 (drop 9 l) → d ≡ take 1 (drop 10 l)
      → e ≡ take 1 (drop 11 l) → f ≡ take 2 (drop 12 l) → g ≡ take 1 (drop 14 l) → h ≡ take 1 (drop 15 l) → i ≡ take 8 (drop 16 l) → j ≡ take 4 (drop 24 l)
      → k ≡ take 4 (drop 28 l) → m ≡ take 4 (drop 32 l) → n ≡ take 4 (drop 36 l) → o ≡ take 1 (drop 40 l) → p ≡ take 1 (drop 41 l) → q ≡ take 2 (drop 42 l)
      → r ≡ take 2 (drop 44 l) → s ≡ take 2 (drop 46 l)
      → a ++ b ++ c ++ d ++ e ++ f ++ g ++ h ++ i ++ j ++ k ++ m ++ n ++ o ++ p ++ q ++ r ++ s ≡ take 48 l
  joined ha hb hc hd he hf hg hh hi hj hk hm hn ho hp hq hr hs =
      rw (ha, hb, hc, hd, he, hf, hg, hh, hi, hj, hk, hm, hn, ho, hp, hq, hr, hs, ← take-add 8 1 l, ← take-add 9 1 l, ← take-add 10 1 l, ← take-add 11 1 l, ← take-add 12 2 l, ← take-add 14 1 l, ← take-add 15 1 l, ← take-add 16 8 l, ← take-add 24 4 l, ← take-add 28 4 l, ← take-add 32 4 l, ← take-add 36 4 l, ← take-add 40 1 l, ← take-add 41 1 l, ← take-add 42 2 l, ← take-add 44 2 l, ← take-add 46 2 l)

  pub header_bytes-header_in : header_bytes (header_in l) ≡ l
  unfolding header_in header_bytes
  header_bytes-header_in =
      joined (field 0 8 (omega arith)) (one 8 (omega arith)) (one 9 (omega arith)) (one 10 (omega arith)) (one 11 (omega arith)) (field 12 2 (omega arith)) (one 14 (omega arith)) (one 15 (omega arith)) (field 16 8 (omega arith)) (field 24 4 (omega arith)) (field 28 4 (omega arith)) (field 32 4 (omega arith)) (field 36 4 (omega arith)) (one 40 (omega arith)) (one 41 (omega arith)) (field 42 2 (omega arith)) (field 44 2 (omega arith)) (field 46 2 (omega arith))
      ∙ ap (λ (n : ℕ). take n l) (sym long)
      ∙ take-length l
