-- Laws of a record: its bytes, and a record that is logged where it is due. Assumes nothing.
use Prim.Native.Nat.{ℕ, zero, suc, ◌+◌, ◌≤◌}
use mathlib.Core.Bool.{Bool, true, false}
use mathlib.Core.Path.{◌≡◌, refl, ap, ◌∙◌}
use mathlib.Core.List.{List, ◌∷◌, ◌++◌, map}
use native.Mathlib.Omega.{arith}
use lib.Dec.{lit≤}
use lib.ListN.{length, take, drop}
use Rattle.std.specs.Simd.{first_chunks}
use Rattle.std.proofs.lemmas.List.{get_or-take, drop-take, take-take}
use Rattle.buffers.specs.LittleEndian.{le_number, le_field}
use Rattle.buffers.proofs.LittleEndianLaws.{le_number-le_bytes}
use Rattle.trb.specs.Limits.{record_length}
use Rattle.call_log.specs.declared.Record.{Record}
use Rattle.call_log.specs.Records.{encode, decode, Fits, when}
use Rattle.call_log.specs.Logs.{records_in}

pub length-encode : (r : Record) → length (encode r) ≡ record_length
length-encode r = refl

pub drop-encode : (r : Record) (rest : List ℕ) → drop record_length (encode r ++ rest) ≡ rest
drop-encode r rest = refl

-- reading an encoded record gives it back, whatever stands behind it
pub decode-encode : (r : Record) (rest : List ℕ) → Fits r → decode (encode r ++ rest) ≡ r
decode-encode r rest h = λ i. record {
  kind = r.kind;
  code = r.code;
  flag = r.flag;
  endpoint_id = r.endpoint_id;
  slot_id = r.slot_id;
  address = le_number-le_bytes 8 r.address h.address i;
  length = le_number-le_bytes 4 r.length h.length i;
  start = le_number-le_bytes 4 r.start h.start i;
  request_type = r.request_type;
  request = r.request;
  value = le_number-le_bytes 2 r.value h.value i;
  index = le_number-le_bytes 2 r.index h.index i;
}

-- a part of the first bytes, and so a field, is one of them all
pub part-take : (at n m : ℕ) (l : List ℕ) → take n (drop at (take (at + (n + m)) l)) ≡ take n (drop at l)
part-take at n m l = ap (take n) (drop-take at (n + m) l) ∙ take-take n (n + m) (drop at l) (omega arith)

le_field-take : (at n m : ℕ) (l : List ℕ) → le_field at n (take (at + (n + m)) l) ≡ le_field at n l
le_field-take at n m l = ap le_number (part-take at n m l)

-- a record is read of its bytes alone
pub decode-take : (l : List ℕ) → decode (take record_length l) ≡ decode l
decode-take l = λ i. record {
  kind = get_or-take record_length l 0 0 (lit≤ tt) i;
  code = get_or-take record_length l 1 0 (lit≤ tt) i;
  flag = get_or-take record_length l 2 0 (lit≤ tt) i;
  endpoint_id = record { 0 = get_or-take record_length l 3 0 (lit≤ tt) i };
  slot_id = record { 0 = get_or-take record_length l 4 0 (lit≤ tt) i };
  address = le_field-take 8 8 16 l i;
  length = le_field-take 16 4 12 l i;
  start = le_field-take 20 4 8 l i;
  request_type = get_or-take record_length l 24 0 (lit≤ tt) i;
  request = get_or-take record_length l 25 0 (lit≤ tt) i;
  value = le_field-take 26 2 4 l i;
  index = le_field-take 28 2 2 l i;
}

-- the bytes of the first n records say what these do
pub records_in-chunks : (n : ℕ) (l : List ℕ) → map decode (first_chunks record_length n l) ≡ records_in n l
records_in-chunks zero l = refl
records_in-chunks (suc n) l = λ i. decode-take l i ∷ records_in-chunks n (drop record_length l) i

-- one record at most
pub length-when : (due : Bool) (r : Record) → length (when due r) ≤ 1
length-when true r = lit≤ tt
length-when false r = lit≤ tt
