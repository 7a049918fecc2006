-- Laws of a joined row: what it says, and when it is joined again. Assumes nothing.
use Prim.Native.Nat.{ℕ, ◌+◌, ◌≤◌, ◌<◌}
use mathlib.Core.Bool.{Bool, true, false, ◌&&◌}
use mathlib.Core.Path.{◌≡◌, refl, sym, ap, ◌∙◌}
use mathlib.Core.List.{List, ◌++◌, append_assoc}
use native.Mathlib.Omega.{arith}
use lib.Dec.{lit≤, eqb, ltb}
use lib.ListN.{length, take, drop, get_or}
use lib.Seq.{length-take-le, take_at}
use borrow.Author.Tests.{eqb-true, eqb-false, ltb-true, lt-ltb, eq-eqb, ne_eqb}
use Rattle.buffers.specs.LittleEndian.{le_bytes, le_number}
use Rattle.buffers.specs.Patch.{patch}
use Rattle.buffers.proofs.LittleEndianLaws.{le_number-le_bytes}
use Rattle.buffers.proofs.PatchLaws.{drop-patch, get_or-patch-before, get_or-patch-behind}
use Rattle.trb.specs.Limits.{record_length}
use Rattle.trb.proofs.TestLaws.{and_left, and_right}
use Rattle.call_log.specs.declared.Record.{Record}
use Rattle.call_log.specs.Records.{decode, write_kind}
use Rattle.kept_records.specs.Rows.{length_offset, with_length}
use Rattle.kept_records.specs.Compact.{length_end, empty_write, same_endpoint_writes, goes_on, joins, joined}
use Rattle.log_compact.proofs.RowLaws.{take-drop-take, drop-behind-patch, length-with_length}
use Rattle.kept_records.proofs.TestLaws.{joins-below}

-- a record with another length
abbrev pub lengthened : ℕ → Record → Record
lengthened n r = record {
  kind = r.kind;
  code = r.code;
  flag = r.flag;
  endpoint_id = r.endpoint_id;
  slot_id = r.slot_id;
  address = r.address;
  length = n;
  start = r.start;
  request_type = r.request_type;
  request = r.request;
  value = r.value;
  index = r.index;
}

module _ (n : ℕ) (row : List ℕ) (size : length row ≡ record_length) where
  fits : length_offset + length (le_bytes 4 n) ≤ length row
  fits = omega arith

  before : (k : ℕ) → k < length_offset → get_or (with_length n row) k 0 ≡ get_or row k 0
  unfolding with_length
  before k h = get_or-patch-before row length_offset (le_bytes 4 n) fits k h

  behind : (k : ℕ) → length_offset + 4 ≤ k → get_or (with_length n row) k 0 ≡ get_or row k 0
  unfolding with_length
  behind k h = get_or-patch-behind row length_offset (le_bytes 4 n) fits k h

  field-before : (at m : ℕ) → at + m ≤ length_offset → take m (drop at (with_length n row)) ≡ take m (drop at row)
  unfolding with_length patch
  field-before at m h =
      let rest = le_bytes 4 n ++ drop (length_offset + 4) row in
      let front : length (take length_offset row) ≡ length_offset = length-take-le length_offset row (omega arith) in
      ap (λ (l : List ℕ). take m (drop at l)) (append_assoc (take length_offset row) (le_bytes 4 n) (drop (length_offset + 4) row))
      ∙ sym (take-drop-take m at length_offset (take length_offset row ++ rest) h)
      ∙ ap (λ (l : List ℕ). take m (drop at l)) (take_at (take length_offset row) rest length_offset front)
      ∙ take-drop-take m at length_offset row h

  field-behind : (at m : ℕ) → length_offset + 4 ≤ at → take m (drop at (with_length n row)) ≡ take m (drop at row)
  unfolding with_length
  field-behind at m h = ap (take m) (drop-behind-patch at row length_offset (le_bytes 4 n) (omega arith) h)

  field-length : n < length_end → le_number (take 4 (drop length_offset (with_length n row))) ≡ n
  unfolding with_length
  field-length h = ap (λ (l : List ℕ). le_number (take 4 l)) (drop-patch row length_offset (le_bytes 4 n) (omega arith)) ∙ le_number-le_bytes 4 n h

  -- a row with another length says the same with another length
  pub decode-with_length : n < length_end → decode (with_length n row) ≡ lengthened n (decode row)
  decode-with_length h = λ i. record {
    kind = before 0 (lit≤ tt) i;
    code = before 1 (lit≤ tt) i;
    flag = before 2 (lit≤ tt) i;
    endpoint_id = record { 0 = before 3 (lit≤ tt) i };
    slot_id = record { 0 = before 4 (lit≤ tt) i };
    address = le_number (field-before 8 8 (lit≤ tt) i);
    length = field-length h i;
    start = le_number (field-behind 20 4 (lit≤ tt) i);
    request_type = behind 24 (lit≤ tt) i;
    request = behind 25 (lit≤ tt) i;
    value = le_number (field-behind 26 2 (lit≤ tt) i);
    index = le_number (field-behind 28 2 (lit≤ tt) i);
  }

-- two records that are joined: what a joined row says
abbrev pub joined_record : Record → Record → Record
joined_record p q = lengthened (p.length + q.length) p

pub decode-joined : (p q : List ℕ) → length p ≡ record_length → joins (decode p) (decode q) ≡ true → decode (joined p q) ≡ joined_record (decode p) (decode q)
unfolding joined
decode-joined p q size on = decode-with_length ((decode p).length + (decode q).length) p size (joins-below (decode p) (decode q) on)

pub length-joined : (p q : List ℕ) → length p ≡ record_length → length (joined p q) ≡ record_length
unfolding joined
length-joined p q size = length-with_length ((decode p).length + (decode q).length) p size

-- what joining two records tells of them
pub record Joins (p q : Record) : Type 0 where
  pub first : p.kind ≡ write_kind
  pub second : q.kind ≡ write_kind
  pub address : p.address + p.length ≡ q.address
  pub start : p.start + p.length ≡ q.start

pub joins-told : (p q : Record) → joins p q ≡ true → Joins p q
unfolding joins same_endpoint_writes goes_on
joins-told p q e =
    let same = and_left (same_endpoint_writes p q) (goes_on p q && ltb (p.length + q.length) length_end) e in
    let on = and_left (goes_on p q) (ltb (p.length + q.length) length_end) (and_right (same_endpoint_writes p q) (goes_on p q && ltb (p.length + q.length) length_end) e) in
    let ids = eqb p.endpoint_id.0 q.endpoint_id.0 && eqb p.slot_id.0 q.slot_id.0 in
    record {
      first = eqb-true p.kind write_kind (and_left (eqb p.kind write_kind) (eqb q.kind write_kind && ids) same);
      second = eqb-true q.kind write_kind (and_left (eqb q.kind write_kind) ids (and_right (eqb p.kind write_kind) (eqb q.kind write_kind && ids) same));
      address = eqb-true (p.address + p.length) q.address (and_left (eqb (p.address + p.length) q.address) (eqb (p.start + p.length) q.start) on);
      start = eqb-true (p.start + p.length) q.start (and_right (eqb (p.address + p.length) q.address) (eqb (p.start + p.length) q.start) on);
    }

-- what is not a write is joined to nothing, and nothing to it
pub joins-second : (p q : Record) → (q.kind ≡ write_kind → ⊥) → joins p q ≡ false
joins-second p q h = by (joins p q) refl
  where
    by : (t : Bool) → joins p q ≡ t → t ≡ false
    by true e = absurd (h (joins-told p q e).second)
    by false e = refl

pub joins-first : (p q : Record) → (p.kind ≡ write_kind → ⊥) → joins p q ≡ false
joins-first p q h = by (joins p q) refl
  where
    by : (t : Bool) → joins p q ≡ t → t ≡ false
    by true e = absurd (h (joins-told p q e).first)
    by false e = refl

-- a record that does not join does not once it is longer
pub joins-lengthened : (p q : Record) (n : ℕ) → q.length ≤ n → joins p q ≡ false → joins p (lengthened n q) ≡ false
unfolding joins same_endpoint_writes goes_on
joins-lengthened p q n more e = by (ltb (p.length + n) length_end) refl
  where
    none : (a b : Bool) → (a && (b && false)) ≡ false
    none true true = refl
    none true false = refl
    none false b = refl

    by : (t : Bool) → ltb (p.length + n) length_end ≡ t → joins p (lengthened n q) ≡ false
    by true below =
        let small : p.length + n < length_end = ltb-true (p.length + n) length_end below in
        rw below (rw (lt-ltb (p.length + q.length) length_end (omega arith)) at e)
    by false above = rw above (none (same_endpoint_writes p q) (goes_on p q))

-- a write of some bytes
pub empty_write-some : (r : Record) → r.kind ≡ write_kind → empty_write r ≡ false → 0 < r.length
unfolding empty_write
empty_write-some r kind e =
    let off : eqb r.length 0 ≡ false = rw (eq-eqb r.kind write_kind kind) at e in
    omega (arith, eqb-false r.length 0 off)

pub empty_write-joined : (p q : Record) → joins p q ≡ true → empty_write p ≡ false → empty_write (joined_record p q) ≡ false
unfolding empty_write
empty_write-joined p q on e =
    let kind : p.kind ≡ write_kind = (joins-told p q on).first in
    let some : 0 < p.length = empty_write-some p kind e in
    rw (eq-eqb p.kind write_kind kind) (ne_eqb (p.length + q.length) 0 (λ z. omega arith))

pub empty_write-kind : (r : Record) → empty_write r ≡ true → r.kind ≡ write_kind
unfolding empty_write
empty_write-kind r e = eqb-true r.kind write_kind (and_left (eqb r.kind write_kind) (eqb r.length 0) e)

pub empty_write-other : (r : Record) → (r.kind ≡ write_kind → ⊥) → empty_write r ≡ false
unfolding empty_write
empty_write-other r other = simp (ne_eqb r.kind write_kind other)

pub empty_write-none : (r : Record) → empty_write r ≡ true → r.length ≡ 0
unfolding empty_write
empty_write-none r e = eqb-true r.length 0 (and_right (eqb r.kind write_kind) (eqb r.length 0) e)
