-- No torn frame. The account says which bytes the writes before the event stand for, and that none comes later; the heart says that the writes, carried out,
-- lay these bytes. So guest memory at the event is the frame, and stays so to the end of the log. Assumes nothing.
use Rattle.std.specs.Prelude.{Ok}
use Prim.Native.Nat.{ℕ, zero, suc, ◌+◌, ◌*◌, ◌<◌, min}
use mathlib.Core.Bool.{true, false}
use mathlib.Core.Path.{◌≡◌, refl, sym, ap, ◌∙◌, subst}
use mathlib.Core.List.{List, [], ◌∷◌, ◌++◌}
use native.Mathlib.Nat.{zero-add}
use native.Mathlib.Omega.{arith}
use lib.ListN.{length, take, get_or, take-append-drop}
use lib.Seq.{get_or-take, length-take-le, take_all, take-append-add}
use Rattle.trb.specs.Limits.{record_length}
use Rattle.trb.specs.Questions.{first_no}
use Rattle.trb.specs.declared.TransferTrb.{TransferTrb}
use Rattle.trb.proofs.TestLaws.{and_left, and_right, or-false-left, or-false-right}
use Rattle.call_log.specs.Logs.{encode_all, AllFit}
use Rattle.call_log.specs.Records.{encode}
use Rattle.call_log.proofs.RecordLaws.{length-encode}
use Rattle.call_log.specs.declared.Record.{Record}
use Rattle.log_check.specs.WellFormed.{kind_known, kinds_known}
use Rattle.guest_memory.specs.Regions.{share_an_address}
use Rattle.guest_memory.specs.Places.{Memory, regions_of}
use Rattle.carry_out.specs.Writes.{moves_bytes, writes_in_range, after_record, written}
use Rattle.carry_out.specs.CarryOut.{Carried}
use Rattle.carry_out.proofs.WriteLaws.{writes_in_range-cons, regions_of-written, written-append}
use Rattle.carry_out.proofs.CarryOutLaws.{well_formed-encode_all, records_of-encode_all, answer_of-encode_all, memory_after-encode_all}
use Rattle.in_td.specs.Normals.{requested}
use Rattle.account.specs.Guest.{places, is_write, any, count_before, before, later, numbered, Account}
use Rattle.account.proofs.GuestLaws.{length-places}
use Rattle.delivery_laws.specs.Laid.{laid, byte_at, all_inside, NoneTwice}
use Rattle.delivery_laws.specs.Delivered.{first_places, Delivered}
use Rattle.delivery_laws.proofs.LaidLaws.{written-laid}
use Rattle.delivery_laws.proofs.ReadLaws.{byte_at-unnamed, byte_at-named}
use Rattle.delivery_laws.proofs.InsideLaws.{all_inside-bytes}

-- ---- The log up to a record

fit-take : (k : ℕ) (rs : List Record) → AllFit rs → AllFit (take k rs)
fit-take zero rs f = tt
fit-take (suc k) [] f = tt
fit-take (suc k) (r ∷ rs) f = (f.0, fit-take k rs f.1)

kinds-take : (k : ℕ) (rs : List Record) → kinds_known rs ≡ true → kinds_known (take k rs) ≡ true
kinds-take zero rs e = refl
kinds-take (suc k) [] e = refl
kinds-take (suc k) (r ∷ rs) e =
    rw (and_left (kind_known r.kind) (kinds_known rs) e) (kinds-take k rs (and_right (kind_known r.kind) (kinds_known rs) e))

take-encode_all : (k : ℕ) (rs : List Record) → take (record_length * k) (encode_all rs) ≡ encode_all (take k rs)
unfolding encode_all
take-encode_all zero rs = refl
take-encode_all (suc k) [] = take_all (record_length * suc k) [] (omega arith)
take-encode_all (suc k) (r ∷ rs) =
    let count : record_length * suc k ≡ length (encode r) + record_length * k = omega (arith, length-encode r) in
    rw count (take-append-add (encode r) (encode_all rs) (record_length * k) ∙ ap (λ (l : List ℕ). encode r ++ l) (take-encode_all k rs))

-- ---- What comes behind the event changes nothing

module _ (bytes : List ℕ) where
  after_record-other : (m : Memory) (r : Record) → is_write r ≡ false → after_record bytes m r ≡ m
  unfolding after_record moves_bytes
  after_record-other m r e = rw e

  written_none : (m : Memory) (rs : List Record) → any is_write rs ≡ false → written bytes m rs ≡ m
  written_none m [] e = refl
  written_none m (r ∷ rs) e =
      rw (after_record-other m r (or-false-left (is_write r) (any is_write rs) e)) (written_none m rs (or-false-right (is_write r) (any is_write rs) e))

  -- guest memory at the event is guest memory after the whole log, whether the regions share an address or not
  pub written-before : (m : Memory) (rs : List Record) → any is_write (later rs) ≡ false → written bytes m (before rs) ≡ written bytes m rs
  written-before m rs none =
      sym (written_none (written bytes m (before rs)) (later rs) none)
      ∙ sym (written-append bytes m (before rs) (later rs))
      ∙ ap (written bytes m) (take-append-drop (count_before rs) rs)

  -- ---- Carry-out accepts

  carried-encode_all : (m : Memory) (rs : List Record) → AllFit rs → kinds_known rs ≡ true → share_an_address (regions_of m) ≡ false
      → writes_in_range (length bytes) (regions_of m) rs ≡ true → Carried (encode_all rs) bytes m (Ok tt) (written bytes m rs)
  unfolding first_no
  carried-encode_all m rs fits known apart inside = record {
    number = rw (apart, well_formed-encode_all rs fits, known, records_of-encode_all rs fits, inside);
    answer = sym (answer_of-encode_all rs fits (length bytes) (regions_of m) apart known ∙ rw inside);
    after = sym (memory_after-encode_all rs fits bytes m);
  }

  -- a log whose writes lie in range, up to any record
  module _ (m : Memory) (apart : share_an_address (regions_of m) ≡ false) where
    inside_take : (k : ℕ) (rs : List Record) → writes_in_range (length bytes) (regions_of m) rs ≡ true → writes_in_range (length bytes) (regions_of m) (take k rs) ≡ true
    inside_take zero rs e = refl
    inside_take (suc k) [] e = refl
    inside_take (suc k) (r ∷ rs) e =
        let both = writes_in_range-cons (length bytes) (regions_of m) r rs e in
        rw both.0 (inside_take k rs both.1)

    pub carried_first : (k : ℕ) (rs : List Record) → AllFit rs → kinds_known rs ≡ true → writes_in_range (length bytes) (regions_of m) rs ≡ true
        → Carried (take (record_length * k) (encode_all rs)) bytes m (Ok tt) (written bytes m (take k rs))
    carried_first k rs fits known inside =
        rw (take-encode_all k rs) (carried-encode_all m (take k rs) (fit-take k rs fits) (kinds-take k rs known) apart (inside_take k rs inside))

  -- ---- What the guest reads of a frame

  -- of the bytes from number `start` on, laid at the first min(n, S) places: where no address is named twice, byte i is at place i
  pub frame-each : (m : Memory) (start n : ℕ) (ts : List TransferTrb) → all_inside (regions_of m) (numbered start (first_places n ts)) ≡ true → NoneTwice (first_places n ts)
      → (i : ℕ) → i < min n (requested ts) → byte_at (laid bytes m (numbered start (first_places n ts))) (get_or (places ts) i 0) ≡ get_or bytes (start + i) 0 ∷ []
  frame-each m start n ts inside once i less =
      let count : length (first_places n ts) ≡ min n (requested ts) = length-take-le (min n (requested ts)) (places ts) (omega (arith, length-places ts)) in
      rw (← get_or-take (min n (requested ts)) (places ts) i 0 less) (byte_at-named bytes m start (first_places n ts) once inside i (omega arith))

  -- ---- The theorem

  module _ (m : Memory) (ts : List TransferTrb) (rs : List Record) (h : Account (length bytes) ts rs) (apart : share_an_address (regions_of m) ≡ false)
      (inside : writes_in_range (length bytes) (regions_of m) rs ≡ true) where
    abbrev frame_bytes : List (ℕ × ℕ)
    frame_bytes = numbered 0 (first_places (length bytes) ts)

    inside-before : writes_in_range (length bytes) (regions_of m) (before rs) ≡ true
    inside-before = inside_take m apart (count_before rs) rs inside

    frame : written bytes m rs ≡ laid bytes m frame_bytes
    frame = sym (written-before m rs h.none_later) ∙ written-laid bytes m (before rs) apart inside-before ∙ ap (laid bytes m) h.placed

    places-inside : all_inside (regions_of m) frame_bytes ≡ true
    places-inside = subst (λ (ps : List (ℕ × ℕ)). all_inside (regions_of m) ps ≡ true) h.placed (all_inside-bytes (regions_of m) (length bytes) (before rs) inside-before)

    pub delivered : AllFit rs → kinds_known rs ≡ true → Delivered bytes m ts (encode_all rs) (written bytes m rs)
    delivered fits known = record {
      at_event = rw (records_of-encode_all rs fits)
          (subst (Carried (take (record_length * count_before rs) (encode_all rs)) bytes m (Ok tt)) (written-before m rs h.none_later)
          (carried_first m apart (count_before rs) rs fits known inside));
      at_end = carried-encode_all m rs fits known apart inside;
      frame = frame;
      each = λ once i less. rw frame (frame-each m 0 (length bytes) ts places-inside once i less ∙ rw zero-add);
      others = λ a unnamed. rw frame (byte_at-unnamed bytes m 0 (first_places (length bytes) ts) a unnamed);
      regions = regions_of-written bytes m rs;
    }
