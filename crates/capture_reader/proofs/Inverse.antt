-- 02, R-2: the reader is the writer's inverse. What is written is accepted and read back, call by call; what is accepted was written by some list of calls, byte
-- for byte. Assumes nothing.
use Prim.Native.Nat.{ℕ, zero, suc, ◌+◌, ◌%◌, ◌<◌, ◌≤◌}
use mathlib.Core.Bool.{Bool, true, false, cond, ◌&&◌}
use mathlib.Core.Logic.{◌↔◌}
use mathlib.Core.Path.{◌≡◌, refl, sym, ap, ◌∙◌}
use mathlib.Core.List.{List, [], ◌∷◌, ◌++◌, append_assoc, append-nil, map}
use native.Mathlib.Omega.{arith}
use lib.Dec.{eqb, leb}
use lib.ListN.{length, take, drop, get_or, replicate, length-replicate, length-append, take-append-drop}
use lib.Seq.{take-add, drop_at, drop-drop}
use borrow.Author.Tests.{leb-true, eqb-true, le-leb, eq-eqb}
use Rattle.std.proofs.Common.{nat_eq}
use Rattle.std.specs.List.{starts_with}
use Rattle.std.proofs.lemmas.Bool.Decides.{Decides-eqb, same_from_decides}
use Rattle.std.proofs.lemmas.Slice.Eq.{starts_is}
use Rattle.trb.specs.Questions.{first_no}
use Rattle.buffers.specs.LittleEndian.{le_bytes, le_field, AllBytes}
use Rattle.buffers.proofs.LittleEndianLaws.{le_field-lt, le_bytes-le_field, le_field-append, AllBytes-drop}
use Rattle.capture_file.specs.Records.{CaptureRecord, captured, head, layout, layout_all, Sound, AllSound}
use Rattle.capture_file.specs.Files.{file_head}
use Rattle.capture_file.specs.Reading.{delivered_at, record_at, records_in, whole_records, every}
use Rattle.capture_file.proofs.LayoutLaws.{both, whole-tests, captured_at-layout, record_at-layout, whole_record-layout, records_in-layout_all, whole_records-layout_all, layout_all-records_in, records_in-sound}
use Rattle.capture_record.specs.declared.CaptureEvent.{CaptureEvent}
use Rattle.capture_record.specs.declared.UsbHeader.{UsbHeader}
use Rattle.capture_record.specs.Headers.{HeaderFits, header_bytes, header_in}
use Rattle.capture_record.specs.Events.{snap_length, max_microseconds, carries, header_of}
use Rattle.capture_record.specs.Calls.{CaptureCall, delivered_by, captured_by, record_of, writer_head, capture, EventFits, Writable, AllWritable}
use Rattle.capture_record.proofs.HeaderLaws.{length-header_bytes, header_in-header_bytes, header_bytes-header_in}
use Rattle.capture_record.proofs.CallLaws.{captured-record_of, length-record_of, length-writer_head}
use Rattle.capture_header.specs.Made.{device_named, event_named, count_named, made_again, same_header, made}
use Rattle.capture_header.proofs.MadeLaws.{same_header-same, same_header-equal, made_again-header_of, delivered-header_of, event_named-fits, count_named-fits, header_of-fits}
use Rattle.capture_reader.specs.Reading.{made_head, made_records, made_file, made_record, read_questions, read_answer, counted, read_at}
use Rattle.capture_reader.specs.Inverse.{given_call, GivesCall, GivesBack}

-- ---- What the writer writes, the reader accepts

module _ (c : CaptureCall) (w : Writable c) where
  abbrev count : ℕ
  count = length c.payload % 4294967296

  abbrev header : UsbHeader
  header = header_of c.device c.seconds c.microseconds c.event count

  header-back : header_in (header_bytes header) ≡ header
  header-back =
      header_in-header_bytes header
      (header_of-fits c.device c.seconds c.microseconds w.fits.bus w.fits.seconds (omega (arith, w.microseconds)) c.event count w.fits.event (omega arith))

  carried : header.delivered ≡ length (delivered_by c)
  carried = delivered-header_of c.device c.seconds c.microseconds c.event count ∙ by (carries c.event) w.captured
    where
      by : (b : Bool) → 48 + length (cond b c.payload []) ≤ snap_length → cond b count 0 ≡ length (cond b c.payload [])
      by true short = omega arith
      by false short = refl

  pub record_of-sound : Sound 0 snap_length (record_of c)
  unfolding header_in
  record_of-sound = record {
    header = length-header_bytes header;
    extras = refl;
    delivered = ap (λ (h : UsbHeader). h.delivered) header-back ∙ carried;
    whole = omega (arith, captured-record_of c);
    limited = w.captured;
    fits = (w.fits.seconds, omega (arith, w.microseconds), omega (arith, w.captured));
  }

  pub made-record_of : made (record_of c) ≡ true
  unfolding made
  made-record_of =
      rw (
        le-leb c.microseconds max_microseconds w.microseconds,
        eq-eqb (captured_by c) (captured (record_of c)) (sym (captured-record_of c)),
        header-back,
        made_again-header_of c.device c.seconds c.microseconds c.event count w.fits.event,
        same_header-same header,
      )

all_sound : (cs : List CaptureCall) → AllWritable cs → AllSound 0 snap_length (map record_of cs)
all_sound [] w = tt
all_sound (c ∷ cs) w = (record_of-sound c w.0, all_sound cs w.1)

all_made : (cs : List CaptureCall) → AllWritable cs → every made (map record_of cs) ≡ true
all_made [] w = refl
all_made (c ∷ cs) w = rw (made-record_of c w.0) (all_made cs w.1)

head-accepted : (l : List ℕ) → made_head (writer_head ++ l) ≡ true
unfolding made_head
head-accepted l =
    let long : 24 ≤ length (writer_head ++ l) = omega (arith, length-append writer_head l, length-writer_head) in
    rw (
      le-leb 24 (length (writer_head ++ l)) long,
      le_field-append 0 8 writer_head l (omega (arith, length-writer_head)),
      le_field-append 8 8 writer_head l (omega (arith, length-writer_head)),
      le_field-append 16 8 writer_head l (omega (arith, length-writer_head)),
      eq-eqb (le_field 0 8 writer_head) (le_field 0 8 writer_head) refl,
      eq-eqb (le_field 8 8 writer_head) (le_field 8 8 writer_head) refl,
      eq-eqb (le_field 16 8 writer_head) (le_field 16 8 writer_head) refl,
    )

capture-headed : (cs : List CaptureCall) → made_head (capture cs) ≡ true
unfolding capture
capture-headed cs = head-accepted (layout_all (map record_of cs))

records-behind : (cs : List CaptureCall) → drop 24 (capture cs) ≡ layout_all (map record_of cs)
unfolding capture
records-behind cs = drop_at writer_head (layout_all (map record_of cs)) 24 length-writer_head

-- 02, R-2: a file that calls of the writer made is no 22
pub written-accepted : (cs : List CaptureCall) → AllWritable cs → made_file (capture cs) ≡ true
unfolding made_file made_records
written-accepted cs w =
    rw (capture-headed cs, records-behind cs, whole_records-layout_all 0 snap_length (map record_of cs) (all_sound cs w), records_in-layout_all 0 snap_length (map record_of cs) (all_sound cs w)) (all_made cs w)

-- the number of its records is that of the calls
pub written-counted : (cs : List CaptureCall) → AllWritable cs → read_answer (capture cs) ≡ counted (length cs)
unfolding first_no
written-counted cs w =
    rw (written-accepted cs w, records-behind cs, records_in-layout_all 0 snap_length (map record_of cs) (all_sound cs w), length-map cs)
  where
    length-map : (cs : List CaptureCall) → length (map record_of cs) ≡ length cs
    length-map [] = refl
    length-map (c ∷ cs) = ap suc (length-map cs)

-- ---- and gives back

module _ (pre rest : List ℕ) (c : CaptureCall) (w : Writable c) where
  abbrev here : List ℕ
  here = pre ++ (layout (record_of c) ++ rest)

  behind : drop (length pre) here ≡ layout (record_of c) ++ rest
  behind = drop_at pre (layout (record_of c) ++ rest) (length pre) refl

  sound : Sound 0 snap_length (record_of c)
  sound = record_of-sound c w

  accepted : made_record (drop (length pre) here) ≡ true
  unfolding made_record
  accepted = rw (behind, whole_record-layout (record_of c) rest sound, record_at-layout (record_of c) rest sound) (made-record_of c w)

  fields : read_at here (length pre) ≡ given_call (length pre) c
  unfolding read_at
  fields = rw (accepted, behind, record_at-layout (record_of c) rest sound, header-back c w)

  payload : take (length (delivered_by c)) (drop (length pre + 64) here) ≡ delivered_by c
  unfolding record_at
  payload =
      let whole = whole-tests 0 snap_length (layout (record_of c) ++ rest) (whole_record-layout (record_of c) rest sound) in
      let given : delivered_at (layout (record_of c) ++ rest) ≡ length (delivered_by c) =
      omega (arith, whole.sum, captured_at-layout (record_of c) rest sound, captured-record_of c) in
      ap (take (length (delivered_by c))) (sym (drop-drop 64 (length pre) here) ∙ ap (drop 64) behind)
      ∙ ap (λ (n : ℕ). take n (drop 64 (layout (record_of c) ++ rest))) (sym given)
      ∙ ap (λ (r : CaptureRecord). r.payload) (record_at-layout (record_of c) rest sound)

  gives-call : GivesCall here (length pre) c
  gives-call = record { fields = fields; payload = payload }

gives_back : (cs : List CaptureCall) → AllWritable cs → (pre : List ℕ) → GivesBack (pre ++ layout_all (map record_of cs)) (length pre) cs
unfolding layout_all
gives_back [] w pre = rw append-nil
gives_back (c ∷ cs) w pre =
    let next : length (pre ++ layout (record_of c)) ≡ length pre + 64 + length (delivered_by c) =
    omega (arith, length-append pre (layout (record_of c)), length-record_of c) in
    let others = gives_back cs w.1 (pre ++ layout (record_of c)) in
    (gives-call pre (layout_all (map record_of cs)) c w.0, rw (next, append_assoc) at others)

-- 02, R-2: reading what was written, from record to record, gives each call's record again
pub read_back : (cs : List CaptureCall) → AllWritable cs → GivesBack (capture cs) 24 cs
unfolding capture
read_back cs w = rw length-writer_head at (gives_back cs w writer_head)

-- ---- What the reader accepts, the writer writes

AllBytes-append : (xs ys : List ℕ) → AllBytes (xs ++ ys) → AllBytes xs × AllBytes ys
AllBytes-append [] ys h = (tt, h)
AllBytes-append (x ∷ xs) ys h =
    let rest = AllBytes-append xs ys h.1 in
    ((h.0, rest.0), rest.1)

AllBytes-get_or : (l : List ℕ) → AllBytes l → (i : ℕ) → get_or l i 0 < 256
AllBytes-get_or [] h i = omega arith
AllBytes-get_or (x ∷ l) h zero = h.0
AllBytes-get_or (x ∷ l) h (suc i) = AllBytes-get_or l h.1 i

AllBytes-zeros : (n : ℕ) → AllBytes (replicate n 0)
AllBytes-zeros zero = tt
AllBytes-zeros (suc n) = (omega arith, AllBytes-zeros n)

empty : (l : List ℕ) → length l ≡ 0 → l ≡ []
empty [] h = refl
empty (x ∷ l) h = absurd (omega arith)

header_in-fits : (l : List ℕ) → length l ≡ 48 → AllBytes l → HeaderFits (header_in l)
unfolding header_in
header_in-fits l long bytes = record {
  id = le_field-lt 0 8 l (omega (arith, long)) bytes;
  bus = le_field-lt 12 2 l (omega (arith, long)) bytes;
  seconds = le_field-lt 16 8 l (omega (arith, long)) bytes;
  microseconds = le_field-lt 24 4 l (omega (arith, long)) bytes;
  status = le_field-lt 28 4 l (omega (arith, long)) bytes;
  length = le_field-lt 32 4 l (omega (arith, long)) bytes;
  delivered = le_field-lt 36 4 l (omega (arith, long)) bytes;
  value = le_field-lt 42 2 l (omega (arith, long)) bytes;
  index = le_field-lt 44 2 l (omega (arith, long)) bytes;
  setup_length = le_field-lt 46 2 l (omega (arith, long)) bytes;
}

-- a call that makes the record: the event that its header names, with its payload, or one of as many bytes where the record carries none
abbrev named : CaptureRecord → UsbHeader
named r = header_in r.link

abbrev call_named : CaptureRecord → CaptureCall
call_named r = record {
  device = device_named (named r);
  seconds = r.seconds;
  microseconds = r.microseconds;
  event = event_named (named r);
  payload = cond (carries (event_named (named r))) r.payload (replicate (count_named (named r)) 0);
}

module _ (r : CaptureRecord) (s : Sound 0 snap_length r) (link : AllBytes r.link) (data-bytes : AllBytes r.payload) (h : made r ≡ true) where
  fits : HeaderFits (named r)
  fits = header_in-fits r.link s.header link

  abbrev event : CaptureEvent
  event = event_named (named r)

  abbrev number : ℕ
  number = count_named (named r)

  early : (r.microseconds ≤ max_microseconds) × ((eqb r.original (captured r) && same_header (named r) (made_again r.seconds r.microseconds (named r))) ≡ true)
  unfolding made
  early =
      let parts = both (leb r.microseconds max_microseconds) _ h in
      (leb-true r.microseconds max_microseconds parts.0, parts.1)

  equal : (r.original ≡ captured r) × (same_header (named r) (made_again r.seconds r.microseconds (named r)) ≡ true)
  equal =
      let parts = both (eqb r.original (captured r)) _ early.1 in
      (eqb-true r.original (captured r) parts.0, parts.1)

  again : named r ≡ header_of (device_named (named r)) r.seconds r.microseconds event number
  unfolding made_again
  again = same_header-equal (named r) (made_again r.seconds r.microseconds (named r)) equal.1

  -- the delivered length is the payload's, and the payload's number of bytes where the record carries it
  delivered : length r.payload ≡ cond (carries event) number 0
  unfolding header_in
  delivered =
      sym s.delivered ∙ ap (λ (k : UsbHeader). k.delivered) again ∙ delivered-header_of (device_named (named r)) r.seconds r.microseconds event number

  payload-back : delivered_by (call_named r) ≡ r.payload
  payload-back = by (carries event) delivered
    where
      by : (b : Bool) → length r.payload ≡ cond b number 0 → cond b (cond b r.payload (replicate number 0)) [] ≡ r.payload
      by true e = refl
      by false e = sym (empty r.payload e)

  payload-count : length (call_named r).payload ≡ number
  payload-count = by (carries event) delivered
    where
      by : (b : Bool) → length r.payload ≡ cond b number 0 → length (cond b r.payload (replicate number 0)) ≡ number
      by true e = e
      by false e = length-replicate number 0

  payload-bytes : AllBytes (call_named r).payload
  payload-bytes = by (carries event)
    where
      by : (b : Bool) → AllBytes (cond b r.payload (replicate number 0))
      by true = data-bytes
      by false = AllBytes-zeros number

  count-back : length (call_named r).payload % 4294967296 ≡ number
  count-back = rw payload-count (omega (arith, count_named-fits (named r) fits))

  event-fits : EventFits event
  unfolding header_in
  event-fits = event_named-fits (named r) fits (AllBytes-get_or r.link link 10) (AllBytes-get_or r.link link 40) (AllBytes-get_or r.link link 41)

  captured-back : captured_by (call_named r) ≡ r.original
  captured-back = rw payload-back (omega (arith, equal.0, s.header, s.extras))

  made-call : Writable (call_named r)
  unfolding header_in
  made-call = record {
    fits = record {
      bus = fits.bus;
      address = AllBytes-get_or r.link link 11;
      seconds = s.fits.0;
      event = event-fits;
      payload = payload-bytes;
    };
    microseconds = early.0;
    captured = omega (arith, captured-back, s.limited);
  }

  made-record : record_of (call_named r) ≡ r
  made-record =
      let bytes : header_bytes (header_of (device_named (named r)) r.seconds r.microseconds event (length (call_named r).payload % 4294967296)) ≡ r.link =
      ap (λ (n : ℕ). header_bytes (header_of (device_named (named r)) r.seconds r.microseconds event n)) count-back
      ∙ ap header_bytes (sym again)
      ∙ header_bytes-header_in r.link s.header link in
      let none = empty r.added s.extras in
      λ i. record {
        seconds = r.seconds;
        microseconds = r.microseconds;
        original = captured-back i;
        link = bytes i;
        added = sym none i;
        payload = payload-back i;
      }

-- all records of a file
record-bytes : (r : CaptureRecord) (rest : List ℕ) → AllBytes (layout r ++ rest) → AllBytes r.link × AllBytes r.payload × AllBytes rest
unfolding layout
record-bytes r rest h =
    let front : List ℕ = head r.seconds r.microseconds (captured r) r.original in
    let all = AllBytes-append (layout r) rest h in
    let parts = AllBytes-append (front ++ r.link ++ r.added) r.payload all.0 in
    ((AllBytes-append front r.link (AllBytes-append (front ++ r.link) r.added parts.0).0).1, parts.1, all.1)

all_named : (rs : List CaptureRecord) → AllSound 0 snap_length rs → AllBytes (layout_all rs) → every made rs ≡ true
    → AllWritable (map call_named rs) × (map record_of (map call_named rs) ≡ rs)
unfolding layout_all
all_named [] s bytes h = (tt, refl)
all_named (r ∷ rs) s bytes h =
    let parts = record-bytes r (layout_all rs) bytes in
    let tests = both (made r) (every made rs) h in
    let others = all_named rs s.1 parts.2 tests.1 in (
      (made-call r s.0 parts.0 parts.1 tests.0, others.0),
      λ i. made-record r s.0 parts.0 parts.1 tests.0 i ∷ others.1 i,
    )

-- the first 24 bytes, eight at a time
head_read : (l : List ℕ) → AllBytes l → made_head l ≡ true → take 24 l ≡ writer_head
unfolding made_head file_head
head_read l bytes h =
    let a = both (leb 24 (length l)) _ h in
    let b = both (eqb (le_field 0 8 l) (le_field 0 8 writer_head)) _ a.1 in
    let c = both (eqb (le_field 8 8 l) (le_field 8 8 writer_head)) _ b.1 in
    let long = leb-true 24 (length l) a.0 in
    let first : take 8 l ≡ take 8 writer_head = sym (le_bytes-le_field 0 8 l (omega (arith, long)) bytes) ∙ ap (le_bytes 8) (eqb-true (le_field 0 8 l) (le_field 0 8 writer_head) b.0) in
    let second : take 8 (drop 8 l) ≡ take 8 (drop 8 writer_head) =
    sym (le_bytes-le_field 8 8 l (omega (arith, long)) bytes) ∙ ap (le_bytes 8) (eqb-true (le_field 8 8 l) (le_field 8 8 writer_head) c.0) in
    let third : take 8 (drop 16 l) ≡ take 8 (drop 16 writer_head) =
    sym (le_bytes-le_field 16 8 l (omega (arith, long)) bytes) ∙ ap (le_bytes 8) (eqb-true (le_field 16 8 l) (le_field 16 8 writer_head) c.1) in
    take-add 16 8 l ∙ ap (λ (m : List ℕ). m ++ take 8 (drop 16 l)) (take-add 8 8 l) ∙ rw (first, second, third)

-- the first 24 bytes, at once
pub made_head-starts : (l : List ℕ) → AllBytes l → (r : Bool) → r ≡ starts_with nat_eq l writer_head → r ≡ made_head l
made_head-starts l bytes r e =
    let starts = starts_is Decides-eqb l writer_head r e in
    let headed : ℕ → List ℕ = λ n. writer_head ++ drop n l in
    let accepted : l ≡ headed 24 → made_head l ≡ true = λ f. rw f (head-accepted (drop 24 l)) in
    let read : made_head l ≡ true → l ≡ headed 24 = λ h. sym (take-append-drop 24 l) ∙ ap (λ (m : List ℕ). m ++ drop 24 l) (head_read l bytes h) in
    same_from_decides {P = l ≡ headed 24} r (made_head l) (λ t. starts.0 t ∙ ap headed length-writer_head, starts.1 (drop 24 l)) (read, accepted)

module _ (l : List ℕ) (bytes : AllBytes l) where
  -- 02, R-2: what the reader accepts, calls of the writer write, byte for byte
  pub accepted-written : made_file l ≡ true → (cs : List CaptureCall) × AllWritable cs × (l ≡ capture cs)
  unfolding made_file made_records capture
  accepted-written h =
      let parts = both (made_head l) _ h in
      let records = both (whole_records 0 snap_length (drop 24 l)) _ parts.1 in
      let rs = records_in 0 (drop 24 l) in
      let tail-bytes = AllBytes-drop 24 l bytes in
      let laid : layout_all rs ≡ drop 24 l = layout_all-records_in 0 snap_length (drop 24 l) tail-bytes records.0 in
      let all = all_named rs (records_in-sound 0 snap_length (drop 24 l) tail-bytes records.0) (rw (← laid) at tail-bytes) records.1 in
      let joined : l ≡ writer_head ++ layout_all (map record_of (map call_named rs)) =
      sym (take-append-drop 24 l) ∙ rw (head_read l bytes parts.0, all.1, laid) in
      (map call_named rs, all.0, joined)

  -- 02, R-2: 22 exactly when no list of records writes that file
  pub accepted-iff-written : (first_no (read_questions l) ≡ 0) ↔ ((cs : List CaptureCall) × AllWritable cs × (l ≡ capture cs))
  unfolding first_no
  accepted-iff-written = (
    λ none. accepted-written (yes (made_file l) none),
    λ written. rw (written.2, written-accepted written.0 written.1),
  )
    where
      yes : (b : Bool) → ◌≡◌ {A = ℕ} (cond b 0 22) 0 → b ≡ true
      yes true e = refl
      yes false e = absurd (omega arith)
