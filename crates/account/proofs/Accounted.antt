-- 00, demand 3, for every list, mode, status and n. By induction over the list, the log of a TD is: records on which the guest does not rely,
-- whose writes are the device's bytes at their places; then an event; then no write. Either that event tells where the bytes ended, and the
-- sum through it less its residual is min(n, S); or no Normal was short, and it is the last TRB's Success, the log's last record. What the
-- guest reads off such a log is its account. Assumes nothing.
use Prim.Native.Nat.{ℕ, ◌+◌, ◌-◌, ◌<◌, ◌≤◌, min}
use mathlib.Core.Path.{◌≡◌, refl, sym, ap, ◌∙◌}
use mathlib.Core.Bool.{Bool, true, false, or-true}
use mathlib.Core.List.{List, [], ◌∷◌, ◌++◌, append_assoc, append-nil}
use mathlib.Core.Logic.{◌⊎◌, inl, inr, ⊎_elim}
use mathlib.Core.Option.{none, some}
use native.Mathlib.Nat.{sub-zero, zero-add, le_of_lt, min-le_right}
use native.Mathlib.Omega.{arith}
use borrow.Author.Tests.{eq-eqb, ne_eqb}
use lib.Dec.{eqb}
use lib.ListN.{take, get_or, length}
use lib.Seq.{take_all, take-append_seam, drop-append_seam, length-take-le, get_or-take}
use Rattle.trb.specs.declared.EndpointId.{EndpointId}
use Rattle.trb.specs.declared.InTrbProcessingStatus.{InTrbProcessingStatus}
use Rattle.trb.specs.declared.NormalTrb.{NormalTrb}
use Rattle.trb.specs.declared.SlotId.{SlotId}
use Rattle.trb.specs.declared.TransferTrb.{TransferTrb}
use Rattle.trb.specs.declared.TransferTrbVariant.TheVariants.{Normal}
use Rattle.trb.proofs.TestLaws.{le-or-lt}
use Rattle.call_log.specs.Records.{event_kind}
use Rattle.call_log.specs.declared.Record.{Record}
use Rattle.td_part.specs.Parts.{edtla_after}
use Rattle.in_td.specs.Td.{normals, fails_at_last, process_td, in_td}
use Rattle.in_td.specs.declared.InMode.{InMode}
use Rattle.in_td.specs.declared.InTd.{InTd}
use Rattle.in_td.specs.Normals.{normal_of, normal_length, requested}
use Rattle.account.specs.Guest.{through, is_held, range, normal_range, places, Apart, Distinct, IspIfNormal, IspOnNormals, NormalWithIoc, LastNormalWithIoc, is_write, is_event, is_unsuccessful, any, relied, sum_for, residual_in, account, names_held, count_before, before, numbered, stands_for, bytes, Account}
use Rattle.account.proofs.GuestLaws.{length-range, take-append-range, get_or-range, length-normal_range, length-places, take-places-min, apart-is_held, length-numbered, get_d_numbered, numbered-take, bytes-append, any_append, bytes-none, any_at, first-at, before_first-at, before_last-at, first-none}
use Rattle.account.proofs.StepLaws.{normal-or-other, normal_count-other, left_from, full_write, full_event, full_records, failed_event, Fails, fails-last, is_unsuccessful-failed, quiet-full, bytes-full, missing, short_write, short_event, short_due-isp, is_unsuccessful-short_code}
use Rattle.account.proofs.TdLog.{log_from, log-none, OtherLog, other-log, full-log, failed-log, ShortLog, short-log}

-- ---- What the log of a TD looks like

-- the event where the bytes ended, a short Normal's or, of a transfer that fails at it, the last one's; and the records behind it
record Ended (left : ℕ) (ts : List TransferTrb) (event : Record) (behind : List Record) : Type 0 where
  unsuccessful : is_unsuccessful event ≡ true
  held : is_held event.address ts ≡ true
  sum : through event.address ts ≡ min left (requested ts) + event.length
  writeless : any is_write behind ≡ false

-- the last TRB's event, where no Normal was short
record Full (left : ℕ) (ts : List TransferTrb) (event : Record) (behind : List Record) : Type 0 where
  success : is_unsuccessful event ≡ false
  last : behind ≡ []
  enough : requested ts ≤ left

-- of a log from the device's byte `start` on, with so many bytes left
record Shape (start left : ℕ) (ts : List TransferTrb) (rs : List Record) : Type 0 where
  front : List Record
  event : Record
  behind : List Record
  split : rs ≡ front ++ event ∷ behind
  kind : event.kind ≡ event_kind
  quiet : any is_unsuccessful front ≡ false
  placed : bytes front ≡ numbered start (take left (places ts))
  ends : Ended left ts event behind ⊎ Full left ts event behind

-- a TRB in front whose writes fill its own range
module _ (t : TransferTrb) (ts : List TransferTrb) (apart : Apart t.addr ts) (start left from rest : ℕ)
    (further : from ≡ start + normal_length t) (less : left ≡ normal_length t + rest) where
  ended-cons : (event : Record) (behind : List Record) → Ended rest ts event behind → Ended left (t ∷ ts) event behind
  ended-cons event behind s = record {
    unsuccessful = s.unsuccessful;
    held = rw s.held (or-true (eqb t.addr event.address));
    sum = rw (ne_eqb t.addr event.address (apart-is_held t.addr event.address ts apart s.held)) (omega (arith, s.sum));
    writeless = s.writeless;
  }

  full-cons : (event : Record) (behind : List Record) → Full rest ts event behind → Full left (t ∷ ts) event behind
  full-cons event behind f = record { success = f.success; last = f.last; enough = omega (arith, f.enough) }

  shape-cons : (own rs : List Record) → any is_unsuccessful own ≡ false → bytes own ≡ numbered start (normal_range t)
      → Shape from rest ts rs → Shape start left (t ∷ ts) (own ++ rs)
  shape-cons own rs quiet placed m =
      let taken : numbered start (take left (places (t ∷ ts))) ≡ numbered start (normal_range t) ++ numbered from (take rest (places ts)) =
      numbered-take start left from rest (normal_range t) (places ts) (rw (length-normal_range t) further) (rw (length-normal_range t) less) in
      record {
        front = own ++ m.front;
        event = m.event;
        behind = m.behind;
        split = rw m.split (sym (append_assoc own m.front (m.event ∷ m.behind)));
        kind = m.kind;
        quiet = any_append is_unsuccessful own m.front ∙ rw (quiet, m.quiet);
        placed = bytes-append own m.front ∙ rw (placed, m.placed) (sym taken);
        ends = ⊎_elim (λ s. inl (ended-cons m.event m.behind s)) (λ f. inr (full-cons m.event m.behind f)) m.ends;
      }

-- ---- The log of every TD looks so

module _ (td : InTd) where
  abbrev Shaped : ℕ → List TransferTrb → Type 0
  Shaped start ts = (edtla count left : ℕ) → left ≡ normals ts → Shape start (left_from td start) ts (log_from td start edtla count left ts)

  module _ (start : ℕ) (t : TransferTrb) where
    shaped-other : (ts : List TransferTrb) → normal_of t.variant ≡ none → Apart t.addr ts → Shaped start ts → Shaped start (t ∷ ts)
    shaped-other ts other apart more edtla count left counted =
        let o : OtherLog td start left ts (log_from td start edtla count left (t ∷ ts)) = other-log td start edtla count left t ts other in
        let none-moved : normal_length t ≡ 0 = rw other in
        let behind : left ≡ normals ts = omega (arith, normal_count-other t.variant other) in
        rw o.log
        (shape-cons t ts apart start (left_from td start) start (left_from td start) (omega arith) (omega arith) o.own (log_from td start o.edtla o.count left ts)
        o.quiet (rw other (bytes-none o.own o.writeless)) (more o.edtla o.count left behind))

    module _ (m : NormalTrb) (kind : t.variant ≡ Normal m) where
      one_more : (ts : List TransferTrb) → normals (t ∷ ts) ≡ 1 + normals ts
      one_more ts = rw kind

      shaped-full : (ts : List TransferTrb) (edtla count left : ℕ) → left ≡ normals (t ∷ ts) → Fails td left false → m.transfer_length ≤ left_from td start → Apart t.addr ts
          → Shaped (start + m.transfer_length) ts → Shape start (left_from td start) (t ∷ ts) (log_from td start edtla count left (t ∷ ts))
      shaped-full ts edtla count left counted goes h apart more =
          let own : List Record = full_records td start m t.addr in
          let further : ℕ = start + m.transfer_length in
          let moved : normal_length t ≡ m.transfer_length = rw kind in
          rw (full-log td start edtla count left t ts m kind goes h)
          (shape-cons t ts apart start (left_from td start) further (left_from td further) (omega arith) (omega arith) own
          (log_from td further (edtla_after edtla m.transfer_length) (count + length own) (left - 1) ts)
          (quiet-full td start m t.addr) (rw kind (bytes-full td start m t.addr))
          (more (edtla_after edtla m.transfer_length) (count + length own) (left - 1) (omega (arith, one_more ts))))

      shaped-short : (ts : List TransferTrb) → left_from td start < m.transfer_length → m.interrupt_on_short ≡ true → Shaped start (t ∷ ts)
      shaped-short ts h isp edtla count left counted =
          let l : ShortLog td start m t.addr (log_from td start edtla count left (t ∷ ts)) = short-log td start edtla count left t ts m kind h in
          let first-bytes : take (left_from td start) (range m.data_pointer m.transfer_length ++ places ts) ≡ range m.data_pointer (left_from td start) =
          take-append-range m.data_pointer m.transfer_length (left_from td start) (places ts) (le_of_lt h) in
          record {
            front = short_write td start m ∷ [];
            event = short_event td start m t.addr;
            behind = l.behind;
            split = l.log ∙ rw (short_due-isp td.status m isp);
            kind = refl;
            quiet = refl;
            placed = rw (kind, append-nil (numbered start (range m.data_pointer (left_from td start))), first-bytes);
            ends = inl (record {
              unsuccessful = is_unsuccessful-short_code td.info t.addr (missing td start m) td.status;
              held = rw (eq-eqb t.addr t.addr refl);
              sum = rw (kind, eq-eqb t.addr t.addr refl) (omega arith);
              writeless = l.writeless;
            });
          }

      -- the last TRB, full
      module _ (h : m.transfer_length ≤ left_from td start) (ioc : m.interrupt_on_completion ≡ true) (edtla count left : ℕ) where
        abbrev own_range : List ℕ
        own_range = range m.data_pointer m.transfer_length

        last-placed : bytes (full_write td start m ∷ []) ≡ numbered start (take (left_from td start) (places (t ∷ [])))
        last-placed = rw (kind, append-nil (numbered start own_range), append-nil own_range, take_all (left_from td start) own_range (rw length-range h))

        shaped-last-by : (b : Bool) → Fails td left b → Shape start (left_from td start) (t ∷ []) (log_from td start edtla count left (t ∷ []))
        shaped-last-by true fails = record {
          front = full_write td start m ∷ [];
          event = failed_event td t.addr;
          behind = [];
          split = failed-log td start edtla count left t [] m kind fails h;
          kind = refl;
          quiet = refl;
          placed = last-placed;
          ends = inl (record {
            unsuccessful = is_unsuccessful-failed td left fails t.addr;
            held = rw (eq-eqb t.addr t.addr refl);
            sum = rw (kind, eq-eqb t.addr t.addr refl) (omega arith);
            writeless = refl;
          });
        }
        shaped-last-by false goes =
            let further : ℕ = start + m.transfer_length in
            let count-then : ℕ = count + length (full_records td start m t.addr) in
            let none-behind : log_from td further (edtla_after edtla m.transfer_length) count-then (left - 1) [] ≡ [] =
            log-none td further (edtla_after edtla m.transfer_length) count-then (left - 1) in
            record {
              front = full_write td start m ∷ [];
              event = full_event td t.addr;
              behind = [];
              split = full-log td start edtla count left t [] m kind goes h ∙ rw (none-behind, ioc);
              kind = refl;
              quiet = refl;
              placed = last-placed;
              ends = inr (record { success = refl; last = refl; enough = rw kind (omega arith) });
            }

      shaped-last : m.transfer_length ≤ left_from td start → m.interrupt_on_completion ≡ true → Shaped start (t ∷ [])
      shaped-last h ioc edtla count left counted = shaped-last-by h ioc edtla count left (fails_at_last td.mode td.status left) refl

      -- a Normal with another behind it, full
      shaped-next : (ts : List TransferTrb) → m.transfer_length ≤ left_from td start → 0 < normals ts → Apart t.addr ts → Shaped (start + m.transfer_length) ts
          → Shaped start (t ∷ ts)
      shaped-next ts h counted-behind apart more edtla count left counted = by-failure (fails_at_last td.mode td.status left) refl
        where
          by-failure : (b : Bool) → Fails td left b → Shape start (left_from td start) (t ∷ ts) (log_from td start edtla count left (t ∷ ts))
          by-failure true fails = absurd (omega (arith, fails-last td.mode td.status left fails, one_more ts))
          by-failure false goes = shaped-full ts edtla count left counted goes h apart more

    -- the last TRB
    shaped-alone : IspIfNormal (normal_of t.variant) → NormalWithIoc (normal_of t.variant) → Shaped start (t ∷ [])
    shaped-alone isp ioc =
        ⊎_elim
        (λ k. ⊎_elim
        (λ h. shaped-last k.0 k.1 h (rw k.1 at ioc))
        (λ h. shaped-short k.0 k.1 [] h (rw k.1 at isp))
        (le-or-lt k.0.transfer_length (left_from td start)))
        (λ other. absurd (rw other at ioc))
        (normal-or-other t.variant)

    -- a TRB with others behind it
    shaped-cons : (ts : List TransferTrb) → 0 < normals ts → Apart t.addr ts → IspIfNormal (normal_of t.variant) → ((from : ℕ) → Shaped from ts) → Shaped start (t ∷ ts)
    shaped-cons ts counted-behind apart isp more =
        ⊎_elim
        (λ k. ⊎_elim
        (λ h. shaped-next k.0 k.1 ts h counted-behind apart (more (start + k.0.transfer_length)))
        (λ h. shaped-short k.0 k.1 ts h (rw k.1 at isp))
        (le-or-lt k.0.transfer_length (left_from td start)))
        (λ other. shaped-other ts other apart (more start))
        (normal-or-other t.variant)

  -- the last TRB is a Normal
  last-counted : (ts : List TransferTrb) → LastNormalWithIoc ts → 0 < normals ts
  last-counted [] last = absurd last
  last-counted (t ∷ []) last =
      ⊎_elim (λ k. let one : normals (t ∷ []) ≡ 1 = rw k.1 in omega arith) (λ other. absurd (rw other at last)) (normal-or-other t.variant)
  last-counted (t ∷ u ∷ ts) last = omega (arith, last-counted (u ∷ ts) last)

  shaped : (start : ℕ) (ts : List TransferTrb) → Distinct ts → IspOnNormals ts → LastNormalWithIoc ts → Shaped start ts
  shaped start [] distinct isp last = absurd last
  shaped start (t ∷ []) distinct isp last = shaped-alone start t isp.0 last
  shaped start (t ∷ u ∷ ts) distinct isp last =
      shaped-cons start t (u ∷ ts) (last-counted (u ∷ ts) last) distinct.0 isp.0 (λ from. shaped from (u ∷ ts) distinct.1 isp.1 last)

-- ---- What the guest reads off such a log

module _ (n : ℕ) (ts : List TransferTrb) (front : List Record) (event : Record) (kind : event.kind ≡ event_kind)
    (quiet : any is_unsuccessful front ≡ false) (placed : bytes front ≡ numbered 0 (take n (places ts))) where
  -- where the event is the one relied on, or, if there is none, the last
  account-at : (behind : List Record) → count_before (front ++ event ∷ behind) ≡ length front → any is_write behind ≡ false
      → names_held ts (relied (front ++ event ∷ behind)) ≡ true
      → residual_in (relied (front ++ event ∷ behind)) ≤ sum_for ts (relied (front ++ event ∷ behind))
      → account ts (front ++ event ∷ behind) ≡ min n (requested ts) → Account n ts (front ++ event ∷ behind)
  account-at behind count writeless held covered exact = record {
    held = held;
    covered = covered;
    exact = exact;
    has_event = any_at is_event event front behind (rw kind);
    placed = rw (count, take-append_seam front (event ∷ behind)) (placed ∙ ap (numbered 0) (take-places-min n ts));
    none_later = rw (count, drop-append_seam front (event ∷ behind), kind) writeless;
  }

  account-ended : (behind : List Record) → Ended n ts event behind → Account n ts (front ++ event ∷ behind)
  account-ended behind s =
      let this : relied (front ++ event ∷ behind) ≡ some event = first-at is_unsuccessful event front behind quiet s.unsuccessful in
      let count : count_before (front ++ event ∷ behind) ≡ length front =
      rw (any_at is_unsuccessful event front behind s.unsuccessful) (before_first-at is_unsuccessful event front behind quiet s.unsuccessful) in
      account-at behind count s.writeless (rw this s.held) (rw this (omega (arith, s.sum))) (rw this (omega (arith, s.sum)))

  account-full : Full n ts event [] → Account n ts (front ++ event ∷ [])
  account-full f =
      let successful : any is_unsuccessful (front ++ event ∷ []) ≡ false = any_append is_unsuccessful front (event ∷ []) ∙ rw (quiet, f.success) in
      let nothing : relied (front ++ event ∷ []) ≡ none = first-none is_unsuccessful (front ++ event ∷ []) successful in
      let count : count_before (front ++ event ∷ []) ≡ length front = rw successful (before_last-at is_event event front (rw kind)) in
      account-at [] count refl (rw nothing) (rw nothing (omega arith)) (rw nothing (omega (arith, f.enough)))

account-shape : (n : ℕ) (ts : List TransferTrb) (rs : List Record) → Shape 0 n ts rs → Account n ts rs
account-shape n ts rs s =
    rw s.split
    (⊎_elim
    (λ h. account-ended n ts s.front s.event s.kind s.quiet s.placed s.behind h)
    (λ h. rw h.last (account-full n ts s.front s.event s.kind s.quiet s.placed (rw h.last at h)))
    s.ends)

-- 00, demand 3: the guest's account of an IN TD is the device's
pub accounted : (e : EndpointId) (s : SlotId) (mode : InMode) (st : InTrbProcessingStatus) (n : ℕ) (ts : List TransferTrb)
    → Distinct ts → IspOnNormals ts → LastNormalWithIoc ts → Account n ts (process_td (in_td e s mode st n) ts).records
accounted e s mode st n ts distinct isp last =
    account-shape n ts (process_td (in_td e s mode st n) ts).records (rw sub-zero at (shaped (in_td e s mode st n) 0 ts distinct isp last 0 0 (normals ts) refl))

-- ---- The same, byte by byte

-- 01, IN endpoint: a write of m bytes from start s at address a stands for byte s + i at a + i, i below m
pub get_or-stands_for : (r : Record) (i : ℕ) → i < r.length → get_or (stands_for r) i (0, 0) ≡ (r.start + i, r.address + i)
get_or-stands_for r i h = get_d_numbered r.start (range r.address r.length) i (rw length-range h) ∙ rw (get_or-range r.address r.length i h)

module _ (n : ℕ) (ts : List TransferTrb) (rs : List Record) (c : Account n ts rs) where
  length_taken : length (take (min n (requested ts)) (places ts)) ≡ min n (requested ts)
  length_taken = length-take-le (min n (requested ts)) (places ts) (rw length-places (min-le_right n (requested ts)))

  -- 01, IN endpoint: in log order these are the bytes k = 0, 1 and so on below min(n, S)
  pub length-bytes-before : length (bytes (before rs)) ≡ min n (requested ts)
  length-bytes-before = ap length c.placed ∙ length-numbered 0 (take (min n (requested ts)) (places ts)) ∙ length_taken

  -- each at its place
  pub each-at-its-place : (k : ℕ) → k < min n (requested ts) → get_or (bytes (before rs)) k (0, 0) ≡ (k, get_or (places ts) k 0)
  each-at-its-place k h =
      ap (λ (l : List (ℕ × ℕ)). get_or l k (0, 0)) c.placed
      ∙ get_d_numbered 0 (take (min n (requested ts)) (places ts)) k (rw length_taken h) ∙ rw (zero-add, get_or-take (min n (requested ts)) (places ts) k 0 h)
