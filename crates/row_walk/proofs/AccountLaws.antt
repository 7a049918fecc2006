-- The account rule of each TD of a row: moving starts changes no event, and moves the number of every byte written; a request in front
-- is neither. Assumes nothing.
use Prim.Native.Nat.{ℕ, zero, suc, ◌+◌, min}
use mathlib.Core.Path.{◌≡◌, refl, sym, ap, ◌∙◌}
use mathlib.Core.Bool.{Bool, true, false, cond}
use mathlib.Core.List.{List, [], ◌∷◌, ◌++◌, map}
use mathlib.Core.Option.{Option, none, some}
use native.Mathlib.Nat.{zero-add, add-zero, add-suc}
use native.Mathlib.Omega.{arith}
use lib.ListN.{length, take, drop, length-append}
use Rattle.trb.specs.declared.EndpointId.{EndpointId}
use Rattle.trb.specs.declared.SlotId.{SlotId}
use Rattle.trb.specs.declared.TransferTrb.{TransferTrb}
use Rattle.call_log.specs.Calls.{Out, silent, Meets}
use Rattle.call_log.specs.Logs.{records_in}
use Rattle.call_log.proofs.LogLaws.{records_in-logged}
use Rattle.call_log.specs.Records.{when}
use Rattle.walks.specs.Walk.{join, walk}
use Rattle.walks.proofs.GoingLaws.{walk-stopped}
use Rattle.in_td.specs.Td.{is_error}
use Rattle.in_td.specs.declared.InMode.{InMode}
use Rattle.call_log.specs.declared.Record.{Record}
use Rattle.in_td.specs.Normals.{requested}
use Rattle.account.specs.Guest.{places, Account, is_write, is_event, is_unsuccessful, any, first, before_first, before_last, relied, sum_for, residual_in, names_held, count_before, before, later, numbered, range, stands_for, bytes}
use Rattle.account.proofs.Accounted.{accounted}
use Rattle.account.proofs.GuestLaws.{bytes-append, bytes-none}
use Rattle.account.proofs.StepLaws.{any-when}
use Rattle.account.proofs.WrittenBytes.{bytes-process_td}
use Rattle.in_endpoint.specs.Submission.{request_of}
use Rattle.row_walk.specs.declared.RowProgress.{RowProgress}
use Rattle.row_walk.specs.Rows.{RowTd, row_tds, has_normal, moved_by, completed, own_log, unstarted, td_in_row, failed, process_row}
use Rattle.row_walk.specs.declared.TdResult.{TdResult}
use Rattle.row_walk.specs.Accounts.{AccountFrom, AccountedTd, started_logs, joined, EachAccounted, started_by, RowAccounted}
use Rattle.row_walk.proofs.RowLaws.{own-moved, td-counts}

-- ---- Starts moved

module _ (by : ℕ) where
  abbrev moved : List Record → List Record
  moved rs = map (moved_by by) rs

  abbrev moved_if : Option Record → Option Record
  moved_if none = none
  moved_if (some r) = some (moved_by by r)

  -- a test that does not look at the start
  module _ (test : Record → Bool) (same : (r : Record) → test (moved_by by r) ≡ test r) where
    any-moved : (rs : List Record) → any test (moved rs) ≡ any test rs
    any-moved [] = refl
    any-moved (r ∷ rs) = rw (same r, any-moved rs)

    before_first-moved : (rs : List Record) → before_first test (moved rs) ≡ before_first test rs
    before_first-moved [] = refl
    before_first-moved (r ∷ rs) = rw (same r, before_first-moved rs)

    before_last-moved : (rs : List Record) → before_last test (moved rs) ≡ before_last test rs
    before_last-moved [] = refl
    before_last-moved (r ∷ rs) = rw (any-moved rs, before_last-moved rs)

    first-moved : (rs : List Record) → first test (moved rs) ≡ moved_if (first test rs)
    first-moved [] = refl
    first-moved (r ∷ rs) = rw (same r, first-moved rs) (by-test (test r))
      where
        by-test : (b : Bool) → cond b (some (moved_by by r)) (moved_if (first test rs)) ≡ moved_if (cond b (some r) (first test rs))
        by-test true = refl
        by-test false = refl

  count-moved : (rs : List Record) → count_before (moved rs) ≡ count_before rs
  count-moved rs =
      rw (any-moved is_unsuccessful (λ r. refl) rs, before_first-moved is_unsuccessful (λ r. refl) rs, before_last-moved is_event (λ r. refl) rs)

  take-moved : (n : ℕ) (rs : List Record) → take n (moved rs) ≡ moved (take n rs)
  take-moved zero rs = refl
  take-moved (suc n) [] = refl
  take-moved (suc n) (r ∷ rs) = ap (λ (l : List Record). moved_by by r ∷ l) (take-moved n rs)

  drop-moved : (n : ℕ) (rs : List Record) → drop n (moved rs) ≡ moved (drop n rs)
  drop-moved zero rs = refl
  drop-moved (suc n) [] = refl
  drop-moved (suc n) (r ∷ rs) = drop-moved n rs

  -- each byte by its number in the joined data
  abbrev further : List (ℕ × ℕ) → List (ℕ × ℕ)
  further bs = map (λ (b : ℕ × ℕ). (by + b.0, b.1)) bs

  numbered-further : (k : ℕ) (xs : List ℕ) → numbered (by + k) xs ≡ further (numbered k xs)
  numbered-further k [] = refl
  numbered-further k (a ∷ xs) = ap (λ (l : List (ℕ × ℕ)). (by + k, a) ∷ l) (ap (λ (n : ℕ). numbered n xs) (sym (add-suc by k)) ∙ numbered-further (suc k) xs)

  numbered-from : (xs : List ℕ) → further (numbered 0 xs) ≡ numbered by xs
  numbered-from xs = sym (numbered-further 0 xs) ∙ ap (λ (k : ℕ). numbered k xs) (add-zero by)

  further-append : (bs cs : List (ℕ × ℕ)) → further (bs ++ cs) ≡ further bs ++ further cs
  further-append [] cs = refl
  further-append (b ∷ bs) cs = ap (λ (l : List (ℕ × ℕ)). (by + b.0, b.1) ∷ l) (further-append bs cs)

  stands_for-moved : (r : Record) → cond (is_write r) (stands_for (moved_by by r)) [] ≡ further (cond (is_write r) (stands_for r) [])
  stands_for-moved r = by_kind (is_write r)
    where
      by_kind : (b : Bool)
          → cond b (numbered (cond b (by + r.start) r.start) (range r.address r.length)) [] ≡ further (cond b (numbered r.start (range r.address r.length)) [])
      by_kind true = numbered-further r.start (range r.address r.length)
      by_kind false = refl

  bytes-moved : (rs : List Record) → bytes (moved rs) ≡ further (bytes rs)
  bytes-moved [] = refl
  bytes-moved (r ∷ rs) = rw (stands_for-moved r, bytes-moved rs) (sym (further-append (cond (is_write r) (stands_for r) []) (bytes rs)))

  module _ (ts : List TransferTrb) where
    names_held-moved : (o : Option Record) → names_held ts (moved_if o) ≡ names_held ts o
    names_held-moved none = refl
    names_held-moved (some r) = refl

    residual-moved : (o : Option Record) → residual_in (moved_if o) ≡ residual_in o
    residual-moved none = refl
    residual-moved (some r) = refl

    sum_moved : (o : Option Record) → sum_for ts (moved_if o) ≡ sum_for ts o
    sum_moved none = refl
    sum_moved (some r) = refl

    -- a log with its starts moved accounts for the bytes from there on
    account-moved : (n : ℕ) (rs : List Record) → Account n ts rs → AccountFrom by n ts (moved rs)
    account-moved n rs c =
        let this : relied (moved rs) ≡ moved_if (relied rs) = first-moved is_unsuccessful (λ r. refl) rs in
        record {
          held = rw (this, names_held-moved (relied rs)) c.held;
          covered = rw (this, residual-moved (relied rs), sum_moved (relied rs)) c.covered;
          exact = rw (this, residual-moved (relied rs), sum_moved (relied rs)) c.exact;
          has_event = any-moved is_event (λ r. refl) rs ∙ c.has_event;
          placed = rw (count-moved rs, take-moved (count_before rs) rs, bytes-moved (before rs)) (ap further c.placed ∙ numbered-from (take (min n (requested ts)) (places ts)));
          none_later = rw (count-moved rs, drop-moved (count_before rs) rs, any-moved is_write (λ r. refl) (later rs)) c.none_later;
        }

-- a TD whose data starts at the front
pub account-from-front : (n : ℕ) (ts : List TransferTrb) (rs : List Record) → AccountFrom 0 n ts rs → Account n ts rs
account-from-front n ts rs c = record {
  held = c.held;
  covered = c.covered;
  exact = c.exact;
  has_event = c.has_event;
  placed = c.placed;
  none_later = c.none_later;
}

-- ---- A request in front

module _ (ts : List TransferTrb) (e : EndpointId) (s : SlotId) (rs : List Record) where
  count-request : any is_event rs ≡ true → count_before (request_of ts e s ∷ rs) ≡ suc (count_before rs)
  count-request h = rw h (by-test (any is_unsuccessful rs))
    where
      by-test : (b : Bool) → cond b (suc (before_first is_unsuccessful rs)) (suc (before_last is_event rs)) ≡ suc (cond b (before_first is_unsuccessful rs) (before_last is_event rs))
      by-test true = refl
      by-test false = refl

  account-request : (start n : ℕ) (us : List TransferTrb) → AccountFrom start n us rs → AccountFrom start n us (request_of ts e s ∷ rs)
  account-request start n us c = record {
    held = c.held;
    covered = c.covered;
    exact = c.exact;
    has_event = c.has_event;
    placed = rw (count-request c.has_event) c.placed;
    none_later = rw (count-request c.has_event) c.none_later;
  }

  account-when : (b : Bool) (start n : ℕ) (us : List TransferTrb) → AccountFrom start n us rs → AccountFrom start n us (when b (request_of ts e s) ++ rs)
  account-when true start n us c = account-request start n us c
  account-when false start n us c = c

-- ---- Each TD that was started

module _ (e : EndpointId) (s : SlotId) (mode : InMode) where
  -- 00, demand 3, of a TD in a row
  accounted-td : (w : RowProgress) (x : RowTd) → AccountedTd w.start x (td_in_row e s mode w x).records
  accounted-td w x distinct isp last =
      rw (own-moved e s mode w x)
      (account-when x.trbs e s (map (moved_by w.start) (completed e s mode x).records) (has_normal x.trbs) w.start x.given.length x.trbs
      (account-moved w.start x.trbs x.given.length (completed e s mode x).records (accounted e s mode x.given.status x.given.length x.trbs distinct isp last)))

  -- its writes are the device's first min(n, S) bytes for it, each at its place, whatever its addresses and flags
  pub bytes-own : (start : ℕ) (x : RowTd)
      → bytes (map (moved_by start) (own_log e s mode x)) ≡ numbered start (take (min x.given.length (requested x.trbs)) (places x.trbs))
  unfolding own_log
  bytes-own start x =
      let request : List Record = when (has_normal x.trbs) (request_of x.trbs e s) in
      let own : List ℕ = take (min x.given.length (requested x.trbs)) (places x.trbs) in
      let alone : bytes (own_log e s mode x) ≡ numbered 0 own =
      bytes-append request (completed e s mode x).records
      ∙ rw (bytes-none request (any-when is_write (has_normal x.trbs) (request_of x.trbs e s) refl)) (bytes-process_td e s mode x.given.status x.given.length x.trbs) in
      bytes-moved start (own_log e s mode x) ∙ ap (further start) alone ∙ numbered-from start own

  -- the log of a TD, and of those behind it that are started
  logs-cons : (w : RowProgress) (x : RowTd) (xs : List RowTd) (b : Bool) → is_error (completed e s mode x).state.result ≡ b
      → (b ≡ false → (walk (td_in_row e s mode) failed (td_in_row e s mode w x).state xs).records ≡ joined (started_logs e s mode (w.start + x.given.length) xs))
      → (walk (td_in_row e s mode) failed (td_in_row e s mode w x).state xs).records ≡ joined (cond b [] (started_logs e s mode (w.start + x.given.length) xs))
  unfolding td_in_row joined
  logs-cons w x xs true h more = ap (λ (o : Out RowProgress). o.records) (walk-stopped (td_in_row e s mode) failed (td_in_row e s mode w x).state xs h)
  logs-cons w x xs false h more = more refl

  -- 02, R-7: logs stand one behind the other
  pub row-logs : (w : RowProgress) (xs : List RowTd) → failed w ≡ false → (walk (td_in_row e s mode) failed w xs).records ≡ joined (started_logs e s mode w.start xs)
  unfolding started_logs joined walk td_in_row
  row-logs w [] well = refl
  row-logs w (x ∷ xs) well =
      rw well (ap (λ (l : List Record). map (moved_by w.start) (own_log e s mode x) ++ l)
      (logs-cons w x xs (is_error (completed e s mode x).state.result) refl (λ h. row-logs (td_in_row e s mode w x).state xs h)))

  pub each-accounted : (w : RowProgress) (xs : List RowTd) → EachAccounted w.start xs (started_logs e s mode w.start xs)
  unfolding started_logs EachAccounted td_in_row
  each-accounted w [] = tt
  each-accounted w (x ∷ xs) = (accounted-td w x, by-test (is_error (completed e s mode x).state.result) (each-accounted (td_in_row e s mode w x).state xs))
    where
      start : ℕ
      start = w.start + x.given.length

      by-test : (b : Bool) → EachAccounted start xs (started_logs e s mode start xs) → EachAccounted start xs (cond b [] (started_logs e s mode start xs))
      by-test true h = none xs
        where
          none : (xs : List RowTd) → EachAccounted start xs []
          none [] = tt
          none (x ∷ xs) = tt
      by-test false h = h

  abbrev pub started_of : RowProgress → ℕ
  started_of w = started_by w.finished w.result

  -- how many were started
  started-by : (w : RowProgress) (x : RowTd) (xs : List RowTd) (b : Bool) → is_error (completed e s mode x).state.result ≡ b
      → (b ≡ false → started_of (walk (td_in_row e s mode) failed (td_in_row e s mode w x).state xs).state ≡ (td_in_row e s mode w x).state.finished + length (started_logs e s mode (w.start + x.given.length) xs))
      → started_of (walk (td_in_row e s mode) failed (td_in_row e s mode w x).state xs).state ≡ w.finished + suc (length (cond b [] (started_logs e s mode (w.start + x.given.length) xs)))
  unfolding td_in_row
  started-by w x xs true h more = rw (walk-stopped (td_in_row e s mode) failed (td_in_row e s mode w x).state xs h, h) (omega arith)
  started-by w x xs false h more = let k : started_of (walk (td_in_row e s mode) failed (td_in_row e s mode w x).state xs).state ≡ w.finished + 1 + length (started_logs e s mode (w.start + x.given.length) xs) = more refl ∙ rw h in omega (arith, k)

  pub row-started : (w : RowProgress) (xs : List RowTd) → failed w ≡ false → started_of (walk (td_in_row e s mode) failed w xs).state ≡ w.finished + length (started_logs e s mode w.start xs)
  unfolding started_logs walk td_in_row
  row-started w [] well = rw well (omega arith)
  row-started w (x ∷ xs) well = rw well (started-by w x xs (is_error (completed e s mode x).state.result) refl (λ h. row-started (td_in_row e s mode w x).state xs h))

  -- a row counts its records
  pub row_counts : (w : RowProgress) (xs : List RowTd) → (walk (td_in_row e s mode) failed w xs).state.records ≡ w.records + length (walk (td_in_row e s mode) failed w xs).records
  unfolding walk
  row_counts w [] = omega arith
  row_counts w (x ∷ xs) = by-test (failed w) (row_counts (td_in_row e s mode w x).state xs)
    where
      rest : Out RowProgress
      rest = walk (td_in_row e s mode) failed (td_in_row e s mode w x).state xs

      by-test : (b : Bool) → rest.state.records ≡ (td_in_row e s mode w x).state.records + length rest.records
          → (cond b (silent w) (join (td_in_row e s mode w x) rest)).state.records ≡ w.records + length (cond b (silent w) (join (td_in_row e s mode w x) rest)).records
      by-test true h = omega arith
      by-test false h = omega (arith, h, td-counts e s mode w x, length-append (td_in_row e s mode w x).records rest.records)

  -- 00, demand 3, of a row: what is read back of a log that the row left
  pub row-accounted : (ts : List TransferTrb) (rs : List TdResult) (l l' : List ℕ) (r : RowProgress) → Meets (process_row e s mode ts rs) 0 l r l'
      → RowAccounted (row_tds ts rs) (started_of r) (records_in r.records l')
  row-accounted ts rs l l' r m =
      let xs : List RowTd = row_tds ts rs in
      let o : Out RowProgress = process_row e s mode ts rs in
      let count : o.state.records ≡ length o.records = row_counts unstarted xs ∙ zero-add (length o.records) in
      record {
        logs = started_logs e s mode 0 xs;
        split = rw (m.state, m.log, count) (records_in-logged l 0 o.records (omega arith) m.fits ∙ row-logs unstarted xs refl);
        count = sym (rw m.state (row-started unstarted xs refl ∙ zero-add (length (started_logs e s mode 0 xs))));
        each = each-accounted unstarted xs;
      }
