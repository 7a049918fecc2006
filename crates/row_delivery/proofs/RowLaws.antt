-- No torn frame, of a row. The account of each TD says that no write comes behind its event; the bytes of its writes are its part of the joined data, at its places;
-- so carrying out the row's log up to that event, or to the end of the TD, lays the TD's frame on what the TDs ahead left. Assumes nothing.
use Rattle.std.specs.Prelude.{Ok}
use Prim.Native.Nat.{ℕ, suc, ◌+◌, ◌*◌, ◌≤◌}
use mathlib.Core.Bool.{Bool, true, false, cond}
use mathlib.Core.Path.{◌≡◌, refl, sym, ap, ◌∙◌, subst}
use mathlib.Core.List.{List, [], ◌∷◌, ◌++◌, append_assoc}
use native.Mathlib.Omega.{arith}
use lib.ListN.{length, take, length-append}
use lib.Seq.{take_all, take-append-add, take-append-le}
use Rattle.trb.specs.Limits.{record_length}
use Rattle.trb.specs.declared.EndpointId.{EndpointId}
use Rattle.trb.specs.declared.SlotId.{SlotId}
use Rattle.trb.proofs.TestLaws.{and_left, and_right}
use Rattle.call_log.specs.Logs.{encode_all, AllFit}
use Rattle.call_log.specs.declared.Record.{Record}
use Rattle.call_log.proofs.LogLaws.{length-encode_all}
use Rattle.log_check.specs.WellFormed.{kinds_known}
use Rattle.guest_memory.specs.Regions.{share_an_address}
use Rattle.guest_memory.specs.Places.{Memory, regions_of}
use Rattle.carry_out.specs.CarryOut.{Carried}
use Rattle.carry_out.specs.Writes.{writes_in_range, written}
use Rattle.carry_out.proofs.CarryOutLaws.{records_of-encode_all}
use Rattle.carry_out.proofs.WriteLaws.{regions_of-written, written-append}
use Rattle.in_td.specs.Td.{is_error}
use Rattle.in_td.specs.declared.InMode.{InMode}
use Rattle.account.specs.Guest.{is_event, is_unsuccessful, any, before_first, before_last, count_before, numbered}
use Rattle.account.specs.Guest as guest
use Rattle.account.proofs.GuestLaws.{bytes-append}
use Rattle.row_walk.specs.Accounts.{AccountedTd, started_logs, joined, EachAccounted}
use Rattle.row_walk.specs.Rows.{RowTd, completed, unstarted}
use Rattle.row_walk.proofs.AccountLaws.{bytes-own, each-accounted}
use Rattle.delivery_laws.specs.Laid.{laid, all_inside}
use Rattle.delivery_laws.proofs.LaidLaws.{laid-append, written-laid}
use Rattle.delivery_laws.proofs.ReadLaws.{byte_at-unnamed}
use Rattle.delivery_laws.proofs.RangeLaws.{writes_in_range-append}
use Rattle.delivery_laws.proofs.InsideLaws.{all_inside-bytes}
use Rattle.delivery_laws.proofs.DeliveryLaws.{written-before, carried_first, frame-each}
use Rattle.call_log.specs.First.{first_records}
use Rattle.row_delivery.specs.Frames.{places_of, frame_over, DeliveredTd, frames_over, EachDelivered, RowDelivered}
use Rattle.row_delivery.proofs.PlaceLaws.{PlacesInside, frames-unnamed, frames-each}
use Rattle.row_delivery.proofs.TdLaws.{TdsInRegions, given_to, kinds-started, inside-started}

-- ---- The event stands in its TD's log

first-few : (test : Record → Bool) (rs : List Record) → before_first test rs ≤ length rs
first-few test [] = omega arith
first-few test (r ∷ rs) = by-test (test r) (first-few test rs)
  where
    by-test : (b : Bool) → before_first test rs ≤ length rs → cond b 0 (suc (before_first test rs)) ≤ suc (length rs)
    by-test true h = omega arith
    by-test false h = omega arith

last-few : (test : Record → Bool) (rs : List Record) → before_last test rs ≤ length rs
last-few test [] = omega arith
last-few test (r ∷ rs) = by-test (any test rs) (last-few test rs)
  where
    by-test : (b : Bool) → before_last test rs ≤ length rs → cond b (suc (before_last test rs)) 0 ≤ suc (length rs)
    by-test true h = omega arith
    by-test false h = omega arith

before-few : (rs : List Record) → count_before rs ≤ length rs
before-few rs = by-test (any is_unsuccessful rs)
  where
    by-test : (b : Bool) → cond b (before_first is_unsuccessful rs) (before_last is_event rs) ≤ length rs
    by-test true = first-few is_unsuccessful rs
    by-test false = last-few is_event rs

-- ---- The writes of each TD

-- are its part of the joined data at its places
unfoldable EachPlaced : ℕ → List RowTd → List (List Record) → Type 0
EachPlaced start xs [] = Unit {0}
EachPlaced start [] (own ∷ logs) = ⊥
EachPlaced start (x ∷ xs) (own ∷ logs) = (guest.bytes own ≡ numbered start (places_of x)) × EachPlaced (start + x.given.length) xs logs

none-placed : (start : ℕ) (xs : List RowTd) → EachPlaced start xs []
unfolding EachPlaced
none-placed start [] = tt
none-placed start (x ∷ xs) = tt

each_placed : (e : EndpointId) (s : SlotId) (mode : InMode) (start : ℕ) (xs : List RowTd) → EachPlaced start xs (started_logs e s mode start xs)
unfolding started_logs EachPlaced
each_placed e s mode start [] = tt
each_placed e s mode start (x ∷ xs) =
    (bytes-own e s mode start x, by_result (is_error (completed e s mode x).state.result) (each_placed e s mode (start + x.given.length) xs))
  where
    next : ℕ
    next = start + x.given.length

    by_result : (b : Bool) → EachPlaced next xs (started_logs e s mode next xs) → EachPlaced next xs (cond b [] (started_logs e s mode next xs))
    by_result true h = none-placed next xs
    by_result false h = h

-- so all of them, laid one after the other, are the frames of the TDs that were started
laid-frames : (bytes : List ℕ) (start : ℕ) (xs : List RowTd) (logs : List (List Record)) (m : Memory) → EachPlaced start xs logs
    → laid bytes m (guest.bytes (joined logs)) ≡ frames_over bytes start (take (length logs) xs) m
unfolding EachPlaced joined frames_over
laid-frames bytes start [] [] m placed = refl
laid-frames bytes start (x ∷ xs) [] m placed = refl
laid-frames bytes start [] (own ∷ logs) m placed = absurd placed
laid-frames bytes start (x ∷ xs) (own ∷ logs) m placed =
    ap (laid bytes m) (bytes-append own (joined logs))
    ∙ laid-append bytes m (guest.bytes own) (guest.bytes (joined logs))
    ∙ ap (λ (ps : List (ℕ × ℕ)). laid bytes (laid bytes m ps) (guest.bytes (joined logs))) placed.0
    ∙ laid-frames bytes (start + x.given.length) xs logs (frame_over bytes start x m) placed.1

-- ---- The row

module _ (bytes : List ℕ) (m : Memory) (apart : share_an_address (regions_of m) ≡ false) (rs : List Record) (fits : AllFit rs) (known : kinds_known rs ≡ true)
    (inside : writes_in_range (length bytes) (regions_of m) rs ≡ true) where
  abbrev log : List ℕ
  log = encode_all rs

  -- carry-out up to any record
  carried : (k : ℕ) → Carried (first_records k log) bytes m (Ok tt) (written bytes m (take k rs))
  carried k = carried_first bytes m apart k rs fits known inside

  -- one TD, behind the records `ahead`
  module _ (start : ℕ) (ahead own behind : List Record) (split : rs ≡ ahead ++ (own ++ behind)) (x : RowTd) (placed : guest.bytes own ≡ numbered start (places_of x)) where
    abbrev left : Memory
    left = written bytes m ahead

    same : regions_of left ≡ regions_of m
    same = regions_of-written bytes m ahead

    inside-own : writes_in_range (length bytes) (regions_of m) own ≡ true
    inside-own =
        let n = length bytes in
        let regions = regions_of m in
        and_left (writes_in_range n regions own) (writes_in_range n regions behind)
        (sym (writes_in_range-append n regions own behind)
        ∙ and_right (writes_in_range n regions ahead) (writes_in_range n regions (own ++ behind)) (sym (writes_in_range-append n regions ahead (own ++ behind)) ∙ rw split at inside))

    framed : written bytes left own ≡ frame_over bytes start x left
    framed = written-laid bytes left own (rw same apart) (rw same inside-own) ∙ ap (laid bytes left) placed

    places-inside : all_inside (regions_of m) (numbered start (places_of x)) ≡ true
    places-inside = subst (λ (ps : List (ℕ × ℕ)). all_inside (regions_of m) ps ≡ true) placed (all_inside-bytes (regions_of m) (length bytes) own inside-own)

    -- its first c records, on what the TDs ahead left
    written-first : (c : ℕ) → c ≤ length own → written bytes m (take (length ahead + c) rs) ≡ written bytes left (take c own)
    written-first c few =
        ap (λ (ss : List Record). written bytes m (take (length ahead + c) ss)) split
        ∙ ap (written bytes m) (take-append-add ahead (own ++ behind) c ∙ ap (λ (ss : List Record). ahead ++ ss) (take-append-le c own behind few))
        ∙ written-append bytes m ahead (take c own)

    delivered-td : AccountedTd start x own → DeliveredTd bytes m log (length ahead) start left x own
    delivered-td account = record {
      at_event = λ distinct isp last.
          subst (Carried (first_records (length ahead + count_before own) log) bytes m (Ok tt))
          (written-first (count_before own) (before-few own) ∙ written-before bytes left own (account distinct isp last).none_later ∙ framed)
          (carried (length ahead + count_before own));
      at_end = subst (Carried (first_records (length ahead + length own) log) bytes m (Ok tt))
          (written-first (length own) (omega arith) ∙ ap (written bytes left) (take_all (length own) own (omega arith)) ∙ framed)
          (carried (length ahead + length own));
      each = λ once i less. frame-each bytes left start x.given.length x.trbs (rw same places-inside) once i less;
      others = λ a none. byte_at-unnamed bytes left start (places_of x) a none;
    }

  each-delivered : (start : ℕ) (ahead : List Record) (xs : List RowTd) (logs : List (List Record)) → rs ≡ ahead ++ joined logs → EachAccounted start xs logs → EachPlaced start xs logs
      → EachDelivered bytes m log (length ahead) start (written bytes m ahead) xs logs
  unfolding joined EachAccounted EachPlaced EachDelivered
  each-delivered start ahead [] [] split accounted placed = tt
  each-delivered start ahead (x ∷ xs) [] split accounted placed = tt
  each-delivered start ahead [] (own ∷ logs) split accounted placed = absurd placed
  each-delivered start ahead (x ∷ xs) (own ∷ logs) split accounted placed =
      let more = each-delivered (start + x.given.length) (ahead ++ own) xs logs (split ∙ sym (append_assoc ahead own (joined logs))) accounted.1 placed.1 in
      let count : length (ahead ++ own) ≡ length ahead + length own = length-append ahead own in
      let left : written bytes m (ahead ++ own) ≡ frame_over bytes start x (written bytes m ahead) =
      written-append bytes m ahead own ∙ framed start ahead own (joined logs) split x placed.0 in (
        delivered-td start ahead own (joined logs) split x placed.0 accounted.0,
        subst (λ (k : ℕ). EachDelivered bytes m log k (start + x.given.length) (frame_over bytes start x (written bytes m ahead)) xs logs) count
            (subst (λ (q : Memory). EachDelivered bytes m log (length (ahead ++ own)) (start + x.given.length) q xs logs) left more),
      )

  -- one of the regions holds each place
  each-inside : (start : ℕ) (ahead : List Record) (xs : List RowTd) (logs : List (List Record)) → rs ≡ ahead ++ joined logs → EachPlaced start xs logs
      → PlacesInside (regions_of m) start (take (length logs) xs)
  unfolding joined EachPlaced PlacesInside
  each-inside start ahead [] [] split placed = tt
  each-inside start ahead (x ∷ xs) [] split placed = tt
  each-inside start ahead [] (own ∷ logs) split placed = absurd placed
  each-inside start ahead (x ∷ xs) (own ∷ logs) split placed = (
    places-inside start ahead own (joined logs) split x placed.0,
    each-inside (start + x.given.length) (ahead ++ own) xs logs (split ∙ sym (append_assoc ahead own (joined logs))) placed.1,
  )

  -- of a row whose log falls into these
  module _ (xs : List RowTd) (logs : List (List Record)) (split : rs ≡ joined logs) (accounted : EachAccounted 0 xs logs) (placed : EachPlaced 0 xs logs) where
    frames : written bytes m rs ≡ frames_over bytes 0 (take (length logs) xs) m
    frames = written-laid bytes m rs apart inside ∙ ap (λ (ss : List Record). laid bytes m (guest.bytes ss)) split ∙ laid-frames bytes 0 xs logs m placed

    row-delivered : (started : ℕ) → length logs ≡ started → RowDelivered bytes m xs started log (written bytes m rs)
    row-delivered started count = record {
      logs = logs;
      split = records_of-encode_all rs fits ∙ split;
      count = count;
      at_events = each-delivered 0 [] xs logs split accounted placed;
      at_end = subst (λ (l : List ℕ). Carried l bytes m (Ok tt) (written bytes m rs)) (take_all (record_length * length rs) log (omega (arith, length-encode_all rs)))
          (subst (λ (ss : List Record). Carried (first_records (length rs) log) bytes m (Ok tt) (written bytes m ss)) (take_all (length rs) rs (omega arith)) (carried (length rs)));
      frames = subst (λ (k : ℕ). written bytes m rs ≡ frames_over bytes 0 (take k xs) m) count frames;
      each = λ once. rw (← count, frames) (frames-each bytes 0 (take (length logs) xs) m (each-inside 0 [] xs logs split placed) (rw (← count) at once));
      others = λ a none. rw frames (frames-unnamed bytes 0 (take (length logs) xs) m a (rw (← count) at none));
      regions = regions_of-written bytes m rs;
    }

-- the row that an engine walks: TDs in the regions, and data for each of them
pub started-delivered : (bytes : List ℕ) (m : Memory) (e : EndpointId) (s : SlotId) (mode : InMode) (xs : List RowTd) → let logs = started_logs e s mode 0 xs in
    share_an_address (regions_of m) ≡ false → AllFit (joined logs) → given_to xs ≤ length bytes → TdsInRegions (regions_of m) xs
    → RowDelivered bytes m xs (length logs) (encode_all (joined logs)) (written bytes m (joined logs))
started-delivered bytes m e s mode xs apart fits enough inside =
    let logs = started_logs e s mode 0 xs in
    row-delivered bytes m apart (joined logs) fits (kinds-started e s mode (length bytes) (regions_of m) 0 xs)
    (inside-started e s mode (length bytes) (regions_of m) 0 xs (omega arith) inside) xs logs refl (each-accounted e s mode unstarted xs) (each_placed e s mode 0 xs) (length logs) refl
