-- 02, R-9: the account rule holds of compacted logs too. The event relied on, or the last, parts the log and the compacted log; what the writes before it
-- stand for is the same, and none comes later. Assumes nothing.
use Prim.Native.Nat.{ℕ, suc}
use mathlib.Core.Bool.{Bool, true, false, ◌||◌, true≢false}
use mathlib.Core.Path.{◌≡◌, refl, sym, ap, ◌∙◌, subst}
use mathlib.Core.List.{List, [], ◌∷◌, ◌++◌, map, map-append}
use lib.ListN.{length, take, drop}
use lib.Seq.{take_at, drop_at}
use Rattle.trb.specs.declared.TransferTrb.{TransferTrb}
use Rattle.trb.proofs.TestLaws.{and_left, or-false-right}
use Rattle.call_log.specs.declared.Record.{Record}
use Rattle.call_log.specs.Records.{decode, write_kind}
use Rattle.account.specs.Guest.{is_write, is_event, is_unsuccessful, any, before_last, relied, names_held, count_before, before, later, bytes, Account}
use Rattle.account.proofs.GuestLaws.{any_at, before_first-at}
use Rattle.carry_out.specs.Writes.{records_of}
use Rattle.kept_records.specs.Rows.{rows_of}
use Rattle.kept_records.specs.Compact.{compacted}
use Rattle.log_compact.specs.Compacting.{kept_bytes}
use Rattle.compact_laws.proofs.CompactLaws.{AllSized, compacted-part}
use Rattle.compact_laws.proofs.LogLaws.{all_sized-rows_of, records_of-rows_of, records_of-kept}
use Rattle.compact_account.proofs.ByteLaws.{bytes-compacted, any-compacted, first-compacted, compacted-others}

-- ---- Events are no writes

is_event-write : (r : Record) → r.kind ≡ write_kind → is_event r ≡ false
is_event-write r kind = rw kind

is_unsuccessful-write : (r : Record) → r.kind ≡ write_kind → is_unsuccessful r ≡ false
is_unsuccessful-write r kind = rw kind

is_event-kind : (r : Record) → is_event r ≡ true → r.kind ≡ write_kind → ⊥
is_event-kind r e kind = true≢false (sym e ∙ is_event-write r kind)

is_unsuccessful-event : (r : Record) → is_unsuccessful r ≡ true → is_event r ≡ true
is_unsuccessful-event r e = and_left (is_event r) _ e

-- ---- The event that parts a log

-- rows that are parted at a row that passes a test
pub record Parted (test : Record → Bool) (rows : List (List ℕ)) : Type 0 where
  pub front : List (List ℕ)
  pub event : List ℕ
  pub back : List (List ℕ)
  pub whole : rows ≡ front ++ (event ∷ back)
  pub passes : test (decode event) ≡ true

-- at the first that does
pub record AtFirst (test : Record → Bool) (rows : List (List ℕ)) : Type 0 where
  pub parted : Parted test rows
  pub none : any test (map decode parted.front) ≡ false

-- at the last that does
pub record AtLast (test : Record → Bool) (rows : List (List ℕ)) : Type 0 where
  pub parted : Parted test rows
  pub none : any test (map decode parted.back) ≡ false

module _ (test : Record → Bool) where
  abbrev one-before : (r : List ℕ) (rows : List (List ℕ)) → Parted test rows → Parted test (r ∷ rows)
  one-before r rows p = record {
    front = r ∷ p.front;
    event = p.event;
    back = p.back;
    whole = ap (λ (l : List (List ℕ)). r ∷ l) p.whole;
    passes = p.passes;
  }

  at_first : (rows : List (List ℕ)) → any test (map decode rows) ≡ true → AtFirst test rows
  at_first [] e = absurd (true≢false (sym e))
  at_first (r ∷ rows) e = by (test (decode r)) refl (λ h. at_first rows h)
    where
      by : (t : Bool) → test (decode r) ≡ t → (any test (map decode rows) ≡ true → AtFirst test rows) → AtFirst test (r ∷ rows)
      by true t rest = record { parted = record { front = []; event = r; back = rows; whole = refl; passes = t }; none = refl }
      by false t rest =
          let h = rest (rw t at e) in
          record { parted = one-before r rows h.parted; none = rw t h.none }

  at_last : (rows : List (List ℕ)) → any test (map decode rows) ≡ true → AtLast test rows
  at_last [] e = absurd (true≢false (sym e))
  at_last (r ∷ rows) e = by (any test (map decode rows)) refl (λ h. at_last rows h)
    where
      or-none : (a b : Bool) → (a || b) ≡ true → b ≡ false → a ≡ true
      or-none true b h q = refl
      or-none false b h q = absurd (true≢false (sym h ∙ q))

      by : (t : Bool) → any test (map decode rows) ≡ t → (any test (map decode rows) ≡ true → AtLast test rows) → AtLast test (r ∷ rows)
      by true t rest = let h = rest t in record { parted = one-before r rows h.parted; none = h.none }
      by false t rest = record {
        parted = record { front = []; event = r; back = rows; whole = refl; passes = or-none (test (decode r)) (any test (map decode rows)) e t };
        none = t;
      }

  before_last-none : (r : Record) (xs ys : List Record) → any test ys ≡ false → test r ≡ true → before_last test (xs ++ (r ∷ ys)) ≡ length xs
  before_last-none r [] ys q t = rw q
  before_last-none r (x ∷ xs) ys q t = rw (any_at test r xs ys t) (ap suc (before_last-none r xs ys q t))

-- ---- How many records come before it

count-first : (front : List (List ℕ)) (e : List ℕ) (back : List (List ℕ)) → any is_unsuccessful (map decode front) ≡ false → is_unsuccessful (decode e) ≡ true
    → count_before (map decode (front ++ (e ∷ back))) ≡ length (map decode front)
count-first front e back none passes =
    rw (map-append decode front (e ∷ back), any_at is_unsuccessful (decode e) (map decode front) (map decode back) passes)
    (before_first-at is_unsuccessful (decode e) (map decode front) (map decode back) none passes)

count-last : (front : List (List ℕ)) (e : List ℕ) (back : List (List ℕ)) → any is_unsuccessful (map decode (front ++ (e ∷ back))) ≡ false
    → any is_event (map decode back) ≡ false → is_event (decode e) ≡ true → count_before (map decode (front ++ (e ∷ back))) ≡ length (map decode front)
count-last front e back well none passes =
    rw well
    (ap (before_last is_event) (map-append decode front (e ∷ back)) ∙ before_last-none is_event (decode e) (map decode front) (map decode back) none passes)

-- of a log's rows: an event, and how many records come before it in the log and in the compacted log
pub record Relied (rows : List (List ℕ)) : Type 0 where
  pub parted : Parted is_event rows
  pub count : count_before (map decode rows) ≡ length (map decode parted.front)
  pub count_compacted : count_before (map decode (compacted rows)) ≡ length (map decode (compacted parted.front))

-- a compacted log is parted at the same event
compacted-parted : {rows : List (List ℕ)} (p : Parted is_event rows) → compacted rows ≡ compacted p.front ++ (p.event ∷ compacted p.back)
compacted-parted p = ap compacted p.whole ∙ compacted-part p.event (is_event-kind (decode p.event) p.passes) p.front p.back

module _ (rows : List (List ℕ)) (sized : AllSized rows) where
  sized-parts : {test : Record → Bool} (p : Parted test rows) → AllSized p.front × AllSized p.back
  sized-parts p = parts p.front p.event p.back (subst AllSized p.whole sized)
    where
      parts : (xs : List (List ℕ)) (e : List ℕ) (ys : List (List ℕ)) → AllSized (xs ++ (e ∷ ys)) → AllSized xs × AllSized ys
      parts [] e ys s = (tt, s.1)
      parts (x ∷ xs) e ys s = let rest = parts xs e ys s.1 in ((s.0, rest.0), rest.1)

  relied-first : any is_unsuccessful (map decode rows) ≡ true → Relied rows
  relied-first t =
      let h = at_first is_unsuccessful rows t in
      let p = h.parted in
      let event : Parted is_event rows =
      record { front = p.front; event = p.event; back = p.back; whole = p.whole; passes = is_unsuccessful-event (decode p.event) p.passes } in
      record {
        parted = event;
        count = ap (λ (l : List (List ℕ)). count_before (map decode l)) p.whole ∙ count-first p.front p.event p.back h.none p.passes;
        count_compacted = ap (λ (l : List (List ℕ)). count_before (map decode l)) (compacted-parted event)
            ∙ count-first (compacted p.front) p.event (compacted p.back)
            (any-compacted is_unsuccessful is_unsuccessful-write p.front (sized-parts p).0 ∙ h.none) p.passes;
      }

  relied-last : any is_unsuccessful (map decode rows) ≡ false → any is_event (map decode rows) ≡ true → Relied rows
  relied-last t e =
      let h = at_last is_event rows e in
      let p = h.parted in
      record {
        parted = p;
        count = ap (λ (l : List (List ℕ)). count_before (map decode l)) p.whole
            ∙ count-last p.front p.event p.back (subst (λ (l : List (List ℕ)). any is_unsuccessful (map decode l) ≡ false) p.whole t) h.none p.passes;
        count_compacted = ap (λ (l : List (List ℕ)). count_before (map decode l)) (compacted-parted p)
            ∙ count-last (compacted p.front) p.event (compacted p.back)
            (subst (λ (l : List (List ℕ)). any is_unsuccessful (map decode l) ≡ false) (compacted-parted p)
            (any-compacted is_unsuccessful is_unsuccessful-write rows sized ∙ t))
            (any-compacted is_event is_event-write p.back (sized-parts p).1 ∙ h.none) p.passes;
      }

  relied-on : any is_event (map decode rows) ≡ true → Relied rows
  relied-on e = by (any is_unsuccessful (map decode rows)) refl
    where
      by : (t : Bool) → any is_unsuccessful (map decode rows) ≡ t → Relied rows
      by true t = relied-first t
      by false t = relied-last t e

-- ---- Before it and from it on

before-parted : (rows front : List (List ℕ)) (e : List ℕ) (back : List (List ℕ)) → rows ≡ front ++ (e ∷ back)
    → count_before (map decode rows) ≡ length (map decode front) → before (map decode rows) ≡ map decode front
before-parted rows front e back whole count =
    ap (λ (n : ℕ). take n (map decode rows)) count
    ∙ ap (take (length (map decode front))) (ap (map decode) whole ∙ map-append decode front (e ∷ back))
    ∙ take_at (map decode front) (decode e ∷ map decode back) (length (map decode front)) refl

later-parted : (rows front : List (List ℕ)) (e : List ℕ) (back : List (List ℕ)) → rows ≡ front ++ (e ∷ back)
    → count_before (map decode rows) ≡ length (map decode front) → later (map decode rows) ≡ decode e ∷ map decode back
later-parted rows front e back whole count =
    ap (λ (n : ℕ). drop n (map decode rows)) count
    ∙ ap (drop (length (map decode front))) (ap (map decode) whole ∙ map-append decode front (e ∷ back))
    ∙ drop_at (map decode front) (decode e ∷ map decode back) (length (map decode front)) refl

-- 02, R-9: the account rule holds of compacted logs too
pub account-compacted : (n : ℕ) (ts : List TransferTrb) (rows : List (List ℕ)) → AllSized rows → Account n ts (map decode rows) → Account n ts (map decode (compacted rows))
account-compacted n ts rows sized h =
    let r = relied-on rows sized h.has_event in
    let p = r.parted in
    let event = p.event in
    let same : relied (map decode (compacted rows)) ≡ relied (map decode rows) = first-compacted is_unsuccessful is_unsuccessful-write rows sized in
    let front = before-parted rows p.front event p.back p.whole r.count in
    let front_compacted = before-parted (compacted rows) (compacted p.front) event (compacted p.back) (compacted-parted p) r.count_compacted in
    let back = later-parted rows p.front event p.back p.whole r.count in
    let back_compacted = later-parted (compacted rows) (compacted p.front) event (compacted p.back) (compacted-parted p) r.count_compacted in
    let none : any is_write (decode event ∷ map decode p.back) ≡ false = ap (any is_write) (sym back) ∙ h.none_later in
    let kept : compacted p.back ≡ p.back = compacted-others p.back (or-false-right (is_write (decode event)) (any is_write (map decode p.back)) none) in
    record {
      held = ap (names_held ts) same ∙ h.held;
      covered = rw same h.covered;
      exact = rw same h.exact;
      has_event = any-compacted is_event is_event-write rows sized ∙ h.has_event;
      placed = ap bytes front_compacted ∙ bytes-compacted p.front (sized-parts rows sized p).0 ∙ ap bytes (sym front) ∙ h.placed;
      none_later = ap (any is_write) (back_compacted ∙ ap (λ (l : List (List ℕ)). decode event ∷ map decode l) kept) ∙ none;
    }

-- over the bytes of a log
pub account-kept : (n : ℕ) (ts : List TransferTrb) (log : List ℕ) → Account n ts (records_of log) → Account n ts (records_of (kept_bytes log))
account-kept n ts log h = rw (records_of-kept log) (account-compacted n ts (rows_of log) (all_sized-rows_of log) (rw (records_of-rows_of log) at h))
