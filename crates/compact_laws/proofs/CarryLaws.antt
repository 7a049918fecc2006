-- Carrying out compacted records leaves guest memory as carrying out the original does, where the original's writes lie in range and the regions neither
-- share an address nor touch. Two writes of which the second goes on where the first ends then lie in the same region, and so does the joined one.
-- Assumes nothing.
use Prim.Native.Nat.{ℕ, ◌+◌, ◌-◌, ◌≤◌, ◌<◌}
use mathlib.Core.Bool.{Bool, true, false, cond, ◌&&◌, true≢false}
use mathlib.Core.Logic.{◌⊎◌, inl, inr, ⊎_elim}
use mathlib.Core.Path.{◌≡◌, refl, sym, ap, subst, ◌∙◌}
use mathlib.Core.List.{List, [], ◌∷◌, ◌++◌, map}
use native.Mathlib.Omega.{arith}
use lib.Dec.{eqb, leb}
use lib.ListN.{length, take, drop, length-drop}
use lib.Seq.{length-take-le, take-add, drop-drop}
use borrow.Author.Tests.{eq-eqb, lt-ltb, le-leb, leb-true}
use Rattle.buffers.specs.Patch.{patch}
use Rattle.buffers.proofs.PatchLaws.{patch-append}
use Rattle.trb.proofs.TestLaws.{and_left, and_right, or-false-left, or-false-right, le-or-lt}
use Rattle.call_log.specs.declared.Record.{Record}
use Rattle.call_log.specs.Records.{decode, write_kind}
use Rattle.guest_memory.specs.declared.Place.TheVariants.{Outside, InLow, InHigh}
use Rattle.guest_memory.specs.declared.Region.{Region}
use Rattle.guest_memory.specs.declared.Regions.{Regions}
use Rattle.guest_memory.specs.Regions.{end_of, holds, share_an_address}
use Rattle.guest_memory.specs.Places.{in_region, place_of, is_inside, Memory, memory_of, regions_of}
use Rattle.guest_memory.proofs.RegionLaws.{holds-in, shares}
use Rattle.guest_memory.proofs.PlaceLaws.{in_region-in, in_region-start, in_region-end, place_of-low, place_of-high, not-in-low}
use Rattle.carry_out.specs.Writes.{moves_bytes, write_in_range, writes_in_range, moved, laid_at, after_record, written}
use Rattle.carry_out.proofs.WriteLaws.{regions_of-after_record}
use Rattle.carry_out.proofs.ByteLaws.{after_record-low, after_record-high}
use Rattle.kept_records.specs.Compact.{empty_write, joins, compacted}
use Rattle.compact_laws.specs.Touching.{meets_at_end, touch}
use Rattle.compact_laws.proofs.JoinLaws.{joined_record, joins-told, empty_write-some, empty_write-none}
use Rattle.compact_laws.proofs.CompactLaws.{AllSized}
use Rattle.compact_laws.proofs.EffectLaws.{Pair, Effect, carried, all_in_range, same-compacted}

-- ---- One record

moves_bytes-some : (r : Record) → r.kind ≡ write_kind → 0 < r.length → moves_bytes r ≡ true
unfolding moves_bytes
moves_bytes-some r kind some = rw (eq-eqb r.kind write_kind kind, lt-ltb 0 r.length some)

moves_bytes-empty : (r : Record) → empty_write r ≡ true → moves_bytes r ≡ false
unfolding moves_bytes
moves_bytes-empty r e = rw (empty_write-none r e) (off (eqb r.kind write_kind))
  where
    off : (t : Bool) → (t && false) ≡ false
    off true = refl
    off false = refl

after_record-empty : (bytes : List ℕ) (m : Memory) (r : Record) → empty_write r ≡ true → after_record bytes m r ≡ m
unfolding after_record
after_record-empty bytes m r empty = rw (moves_bytes-empty r empty)

-- a write that lies in the device's data, n bytes, and in a region
record InRange (n : ℕ) (region : Region) (r : Record) : Type 0 where
  end : r.start + r.length ≤ n
  inside : in_region region r.address r.length ≡ true

module _ (n : ℕ) (rs : Regions) (r : Record) (moves : moves_bytes r ≡ true) where
  in_range-told : write_in_range n rs r ≡ true → InRange n rs.low r ⊎ InRange n rs.high r
  unfolding write_in_range place_of
  in_range-told e =
      let inside = is_inside (place_of rs r.address r.length) in
      let both = rw moves at e in
      by (in_region rs.low r.address r.length) (in_region rs.high r.address r.length) refl refl
      (leb-true (r.start + r.length) n (and_left (leb (r.start + r.length) n) inside both)) (and_right (leb (r.start + r.length) n) inside both)
    where
      by : (s t : Bool) → in_region rs.low r.address r.length ≡ s → in_region rs.high r.address r.length ≡ t → r.start + r.length ≤ n
          → is_inside (cond s (InLow (r.address - rs.low.start_addr)) (cond t (InHigh (r.address - rs.high.start_addr)) Outside)) ≡ true
          → InRange n rs.low r ⊎ InRange n rs.high r
      by true t low high end inside = inl (record { end = end; inside = low })
      by false true low high end inside = inr (record { end = end; inside = high })
      by false false low high end inside = absurd (true≢false (sym inside))

  in_range-low : InRange n rs.low r → write_in_range n rs r ≡ true
  unfolding write_in_range
  in_range-low h = rw (moves, le-leb (r.start + r.length) n h.end, place_of-low rs r.address r.length h.inside)

  in_range-high : share_an_address rs ≡ false → 0 < r.length → InRange n rs.high r → write_in_range n rs r ≡ true
  unfolding write_in_range
  in_range-high apart some h =
      rw (
        moves,
        le-leb (r.start + r.length) n h.end,
        place_of-high rs r.address r.length (not-in-low rs r.address r.length apart some h.inside) h.inside,
      )

-- ---- Two records that are joined

module _ (p q : Record) (on : joins p q ≡ true) (some : 0 < p.length) where
  moves_bytes-joined : moves_bytes (joined_record p q) ≡ true
  moves_bytes-joined = moves_bytes-some (joined_record p q) (joins-told p q on).first (omega arith)

  in_range-joined : (n : ℕ) (region : Region) → InRange n region p → InRange n region q → InRange n region (joined_record p q)
  in_range-joined n region first second =
      let t = joins-told p q on in
      record {
        end = omega (arith, t.start, second.end);
        inside = in_region-in region p.address (p.length + q.length) (in_region-start region p.address p.length first.inside)
            (omega (arith, t.address, in_region-end region q.address q.length second.inside));
      }

  -- in a region, one write behind the other is one write
  patch-joined : (bytes : List ℕ) (base : ℕ) (region : List ℕ) → InRange (length bytes) (record { start_addr = base; len = length region }) p
      → patch region (p.address - base) (moved bytes (joined_record p q))
      ≡ patch (patch region (p.address - base) (moved bytes p)) (q.address - base) (moved bytes q)
  patch-joined bytes base region first =
      let t = joins-told p q on in
      let start = in_region-start (record { start_addr = base; len = length region }) p.address p.length first.inside in
      let end = in_region-end (record { start_addr = base; len = length region }) p.address p.length first.inside in
      let at = p.address - base in
      let vs = moved bytes p in
      let count : length vs ≡ p.length = length-take-le p.length (drop p.start bytes) (simp length-drop (omega (arith, first.end))) in
      let fits : at + length vs ≤ length region = omega (arith, count, start, end) in
      let index : q.address - base ≡ at + length vs = omega (arith, count, t.address, start) in
      let joint : moved bytes (joined_record p q) ≡ vs ++ moved bytes q =
      take-add p.length q.length (drop p.start bytes)
      ∙ ap (λ (l : List ℕ). vs ++ take q.length l) (drop-drop p.length p.start bytes ∙ ap (λ (k : ℕ). drop k bytes) t.start) in
      ap (patch region at) joint ∙ sym (ap (λ (k : ℕ). patch (patch region at vs) k (moved bytes q)) index ∙ patch-append region at vs (moved bytes q) fits)

  unless : {m n : ℕ} → (m ≤ n) ⊎ (n < m) → (n < m → ⊥) → m ≤ n
  unless which no_less = ⊎_elim (λ h. h) (λ h. absurd (no_less h)) which

  -- regions with no address in common that do not touch: no write in one goes on in the other
  apart-joined : (r s : Region) → ((a : ℕ) → holds r a ≡ true → holds s a ≡ true → ⊥) → meets_at_end r s ≡ false → 0 < q.length
      → in_region r p.address p.length ≡ true → in_region s q.address q.length ≡ true → ⊥
  unfolding meets_at_end
  apart-joined r s none off more first second =
      let t = joins-told p q on in
      let start = in_region-start r p.address p.length first in
      let end = in_region-end r p.address p.length first in
      let start' = in_region-start s q.address q.length second in
      let end' = in_region-end s q.address q.length second in
      let ends : end_of r ≤ q.address = unless (le-or-lt (end_of r) q.address) (λ h.
      none q.address (holds-in r q.address (omega (arith, t.address)) h) (holds-in s q.address start' (omega arith))) in
      let starts : q.address ≤ s.start_addr = unless (le-or-lt q.address s.start_addr) (λ h.
      none (q.address - 1) (holds-in r (q.address - 1) (omega (arith, t.address)) (omega (arith, t.address))) (holds-in s (q.address - 1) (omega arith) (omega arith))) in
      let meets : end_of r ≡ s.start_addr = omega (arith, t.address) in
      let filled : 0 < r.len = omega arith in
      let filled' : 0 < s.len = omega arith in
      true≢false (sym (rw (lt-ltb 0 r.len filled, lt-ltb 0 s.len filled', eq-eqb (end_of r) s.start_addr meets)) ∙ off)

-- ---- All records

-- the effect of carrying out on regions that neither share an address nor touch
module _ (bytes : List ℕ) (rs : Regions) (apart : share_an_address rs ≡ false) (off : touch rs ≡ false) where
  abbrev n : ℕ
  n = length bytes

  none : (a : ℕ) → holds rs.low a ≡ true → holds rs.high a ≡ true → ⊥
  none a low high = true≢false (sym (shares rs (record { address = a; in_low = low; in_high = high })) ∙ apart)

  off-low : meets_at_end rs.low rs.high ≡ false
  unfolding touch
  off-low = or-false-left (meets_at_end rs.low rs.high) (meets_at_end rs.high rs.low) off

  off-high : meets_at_end rs.high rs.low ≡ false
  unfolding touch
  off-high = or-false-right (meets_at_end rs.low rs.high) (meets_at_end rs.high rs.low) off

  -- in the regions of a memory of theirs
  at_low : (m : Memory) → regions_of m ≡ rs → (r : Record) → InRange n rs.low r → InRange n (regions_of m).low r
  at_low m sound r h = subst (λ (x : Regions). InRange n x.low r) (sym sound) h

  at_high : (m : Memory) → regions_of m ≡ rs → (r : Record) → InRange n rs.high r → InRange n (regions_of m).high r
  at_high m sound r h = subst (λ (x : Regions). InRange n x.high r) (sym sound) h

  apart_in : (m : Memory) → regions_of m ≡ rs → share_an_address (regions_of m) ≡ false
  apart_in m sound = ap share_an_address sound ∙ apart

  module _ (p q : Record) (pair : Pair p q) (first : write_in_range n rs p ≡ true) (second : write_in_range n rs q ≡ true) where
    some : 0 < p.length
    some = empty_write-some p (joins-told p q pair.on).first pair.first

    more : 0 < q.length
    more = empty_write-some q (joins-told p q pair.on).second pair.second

    moves : moves_bytes p ≡ true
    moves = moves_bytes-some p (joins-told p q pair.on).first some

    moves-too : moves_bytes q ≡ true
    moves-too = moves_bytes-some q (joins-told p q pair.on).second more

    -- both lie in one region
    together : (InRange n rs.low p × InRange n rs.low q) ⊎ (InRange n rs.high p × InRange n rs.high q)
    together = by (in_range-told n rs p moves first) (in_range-told n rs q moves-too second)
      where
        by : InRange n rs.low p ⊎ InRange n rs.high p → InRange n rs.low q ⊎ InRange n rs.high q
            → (InRange n rs.low p × InRange n rs.low q) ⊎ (InRange n rs.high p × InRange n rs.high q)
        by (inl a) (inl b) = inl (a, b)
        by (inl a) (inr b) = absurd (apart-joined p q pair.on some rs.low rs.high none off-low more a.inside b.inside)
        by (inr a) (inl b) = absurd (apart-joined p q pair.on some rs.high rs.low (λ a high low. none a low high) off-high more a.inside b.inside)
        by (inr a) (inr b) = inr (a, b)

    joined-in_range : write_in_range n rs (joined_record p q) ≡ true
    joined-in_range =
        ⊎_elim
        (λ h. in_range-low n rs (joined_record p q) (moves_bytes-joined p q pair.on some) (in_range-joined p q pair.on some n rs.low h.0 h.1))
        (λ h.
        in_range-high n rs (joined_record p q) (moves_bytes-joined p q pair.on some) apart (omega (arith, some))
        (in_range-joined p q pair.on some n rs.high h.0 h.1))
        together

    joined-low : InRange n rs.low p → InRange n rs.low q → (m : Memory) → regions_of m ≡ rs
        → after_record bytes m (joined_record p q) ≡ after_record bytes (after_record bytes m p) q
    joined-low a b m sound =
        let mid = after_record bytes m p in
        let both = in_range-joined p q pair.on some n rs.low a b in
        let one = after_record-low bytes m p moves (at_low m sound p a).inside in
        let two = after_record-low bytes mid q moves-too (at_low mid (regions_of-after_record bytes m p ∙ sound) q b).inside in
        after_record-low bytes m (joined_record p q) (moves_bytes-joined p q pair.on some) (at_low m sound (joined_record p q) both).inside
        ∙ ap (λ (l : List ℕ). memory_of m.low_base l m.high_base m.high) (patch-joined p q pair.on some bytes m.low_base m.low (at_low m sound p a))
        ∙ sym (two ∙ ap (λ (x : Memory). laid_at (InLow (q.address - x.low_base)) (moved bytes q) x) one)

    joined-high : InRange n rs.high p → InRange n rs.high q → (m : Memory) → regions_of m ≡ rs
        → after_record bytes m (joined_record p q) ≡ after_record bytes (after_record bytes m p) q
    joined-high a b m sound =
        let mid = after_record bytes m p in
        let sound-mid = regions_of-after_record bytes m p ∙ sound in
        let both = in_range-joined p q pair.on some n rs.high a b in
        let longer : 0 < (joined_record p q).length = omega (arith, some) in
        let one = after_record-high bytes m p (apart_in m sound) moves some (at_high m sound p a).inside in
        let two = after_record-high bytes mid q (apart_in mid sound-mid) moves-too more (at_high mid sound-mid q b).inside in
        after_record-high bytes m (joined_record p q) (apart_in m sound) (moves_bytes-joined p q pair.on some) longer (at_high m sound (joined_record p q) both).inside
        ∙ ap (λ (l : List ℕ). memory_of m.low_base m.low m.high_base l) (patch-joined p q pair.on some bytes m.high_base m.high (at_high m sound p a))
        ∙ sym (two ∙ ap (λ (x : Memory). laid_at (InHigh (q.address - x.high_base)) (moved bytes q) x) one)

  abbrev carry_out_effect : Effect Memory
  carry_out_effect = record {
    step = after_record bytes;
    in_range = write_in_range n rs;
    Sound = λ (m : Memory). regions_of m ≡ rs;
    keeps = λ m r sound. regions_of-after_record bytes m r ∙ sound;
    empty = λ m r e. after_record-empty bytes m r e;
    joined_in_range = joined-in_range;
    joined_step = λ m p q sound pair first second.
        ⊎_elim
        (λ h. joined-low p q pair first second h.0 h.1 m sound)
        (λ h. joined-high p q pair first second h.0 h.1 m sound)
        (together p q pair first second);
  }

  written-carried : (m : Memory) (ss : List Record) → carried carry_out_effect m ss ≡ written bytes m ss
  written-carried m [] = refl
  written-carried m (r ∷ ss) = written-carried (after_record bytes m r) ss

  writes_in_range-all : (ss : List Record) → all_in_range carry_out_effect ss ≡ writes_in_range n rs ss
  writes_in_range-all [] = refl
  writes_in_range-all (r ∷ ss) = ap (λ (b : Bool). write_in_range n rs r && b) (writes_in_range-all ss)

-- of rows carried out on a memory: those of ss lie in range, and leave what those of rs leave
pub record SameCarried (bytes : List ℕ) (m : Memory) (rs ss : List (List ℕ)) : Type 0 where
  pub in_range : writes_in_range (length bytes) (regions_of m) (map decode ss) ≡ true
  pub same : written bytes m (map decode ss) ≡ written bytes m (map decode rs)

-- 02, R-9: carrying out the result leaves memory as the original does, whenever the original is accepted and the regions do not touch
pub carried-compacted : (bytes : List ℕ) (m : Memory) (rs : List (List ℕ)) → share_an_address (regions_of m) ≡ false → touch (regions_of m) ≡ false → AllSized rs
    → writes_in_range (length bytes) (regions_of m) (map decode rs) ≡ true → SameCarried bytes m rs (compacted rs)
carried-compacted bytes m rs apart off sized e =
    let effect = carry_out_effect bytes (regions_of m) apart off in
    let h = same-compacted effect m rs refl sized (writes_in_range-all bytes (regions_of m) apart off (map decode rs) ∙ e) in
    record {
      in_range = sym (writes_in_range-all bytes (regions_of m) apart off (map decode (compacted rs))) ∙ h.range;
      same = sym (written-carried bytes (regions_of m) apart off m (map decode (compacted rs))) ∙ h.effect
          ∙ written-carried bytes (regions_of m) apart off m (map decode rs);
    }
