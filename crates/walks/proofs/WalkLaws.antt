-- How a loop over an array keeps to a walk: after i turns, what the walk over the rest makes of the present state and log is what
-- the whole walk makes of the first state and log. Assumes nothing.
use Prim.Native.Nat.{ℕ, suc, ◌+◌, ◌*◌, ◌<◌, ◌≤◌}
use mathlib.Core.Path.{◌≡◌, refl, sym}
use mathlib.Core.Bool.{Bool, true, false, cond}
use mathlib.Core.List.{List, [], ◌∷◌, ◌++◌}
use native.Mathlib.Nat.{mul-le-mul_left, mul-suc, add-zero}
use native.Mathlib.Numerals.{add-one}
use native.Mathlib.Omega.{arith}
use lib.ListN.{length, take, drop, get_or, length-append}
use lib.Seq.{get_or-take, length-take-le}
use Rattle.trb.specs.Limits.{record_length}
use Rattle.call_log.specs.declared.Record.{Record}
use Rattle.call_log.specs.Calls.{Out, silent, Meets}
use Rattle.call_log.specs.Logs.{logged, AllFit}
use Rattle.walks.specs.Walk.{join, walk}
use Rattle.walks.proofs.GoingLaws.{Going, walk-cons, walk_none, walk-stopped as stopped-walk, going-turn, going_end, going-stop}

-- what holds of a step: it keeps what holds of each state, logs at most so many records, and counts them
pub record Fine {S : Type 0} (Good : S → Type 0) (count : S → ℕ) (most : ℕ) (s : S) (o : Out S) : Type 0 where
  pub good : Good o.state
  pub few : length o.records ≤ most
  pub counts : count o.state ≡ count s + length o.records

-- a step that does nothing
pub fine-silent : {S : Type 0} {Good : S → Type 0} {count : S → ℕ} (most : ℕ) (s : S) → Good s → Fine Good count most s (silent s)
fine-silent most s g = record { good = g; few = omega arith; counts = sym (add-zero _) }

-- a kind of walk: its step, what stops it, how a state counts the records, at most how many records an element logs
pub record Walker (S T : Type 0) : Type 1 where
  pub step : S → T → Out S
  pub stopped : S → Bool
  pub count : S → ℕ
  pub most : ℕ
  pub Good : S → Type 0
  pub fine : (s : S) (t : T) → Good s → Fine Good count most s (step s t)

abbrev pub walk_of : {S T : Type 0} → Walker S T → S → List T → Out S
walk_of k s ts = walk k.step k.stopped s ts

-- after i elements of ts, of a walk from s₀ and the log l₀, with the state s and the log l
pub record Walked {S T : Type 0} (k : Walker S T) (s₀ : S) (ts : List T) (l₀ l : List ℕ) (s : S) (i : ℕ) : Type 0 where
  pub good : k.Good s
  pub room : k.count s ≤ k.count s₀ + k.most * i
  pub long : length l ≡ length l₀
  pub state : (walk_of k s (drop i ts)).state ≡ (walk_of k s₀ ts).state
  pub log : logged l (k.count s) (walk_of k s (drop i ts)).records ≡ logged l₀ (k.count s₀) (walk_of k s₀ ts).records
  pub fits : AllFit (walk_of k s (drop i ts)).records → AllFit (walk_of k s₀ ts).records

module _ {S T : Type 0} (k : Walker S T) where
  -- a state that stops the walk
  pub walk-stopped : (s : S) (ts : List T) → k.stopped s ≡ true → walk_of k s ts ≡ silent s
  walk-stopped s ts e = stopped-walk k.step k.stopped s ts e

  fine-cons : (s : S) (t : T) (ts : List T) (v : Bool) → k.stopped s ≡ v → k.Good s
      → Fine k.Good k.count (k.most * length ts) (k.step s t).state (walk_of k (k.step s t).state ts)
      → Fine k.Good k.count (k.most * suc (length ts)) s (walk_of k s (t ∷ ts))
  fine-cons s t ts true e g ih =
      rw (walk-stopped s (t ∷ ts) e) (fine-silent (k.most * suc (length ts)) s g)
  fine-cons s t ts false e g ih =
      let f : Fine k.Good k.count k.most s (k.step s t) = k.fine s t g in
      let long = length-append (k.step s t).records (walk_of k (k.step s t).state ts).records in
      rw (walk-cons k.step k.stopped s t ts e)
      (record { good = ih.good; few = omega (arith, ih.few, f.few, long, mul-suc k.most (length ts)); counts = omega (arith, ih.counts, f.counts, long) })

  -- of a walk holds what holds of its steps
  walk_fine : (s : S) (ts : List T) → k.Good s → Fine k.Good k.count (k.most * length ts) s (walk_of k s ts)
  walk_fine s [] g = rw (walk_none k.step k.stopped s) (fine-silent (k.most * 0) s g)
  walk_fine s (t ∷ ts) g = fine-cons s t ts (k.stopped s) refl g (walk_fine (k.step s t).state ts (k.fine s t g).good)

  -- a walk counts its records
  pub walk-counts : (s : S) (ts : List T) → k.Good s → k.count (walk_of k s ts).state ≡ k.count s + length (walk_of k s ts).records
  walk-counts s ts g = (walk_fine s ts g).counts

  -- a walk logs at most so many records for each element
  pub length-walk : (s : S) (ts : List T) → k.Good s → length (walk_of k s ts).records ≤ k.most * length ts
  length-walk s ts g = (walk_fine s ts g).few

  -- before the first element
  pub walked_none : (s : S) (ts : List T) (l : List ℕ) → k.Good s → Walked k s ts l l s 0
  walked_none s ts l g = record { good = g; room = omega arith; long = refl; state = refl; log = refl; fits = λ f. f }

  -- a loop that keeps to a walk
  going : (s₀ : S) (ts : List T) (l₀ l : List ℕ) (s : S) (i : ℕ) → Walked k s₀ ts l₀ l s i → Going k.step k.stopped k.count s₀ ts l₀ l s i
  going s₀ ts l₀ l s i w = record { long = w.long; state = w.state; log = w.log; fits = w.fits }

  walked_step : (s₀ : S) (ts : List T) (l₀ l l' : List ℕ) (s r : S) (i : ℕ) (d : T) → Walked k s₀ ts l₀ l s i
      → k.stopped s ≡ false → i < length ts → record_length * (k.count s₀ + k.most * length ts) ≤ length l₀
      → Meets (k.step s (get_or ts i d)) (k.count s) l r l' → Walked k s₀ ts l₀ l' r (i + 1)
  walked_step s₀ ts l₀ l l' s r i d w on more room m =
      let o : Out S = k.step s (get_or ts i d) in
      let f : Fine k.Good k.count k.most s o = k.fine s (get_or ts i d) w.good in
      let up : k.most * (i + 1) ≡ k.most * i + k.most = rw add-one (mul-suc k.most i) in
      let upto : k.most * (i + 1) ≤ k.most * length ts = mul-le-mul_left k.most (omega arith) in
      let space : record_length * (k.count s + length o.records) ≤ length l = omega (arith, w, f, up, upto) in
      let g = going-turn k.step k.stopped k.count s₀ ts l₀ l s i (going s₀ ts l₀ l s i w) l' r d on more f.counts space m in
      record {
        good = rw m.state f.good;
        room = rw m.state (omega (arith, w, f, up, upto));
        long = g.long;
        state = g.state;
        log = g.log;
        fits = g.fits;
      }

  module _ (xs : List T) (n : ℕ) (long : n ≤ length xs) (s₀ : S) (l₀ : List ℕ) where
    -- a turn of a loop over an array whose first n elements are walked: d is what a read past its end would give
    pub walked-turn : (l l' : List ℕ) (s r : S) (i : ℕ) (d : T) → Walked k s₀ (take n xs) l₀ l s i
        → k.stopped s ≡ false → i < n → record_length * (k.count s₀ + k.most * n) ≤ length l₀
        → Meets (k.step s (get_or xs i d)) (k.count s) l r l' → Walked k s₀ (take n xs) l₀ l' r (i + 1)
    walked-turn l l' s r i d w on more room m =
        let e : length (take n xs) ≡ n = length-take-le n xs long in
        let same : get_or (take n xs) i d ≡ get_or xs i d = get_or-take n xs i d more in
        walked_step s₀ (take n xs) l₀ l l' s r i d w on (omega arith) (rw e room) (rw same m)

    -- after the last element
    pub walked_end : (l : List ℕ) (s : S) (i : ℕ) → Walked k s₀ (take n xs) l₀ l s i → n ≤ i → Meets (walk_of k s₀ (take n xs)) (k.count s₀) l₀ s l
    walked_end l s i w h =
        let e : length (take n xs) ≡ n = length-take-le n xs long in
        going_end k.step k.stopped k.count s₀ (take n xs) l₀ l s i (going s₀ (take n xs) l₀ l s i w) (omega arith)

    -- where a state stops the walk
    pub walked_stop : (l : List ℕ) (s : S) (i : ℕ) → Walked k s₀ (take n xs) l₀ l s i → k.stopped s ≡ true → Meets (walk_of k s₀ (take n xs)) (k.count s₀) l₀ s l
    walked_stop l s i w h = going-stop k.step k.stopped k.count s₀ (take n xs) l₀ l s i (going s₀ (take n xs) l₀ l s i w) h

-- what holds of no records, of two lists one behind the other, and of what a step logs, holds of what a walk logs
module _ {S T : Type 0} (step : S → T → Out S) (stopped : S → Bool) (Good : S → Type 0) (P : List Record → Type 0)
    (none : P []) (both : (rs ss : List Record) → P rs → P ss → P (rs ++ ss)) (each : (s : S) (t : T) → Good s → P (step s t).records × Good (step s t).state) where
  pub walk-records : (s : S) (ts : List T) → Good s → P (walk step stopped s ts).records
  unfolding walk
  walk-records s [] g = none
  walk-records s (t ∷ ts) g = by-test (stopped s) (both (step s t).records _ (each s t g).0 (walk-records (step s t).state ts (each s t g).1))
    where
      rest : Out S
      rest = walk step stopped (step s t).state ts

      by-test : (b : Bool) → P ((step s t).records ++ rest.records) → P (cond b (silent s) (join (step s t) rest)).records
      by-test true going = none
      by-test false going = going
