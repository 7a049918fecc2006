-- A loop that keeps to a walk, whatever each element logs: after i elements, what the walk over the rest makes of the present state and log is
-- what the whole walk makes of the first. The room of each turn is its caller's. Assumes nothing.
use Prim.Native.Nat.{ℕ, suc, ◌+◌, ◌*◌, ◌<◌, ◌≤◌}
use mathlib.Core.Path.{◌≡◌, refl, sym, ap, ◌∙◌, subst}
use mathlib.Core.Bool.{Bool, true, false, cond}
use mathlib.Core.List.{List, [], ◌∷◌, ◌++◌, map}
use native.Mathlib.Numerals.{add-one}
use lib.ListN.{length, drop, get_or, drop_of_length-le}
use lib.Seq.{drop-cons}
use Rattle.trb.specs.Limits.{record_length}
use Rattle.call_log.specs.declared.Record.{Record}
use Rattle.call_log.specs.Calls.{Out, silent, Meets}
use Rattle.call_log.specs.Logs.{logged, AllFit}
use Rattle.call_log.proofs.LogLaws.{logged-append, logged_none, length-logged, AllFit-append}
use Rattle.walks.specs.Walk.{join, walk}

-- after i elements of ts, of a walk from s₀ and the log l₀, with the state s and the log l
pub record Going {S T : Type 0} (step : S → T → Out S) (stopped : S → Bool) (count : S → ℕ) (s₀ : S) (ts : List T) (l₀ l : List ℕ) (s : S) (i : ℕ) : Type 0 where
  pub long : length l ≡ length l₀
  pub state : (walk step stopped s (drop i ts)).state ≡ (walk step stopped s₀ ts).state
  pub log : logged l (count s) (walk step stopped s (drop i ts)).records ≡ logged l₀ (count s₀) (walk step stopped s₀ ts).records
  pub fits : AllFit (walk step stopped s (drop i ts)).records → AllFit (walk step stopped s₀ ts).records

module _ {S T : Type 0} (step : S → T → Out S) (stopped : S → Bool) where
  pub walk-cons : (s : S) (t : T) (ts : List T) → stopped s ≡ false → walk step stopped s (t ∷ ts) ≡ join (step s t) (walk step stopped (step s t).state ts)
  unfolding walk
  walk-cons s t ts e = rw e

  pub walk_none : (s : S) → walk step stopped s [] ≡ silent s
  unfolding walk
  walk_none s = refl

  -- a state that stops the walk
  pub walk-stopped : (s : S) (ts : List T) → stopped s ≡ true → walk step stopped s ts ≡ silent s
  unfolding walk
  walk-stopped s [] e = refl
  walk-stopped s (t ∷ ts) e = rw e

module _ {S T : Type 0} (step : S → T → Out S) (stopped : S → Bool) (count : S → ℕ) where
  pub going-none : (s : S) (ts : List T) (l : List ℕ) → Going step stopped count s ts l l s 0
  going-none s ts l = record { long = refl; state = refl; log = refl; fits = λ f. f }

  module _ (s₀ : S) (ts : List T) (l₀ l : List ℕ) (s : S) (i : ℕ) (g : Going step stopped count s₀ ts l₀ l s i) where
    -- a turn: the element's step, which counts its records and finds room for them
    pub going-turn : (l' : List ℕ) (r : S) (d : T) → stopped s ≡ false → i < length ts
        → count (step s (get_or ts i d)).state ≡ count s + length (step s (get_or ts i d)).records
        → record_length * (count s + length (step s (get_or ts i d)).records) ≤ length l
        → Meets (step s (get_or ts i d)) (count s) l r l' → Going step stopped count s₀ ts l₀ l' r (i + 1)
    going-turn l' r d on more counts space m =
        let o : Out S = step s (get_or ts i d) in
        let rest : List T = drop (suc i) ts in
        let e : walk step stopped s (drop i ts) ≡ join o (walk step stopped o.state rest) =
        ap (walk step stopped s) (drop-cons ts i d more) ∙ walk-cons step stopped s (get_or ts i d) rest on in
        rw (m.state, m.log)
        (record {
          long = length-logged l (count s) o.records space ∙ g.long;
          state = rw add-one (sym (ap (λ (p : Out S). p.state) e) ∙ g.state);
          log = rw (add-one, counts)
              (logged-append l (count s) o.records (walk step stopped o.state rest).records space
              ∙ sym (ap (λ (p : Out S). logged l (count s) p.records) e) ∙ g.log);
          fits = rw add-one
              (λ f. g.fits (subst (λ (p : Out S). AllFit p.records) (sym e) (AllFit-append o.records (walk step stopped o.state rest).records m.fits f)));
        })

    going_done : walk step stopped s (drop i ts) ≡ silent s → Meets (walk step stopped s₀ ts) (count s₀) l₀ s l
    going_done e = record {
      state = sym (ap (λ (p : Out S). p.state) e) ∙ g.state;
      log = sym (ap (λ (p : Out S). logged l (count s) p.records) e ∙ logged_none l (count s)) ∙ g.log;
      fits = g.fits (subst (λ (p : Out S). AllFit p.records) (sym e) tt);
    }

    -- after the last element
    pub going_end : length ts ≤ i → Meets (walk step stopped s₀ ts) (count s₀) l₀ s l
    going_end h = going_done (ap (walk step stopped s) (drop_of_length-le ts {i = i} h) ∙ walk_none step stopped s)

    -- where a state stops the walk
    pub going-stop : stopped s ≡ true → Meets (walk step stopped s₀ ts) (count s₀) l₀ s l
    going-stop h = going_done (walk-stopped step stopped s (drop i ts) h)

-- ---- A walk over states and records that were changed

abbrev pub mapped : {S : Type 0} → (S → S) → (Record → Record) → Out S → Out S
mapped f g o = record { state = f o.state; records = map g o.records }

pub map-append : (g : Record → Record) (rs ss : List Record) → map g (rs ++ ss) ≡ map g rs ++ map g ss
map-append g [] ss = refl
map-append g (r ∷ rs) ss = ap (λ (l : List Record). g r ∷ l) (map-append g rs ss)

module _ {S T : Type 0} (step further : S → T → Out S) (stopped : S → Bool) (f : S → S) (g : Record → Record)
    (same : (s : S) → stopped (f s) ≡ stopped s) (each : (s : S) (t : T) → further (f s) t ≡ mapped f g (step s t)) where
  -- where each step from a changed state is the changed step, so is the walk
  pub walk-mapped : (s : S) (ts : List T) → walk further stopped (f s) ts ≡ mapped f g (walk step stopped s ts)
  unfolding walk
  walk-mapped s [] = refl
  walk-mapped s (t ∷ ts) = rw (same s, each s t) (by-test (stopped s) (walk-mapped (step s t).state ts))
    where
      rest : Out S
      rest = walk step stopped (step s t).state ts

      by-test : (b : Bool) → walk further stopped (f (step s t).state) ts ≡ mapped f g rest
          → cond b (silent (f s)) (join (mapped f g (step s t)) (walk further stopped (f (step s t).state) ts))
          ≡ mapped f g (cond b (silent s) (join (step s t) rest))
      by-test true e = refl
      by-test false e = rw (e, map-append g (step s t).records rest.records)
