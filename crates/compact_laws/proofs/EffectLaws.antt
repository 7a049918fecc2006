-- What compacting keeps, once, over any effect of records that are carried out one after the other: where a write of 0 bytes has none, and two that are
-- joined have that of the one behind the other. Assumes nothing.
use Prim.Native.Nat.{ℕ}
use mathlib.Core.Bool.{Bool, true, false, ◌&&◌}
use mathlib.Core.Path.{◌≡◌, refl, sym, ap, ◌∙◌}
use mathlib.Core.List.{List, [], ◌∷◌, map}
use Rattle.trb.proofs.TestLaws.{and_left, and_right}
use Rattle.call_log.specs.declared.Record.{Record}
use Rattle.call_log.specs.Records.{decode}
use Rattle.kept_records.specs.Compact.{empty_write, joins, joined, without_empty, join_from, join_all, compacted}
use Rattle.compact_laws.proofs.JoinLaws.{joined_record, decode-joined}
use Rattle.compact_laws.proofs.CompactLaws.{join_from-cases, without_empty-cases, AllSized, Whole, AllWhole, whole-joined, all_whole-without_empty}

-- two writes of some bytes that are joined
pub record Pair (p q : Record) : Type 0 where
  pub on : joins p q ≡ true
  pub first : empty_write p ≡ false
  pub second : empty_write q ≡ false

-- what records do to a state, where each of them is in range
pub record Effect (S : Type 0) : Type 1 where
  pub step : S → Record → S
  pub in_range : Record → Bool
  -- what holds of every state, and lets a record in range be carried out
  pub Sound : S → Type 0
  pub keeps : (s : S) (r : Record) → Sound s → Sound (step s r)
  pub empty : (s : S) (r : Record) → empty_write r ≡ true → step s r ≡ s
  pub joined_in_range : (p q : Record) → Pair p q → in_range p ≡ true → in_range q ≡ true → in_range (joined_record p q) ≡ true
  pub joined_step : (s : S) (p q : Record) → Sound s → Pair p q → in_range p ≡ true → in_range q ≡ true → step s (joined_record p q) ≡ step (step s p) q

module _ {S : Type 0} (f : Effect S) where
  -- the records, one after the other
  abbrev pub carried : S → List Record → S
  carried s [] = s
  carried s (r ∷ rs) = carried (f.step s r) rs

  abbrev pub all_in_range : List Record → Bool
  all_in_range [] = true
  all_in_range (r ∷ rs) = f.in_range r && all_in_range rs

  -- of rows carried out from a state: those of ss lie in range, and do what those of rs do
  pub record Same (s : S) (rs ss : List (List ℕ)) : Type 0 where
    pub range : all_in_range (map decode ss) ≡ true
    pub effect : carried s (map decode ss) ≡ carried s (map decode rs)

  same-cons : (s : S) (r : List ℕ) (rs ss : List (List ℕ)) → f.in_range (decode r) ≡ true → Same (f.step s (decode r)) rs ss → Same s (r ∷ rs) (r ∷ ss)
  same-cons s r rs ss e h = record { range = rw e h.range; effect = h.effect }

  head-in_range : (r : List ℕ) (rs : List (List ℕ)) → all_in_range (map decode (r ∷ rs)) ≡ true → f.in_range (decode r) ≡ true
  head-in_range r rs e = and_left (f.in_range (decode r)) (all_in_range (map decode rs)) e

  tail-in_range : (r : List ℕ) (rs : List (List ℕ)) → all_in_range (map decode (r ∷ rs)) ≡ true → all_in_range (map decode rs) ≡ true
  tail-in_range r rs e = and_right (f.in_range (decode r)) (all_in_range (map decode rs)) e

  same-without_empty : (s : S) (rs : List (List ℕ)) → all_in_range (map decode rs) ≡ true → Same s rs (without_empty rs)
  same-without_empty s [] e = record { range = refl; effect = refl }
  same-without_empty s (r ∷ rs) e =
      let rest = same-without_empty (f.step s (decode r)) rs (tail-in_range r rs e) in
      without_empty-cases (Same s (r ∷ rs)) r rs
      (λ dropped. record {
        range = rest.range;
        effect = ap (λ (t : S). carried t (map decode (without_empty rs))) (sym (f.empty s (decode r) dropped)) ∙ rest.effect;
      })
      (λ kept. same-cons s r rs (without_empty rs) (head-in_range r rs e) rest)

  same-join_from : (s : S) (p : List ℕ) (rs : List (List ℕ)) → f.Sound s → Whole p → AllWhole rs → all_in_range (map decode (p ∷ rs)) ≡ true
      → Same s (p ∷ rs) (join_from p rs)
  same-join_from s p [] sound w ws e = record { range = e; effect = refl }
  same-join_from s p (q ∷ rs) sound w ws e =
      let first = head-in_range p (q ∷ rs) e in
      let behind = tail-in_range p (q ∷ rs) e in
      let second = head-in_range q rs behind in
      join_from-cases (Same s (p ∷ (q ∷ rs))) p q rs
      (λ on.
      let pair : Pair (decode p) (decode q) = record { on = on; first = w.some; second = ws.0.some } in
      let one = decode-joined p q w.size on in
      let both : f.in_range (decode (joined p q)) ≡ true = ap f.in_range one ∙ f.joined_in_range (decode p) (decode q) pair first second in
      let rest = same-join_from s (joined p q) rs sound (whole-joined p q on w) ws.1 (rw both (tail-in_range q rs behind)) in
      record {
        range = rest.range;
        effect = rest.effect
            ∙ ap (λ (r : Record). carried (f.step s r) (map decode rs)) one
            ∙ ap (λ (t : S). carried t (map decode rs)) (f.joined_step s (decode p) (decode q) sound pair first second);
      })
      (λ off. same-cons s p (q ∷ rs) (join_from q rs) first (same-join_from (f.step s (decode p)) q rs (f.keeps s (decode p) sound) ws.0 ws.1 behind))

  same-join_all : (s : S) (rs : List (List ℕ)) → f.Sound s → AllWhole rs → all_in_range (map decode rs) ≡ true → Same s rs (join_all rs)
  same-join_all s [] sound ws e = record { range = e; effect = refl }
  same-join_all s (r ∷ rs) sound ws e = same-join_from s r rs sound ws.0 ws.1 e

  -- the compacted rows do what the rows do
  pub same-compacted : (s : S) (rs : List (List ℕ)) → f.Sound s → AllSized rs → all_in_range (map decode rs) ≡ true → Same s rs (compacted rs)
  unfolding compacted
  same-compacted s rs sound sized e =
      let dropped = same-without_empty s rs e in
      let all = same-join_all s (without_empty rs) sound (all_whole-without_empty rs sized) dropped.range in
      record { range = all.range; effect = all.effect ∙ dropped.effect }
