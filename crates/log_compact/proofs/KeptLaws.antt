-- Laws of one pass over the rows: taking them one after the other keeps what `compacted` keeps. Assumes nothing.
use Prim.Native.Nat.{ℕ, zero, suc, ◌+◌, ◌-◌, ◌<◌}
use mathlib.Core.Bool.{Bool, true, false, true≢false}
use mathlib.Core.Path.{◌≡◌, refl, sym, ap, ◌∙◌}
use mathlib.Core.List.{List, [], ◌∷◌, ◌++◌, append_assoc}
use native.Mathlib.Omega.{arith}
use Rattle.call_log.specs.declared.Record.{Record}
use Rattle.call_log.specs.Records.{decode, record_at}
use Rattle.kept_records.specs.Rows.{row_at, rows_in, with_length}
use Rattle.kept_records.specs.Compact.{empty_write, joins, joined, without_empty, join_from, compacted}
use Rattle.log_compact.specs.Kept.{joins_last, joined_to_last, kept_with, kept_after}
use Rattle.log_compact.proofs.RowLaws.{decode-row_at, rows_in-last}

-- the rows kept after all of the rows rs
abbrev pub kept_all : List (List ℕ) → List (List ℕ) → List (List ℕ)
kept_all ks [] = ks
kept_all ks (r ∷ rs) = kept_all (kept_after ks r) rs

pub joins_last-append : (ks : List (List ℕ)) (k : List ℕ) (r : Record) → joins_last (ks ++ (k ∷ [])) r ≡ joins (decode k) r
joins_last-append [] k r = refl
joins_last-append (m ∷ []) k r = refl
joins_last-append (m ∷ (n ∷ ks)) k r = joins_last-append (n ∷ ks) k r

pub joined_to_last-append : (ks : List (List ℕ)) (k r : List ℕ) → joined_to_last (ks ++ (k ∷ [])) r ≡ ks ++ (joined k r ∷ [])
joined_to_last-append [] k r = refl
joined_to_last-append (m ∷ []) k r = refl
joined_to_last-append (m ∷ (n ∷ ks)) k r = ap (λ (l : List (List ℕ)). m ∷ l) (joined_to_last-append (n ∷ ks) k r)

pub joined-row_at : (l : List ℕ) (j k : ℕ) → joined (row_at l j) (row_at l k) ≡ with_length ((record_at l j).length + (record_at l k).length) (row_at l j)
unfolding joined
joined-row_at l j k = λ i. with_length ((decode-row_at l j i).length + (decode-row_at l k i).length) (row_at l j)

-- of the first n rows of a log
pub joins_last-some : (n : ℕ) (l : List ℕ) (r : Record) → joins_last (rows_in n l) r ≡ true → 0 < n
joins_last-some zero l r e = absurd (true≢false (sym e))
joins_last-some (suc n) l r e = omega arith

pub joins_last-rows_in : (n : ℕ) (l : List ℕ) (r : Record) → 0 < n → joins_last (rows_in n l) r ≡ joins (record_at l (n - 1)) r
joins_last-rows_in n l r h = rw (rows_in-last n l h, joins_last-append (rows_in (n - 1) l) (row_at l (n - 1)) r, decode-row_at)

-- behind settled rows ks, the last one kept is joined with those behind it
kept_all-join_from : (ks : List (List ℕ)) (k : List ℕ) (rs : List (List ℕ)) → kept_all (ks ++ (k ∷ [])) rs ≡ ks ++ join_from k (without_empty rs)
unfolding kept_after kept_with
kept_all-join_from ks k [] = refl
kept_all-join_from ks k (r ∷ rs) =
    by (empty_write (decode r)) (joins (decode k) (decode r)) refl refl (λ ks k. kept_all-join_from ks k rs)
  where
    by : (empty on : Bool) → empty_write (decode r) ≡ empty → joins (decode k) (decode r) ≡ on
        → ((ks : List (List ℕ)) (k : List ℕ) → kept_all (ks ++ (k ∷ [])) rs ≡ ks ++ join_from k (without_empty rs))
        → kept_all (ks ++ (k ∷ [])) (r ∷ rs) ≡ ks ++ join_from k (without_empty (r ∷ rs))
    by true on e j rest = rw e (rest ks k)
    by false true e j rest = rw (e, joins_last-append ks k (decode r), j, joined_to_last-append ks k r) (rest ks (joined k r))
    by false false e j rest =
        rw (e, joins_last-append ks k (decode r), j) (rest (ks ++ (k ∷ [])) r ∙ append_assoc ks (k ∷ []) (join_from r (without_empty rs)))

pub kept_all-compacted : (rs : List (List ℕ)) → kept_all [] rs ≡ compacted rs
unfolding compacted kept_after kept_with
kept_all-compacted [] = refl
kept_all-compacted (r ∷ rs) = by (empty_write (decode r)) refl (kept_all-compacted rs)
  where
    by : (empty : Bool) → empty_write (decode r) ≡ empty → kept_all [] rs ≡ compacted rs → kept_all [] (r ∷ rs) ≡ compacted (r ∷ rs)
    by true e rest = rw e rest
    by false e rest = rw e (kept_all-join_from [] r rs)
