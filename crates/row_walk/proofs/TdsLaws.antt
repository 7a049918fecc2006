-- Laws of a row as TDs: the first TD is cut off the front, and a loop that looks at its TRBs one by one finds its end. Assumes nothing.
use Prim.Native.Nat.{ℕ, zero, suc, ◌+◌, ◌<◌, ◌≤◌}
use mathlib.Core.Path.{◌≡◌, refl, ap}
use mathlib.Core.Bool.{Bool, true, false, not, cond}
use mathlib.Core.List.{List, [], ◌∷◌}
use native.Mathlib.Nat.{not-suc-le-zero}
use native.Mathlib.Numerals.{add-one}
use native.Mathlib.Omega.{arith}
use lib.ListN.{length, take, drop, get_or, length-drop}
use lib.Seq.{drop-cons}
use Rattle.trb.specs.Trbs.{chain_of}
use Rattle.trb.specs.declared.TransferTrb.{TransferTrb}
use Rattle.held.specs.Places.{past_end}
use Rattle.in_td.specs.Normals.{normal_length, requested}
use Rattle.in_td.specs.Td.{normals, normal_count}
use Rattle.in_block.proofs.TestLaws.{normals-length}
use Rattle.row_walk.specs.declared.TdAsk.{TdAsk}
use Rattle.row_walk.specs.declared.TdLooked.{TdLooked}
use Rattle.row_walk.specs.Rows.{nothing_asked, asked_more, looked_at}
use Rattle.row_walk.specs.Tds.{in_front, tds_of, endsTd, first_td}

-- ---- The first TD

cut_by : (t : TransferTrb) (ts : List TransferTrb) (b : Bool) → chain_of t.variant ≡ b
    → in_front t (tds_of ts) ≡ (t ∷ first_td ts) ∷ tds_of (drop (length (first_td ts)) ts)
    → tds_of (t ∷ ts) ≡ first_td (t ∷ ts) ∷ tds_of (drop (length (first_td (t ∷ ts))) (t ∷ ts))
unfolding tds_of first_td
cut_by t ts true e h = rw e h
cut_by t ts false e h = rw e

-- a row that is not empty is its first TD, and the TDs of the rest
pub tds_of-cons : (t : TransferTrb) (ts : List TransferTrb) → tds_of (t ∷ ts) ≡ first_td (t ∷ ts) ∷ tds_of (drop (length (first_td (t ∷ ts))) (t ∷ ts))
unfolding tds_of first_td
tds_of-cons t [] = cut_by t [] (chain_of t.variant) refl refl
tds_of-cons t (u ∷ us) = cut_by t (u ∷ us) (chain_of t.variant) refl (ap (in_front t) (tds_of-cons u us))

pub tds_of-cut : (ts : List TransferTrb) → 0 < length ts → tds_of ts ≡ first_td ts ∷ tds_of (drop (length (first_td ts)) ts)
tds_of-cut [] h = absurd (not-suc-le-zero h)
tds_of-cut (t ∷ ts) h = tds_of-cons t ts

-- it is the row's front
pub take-first_td : (ts : List TransferTrb) → take (length (first_td ts)) ts ≡ first_td ts
unfolding first_td
take-first_td [] = refl
take-first_td (t ∷ ts) = ap (λ (l : List TransferTrb). t ∷ l) (by_chain (chain_of t.variant) (take-first_td ts))
  where
    by_chain : (b : Bool) → take (length (first_td ts)) ts ≡ first_td ts → take (length (cond b (first_td ts) [])) ts ≡ cond b (first_td ts) []
    by_chain true h = h
    by_chain false h = refl

pub length-first_td : (ts : List TransferTrb) → length (first_td ts) ≤ length ts
unfolding first_td
length-first_td [] = omega arith
length-first_td (t ∷ ts) = let h = by_chain (chain_of t.variant) (length-first_td ts) in omega arith
  where
    by_chain : (b : Bool) → length (first_td ts) ≤ length ts → length (cond b (first_td ts) []) ≤ length ts
    by_chain true h = h
    by_chain false h = omega arith

requested-first_td : (ts : List TransferTrb) → requested (first_td ts) ≤ requested ts
unfolding first_td
requested-first_td [] = omega arith
requested-first_td (t ∷ ts) = let h = by_chain (chain_of t.variant) (requested-first_td ts) in omega arith
  where
    by_chain : (b : Bool) → requested (first_td ts) ≤ requested ts → requested (cond b (first_td ts) []) ≤ requested ts
    by_chain true h = h
    by_chain false h = omega arith

requested-drop : (n : ℕ) (ts : List TransferTrb) → requested (drop n ts) ≤ requested ts
requested-drop zero ts = omega arith
requested-drop (suc n) [] = omega arith
requested-drop (suc n) (t ∷ ts) = let h = requested-drop n ts in omega arith

-- the last TRB of whole TDs has its chain bit off
pub endsTd-chained : (ts : List TransferTrb) (i : ℕ) (d : TransferTrb) → endsTd ts ≡ true → i < length ts → chain_of (get_or ts i d).variant ≡ true → i + 1 < length ts
unfolding endsTd
endsTd-chained [] i d e h k = absurd (not-suc-le-zero h)
endsTd-chained (t ∷ []) zero d e h k =
    let off : not (chain_of t.variant) ≡ true = e in
    let never : false ≡ true = rw k at off in
    let apart : ◌≡◌ {A = ℕ} 0 1 = cc in
    omega arith
endsTd-chained (t ∷ []) (suc i) d e h k = omega arith
endsTd-chained (t ∷ u ∷ ts) zero d e h k = omega arith
endsTd-chained (t ∷ u ∷ ts) (suc i) d e h k = let f = endsTd-chained (u ∷ ts) i d e (omega arith) k in omega arith

-- ---- The loop that looks for its end

-- what is left of the TD, if it goes on
abbrev rest_of : Bool → List TransferTrb → List TransferTrb
rest_of more ts = cond more (first_td ts) []

-- with the TRBs from `first` to `end` of a row looked at
pub record Looked (ts : List TransferTrb) (first : ℕ) (asked : TdAsk) (end : ℕ) (more : Bool) : Type 0 where
  pub inside : more ≡ true → end < length ts
  pub size : end + length (rest_of more (drop end ts)) ≡ first + length (first_td (drop first ts))
  pub sum : asked.length + requested (rest_of more (drop end ts)) ≡ requested (first_td (drop first ts))
  pub count : asked.normals + normals (rest_of more (drop end ts)) ≡ normals (first_td (drop first ts))

pub looked-none : (ts : List TransferTrb) (first : ℕ) → first < length ts → Looked ts first nothing_asked first true
looked-none ts first h = record { inside = λ e. h; size = refl; sum = omega arith; count = omega arith }

pub first_td-next : (ts : List TransferTrb) (end : ℕ) (d : TransferTrb) → end < length ts
    → first_td (drop end ts) ≡ get_or ts end d ∷ rest_of (chain_of (get_or ts end d).variant) (drop (end + 1) ts)
unfolding first_td
first_td-next ts end d h = rw (add-one, drop-cons ts end d)

module _ (ts : List TransferTrb) (first : ℕ) (asked : TdAsk) (end : ℕ) (d : TransferTrb) (k : Looked ts first asked end true) where
  pub looked-turn : endsTd ts ≡ true → Looked ts first (asked_more asked (get_or ts end d)) (end + 1) (chain_of (get_or ts end d).variant)
  looked-turn whole =
      let t : TransferTrb = get_or ts end d in
      let rest : List TransferTrb = rest_of (chain_of t.variant) (drop (end + 1) ts) in
      let next : first_td (drop end ts) ≡ t ∷ rest = first_td-next ts end d (k.inside refl) in
      record {
        inside = λ e. endsTd-chained ts end d whole (k.inside refl) e;
        size = omega (arith, k.size, ap length next);
        sum = omega (arith, k.sum, ap requested next);
        count = omega (arith, k.count, ap normals next);
      }

  -- what it asks for, with the next TRB, fits its numbers
  pub looked-fits : asked.length + normal_length (get_or ts end d) ≤ requested ts
  looked-fits =
      let next = first_td-next ts end d (k.inside refl) in
      omega (arith, k.sum, ap requested next, requested-first_td (drop first ts), requested-drop first ts)

  pub looked-few : asked.normals + normal_count (get_or ts end d).variant ≤ length ts
  looked-few =
      let next = first_td-next ts end d (k.inside refl) in
      omega (arith, k.count, ap normals next, normals-length (first_td (drop first ts)), length-first_td (drop first ts), length-drop first ts)

-- the TD that was looked at whole
pub record Found (ts : List TransferTrb) (first : ℕ) (asked : TdAsk) (end : ℕ) : Type 0 where
  pub size : end ≡ first + length (first_td (drop first ts))
  pub some : first < end
  pub inside : end ≤ length ts
  pub sum : asked.length ≡ requested (first_td (drop first ts))
  pub count : asked.normals ≡ normals (first_td (drop first ts))

pub looked-end : (ts : List TransferTrb) (first : ℕ) (asked : TdAsk) (end : ℕ) → first < length ts → Looked ts first asked end false → Found ts first asked end
looked-end ts first asked end h k = record {
  size = omega (arith, k.size);
  some = omega (arith, k.size, ap length (first_td-next ts first past_end h));
  inside = omega (arith, k.size, length-first_td (drop first ts), length-drop first ts);
  sum = omega (arith, k.sum);
  count = omega (arith, k.count);
}

-- and so is one that is the definition's
pub found_at : (ts : List TransferTrb) (first : ℕ) (r : TdLooked) → first < length ts → r ≡ looked_at ts first → Found ts first r.asked r.end
found_at ts first r h e = rw e (record {
  size = refl;
  some = omega (arith, ap length (first_td-next ts first past_end h));
  inside = omega (arith, length-first_td (drop first ts), length-drop first ts);
  sum = refl;
  count = refl;
})
