-- Laws of compacting rows: it may be done again, and it goes part by part between records that are no writes. Assumes nothing.
use Prim.Native.Nat.{ℕ, zero, suc, ◌+◌, ◌*◌, ◌≤◌}
use mathlib.Core.Bool.{Bool, true, false, cond}
use mathlib.Core.Path.{◌≡◌, refl, sym, ap, ◌∙◌}
use mathlib.Core.List.{List, [], ◌∷◌, ◌++◌}
use native.Mathlib.Omega.{arith}
use lib.ListN.{length, drop, length-drop}
use lib.Seq.{length-take-le}
use lib.Dec.{eqb}
use borrow.Author.Tests.{eq-eqb}
use Rattle.trb.specs.Limits.{record_length}
use Rattle.call_log.specs.declared.Record.{Record}
use Rattle.call_log.specs.Records.{decode, write_kind}
use Rattle.kept_records.specs.Rows.{rows_in}
use Rattle.kept_records.specs.Compact.{empty_write, joins, joined, without_empty, join_from, join_all, compacted, other_rows}
use Rattle.compact_laws.proofs.JoinLaws.{decode-joined, length-joined, joins-told, joins-first, joins-second, joins-lengthened, empty_write-joined, empty_write-kind, empty_write-other}

-- ---- By cases

pub join_from-cases : (P : List (List ℕ) → Type 0) (p q : List ℕ) (rs : List (List ℕ)) → (joins (decode p) (decode q) ≡ true → P (join_from (joined p q) rs))
    → (joins (decode p) (decode q) ≡ false → P (p ∷ join_from q rs)) → P (join_from p (q ∷ rs))
join_from-cases P p q rs on off = by (joins (decode p) (decode q)) refl
  where
    by : (t : Bool) → joins (decode p) (decode q) ≡ t → P (cond t (join_from (joined p q) rs) (p ∷ join_from q rs))
    by true e = on e
    by false e = off e

pub without_empty-cases : (P : List (List ℕ) → Type 0) (r : List ℕ) (rs : List (List ℕ)) → (empty_write (decode r) ≡ true → P (without_empty rs))
    → (empty_write (decode r) ≡ false → P (r ∷ without_empty rs)) → P (without_empty (r ∷ rs))
without_empty-cases P r rs dropped kept = by (empty_write (decode r)) refl
  where
    by : (t : Bool) → empty_write (decode r) ≡ t → P (cond t (without_empty rs) (r ∷ without_empty rs))
    by true e = dropped e
    by false e = kept e

-- ---- Rows of 32 bytes, and those that are no writes of 0 bytes

abbrev pub AllSized : List (List ℕ) → Type 0
AllSized [] = Unit {0}
AllSized (r ∷ rs) = (length r ≡ record_length) × AllSized rs

pub record Whole (r : List ℕ) : Type 0 where
  pub size : length r ≡ record_length
  pub some : empty_write (decode r) ≡ false

abbrev pub AllWhole : List (List ℕ) → Type 0
AllWhole [] = Unit {0}
AllWhole (r ∷ rs) = Whole r × AllWhole rs

pub all_sized-rows_in : (n : ℕ) (l : List ℕ) → record_length * n ≤ length l → AllSized (rows_in n l)
all_sized-rows_in zero l h = tt
all_sized-rows_in (suc n) l h =
    (length-take-le record_length l (omega arith), all_sized-rows_in n (drop record_length l) (simp length-drop (omega arith)))

pub all_sized-whole : (rs : List (List ℕ)) → AllWhole rs → AllSized rs
all_sized-whole [] w = tt
all_sized-whole (r ∷ rs) w = (w.0.size, all_sized-whole rs w.1)

pub whole-joined : (p q : List ℕ) → joins (decode p) (decode q) ≡ true → Whole p → Whole (joined p q)
whole-joined p q on w = record {
  size = length-joined p q w.size;
  some = rw (decode-joined p q w.size on) (empty_write-joined (decode p) (decode q) on w.some);
}

pub all_whole-without_empty : (rs : List (List ℕ)) → AllSized rs → AllWhole (without_empty rs)
all_whole-without_empty [] s = tt
all_whole-without_empty (r ∷ rs) s =
    let rest = all_whole-without_empty rs s.1 in
    without_empty-cases AllWhole r rs (λ e. rest) (λ e. (record { size = s.0; some = e }, rest))

pub all_whole-join_from : (p : List ℕ) (rs : List (List ℕ)) → Whole p → AllWhole rs → AllWhole (join_from p rs)
all_whole-join_from p [] w ws = (w, tt)
all_whole-join_from p (q ∷ rs) w ws =
    join_from-cases AllWhole p q rs (λ on. all_whole-join_from (joined p q) rs (whole-joined p q on w) ws.1) (λ off. (w, all_whole-join_from q rs ws.0 ws.1))

pub all_whole-join_all : (rs : List (List ℕ)) → AllWhole rs → AllWhole (join_all rs)
all_whole-join_all [] ws = tt
all_whole-join_all (r ∷ rs) ws = all_whole-join_from r rs ws.0 ws.1

pub all_whole-compacted : (rs : List (List ℕ)) → AllSized rs → AllWhole (compacted rs)
unfolding compacted
all_whole-compacted rs s = all_whole-join_all (without_empty rs) (all_whole-without_empty rs s)

-- ---- 02, R-9: compacting the kept records again changes nothing

pub without_empty-whole : (rs : List (List ℕ)) → AllWhole rs → without_empty rs ≡ rs
without_empty-whole [] ws = refl
without_empty-whole (r ∷ rs) ws = rw ws.0.some (ap (λ (l : List (List ℕ)). r ∷ l) (without_empty-whole rs ws.1))

-- a row that the first of the others does not join stays before them, however much they join among themselves
join_from-join_from : (p q : List ℕ) (rs : List (List ℕ)) → Whole q → joins (decode p) (decode q) ≡ false → join_from p (join_from q rs) ≡ p ∷ join_all (join_from q rs)
join_from-join_from p q [] w apart = rw apart
join_from-join_from p q (r ∷ rs) w apart =
    join_from-cases (λ (l : List (List ℕ)). join_from p l ≡ p ∷ join_all l) q r rs
    (λ on. join_from-join_from p (joined q r) rs (whole-joined q r on w) (apart-joined on))
    (λ off. rw apart)
  where
    apart-joined : joins (decode q) (decode r) ≡ true → joins (decode p) (decode (joined q r)) ≡ false
    apart-joined on =
        rw (decode-joined q r w.size on) (joins-lengthened (decode p) (decode q) ((decode q).length + (decode r).length) (omega arith) apart)

join_all-join_from : (p : List ℕ) (rs : List (List ℕ)) → Whole p → AllWhole rs → join_all (join_from p rs) ≡ join_from p rs
join_all-join_from p [] w ws = refl
join_all-join_from p (q ∷ rs) w ws =
    join_from-cases (λ (l : List (List ℕ)). join_all l ≡ l) p q rs
    (λ on. join_all-join_from (joined p q) rs (whole-joined p q on w) ws.1)
    (λ off. join_from-join_from p q rs ws.0 off ∙ ap (λ (l : List (List ℕ)). p ∷ l) (join_all-join_from q rs ws.0 ws.1))

join_all-join_all : (rs : List (List ℕ)) → AllWhole rs → join_all (join_all rs) ≡ join_all rs
join_all-join_all [] ws = refl
join_all-join_all (r ∷ rs) ws = join_all-join_from r rs ws.0 ws.1

pub compacted-compacted : (rs : List (List ℕ)) → AllSized rs → compacted (compacted rs) ≡ compacted rs
unfolding compacted
compacted-compacted rs s =
    let ws = all_whole-without_empty rs s in
    ap join_all (without_empty-whole (join_all (without_empty rs)) (all_whole-join_all (without_empty rs) ws)) ∙ join_all-join_all (without_empty rs) ws

-- ---- 02, R-9: requests and events keep order and content

without_empty-append : (xs ys : List (List ℕ)) → without_empty (xs ++ ys) ≡ without_empty xs ++ without_empty ys
without_empty-append [] ys = refl
without_empty-append (x ∷ xs) ys = by (empty_write (decode x)) refl (without_empty-append xs ys)
  where
    by : (t : Bool) → empty_write (decode x) ≡ t → without_empty (xs ++ ys) ≡ without_empty xs ++ without_empty ys
        → without_empty (x ∷ xs ++ ys) ≡ without_empty (x ∷ xs) ++ without_empty ys
    by true e rest = rw e rest
    by false e rest = rw e (ap (λ (l : List (List ℕ)). x ∷ l) rest)

-- a record that is no write parts what is compacted before it from what is compacted behind it
module _ (e : List ℕ) (other : (decode e).kind ≡ write_kind → ⊥) where
  join_from-other : (ys : List (List ℕ)) → join_from e ys ≡ e ∷ join_all ys
  join_from-other [] = refl
  join_from-other (y ∷ ys) = rw (joins-first (decode e) (decode y) other)

  join_from-part : (p : List ℕ) (xs ys : List (List ℕ)) → join_from p (xs ++ (e ∷ ys)) ≡ join_from p xs ++ (e ∷ join_all ys)
  join_from-part p [] ys = rw (joins-second (decode p) (decode e) other) (ap (λ (l : List (List ℕ)). p ∷ l) (join_from-other ys))
  join_from-part p (x ∷ xs) ys = by (joins (decode p) (decode x)) refl (join_from-part (joined p x) xs ys) (join_from-part x xs ys)
    where
      by : (t : Bool) → joins (decode p) (decode x) ≡ t → join_from (joined p x) (xs ++ (e ∷ ys)) ≡ join_from (joined p x) xs ++ (e ∷ join_all ys)
          → join_from x (xs ++ (e ∷ ys)) ≡ join_from x xs ++ (e ∷ join_all ys) → join_from p (x ∷ xs ++ (e ∷ ys)) ≡ join_from p (x ∷ xs) ++ (e ∷ join_all ys)
      by true on joins rest = rw on joins
      by false off joins rest = rw off (ap (λ (l : List (List ℕ)). p ∷ l) rest)

  join_all-part : (xs ys : List (List ℕ)) → join_all (xs ++ (e ∷ ys)) ≡ join_all xs ++ (e ∷ join_all ys)
  join_all-part [] ys = join_from-other ys
  join_all-part (x ∷ xs) ys = join_from-part x xs ys

  pub compacted-part : (xs ys : List (List ℕ)) → compacted (xs ++ (e ∷ ys)) ≡ compacted xs ++ (e ∷ compacted ys)
  unfolding compacted
  compacted-part xs ys =
      ap join_all (without_empty-append xs (e ∷ ys)) ∙ rw (empty_write-other (decode e) other) (join_all-part (without_empty xs) (without_empty ys))

-- the rows of requests and events: a write before others, and any other row
other_rows-write : (r : List ℕ) (rs : List (List ℕ)) → (decode r).kind ≡ write_kind → other_rows (r ∷ rs) ≡ other_rows rs
other_rows-write r rs kind = rw (eq-eqb (decode r).kind write_kind kind)

other_rows-cons : (r : List ℕ) (rs ss : List (List ℕ)) → other_rows rs ≡ other_rows ss → other_rows (r ∷ rs) ≡ other_rows (r ∷ ss)
other_rows-cons r rs ss e = ap (λ (l : List (List ℕ)). cond (eqb (decode r).kind write_kind) l (r ∷ l)) e

other_rows-without_empty : (rs : List (List ℕ)) → other_rows (without_empty rs) ≡ other_rows rs
other_rows-without_empty [] = refl
other_rows-without_empty (r ∷ rs) =
    let rest = other_rows-without_empty rs in
    without_empty-cases (λ (l : List (List ℕ)). other_rows l ≡ other_rows (r ∷ rs)) r rs
    (λ e. rest ∙ sym (other_rows-write r rs (empty_write-kind (decode r) e)))
    (λ e. other_rows-cons r (without_empty rs) rs rest)

other_rows-join_from : (p : List ℕ) (rs : List (List ℕ)) → length p ≡ record_length → AllSized rs → other_rows (join_from p rs) ≡ other_rows (p ∷ rs)
other_rows-join_from p [] s ss = refl
other_rows-join_from p (q ∷ rs) s ss =
    join_from-cases (λ (l : List (List ℕ)). other_rows l ≡ other_rows (p ∷ (q ∷ rs))) p q rs
    (λ on.
    let told = joins-told (decode p) (decode q) on in
    other_rows-join_from (joined p q) rs (length-joined p q s) ss.1
    ∙ other_rows-write (joined p q) rs (ap (λ (r : Record). r.kind) (decode-joined p q s on) ∙ told.first)
    ∙ sym (other_rows-write p (q ∷ rs) told.first ∙ other_rows-write q rs told.second))
    (λ off. other_rows-cons p (join_from q rs) (q ∷ rs) (other_rows-join_from q rs ss.0 ss.1))

other_rows-join_all : (rs : List (List ℕ)) → AllSized rs → other_rows (join_all rs) ≡ other_rows rs
other_rows-join_all [] ss = refl
other_rows-join_all (r ∷ rs) ss = other_rows-join_from r rs ss.0 ss.1

pub other_rows-compacted : (rs : List (List ℕ)) → AllSized rs → other_rows (compacted rs) ≡ other_rows rs
unfolding compacted
other_rows-compacted rs s =
    other_rows-join_all (without_empty rs) (all_sized-whole (without_empty rs) (all_whole-without_empty rs s)) ∙ other_rows-without_empty rs
