-- Laws of the guest's reading: of places, of the bytes that writes stand for, and of a log that is split at an event. Assumes nothing.
use Prim.Native.Nat.{ℕ, zero, suc, ◌+◌, ◌<◌, ◌≤◌, min}
use mathlib.Core.Path.{◌≡◌, refl, sym, ap, ◌∙◌}
use mathlib.Core.Bool.{Bool, true, false, cond, ◌||◌, or-true, or_assoc, false≢true}
use mathlib.Core.List.{List, [], ◌∷◌, ◌++◌, append_assoc}
use mathlib.Core.Logic.{⊎_elim}
use mathlib.Core.Option.{Option, none, some}
use native.Mathlib.Nat.{add-zero, add-suc, suc-add, min-eq_left, min-eq_right, le_of_lt, le_refl, le_of_suc-le-suc, not-suc-le-zero}
use native.Mathlib.Omega.{arith}
use borrow.Author.Tests.{ne_eqb}
use lib.ListN.{take, get_or, length, length-append}
use lib.Seq.{take_all, take-append-add, take-append-le}
use Rattle.trb.specs.declared.NormalTrb.{NormalTrb}
use Rattle.trb.specs.declared.TransferTrb.{TransferTrb}
use Rattle.trb.proofs.TestLaws.{or-false-left, or-false-right, le-or-lt}
use Rattle.call_log.specs.declared.Record.{Record}
use Rattle.in_td.specs.Normals.{normal_of, length_of, normal_length, requested}
use Rattle.account.specs.Guest.{is_held, range, range_of, normal_range, places, Apart, is_write, any, first, before_first, before_last, numbered, stands_for, bytes, write_lengths}

-- ---- Places

pub length-range : (a n : ℕ) → length (range a n) ≡ n
length-range a zero = refl
length-range a (suc n) = ap suc (length-range (suc a) n)

take_range : (a n m : ℕ) → m ≤ n → take m (range a n) ≡ range a m
take_range a n zero h = refl
take_range a zero (suc m) h = absurd (not-suc-le-zero h)
take_range a (suc n) (suc m) h = ap (λ (r : List ℕ). a ∷ r) (take_range (suc a) n m (le_of_suc-le-suc h))

pub take-append-range : (a n m : ℕ) (xs : List ℕ) → m ≤ n → take m (range a n ++ xs) ≡ range a m
take-append-range a n m xs h = take-append-le m (range a n) xs (rw length-range h) ∙ take_range a n m h

pub get_or-range : (a n i : ℕ) → i < n → get_or (range a n) i 0 ≡ a + i
get_or-range a zero i h = absurd (not-suc-le-zero h)
get_or-range a (suc n) zero h = sym (add-zero a)
get_or-range a (suc n) (suc i) h = get_or-range (suc a) n i (le_of_suc-le-suc h) ∙ rw (suc-add, add-suc)

pub length-normal_range : (t : TransferTrb) → length (normal_range t) ≡ normal_length t
length-normal_range t = of-normal (normal_of t.variant)
  where
    of-normal : (o : Option NormalTrb) → length (range_of o) ≡ length_of o
    of-normal none = refl
    of-normal (some m) = length-range m.data_pointer m.transfer_length

pub length-places : (ts : List TransferTrb) → length (places ts) ≡ requested ts
length-places [] = refl
length-places (t ∷ ts) = length-append (normal_range t) (places ts) ∙ rw (length-normal_range t, length-places ts)

-- beyond S there are no places
pub take-places-min : (n : ℕ) (ts : List TransferTrb) → take n (places ts) ≡ take (min n (requested ts)) (places ts)
take-places-min n ts =
    ⊎_elim
    (λ (h : n ≤ requested ts). rw (min-eq_left h))
    (λ (h : requested ts < n).
    rw (min-eq_right (le_of_lt h), take_all n (places ts) (rw length-places (le_of_lt h)), take_all (requested ts) (places ts) (rw length-places (le_refl (requested ts)))))
    (le-or-lt n (requested ts))

-- the address of a TRB apart from the list is none of the list's
pub apart-is_held : (b a : ℕ) (ts : List TransferTrb) → Apart b ts → is_held a ts ≡ true → b ≡ a → ⊥
apart-is_held b a [] d i e = false≢true i
apart-is_held b a (t ∷ ts) d i e = apart-is_held b a ts d.1 (rw (ne_eqb t.addr a (λ q. d.0 (e ∙ sym q))) at i) e

-- ---- Bytes

pub length-numbered : (k : ℕ) (xs : List ℕ) → length (numbered k xs) ≡ length xs
length-numbered k [] = refl
length-numbered k (x ∷ xs) = ap suc (length-numbered (suc k) xs)

pub get_d_numbered : (k : ℕ) (xs : List ℕ) (i : ℕ) → i < length xs → get_or (numbered k xs) i (0, 0) ≡ (k + i, get_or xs i 0)
get_d_numbered k [] i h = absurd (not-suc-le-zero h)
get_d_numbered k (x ∷ xs) zero h = rw add-zero
get_d_numbered k (x ∷ xs) (suc i) h = get_d_numbered (suc k) xs i (le_of_suc-le-suc h) ∙ rw (suc-add, add-suc)

pub numbered-append : (k : ℕ) (xs ys : List ℕ) → numbered k (xs ++ ys) ≡ numbered k xs ++ numbered (k + length xs) ys
numbered-append k [] ys = rw add-zero
numbered-append k (x ∷ xs) ys =
    ap (λ (r : List (ℕ × ℕ)). (k, x) ∷ r)
    (numbered-append (suc k) xs ys ∙ ap (λ (m : ℕ). numbered (suc k) xs ++ numbered m ys) (suc-add k (length xs) ∙ sym (add-suc k (length xs))))

-- the first m of two lists' addresses, where the first list has no more
pub numbered-take : (k m from rest : ℕ) (xs ys : List ℕ) → from ≡ k + length xs → m ≡ length xs + rest
    → numbered k (take m (xs ++ ys)) ≡ numbered k xs ++ numbered from (take rest ys)
numbered-take k m from rest xs ys e h = rw (e, h, take-append-add xs ys rest) (numbered-append k xs (take rest ys))

pub bytes-append : (xs ys : List Record) → bytes (xs ++ ys) ≡ bytes xs ++ bytes ys
bytes-append [] ys = refl
bytes-append (x ∷ xs) ys = rw (bytes-append xs ys) (sym (append_assoc (cond (is_write x) (stands_for x) []) (bytes xs) (bytes ys)))

pub write_lengths-append : (xs ys : List Record) → write_lengths (xs ++ ys) ≡ write_lengths xs + write_lengths ys
write_lengths-append [] ys = omega arith
write_lengths-append (x ∷ xs) ys = omega (arith, write_lengths-append xs ys)

-- ---- Tests of a log's records

pub any_append : (test : Record → Bool) (xs ys : List Record) → any test (xs ++ ys) ≡ (any test xs || any test ys)
any_append test [] ys = refl
any_append test (x ∷ xs) ys = rw (any_append test xs ys) (sym (or_assoc (test x) (any test xs) (any test ys)))

-- a log without writes stands for no bytes
pub bytes-none : (rs : List Record) → any is_write rs ≡ false → bytes rs ≡ []
bytes-none [] e = refl
bytes-none (r ∷ rs) e = rw (or-false-left (is_write r) (any is_write rs) e) (bytes-none rs (or-false-right (is_write r) (any is_write rs) e))

-- a log that is split at the record r
module _ (test : Record → Bool) (r : Record) where
  pub any_at : (xs ys : List Record) → test r ≡ true → any test (xs ++ r ∷ ys) ≡ true
  any_at [] ys t = rw t
  any_at (x ∷ xs) ys t = rw (any_at xs ys t) (or-true (test x))

  pub first-at : (xs ys : List Record) → any test xs ≡ false → test r ≡ true → first test (xs ++ r ∷ ys) ≡ some r
  first-at [] ys q t = rw t
  first-at (x ∷ xs) ys q t = rw (or-false-left (test x) (any test xs) q) (first-at xs ys (or-false-right (test x) (any test xs) q) t)

  pub before_first-at : (xs ys : List Record) → any test xs ≡ false → test r ≡ true → before_first test (xs ++ r ∷ ys) ≡ length xs
  before_first-at [] ys q t = rw t
  before_first-at (x ∷ xs) ys q t =
      rw (or-false-left (test x) (any test xs) q) (ap suc (before_first-at xs ys (or-false-right (test x) (any test xs) q) t))

  pub before_last-at : (xs : List Record) → test r ≡ true → before_last test (xs ++ r ∷ []) ≡ length xs
  before_last-at [] t = refl
  before_last-at (x ∷ xs) t = rw (any_at xs [] t) (ap suc (before_last-at xs t))

pub first-none : (test : Record → Bool) (rs : List Record) → any test rs ≡ false → first test rs ≡ none
first-none test [] q = refl
first-none test (r ∷ rs) q = rw (or-false-left (test r) (any test rs) q) (first-none test rs (or-false-right (test r) (any test rs) q))
