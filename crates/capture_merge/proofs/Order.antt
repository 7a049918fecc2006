-- What merging is for: every record once, each list's own order kept; ordered where both lists are; at equal times the first list's records first. Assumes nothing.
use Prim.Native.Nat.{ℕ, ◌+◌}
use mathlib.Core.Bool.{Bool, true, false, not, cond, ◌&&◌, ◌||◌}
use mathlib.Core.Path.{◌≡◌, refl, sym}
use mathlib.Core.List.{List, [], ◌∷◌}
use native.Mathlib.Omega.{arith}
use lib.Dec.{ltb, eqb}
use borrow.Author.Tests.{not-true, ltb-true, ltb-false, eqb-true, lt-ltb, le-ltb, ne_eqb, eq-eqb}
use Rattle.capture_file.specs.Records.{CaptureRecord}
use Rattle.capture_file.proofs.LayoutLaws.{both}
use Rattle.capture_file.specs.Times.{before, earlier, ordered_from}
use Rattle.capture_merge.specs.Merging.{among, merged}
use Rattle.capture_merge.proofs.MergingLaws.{neither}
use Rattle.capture_merge.specs.Order.{Woven, none, left, right, count, NotAfter, Ordered, Earlier, FirstFirst, done, first, second}

woven-right : (ys : List CaptureRecord) → Woven [] ys ys
woven-right [] = none
woven-right (y ∷ ys) = right (woven-right ys)

woven-among : (x : CaptureRecord) (xs : List CaptureRecord) (others : List CaptureRecord → List CaptureRecord)
    → ((ys : List CaptureRecord) → Woven xs ys (others ys)) → (ys : List CaptureRecord) → Woven (x ∷ xs) ys (among x others ys)
woven-among x xs others h [] = left (h [])
woven-among x xs others h (y ∷ ys) = by (earlier y x) (woven-among x xs others h ys)
  where
    by : (b : Bool) → Woven (x ∷ xs) ys (among x others ys) → Woven (x ∷ xs) (y ∷ ys) (cond b (y ∷ among x others ys) (x ∷ others (y ∷ ys)))
    by true behind = right behind
    by false behind = left (h (y ∷ ys))

-- 02, R-13: every record exactly once, each file's own order kept
pub merged-woven : (xs ys : List CaptureRecord) → Woven xs ys (merged xs ys)
merged-woven [] ys = woven-right ys
merged-woven (x ∷ xs) ys = woven-among x xs (merged xs) (merged-woven xs) ys

-- and so as many records of any kind as the two lists have together
pub count-woven : (p : CaptureRecord → Bool) {xs ys zs : List CaptureRecord} → Woven xs ys zs → count p zs ≡ count p xs + count p ys
count-woven p none = refl
count-woven p (left w) = omega (arith, count-woven p w)
count-woven p (right w) = omega (arith, count-woven p w)

-- of two times only one is before the other
asym : (s m t n : ℕ) → before s m t n ≡ true → before t n s m ≡ false
unfolding before
asym s m t n h = by (ltb s t) refl
  where
    by : (b : Bool) → ltb s t ≡ b → (ltb t s || (eqb t s && ltb n m)) ≡ false
    by true e =
        let less = ltb-true s t e in
        rw (le-ltb t s (omega (arith, less)), ne_eqb t s (λ q. omega (arith, less, q)))
    by false e =
        let p = both (eqb s t) (ltb m n) (rw e at h) in
        let same = eqb-true s t p.0 in
        let less = ltb-true m n p.1 in
        rw (le-ltb t s (omega (arith, same)), eq-eqb t s (sym same), le-ltb n m (omega (arith, less)))

earlier-asym : (x y : CaptureRecord) → earlier y x ≡ true → earlier x y ≡ false
unfolding earlier
earlier-asym x y h = asym y.seconds y.microseconds x.seconds x.microseconds h

-- what does not come after the first of x and the ys does not come after the first of them merged
first-among : (p x : CaptureRecord) (others : List CaptureRecord → List CaptureRecord) (ys : List CaptureRecord)
    → earlier x p ≡ false → NotAfter p ys → NotAfter p (among x others ys)
first-among p x others [] hx hy = hx
first-among p x others (y ∷ ys) hx hy = by (earlier y x)
  where
    by : (b : Bool) → NotAfter p (cond b (y ∷ among x others ys) (x ∷ others (y ∷ ys)))
    by true = hy
    by false = hx

first-merged : (p : CaptureRecord) (xs ys : List CaptureRecord) → NotAfter p xs → NotAfter p ys → NotAfter p (merged xs ys)
first-merged p [] ys hx hy = hy
first-merged p (x ∷ xs) ys hx hy = first-among p x (merged xs) ys hx hy

ordered-among : (x : CaptureRecord) (xs : List CaptureRecord) → NotAfter x xs
    → ((ys : List CaptureRecord) → Ordered ys → Ordered (merged xs ys)) → (ys : List CaptureRecord) → Ordered ys → Ordered (among x (merged xs) ys)
ordered-among x xs hx ordered [] o = (first-merged x xs [] hx tt, ordered [] tt)
ordered-among x xs hx ordered (y ∷ ys) o = by (earlier y x) refl (ordered-among x xs hx ordered ys o.1)
  where
    by : (b : Bool) → earlier y x ≡ b → Ordered (among x (merged xs) ys) → Ordered (cond b (y ∷ among x (merged xs) ys) (x ∷ merged xs (y ∷ ys)))
    by true e behind = (first-among y x (merged xs) ys (earlier-asym x y e) o.0, behind)
    by false e behind = (first-merged x xs (y ∷ ys) hx e, ordered (y ∷ ys) o)

-- 02, R-13: ordered by seconds, then microseconds
pub merged-ordered : (xs ys : List CaptureRecord) → Ordered xs → Ordered ys → Ordered (merged xs ys)
merged-ordered [] ys ox oy = oy
merged-ordered (x ∷ xs) ys ox oy = ordered-among x xs ox.0 (λ zs oz. merged-ordered xs zs ox.1 oz) ys oy

-- what is before a time is before every time that is not before that one
before-later : (s m t n u v : ℕ) → before s m t n ≡ true → before u v t n ≡ false → before s m u v ≡ true
unfolding before
before-later s m t n u v h k = by (ltb s u) refl
  where
    by : (b : Bool) → ltb s u ≡ b → (ltb s u || (eqb s u && ltb m v)) ≡ true
    by true e = rw e
    by false e =
        let away = neither (ltb u t) (eqb u t && ltb v n) k in
        let later = ltb-false u t away.0 in
        let not-less = ltb-false s u e in
        let none : ltb s t ≡ false = le-ltb s t (omega (arith, later, not-less)) in
        let p = both (eqb s t) (ltb m n) (rw none at h) in
        let same = eqb-true s t p.0 in
        let less = ltb-true m n p.1 in
        let here : s ≡ u = omega (arith, later, not-less, same) in
        let behind = rw (eq-eqb u t (omega (arith, here, same))) at away.1 in
        rw (e, eq-eqb s u here, lt-ltb m v (omega (arith, less, ltb-false v n behind)))

-- what is earlier than the first of ordered records is earlier than each
earlier-each : (y x : CaptureRecord) (xs : List CaptureRecord) → earlier y x ≡ true → NotAfter x xs → Ordered xs → Earlier y (x ∷ xs)
unfolding earlier
earlier-each y x [] h k o = (h, tt)
earlier-each y x (z ∷ zs) h k o =
    let next = before-later y.seconds y.microseconds x.seconds x.microseconds z.seconds z.microseconds h k in
    (h, earlier-each y z zs next o.0 o.1)

first-right : (ys : List CaptureRecord) → FirstFirst [] ys ys
first-right [] = done
first-right (y ∷ ys) = second tt (first-right ys)

first-among-first : (x : CaptureRecord) (xs : List CaptureRecord) (others : List CaptureRecord → List CaptureRecord) → Ordered (x ∷ xs)
    → ((ys : List CaptureRecord) → FirstFirst xs ys (others ys)) → (ys : List CaptureRecord) → FirstFirst (x ∷ xs) ys (among x others ys)
first-among-first x xs others o h [] = first (h [])
first-among-first x xs others o h (y ∷ ys) = by (earlier y x) refl (first-among-first x xs others o h ys)
  where
    by : (b : Bool) → earlier y x ≡ b → FirstFirst (x ∷ xs) ys (among x others ys)
        → FirstFirst (x ∷ xs) (y ∷ ys) (cond b (y ∷ among x others ys) (x ∷ others (y ∷ ys)))
    by true e behind = second (earlier-each y x xs e o.0 o.1) behind
    by false e behind = first (h (y ∷ ys))

-- 02, R-13: at equal times the first file's records come first
pub first-file-first : (xs ys : List CaptureRecord) → Ordered xs → FirstFirst xs ys (merged xs ys)
first-file-first [] ys o = first-right ys
first-file-first (x ∷ xs) ys o = first-among-first x xs (merged xs) o (λ zs. first-file-first xs zs o.1) ys

-- the test that question 20 asks
pub ordered-tested : (s m : ℕ) (rs : List CaptureRecord) → ordered_from s m rs ≡ true → Ordered rs
unfolding earlier
ordered-tested s m [] h = tt
ordered-tested s m (x ∷ []) h = (tt, tt)
ordered-tested s m (x ∷ (y ∷ ys)) h =
    let here = both (not (before x.seconds x.microseconds s m)) _ h in
    let next = both (not (before y.seconds y.microseconds x.seconds x.microseconds)) _ here.1 in
    (not-true _ next.0, ordered-tested x.seconds x.microseconds (y ∷ ys) here.1)
