-- Laws of little-endian numbers, over the width. Assumes nothing.
use Prim.Native.Nat.{ℕ, zero, suc, ◌+◌, ◌*◌, ◌/◌, ◌%◌, ◌<◌, ◌≤◌, ◌^◌}
use mathlib.Core.Path.{◌≡◌, refl, sym, ap, ◌∙◌}
use mathlib.Core.List.{List, [], ◌∷◌, ◌++◌}
use native.Mathlib.Nat.{pow-suc, div-lt_iff_lt-mul, div-add-mod, zero-lt-suc, mul-add, mul_comm, mul_assoc}
use native.Mathlib.Omega.{arith}
use lib.ListN.{length, take, drop, get_or, length-drop}
use lib.Seq.{length-take-le, take-add, drop-drop, drop-cons, take-append-le, drop-append-le}
use Rattle.buffers.specs.LittleEndian.{le_bytes, le_number, le_field, AllBytes}

pub length-le_bytes : (n x : ℕ) → length (le_bytes n x) ≡ n
length-le_bytes zero x = refl
length-le_bytes (suc n) x = ap suc (length-le_bytes n (x / 256))

pub le_number-le_bytes : (n x : ℕ) → x < 256 ^ n → le_number (le_bytes n x) ≡ x
le_number-le_bytes zero x h = omega arith
le_number-le_bytes (suc n) x h =
    let small : x < 256 ^ n * 256 = rw pow-suc at h in
    rw (le_number-le_bytes n (x / 256) ((div-lt_iff_lt-mul (zero-lt-suc 255)).1 small)) (omega (arith, div-add-mod x 256))

le_number-append : (xs ys : List ℕ) → le_number (xs ++ ys) ≡ le_number xs + 256 ^ length xs * le_number ys
le_number-append [] ys = omega arith
le_number-append (x ∷ xs) ys =
    rw (le_number-append xs ys, pow-suc, mul-add, mul_comm (256 ^ length xs) 256, mul_assoc) (omega arith)

-- a field of m + n bytes is one of m bytes, the low ones, and one of n
pub le_field-add : (at m n : ℕ) (l : List ℕ) → at + m ≤ length l → le_field at (m + n) l ≡ le_field at m l + 256 ^ m * le_field (at + m) n l
le_field-add at m n l h =
    let len : length (take m (drop at l)) ≡ m = length-take-le m (drop at l) (simp length-drop (omega arith)) in
    ap le_number (take-add m n (drop at l)) ∙ le_number-append (take m (drop at l)) (take n (drop m (drop at l)))
    ∙ rw (len, drop-drop)

-- a field of one byte
pub le_field-one : (at : ℕ) (l : List ℕ) → at < length l → le_field at 1 l ≡ get_or l at 0
le_field-one at l h = rw (drop-cons l at 0 h) (omega arith)

-- bytes, where each index has one
pub AllBytes-each : (l : List ℕ) → ((i : ℕ) → get_or l i 0 < 256) → AllBytes l
AllBytes-each [] h = tt
AllBytes-each (b ∷ l) h = (h 0, AllBytes-each l (λ i. h (suc i)))

pub AllBytes-take : (n : ℕ) (l : List ℕ) → AllBytes l → AllBytes (take n l)
AllBytes-take zero l h = tt
AllBytes-take (suc n) [] h = tt
AllBytes-take (suc n) (b ∷ l) h = (h.0, AllBytes-take n l h.1)

pub AllBytes-drop : (n : ℕ) (l : List ℕ) → AllBytes l → AllBytes (drop n l)
AllBytes-drop zero l h = h
AllBytes-drop (suc n) [] h = tt
AllBytes-drop (suc n) (b ∷ l) h = AllBytes-drop n l h.1

pub le_bytes-le_number : (bs : List ℕ) → AllBytes bs → le_bytes (length bs) (le_number bs) ≡ bs
le_bytes-le_number [] h = refl
le_bytes-le_number (b ∷ bs) h =
    let byte : b < 256 = h.0 in
    let low : (b + 256 * le_number bs) % 256 ≡ b = omega arith in
    let high : (b + 256 * le_number bs) / 256 ≡ le_number bs = omega arith in
    rw (low, high, le_bytes-le_number bs h.1)

pub le_number-lt : (bs : List ℕ) → AllBytes bs → le_number bs < 256 ^ length bs
le_number-lt [] h = omega arith
le_number-lt (b ∷ bs) h =
    let byte : b < 256 = h.0 in
    let rest : le_number bs < 256 ^ length bs = le_number-lt bs h.1 in
    rw pow-suc (omega arith)

-- a field's bytes are those of its number
pub le_bytes-le_field : (at n : ℕ) (l : List ℕ) → at + n ≤ length l → AllBytes l → le_bytes n (le_field at n l) ≡ take n (drop at l)
le_bytes-le_field at n l h bytes =
    let len : length (take n (drop at l)) ≡ n = length-take-le n (drop at l) (simp length-drop (omega arith)) in
    ap (λ (k : ℕ). le_bytes k (le_field at n l)) (sym len) ∙ le_bytes-le_number (take n (drop at l)) (AllBytes-take n (drop at l) (AllBytes-drop at l bytes))

-- a field's number fits its bytes
pub le_field-lt : (at n : ℕ) (l : List ℕ) → at + n ≤ length l → AllBytes l → le_field at n l < 256 ^ n
le_field-lt at n l h bytes =
    let len : length (take n (drop at l)) ≡ n = length-take-le n (drop at l) (simp length-drop (omega arith)) in
    rw len at (le_number-lt (take n (drop at l)) (AllBytes-take n (drop at l) (AllBytes-drop at l bytes)))

-- a field of the first of two lists
pub le_field-append : (at n : ℕ) (xs ys : List ℕ) → at + n ≤ length xs → le_field at n (xs ++ ys) ≡ le_field at n xs
le_field-append at n xs ys h =
    ap le_number
    (ap (take n) (drop-append-le at xs ys (omega arith)) ∙ take-append-le n (drop at xs) ys (simp length-drop (omega arith)))
