-- Laws of digits. Assumes nothing.
use Prim.Native.Nat.{ℕ, zero, suc, ◌+◌, ◌-◌, ◌*◌, ◌/◌, ◌%◌, ◌<◌, ◌≤◌, ◌^◌}
use mathlib.Core.Bool.{Bool, true, false, cond}
use mathlib.Core.Path.{◌≡◌, refl, sym, ap, ◌∙◌}
use mathlib.Core.List.{List, [], ◌∷◌, ◌++◌, map}
use native.Mathlib.Nat.{mod-lt}
use native.Mathlib.Omega.{arith}
use lib.Dec.{eqb}
use lib.ListN.{length, take, drop, get_or, length-append, length-map}
use lib.Seq.{drop-cons}
use Rattle.std.specs.List.{prefix_len, take_while}
use Rattle.std.proofs.lemmas.List.Folds.{length-prefix_len}
use borrow.Author.Tests.{ne_eqb}
use Rattle.numerals.specs.Digits.{digit_char, digits, trimmed, AllBelow, decimal_of, hex_of, byte_hex, bytes_hex}
use Rattle.numerals.specs.Widths.{decimal_places, hex_places}
use Rattle.numerals.proofs.ListLaws.{drop-next}

pub length_digits : (base k n : ℕ) → length (digits base k n) ≡ k
unfolding digits
length_digits base zero n = refl
length_digits base (suc k) n = ap suc (length_digits base k n)

-- the highest place, and those below it
pub digits-next : (base k n : ℕ) → digits base (suc k) n ≡ n / base ^ k % base ∷ digits base k n
unfolding digits
digits-next base k n = refl

pub AllBelow-digits : (base k n : ℕ) → 0 < base → AllBelow base (digits base k n)
unfolding digits
AllBelow-digits base zero n h = tt
AllBelow-digits base (suc k) n h = (mod-lt (n / base ^ k) h, AllBelow-digits base k n h)

pub AllBelow-drop : (b k : ℕ) (ds : List ℕ) → AllBelow b ds → AllBelow b (drop k ds)
AllBelow-drop b zero ds a = a
AllBelow-drop b (suc k) [] a = tt
AllBelow-drop b (suc k) (d ∷ ds) a = AllBelow-drop b k ds a.1

pub get_or-AllBelow : {b : ℕ} (ds : List ℕ) (i : ℕ) → AllBelow b ds → i < length ds → get_or ds i 0 < b
get_or-AllBelow [] i a h = absurd (omega arith)
get_or-AllBelow (d ∷ ds) zero a h = a.0
get_or-AllBelow (d ∷ ds) (suc i) a h = get_or-AllBelow ds i a.1 (omega arith)

length-cond : (b : Bool) (xs ys : List ℕ) {n : ℕ} → length xs ≤ n → length ys ≤ n → length (cond b xs ys) ≤ n
length-cond true xs ys h k = h
length-cond false xs ys h k = k

pub length-trimmed : (ds : List ℕ) → length (trimmed ds) ≤ length ds
unfolding trimmed
length-trimmed [] = omega arith
length-trimmed (d ∷ []) = omega arith
length-trimmed (d ∷ e ∷ ds) = length-cond (eqb d 0) (trimmed (e ∷ ds)) (d ∷ e ∷ ds) (omega (arith, length-trimmed (e ∷ ds))) (omega arith)

-- behind a digit that is zero, where others follow it, and else from it on
trimmed-by : (b : Bool) (d e : ℕ) (ds : List ℕ) (k : ℕ) → drop k (e ∷ ds) ≡ trimmed (e ∷ ds)
    → drop (cond b (1 + k) 0) (d ∷ e ∷ ds) ≡ cond b (trimmed (e ∷ ds)) (d ∷ e ∷ ds)
trimmed-by true d e ds k h = let next : 1 + k ≡ suc k = omega arith in rw next h
trimmed-by false d e ds k h = refl

-- behind the zeros that all digits but the last begin with
pub trimmed-zeros : (d : ℕ) (ds : List ℕ) → drop (prefix_len (λ c. eqb c 0) (take (length ds) (d ∷ ds))) (d ∷ ds) ≡ trimmed (d ∷ ds)
unfolding trimmed
trimmed-zeros d [] = refl
trimmed-zeros d (e ∷ ds) = trimmed-by (eqb d 0) d e ds (prefix_len (λ c. eqb c 0) (take (length ds) (e ∷ ds))) (trimmed-zeros e ds)

-- the same of digits, or of none
pub drop-zeros : (ds : List ℕ) → drop (length (take_while (λ c. eqb c 0) (take (length ds - 1) ds))) ds ≡ trimmed ds
unfolding trimmed
drop-zeros [] = refl
drop-zeros (d ∷ ds) =
    let rest : length (d ∷ ds) - 1 ≡ length ds = omega arith in
    rw (rest, length-prefix_len (λ c. eqb c 0) (take (length ds) (d ∷ ds))) (trimmed-zeros d ds)

-- a leading zero, and not the last digit
pub trimmed-zero : (ds : List ℕ) (k : ℕ) → suc k < length ds → get_or ds k 0 ≡ 0 → trimmed (drop k ds) ≡ trimmed (drop (suc k) ds)
unfolding trimmed
trimmed-zero ds k h z =
    let k< : k < length ds = omega arith in
    ap trimmed (drop-cons ds k 0 k< ∙ ap (λ (l : List ℕ). get_or ds k 0 ∷ l) (drop-cons ds (suc k) 0 h))
    ∙ rw z (ap trimmed (sym (drop-cons ds (suc k) 0 h)))

-- no leading zero
pub trimmed-nonzero : (ds : List ℕ) (k : ℕ) → suc k < length ds → (get_or ds k 0 ≡ 0 → ⊥) → trimmed (drop k ds) ≡ drop k ds
unfolding trimmed
trimmed-nonzero ds k h z =
    let k< : k < length ds = omega arith in
    let split = drop-cons ds k 0 k< ∙ ap (λ (l : List ℕ). get_or ds k 0 ∷ l) (drop-cons ds (suc k) 0 h) in
    ap trimmed split ∙ rw (ne_eqb (get_or ds k 0) 0 z) (sym split)

pub length-byte_hex : (b : ℕ) → length (byte_hex b) ≡ 2
unfolding byte_hex
length-byte_hex b = length-map (digits 16 2 b) digit_char ∙ length_digits 16 2 b

pub length-bytes_hex : (bs : List ℕ) → length (bytes_hex bs) ≡ 2 * length bs
unfolding bytes_hex
length-bytes_hex [] = refl
length-bytes_hex (b ∷ bs) = length-append (byte_hex b) (bytes_hex bs) ∙ omega (arith, length-byte_hex b, length-bytes_hex bs)

-- the bytes from index i on: that at i, and those behind it
pub bytes_hex-next : (bs : List ℕ) (i : ℕ) → i < length bs → bytes_hex (drop i bs) ≡ byte_hex (get_or bs i 0) ++ bytes_hex (drop (i + 1) bs)
unfolding bytes_hex
bytes_hex-next bs i h = ap bytes_hex (drop-next bs i h)

length-number : (base k n : ℕ) → length (map digit_char (trimmed (digits base k n))) ≤ k
length-number base k n = omega (arith, length-map (trimmed (digits base k n)) digit_char, length-trimmed (digits base k n), length_digits base k n)

pub length-decimal_of : (n : ℕ) → length (decimal_of n) ≤ decimal_places
unfolding decimal_of
length-decimal_of n = length-number 10 decimal_places n

pub length-hex_of : (n : ℕ) → length (hex_of n) ≤ hex_places
unfolding hex_of
length-hex_of n = length-number 16 hex_places n
