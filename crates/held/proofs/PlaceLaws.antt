-- Laws of the places. Assumes nothing.
use Prim.Native.Nat.{ℕ, zero, suc, ◌+◌, ◌<◌, ◌≤◌, min}
use mathlib.Core.Path.{◌≡◌, refl, sym, ap, ◌∙◌}
use mathlib.Core.List.{List, [], ◌∷◌, ◌++◌, append_assoc, append-nil}
use native.Mathlib.Nat.{not-suc-le-zero}
use native.Mathlib.Numerals.{add-one}
use native.Mathlib.Omega.{arith}
use lib.ListN.{length, take, drop, get_or, set, replicate, length-replicate, length-take, replicate-append-replicate, drop_of_length-le}
use lib.Seq.{drop-cons, set_at}
use Rattle.std.proofs.lemmas.List.{drop_min}
use Rattle.trb.specs.declared.TransferTrb.{TransferTrb}
use Rattle.held.specs.Places.{blank_trb, cleared}

-- the first i places blank
unfoldable pub blanked : ℕ → List TransferTrb → List TransferTrb
blanked i xs = replicate i blank_trb ++ drop i xs

pub blanked-none : (xs : List TransferTrb) → blanked 0 xs ≡ xs
unfolding blanked
blanked-none xs = refl

pub cleared-blanked : (n : ℕ) (xs : List TransferTrb) → n ≤ length xs → blanked n xs ≡ cleared n xs
unfolding blanked cleared
cleared-blanked n xs h =
    let m : min n (length xs) ≡ n = omega arith in
    rw m

pub cleared-all : (n : ℕ) (xs : List TransferTrb) → length xs ≤ n → cleared n xs ≡ replicate (length xs) blank_trb
unfolding cleared
cleared-all n xs h =
    let m : min n (length xs) ≡ length xs = omega arith in
    rw (m, drop_of_length-le xs {i = n} h, append-nil)

-- the places that are tested are those that are cleared, however many are said to be held
pub cleared-least : (n : ℕ) (xs : List TransferTrb) → replicate (length (take (min n (length xs)) xs)) blank_trb ++ drop (min n (length xs)) xs ≡ cleared n xs
unfolding cleared
cleared-least n xs =
    let k : length (take (min n (length xs)) xs) ≡ min n (length xs) = omega (arith, length-take (min n (length xs)) xs) in
    rw (k, drop_min n xs)
