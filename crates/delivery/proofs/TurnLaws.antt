-- How the loop over the places keeps to question 11 of the TRBs held: the writes of those that are left, with the bytes left, lie in range exactly where all do.
-- Assumes nothing.
use Prim.Native.Nat.{ℕ, ◌+◌, ◌-◌, ◌<◌, ◌≤◌, min}
use mathlib.Core.Path.{◌≡◌, refl, sym, ap, ◌∙◌}
use mathlib.Core.Bool.{true, false, ◌&&◌}
use mathlib.Core.List.{List}
use mathlib.Core.Option.{Option, none, some}
use native.Mathlib.Numerals.{add-one}
use native.Mathlib.Omega.{arith}
use lib.ListN.{length, take, drop, get_or, drop_of_length-le}
use lib.Seq.{drop-cons, get_or-take, length-take-le}
use Rattle.trb.specs.declared.NormalTrb.{NormalTrb}
use Rattle.trb.specs.declared.TransferTrb.{TransferTrb}
use Rattle.guest_memory.specs.declared.Regions.{Regions}
use Rattle.guest_memory.specs.Places.{range_inside}
use Rattle.held.specs.Places.{past_end}
use Rattle.in_td.specs.Normals.{normal_of, length_of}
use Rattle.delivery_laws.specs.Ranges.{pointer_of, write_inside, writes_inside}

module _ (regions : Regions) where
  -- after i TRBs of ts, with so many bytes left of those given
  abbrev pub Left : List TransferTrb → ℕ → ℕ → ℕ → Type 0
  Left ts given left i = writes_inside regions left (drop i ts) ≡ writes_inside regions given ts

  inside-range : (left : ℕ) (o : Option NormalTrb) → write_inside regions left o ≡ range_inside regions (pointer_of o) (min (length_of o) left)
  unfolding range_inside
  inside-range left none = let z : min 0 left ≡ 0 = omega arith in rw z
  inside-range left (some t) = refl

  module _ (xs : List TransferTrb) (n : ℕ) (long : n ≤ length xs) (given left i : ℕ) (k : Left (take n xs) given left i) where
    abbrev normal : Option NormalTrb
    normal = normal_of (get_or xs i past_end).variant

    -- a turn of a loop over the first n elements of xs: whether the TRB's write lies in range, and the rest
    left-turn : i < n
        → (range_inside regions (pointer_of normal) (min (length_of normal) left) && writes_inside regions (left - min (length_of normal) left) (drop (i + 1) (take n xs)))
        ≡ writes_inside regions given (take n xs)
    left-turn more =
        let len : length (take n xs) ≡ n = length-take-le n xs long in
        let less : left - min (length_of normal) left ≡ left - length_of normal = omega arith in
        rw (less, ← inside-range left normal, add-one, ← get_or-take n xs i past_end more)
        (sym (ap (writes_inside regions left) (drop-cons (take n xs) i past_end (omega arith))) ∙ k)

    pub left_out : i < n → range_inside regions (pointer_of normal) (min (length_of normal) left) ≡ false → false ≡ writes_inside regions given (take n xs)
    left_out more out = rw out at (left-turn more)

    pub left-next : i < n → range_inside regions (pointer_of normal) (min (length_of normal) left) ≡ true
        → Left (take n xs) given (left - min (length_of normal) left) (i + 1)
    left-next more inside = rw inside at (left-turn more)

    pub left_end : n ≤ i → true ≡ writes_inside regions given (take n xs)
    left_end over =
        let len : length (take n xs) ≡ n = length-take-le n xs long in
        sym (ap (writes_inside regions left) (drop_of_length-le (take n xs) {i = i} (omega arith))) ∙ k
