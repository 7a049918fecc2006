-- How a loop over an array keeps to a test of every element: what was found so far, and the test of the rest, are the test of all.
-- Assumes nothing.
use Prim.Native.Nat.{ℕ, suc, ◌+◌, ◌<◌, ◌≤◌, min}
use mathlib.Core.Path.{◌≡◌, refl, sym, ap, ◌∙◌}
use mathlib.Core.Bool.{Bool, true, ◌&&◌, and-true, and_assoc}
use mathlib.Core.List.{List}
use native.Mathlib.Numerals.{add-one}
use native.Mathlib.Omega.{arith}
use lib.ListN.{length, take, drop, get_or, drop_of_length-le}
use lib.Seq.{drop-cons, get_or-take, length-take-le}
use Rattle.trb.specs.Limits.{max_held}
use Rattle.trb.specs.declared.TransferTrb.{TransferTrb}
use Rattle.held.specs.Sound.{sound_trb, held_sound}
use Rattle.held.specs.declared.EndpointKind.{EndpointKind}
use Rattle.held.proofs.TestedLaws.{places-few, places-held}
use Rattle.walks.specs.All.{all}

module _ {T : Type 0} (ok : T → Bool) where
  -- after i elements of ts, with b found so far
  abbrev pub Tested : List T → Bool → ℕ → Type 0
  Tested ts b i = (b && all ok (drop i ts)) ≡ all ok ts

  pub tested-none : (ts : List T) → Tested ts true 0
  tested-none ts = refl

  module _ (xs : List T) (n : ℕ) (long : n ≤ length xs) where
    -- a turn of a loop over the first n elements of xs; d is what a read past its end would give
    pub tested-turn : (b r : Bool) (i : ℕ) (d : T) → Tested (take n xs) b i → i < n → r ≡ (b && ok (get_or xs i d)) → Tested (take n xs) r (i + 1)
    unfolding all
    tested-turn b r i d k more e =
        let len : length (take n xs) ≡ n = length-take-le n xs long in
        let rest : List T = drop (suc i) (take n xs) in
        rw (e, add-one, ← get_or-take n xs i d more)
        (and_assoc b (ok (get_or (take n xs) i d)) (all ok rest)
        ∙ ap (λ (l : List T). b && all ok l) (sym (drop-cons (take n xs) i d (omega arith))) ∙ k)

    pub tested-end : (b : Bool) (i : ℕ) → Tested (take n xs) b i → n ≤ i → b ≡ all ok (take n xs)
    unfolding all
    tested-end b i k h =
        let len : length (take n xs) ≡ n = length-take-le n xs long in
        sym (and-true b) ∙ ap (λ (l : List T). b && all ok l) (sym (drop_of_length-le (take n xs) {i = i} (omega arith))) ∙ k

-- over the places xs of a block that says n are held, of which p are tested
module _ (xs : List TransferTrb) (n p : ℕ) (all-places : length xs ≡ max_held) (tested : p ≡ min n max_held) where
  pub held-tested : (kind : EndpointKind) (b : Bool) (i : ℕ) → Tested (sound_trb kind) (take p xs) b i → p ≤ i → b ≡ held_sound kind (take n xs)
  held-tested kind b i k h = tested-end (sound_trb kind) xs p (places-few xs n p all-places tested) b i k h ∙ ap (λ (ts : List TransferTrb). held_sound kind ts) (places-held xs n p all-places tested)
