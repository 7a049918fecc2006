-- Laws of S, the bytes requested. Assumes nothing.
use Prim.Native.Nat.{ℕ, ◌+◌, ◌*◌, ◌<◌, ◌≤◌}
use mathlib.Core.Path.{◌≡◌, sym, ap, ◌∙◌}
use mathlib.Core.Bool.{true}
use mathlib.Core.List.{List, [], ◌∷◌}
use native.Mathlib.Nat.{add-zero, mul-suc}
use native.Mathlib.Numerals.{add-one}
use native.Mathlib.Omega.{arith}
use lib.Dec.{leb}
use lib.ListN.{length, take, drop, get_or, drop_of_length-le}
use lib.Seq.{drop-cons, get_or-take, length-take-le}
use borrow.Author.Tests.{leb-true}
use Rattle.trb.specs.Limits.{max_transfer_length}
use Rattle.trb.specs.Trbs.{transfer_length}
use Rattle.trb.specs.declared.TransferTrb.{TransferTrb}
use Rattle.trb.specs.declared.TransferTrbVariant.{TransferTrbVariant}
use Rattle.trb.specs.declared.TransferTrbVariant.TheVariants.{SetupStage, DataStage, StatusStage, Normal, EventData, NoOp, Isoch, Unrecognized}
use Rattle.trb.proofs.TestLaws.{and_left, and_right}
use Rattle.held.specs.Sound.{supported, sound_trb, held_sound}
use Rattle.held.specs.declared.EndpointKind.TheVariants.{In}
use Rattle.walks.specs.All.{all}
use Rattle.in_td.specs.Normals.{normal_of, length_of, requested}

-- after i TRBs of ts, with their sum
abbrev pub Summed : List TransferTrb → ℕ → ℕ → Type 0
Summed ts sum i = sum + requested (drop i ts) ≡ requested ts

module _ (xs : List TransferTrb) (n : ℕ) (long : n ≤ length xs) where
  -- the TRB that a turn of a loop over the first n reads, and the rest; d is what a read past the end would give
  pub requested-turn : (i : ℕ) (d : TransferTrb) → i < n
      → requested (drop i (take n xs)) ≡ length_of (normal_of (get_or xs i d).variant) + requested (drop (i + 1) (take n xs))
  requested-turn i d more =
      let len : length (take n xs) ≡ n = length-take-le n xs long in
      rw (add-one, ← get_or-take n xs i d more) (ap requested (drop-cons (take n xs) i d (omega arith)))

  pub summed-end : (sum i : ℕ) → Summed (take n xs) sum i → n ≤ i → sum ≡ requested (take n xs)
  summed-end sum i s h =
      let len : length (take n xs) ≡ n = length-take-le n xs long in
      sym (add-zero sum) ∙ ap (λ (l : List TransferTrb). sum + requested l) (sym (drop_of_length-le (take n xs) {i = i} (omega arith))) ∙ s

pub normal-length : (x : TransferTrbVariant) → length_of (normal_of x) ≤ transfer_length x
normal-length (SetupStage t) = omega arith
normal-length (DataStage t) = omega arith
normal-length (StatusStage t) = omega arith
normal-length (Normal t) = omega arith
normal-length (EventData t) = omega arith
normal-length (NoOp t) = omega arith
normal-length Isoch = omega arith
normal-length Unrecognized = omega arith

-- what a sound list requests is within the limit for each TRB
pub requested-sound : (ts : List TransferTrb) → held_sound In ts ≡ true → requested ts ≤ max_transfer_length * length ts
unfolding all sound_trb
requested-sound [] e = omega arith
requested-sound (t ∷ ts) e =
    let first : sound_trb In t ≡ true = and_left (sound_trb In t) (all (sound_trb In) ts) e in
    let rest : all (sound_trb In) ts ≡ true = and_right (sound_trb In t) (all (sound_trb In) ts) e in
    let short : transfer_length t.variant ≤ max_transfer_length = leb-true _ _ (and_right (supported In t.variant) (leb (transfer_length t.variant) max_transfer_length) first) in
    rw mul-suc (omega (arith, short, normal-length t.variant, requested-sound ts rest))
