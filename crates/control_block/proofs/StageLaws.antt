-- How a loop over the places keeps to the stage of those held: what was found so far, with the rest, gives the address that all of them
-- give. Assumes nothing.
use Prim.Native.Nat.{ℕ, suc, ◌+◌, ◌<◌, ◌≤◌, min}
use mathlib.Core.Path.{◌≡◌, refl, sym, ap, ◌∙◌}
use mathlib.Core.Bool.{Bool, true, false}
use mathlib.Core.List.{List, [], ◌∷◌}
use native.Mathlib.Numerals.{add-one}
use native.Mathlib.Omega.{arith}
use lib.ListN.{length, take, drop, get_or, drop_of_length-le}
use lib.Seq.{drop-cons, get_or-take, length-take-le}
use Rattle.trb.specs.Limits.{max_held}
use Rattle.trb.specs.declared.TransferTrb.{TransferTrb}
use Rattle.held.specs.Places.{past_end}
use Rattle.held.proofs.TestedLaws.{places-few, places-held}
use Rattle.control_block.specs.declared.StageFound.{StageFound}
use Rattle.control_block.specs.declared.StageFound.TheVariants as found
use Rattle.control_block.specs.Stages.{is_data_stage, is_status_stage, first_at, stage_address, stage_with, found_address}

-- with s found so far and the TRBs ts still to be looked at
abbrev pub address_from : StageFound → List TransferTrb → ℕ
address_from (found.Neither a) ts = first_at is_data_stage ts (first_at is_status_stage ts a)
address_from (found.StatusStage a) ts = first_at is_data_stage ts a
address_from (found.DataStage a) ts = a

-- a TRB has its turn, by what was found and by its kind
turn_by : (s : StageFound) (t : TransferTrb) (ts : List TransferTrb) (is-data is-status : Bool) → is_data_stage t.variant ≡ is-data → is_status_stage t.variant ≡ is-status
    → address_from (stage_with s t) ts ≡ address_from s (t ∷ ts)
unfolding first_at stage_with
turn_by (found.DataStage a) t ts is-data is-status e f = refl
turn_by (found.StatusStage a) t ts true is-status e f = rw e
turn_by (found.StatusStage a) t ts false is-status e f = rw e
turn_by (found.Neither a) t ts true is-status e f = rw e
turn_by (found.Neither a) t ts false true e f = rw (e, f)
turn_by (found.Neither a) t ts false false e f = rw (e, f)

pub address_from-turn : (s : StageFound) (t : TransferTrb) (ts : List TransferTrb) → address_from (stage_with s t) ts ≡ address_from s (t ∷ ts)
address_from-turn s t ts = turn_by s t ts _ _ refl refl

pub address_from-none : (s : StageFound) → address_from s [] ≡ found_address s
unfolding first_at
address_from-none (found.Neither a) = refl
address_from-none (found.StatusStage a) = refl
address_from-none (found.DataStage a) = refl

-- after i TRBs of ts, with s found so far
abbrev pub Looked : List TransferTrb → (setup : ℕ) → StageFound → ℕ → Type 0
Looked ts setup s i = address_from s (drop i ts) ≡ stage_address ts setup

pub looked-none : (ts : List TransferTrb) (setup : ℕ) → Looked ts setup (found.Neither setup) 0
looked-none ts setup = refl

-- a loop over the first n of the places xs
module _ (xs : List TransferTrb) (n : ℕ) (long : n ≤ length xs) (setup : ℕ) where
  pub looked-turn : (s r : StageFound) (i : ℕ) → Looked (take n xs) setup s i → i < n → r ≡ stage_with s (get_or xs i past_end) → Looked (take n xs) setup r (i + 1)
  looked-turn s r i k more e =
      let len : length (take n xs) ≡ n = length-take-le n xs long in
      rw (e, add-one, ← get_or-take n xs i past_end more)
      (address_from-turn s (get_or (take n xs) i past_end) (drop (suc i) (take n xs)) ∙ ap (λ (l : List TransferTrb). address_from s l) (sym (drop-cons (take n xs) i past_end (omega arith))) ∙ k)

  looked-end : (s : StageFound) (i : ℕ) → Looked (take n xs) setup s i → n ≤ i → found_address s ≡ stage_address (take n xs) setup
  looked-end s i k h =
      let len : length (take n xs) ≡ n = length-take-le n xs long in
      sym (address_from-none s) ∙ ap (λ (l : List TransferTrb). address_from s l) (sym (drop_of_length-le (take n xs) {i = i} (omega arith))) ∙ k

-- over the places xs of a block that says n are held, of which p are looked at
pub stage-found : (xs : List TransferTrb) (n p : ℕ) (all-places : length xs ≡ max_held) (tested : p ≡ min n max_held) (setup : ℕ) (s : StageFound) (i : ℕ) → Looked (take p xs) setup s i → p ≤ i
    → found_address s ≡ stage_address (take n xs) setup
stage-found xs n p all-places tested setup s i k h =
    looked-end xs p (places-few xs n p all-places tested) setup s i k h ∙ ap (λ (ts : List TransferTrb). stage_address ts setup) (places-held xs n p all-places tested)
