-- The places of the block that the bytes are, and its facts: every place that is held is sound. Assumes nothing.
use Prim.Native.Nat.{ℕ, zero, suc, ◌-◌, ◌<◌, ◌≤◌}
use mathlib.Core.Path.{◌≡◌, refl, sym, ap, ◌∙◌}
use mathlib.Core.Bool.{true}
use mathlib.Core.List.{List, [], ◌∷◌, ◌++◌, map}
use native.Mathlib.Omega.{arith}
use lib.ListN.{length, take, drop, get_or, replicate}
use lib.Seq.{get_or-take}
use Rattle.std.specs.Simd.{first_chunks}
use Rattle.std.proofs.lemmas.List.{get_or-map}
use Rattle.trb.specs.Limits.{max_held}
use Rattle.trb.specs.declared.ControlSubmissionState.{ControlSubmissionState}
use Rattle.trb.specs.declared.EndpointId.{EndpointId}
use Rattle.trb.specs.declared.SlotId.{SlotId}
use Rattle.trb.specs.declared.TransferTrb.{TransferTrb}
use Rattle.held.specs.Places.{blank_trb, past_end}
use Rattle.held.specs.Sound.{held_sound}
use Rattle.held.specs.declared.EndpointKind.TheVariants.{Control}
use Rattle.held_bytes.specs.Places.{place_length}
use Rattle.held_bytes.proofs.ByteLaws.{take-drop-take}
use Rattle.control_block.specs.declared.BlockFacts.{BlockFacts}
use Rattle.control_block.specs.declared.ControlTransfer.{ControlTransfer}
use Rattle.control_block.specs.Blocks.{held_of}
use Rattle.control_block.specs.Facts.{facts_of}
use Rattle.control_bytes.specs.Layout.{head_length, place_of, places_of, held_places, places_in, held_at, block_of}
use Rattle.control_bytes.proofs.PlaceLaws.{length-places_in, held-places_in, sound-places}

-- ---- The places of the block that the bytes are

pub length-trbs : (b : List ℕ) → length (block_of b).trbs ≡ max_held
unfolding block_of
length-trbs b = length-places_in (held_at b) (drop head_length b)

-- ---- The places by their bytes

-- a place is its first 24 bytes
place-take : (l : List ℕ) → place_of (take place_length l) ≡ place_of l
unfolding place_of
place-take l =
    rw (
      take-drop-take 8 0 place_length l (omega arith),
      take-drop-take 8 8 place_length l (omega arith),
      take-drop-take 4 16 place_length l (omega arith),
      get_or-take place_length l 20 0 (omega arith),
      get_or-take place_length l 21 0 (omega arith),
    )

chunked : (n m : ℕ) (l : List ℕ) → n ≤ m → map place_of (take n (first_chunks place_length m l)) ≡ places_of n l
unfolding places_of
chunked zero m l h = refl
chunked (suc n) zero l h = absurd (omega (arith, h))
chunked (suc n) (suc m) l h = λ i. place-take l i ∷ chunked n m (drop place_length l) (omega (arith, h)) i

-- those in front of the places that are held
front : (n k : ℕ) (l : List ℕ) (rest : List TransferTrb) → n ≤ k → take n (places_of k l ++ rest) ≡ places_of n l
unfolding places_of
front zero k l rest h = refl
front (suc n) zero l rest h = absurd (omega (arith, h))
front (suc n) (suc k) l rest h = ap (λ (ts : List TransferTrb). place_of l ∷ ts) (front n k (drop place_length l) rest (omega (arith, h)))

pub held-chunks : (b : List ℕ) (n m : ℕ) → n ≤ (block_of b).held → n ≤ max_held → n ≤ m
    → map place_of (take n (first_chunks place_length m (drop head_length b))) ≡ take n (block_of b).trbs
unfolding block_of places_in
held-chunks b n m some few h =
    let k : ℕ = held_places (held_at b) in
    chunked n m (drop head_length b) h ∙ sym (front n k (drop head_length b) (replicate (max_held - k) blank_trb) (omega (arith, some, few)))

-- the TRB in one of these places
pub trb-in : (b : List ℕ) (n i : ℕ) (cells : List (List ℕ)) → map place_of cells ≡ take n (block_of b).trbs → i < n → i < length cells
    → get_or (block_of b).trbs i past_end ≡ place_of (get_or cells i [])
trb-in b n i cells e more inside =
    sym (get_or-take n (block_of b).trbs i past_end more) ∙ ap (λ (ts : List TransferTrb). get_or ts i past_end) (sym e) ∙ get_or-map place_of cells i [] past_end inside

-- ---- The facts

held_of-block_of : (b : List ℕ) → held_of (block_of b) ≡ places_of (held_places (held_at b)) (drop head_length b)
unfolding block_of
held_of-block_of b = held-places_in (held_at b) (drop head_length b)

all_sound : (b : List ℕ) → true ≡ held_sound Control (held_of (block_of b))
all_sound b = sym (ap (λ (ts : List TransferTrb). held_sound Control ts) (held_of-block_of b) ∙ sound-places (held_places (held_at b)) (drop head_length b))

module _ (b : List ℕ) (w : ControlTransfer) (e : EndpointId) (s : SlotId) (state : ControlSubmissionState) (held : ℕ) where
  pub facts-read : w ≡ (block_of b).transfer → e ≡ (block_of b).endpoint_id → s ≡ (block_of b).slot_id → state ≡ (block_of b).state → held ≡ (block_of b).held
      → ◌≡◌ {A = BlockFacts}
      (record { endpoint_id = e; slot_id = s; phase = w.phase; state = state; direction = w.direction; collected = w.collected; held = held; sound = true })
      (facts_of (block_of b))
  facts-read pw pe ps pt ph =
      let sound = all_sound b in
      λ j. record {
        endpoint_id = pe j;
        slot_id = ps j;
        phase = (pw j).phase;
        state = pt j;
        direction = (pw j).direction;
        collected = (pw j).collected;
        held = ph j;
        sound = sound j;
      }
