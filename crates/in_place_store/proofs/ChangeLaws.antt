-- What each change of the bytes leaves. Assumes nothing.
use Prim.Native.Nat.{ℕ, ◌+◌, ◌*◌, ◌%◌, ◌/◌, ◌^◌, ◌<◌, ◌≤◌, min}
use mathlib.Core.Path.{◌≡◌, refl, sym, ap, ◌∙◌}
use mathlib.Core.Bool.{true}
use mathlib.Core.Logic.{⊎_elim}
use mathlib.Core.List.{List, [], ◌∷◌, ◌++◌}
use native.Mathlib.Omega.{arith}
use lib.ListN.{length, take, drop, set, length-set, replicate, length-replicate, drop_of_length-le}
use lib.Seq.{drop-set-lt}
use Rattle.trb.proofs.TestLaws.{le-or-lt}
use Rattle.trb.specs.Limits.{max_held, max_transfer_length}
use Rattle.trb.specs.Trbs.{transfer_length}
use Rattle.trb.specs.declared.TdBasedNormalSubmissionState.TheVariants.{SubmissionDue, UnsupportedTrb}
use Rattle.trb.specs.declared.TransferTrb.{TransferTrb}
use Rattle.buffers.specs.Patch.{patch}
use Rattle.buffers.specs.LittleEndian.{le_bytes, le_number, le_field}
use Rattle.buffers.proofs.LittleEndianLaws.{le_number-le_bytes}
use Rattle.buffers.proofs.PatchLaws.{length-patch, drop-patch}
use Rattle.held.specs.Places.{blank_trb, cleared}
use Rattle.held.specs.Sound.{supported}
use Rattle.held.specs.declared.EndpointKind.TheVariants.{In}
use Rattle.held.proofs.PlaceLaws.{cleared-all}
use Rattle.in_block.specs.Blocks.{in_block, fresh_block, with_state, stored, emptied}
use Rattle.in_block.specs.declared.InBlock.{InBlock}
use Rattle.held_bytes.specs.Numbers.{trb_of}
use Rattle.held_bytes.specs.Places.{place_length, in_layout, place_bytes}
use Rattle.held_bytes.specs.declared.TrbNumbers.{TrbNumbers}
use Rattle.held_bytes.proofs.ByteLaws.{take-drop-before, drop-behind}
use Rattle.held_bytes.proofs.PlaceLaws.{stored-fits, place-said}
use Rattle.in_bytes.specs.Layout.{head_length, block_length, mode_of, state_of, held_count, places, block_of}
use Rattle.in_bytes.proofs.HeldLaws.{length-places}
use Rattle.in_bytes.proofs.StoreLaws.{block-stored, block-headed, block-stated, block-addressed, block-blanked, block-named, length-headed, drop-headed}
use Rattle.in_place_store.specs.Becomes.{Becomes}

pub becomes-same : (b : List ℕ) → Becomes b (block_of b) b
becomes-same b = record { block = refl; behind = refl; long = refl }

-- no more places are blanked than there are
clear-least : (b : List ℕ) (n : ℕ) → cleared (min n max_held) (places b) ≡ cleared n (places b)
unfolding cleared
clear-least b n =
    let len = length-places b in
    let e : min (min n max_held) (length (places b)) ≡ min n (length (places b)) = omega arith in
    ap (λ (k : ℕ). replicate k blank_trb ++ drop (min n max_held) (places b)) e
    ∙ ap (λ (l : List TransferTrb). replicate (min n (length (places b))) blank_trb ++ l)
    (⊎_elim
    (λ (le : n ≤ max_held). let k : min n max_held ≡ n = omega arith in ap (λ (x : ℕ). drop x (places b)) k)
    (λ (lt : max_held < n). drop_of_length-le (places b) {i = min n max_held} (omega arith) ∙ sym (drop_of_length-le (places b) {i = n} (omega arith)))
    (le-or-lt n max_held))

-- ---- A TRB more is held

module _ (b b1 b2 : List ℕ) (held : ℕ) (n : TrbNumbers) (state : ℕ) where
  pub becomes-stored : block_length ≤ length b → held ≡ held_count b → held < max_held → n.addr < 256 ^ 8 → n.value < 256 ^ 8 → n.transfer_length < 256 ^ 4
      → transfer_length (trb_of n).variant ≤ max_transfer_length → supported In (trb_of n).variant ≡ true
      → b1 ≡ patch b (head_length + place_length * held) (place_bytes n)
      → b2 ≡ set (set (set b1 4 ((held + 1) % 256)) 5 ((held + 1) / 256)) 6 state
      → Becomes b (with_state (stored (block_of b) (trb_of n)) (state_of state (le_field 8 8 b))) b2
  unfolding block_of
  becomes-stored long eh room ha hv hl short kept e1 e2 =
      let at : ℕ = head_length + place_length * held in
      let vs : List ℕ = place_bytes n in
      let fits : at + length vs ≤ length b = stored-fits In head_length b vs max_held held long room (omega arith) in
      let long1 : length b1 ≡ length b = ap (λ (x : List ℕ). length x) e1 ∙ length-patch b at vs fits in
      let x : ℕ = (held + 1) % 256 in
      let y : ℕ = (held + 1) / 256 in
      let h1 = ap block_of e1 ∙ block-stored b vs held long room (omega arith) in
      let h2 = ap block_of e2 ∙ block-headed b1 x y state (omega arith) in
      let said = place-said In n (drop (at + length vs) b) ha hv hl short kept in
      let count : x + 256 * y ≡ held_count b + 1 = omega arith in
      let a8 : le_field 8 8 b1 ≡ le_field 8 8 b = ap (le_field 8 8) e1 ∙ ap le_number (take-drop-before b at vs fits 8 8 (omega arith)) in
      let ts : places b1 ≡ set (places b) (held_count b) (trb_of n) =
      ap (λ (z : InBlock). z.trbs) h1 ∙ ap (λ (t : TransferTrb). set (places b) held t) said ∙ ap (λ (k : ℕ). set (places b) k (trb_of n)) eh in
      record {
        block = h2 ∙ (λ j. in_block (h1 j).endpoint_id (h1 j).slot_id (h1 j).mode (state_of state (a8 j)) (count j) (ts j));
        behind = ap (drop block_length) e2 ∙ drop-headed b1 x y state (omega arith) block_length (omega arith) ∙ ap (drop block_length) e1 ∙ drop-behind b at vs fits block_length (omega arith);
        long = ap (λ (z : List ℕ). length z) e2 ∙ length-headed b1 x y state (omega arith) ∙ long1;
      }

-- ---- The TRBs held are dropped for one of an unsupported kind

module _ (b b1 b2 b3 : List ℕ) (held p addr : ℕ) where
  pub becomes-dropped : block_length ≤ length b → held ≡ held_count b → p ≡ min held max_held → addr < 256 ^ 8
      → b1 ≡ patch b 8 (le_bytes 8 addr) → b2 ≡ patch b1 head_length (replicate (place_length * p) 0)
      → b3 ≡ set (set (set b2 4 0) 5 0) 6 4
      → Becomes b (emptied (block_of b) (UnsupportedTrb addr)) b3
  unfolding block_of
  becomes-dropped long eh ep fits e1 e2 e3 =
      let few : p ≤ max_held = omega arith in
      let vs : List ℕ = le_bytes 8 addr in
      let zs : List ℕ = replicate (place_length * p) 0 in
      let lz : length zs ≡ place_length * p = length-replicate (place_length * p) 0 in
      let long1 : length b1 ≡ length b = ap (λ (x : List ℕ). length x) e1 ∙ length-patch b 8 vs (omega arith) in
      let fits2 : head_length + length zs ≤ length b1 = omega arith in
      let long2 : length b2 ≡ length b1 = ap (λ (x : List ℕ). length x) e2 ∙ length-patch b1 head_length zs fits2 in
      let h1 = ap block_of e1 ∙ block-addressed b addr (omega arith) fits in
      let h2 = ap block_of e2 ∙ block-blanked b1 p (omega arith) few in
      let h3 = ap block_of e3 ∙ block-headed b2 0 0 4 (omega arith) in
      let a8 : le_field 8 8 b2 ≡ addr =
      ap (le_field 8 8) e2 ∙ ap le_number (take-drop-before b1 head_length zs fits2 8 8 (omega arith)) ∙ ap (le_field 8 8) e1
      ∙ ap (λ (x : List ℕ). le_number (take 8 x)) (drop-patch b 8 vs (omega arith)) ∙ le_number-le_bytes 8 addr fits in
      let endpoint = ap (λ (z : InBlock). z.endpoint_id) h2 ∙ ap (λ (z : InBlock). z.endpoint_id) h1 in
      let slot = ap (λ (z : InBlock). z.slot_id) h2 ∙ ap (λ (z : InBlock). z.slot_id) h1 in
      let mode = ap (λ (z : InBlock). z.mode) h2 ∙ ap (λ (z : InBlock). z.mode) h1 in
      let ts : places b2 ≡ cleared (held_count b) (places b) =
      ap (λ (z : InBlock). z.trbs) h2 ∙ ap (λ (z : InBlock). cleared p z.trbs) h1 ∙ ap (λ (k : ℕ). cleared k (places b)) ep ∙ clear-least b held ∙ ap (λ (k : ℕ). cleared k (places b)) eh in
      record {
        block = h3 ∙ (λ j. in_block (endpoint j) (slot j) (mode j) (UnsupportedTrb (a8 j)) 0 (ts j));
        behind = ap (drop block_length) e3 ∙ drop-headed b2 0 0 4 (omega arith) block_length (omega arith)
            ∙ ap (drop block_length) e2 ∙ drop-behind b1 head_length zs fits2 block_length (omega arith) ∙ ap (drop block_length) e1 ∙ drop-behind b 8 vs (omega arith) block_length (omega arith);
        long = ap (λ (z : List ℕ). length z) e3 ∙ length-headed b2 0 0 4 (omega arith) ∙ long2 ∙ long1;
      }

-- ---- Nothing is held any more, and a submission is due

pub becomes-freed : (b b1 b2 : List ℕ) (held p : ℕ) → block_length ≤ length b → held ≡ held_count b → p ≡ min held max_held
    → b1 ≡ patch b head_length (replicate (place_length * p) 0) → b2 ≡ set (set (set b1 4 0) 5 0) 6 0
    → Becomes b (emptied (block_of b) SubmissionDue) b2
unfolding block_of
becomes-freed b b1 b2 held p long eh ep e1 e2 =
    let few : p ≤ max_held = omega arith in
    let zs : List ℕ = replicate (place_length * p) 0 in
    let lz : length zs ≡ place_length * p = length-replicate (place_length * p) 0 in
    let fits : head_length + length zs ≤ length b = omega arith in
    let long1 : length b1 ≡ length b = ap (λ (x : List ℕ). length x) e1 ∙ length-patch b head_length zs fits in
    let h1 = ap block_of e1 ∙ block-blanked b p long few in
    let h2 = ap block_of e2 ∙ block-headed b1 0 0 0 (omega arith) in
    let ts : places b1 ≡ cleared (held_count b) (places b) =
    ap (λ (z : InBlock). z.trbs) h1 ∙ ap (λ (k : ℕ). cleared k (places b)) ep ∙ clear-least b held ∙ ap (λ (k : ℕ). cleared k (places b)) eh in
    record {
      block = h2 ∙ (λ j. in_block (h1 j).endpoint_id (h1 j).slot_id (h1 j).mode SubmissionDue 0 (ts j));
      behind = ap (drop block_length) e2 ∙ drop-headed b1 0 0 0 (omega arith) block_length (omega arith) ∙ ap (drop block_length) e1 ∙ drop-behind b head_length zs fits block_length (omega arith);
      long = ap (λ (z : List ℕ). length z) e2 ∙ length-headed b1 0 0 0 (omega arith) ∙ long1;
    }

-- ---- The TRBs held are kept, and a submission is due

pub becomes-due : (b : List ℕ) → block_length ≤ length b → Becomes b (with_state (block_of b) SubmissionDue) (set b 6 0)
unfolding block_of
becomes-due b long = record {
  block = block-stated b 0 (omega arith);
  behind = drop-set-lt block_length b 6 0 (omega arith);
  long = length-set b 6 0;
}

-- ---- A fresh block

pub becomes-fresh : (b b1 b2 b3 : List ℕ) (e s m : ℕ) → block_length ≤ length b → b1 ≡ patch b 0 (in_layout ∷ e ∷ s ∷ m ∷ [])
    → b2 ≡ patch b1 head_length (replicate (place_length * max_held) 0) → b3 ≡ set (set (set b2 4 0) 5 0) 6 0
    → Becomes b (fresh_block (record { 0 = e }) (record { 0 = s }) (mode_of m)) b3
unfolding block_of
becomes-fresh b b1 b2 b3 e s m long e1 e2 e3 =
    let vs : List ℕ = in_layout ∷ e ∷ s ∷ m ∷ [] in
    let zs : List ℕ = replicate (place_length * max_held) 0 in
    let lz : length {A = ℕ} zs ≡ place_length * max_held = length-replicate {A = ℕ} (place_length * max_held) 0 in
    let first : 0 + length vs ≤ length b = omega arith in
    let long1 : length b1 ≡ length b = ap (λ (x : List ℕ). length x) e1 ∙ length-patch b 0 vs first in
    let fits : head_length + length zs ≤ length b1 = omega arith in
    let long2 : length b2 ≡ length b1 = ap (λ (x : List ℕ). length x) e2 ∙ length-patch b1 head_length zs fits in
    let h1 = ap block_of e1 ∙ block-named b e s m (omega arith) in
    let h2 = ap block_of e2 ∙ block-blanked b1 max_held (omega arith) (omega arith) in
    let h3 = ap block_of e3 ∙ block-headed b2 0 0 0 (omega arith) in
    let n : length (places b1) ≡ max_held = length-places b1 in
    let ts : places b2 ≡ replicate max_held blank_trb =
    ap (λ (z : InBlock). z.trbs) h2 ∙ cleared-all max_held (places b1) (omega arith) ∙ ap (λ (k : ℕ). replicate k blank_trb) n in
    let endpoint = ap (λ (z : InBlock). z.endpoint_id) h2 ∙ ap (λ (z : InBlock). z.endpoint_id) h1 in
    let slot = ap (λ (z : InBlock). z.slot_id) h2 ∙ ap (λ (z : InBlock). z.slot_id) h1 in
    let mode = ap (λ (z : InBlock). z.mode) h2 ∙ ap (λ (z : InBlock). z.mode) h1 in
    record {
      block = h3 ∙ (λ j. in_block (endpoint j) (slot j) (mode j) SubmissionDue 0 (ts j));
      behind = ap (drop block_length) e3 ∙ drop-headed b2 0 0 0 (omega arith) block_length (omega arith) ∙ ap (drop block_length) e2 ∙ drop-behind b1 head_length zs fits block_length (omega arith)
          ∙ ap (drop block_length) e1 ∙ drop-behind b 0 vs first block_length (omega arith);
      long = ap (λ (z : List ℕ). length z) e3 ∙ length-headed b2 0 0 0 (omega arith) ∙ long2 ∙ long1;
    }
