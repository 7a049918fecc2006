-- The block that the bytes are, after each store. Assumes nothing.
use Prim.Native.Nat.{ℕ, ◌+◌, ◌*◌, ◌^◌, ◌<◌, ◌≤◌}
use mathlib.Core.Bool.{cond}
use mathlib.Core.Path.{◌≡◌, sym, ap, ◌∙◌}
use mathlib.Core.List.{List, [], ◌∷◌, ◌++◌}
use native.Mathlib.Omega.{arith}
use lib.Dec.{eqb}
use lib.ListN.{length, take, drop, get_or, set, length-set, replicate}
use lib.Seq.{drop-set-lt, get_or-set_same, get_or-set_other}
use Rattle.buffers.specs.Patch.{patch}
use Rattle.buffers.specs.LittleEndian.{le_bytes, le_number, le_field}
use Rattle.buffers.proofs.LittleEndianLaws.{le_number-le_bytes, le_field-add, le_field-one}
use Rattle.buffers.proofs.PatchLaws.{drop-patch, get_or-patch-in, get_or-patch-before, get_or-patch-behind}
use Rattle.trb.specs.Limits.{max_held}
use Rattle.trb.specs.declared.TransferTrb.{TransferTrb}
use Rattle.held.specs.Places.{cleared}
use Rattle.held.specs.declared.EndpointKind.TheVariants.{In}
use Rattle.held.proofs.PlaceLaws.{cleared-blanked}
use Rattle.in_block.specs.Blocks.{in_block}
use Rattle.held_bytes.specs.Places.{place_length, in_layout, place_of, places_of}
use Rattle.held_bytes.proofs.ByteLaws.{take-drop-before, drop-behind}
use Rattle.held_bytes.proofs.PlaceLaws.{stored-fits, places-stored, zeros-fit, places-blanked}
use Rattle.in_bytes.specs.Layout.{head_length, block_length, endpoint_of, slot_of, mode_of, state_of, held_count, places, block_of}
use Rattle.in_bytes.proofs.HeldLaws.{length-places}

-- an id, by the layout
abbrev id : ℕ → ℕ → ℕ
id layout n = cond (eqb layout in_layout) n 0

-- ---- Bytes laid behind the head: the places alone change

module _ (b vs : List ℕ) (at : ℕ) (behind : head_length ≤ at) (fits : at + length vs ≤ length b) where
  pub block-behind : (ts : List TransferTrb) → places (patch b at vs) ≡ ts
      → block_of (patch b at vs) ≡ in_block (endpoint_of b) (slot_of b) (mode_of (get_or b 3 0)) (state_of (get_or b 6 0) (le_field 8 8 b)) (held_count b) ts
  unfolding block_of
  block-behind ts e =
      let e0 = get_or-patch-before b at vs fits 0 (omega arith) in
      let e1 = get_or-patch-before b at vs fits 1 (omega arith) in
      let e2 = get_or-patch-before b at vs fits 2 (omega arith) in
      let e3 = get_or-patch-before b at vs fits 3 (omega arith) in
      let e6 = get_or-patch-before b at vs fits 6 (omega arith) in
      let e4 = ap le_number (take-drop-before b at vs fits 2 4 (omega arith)) in
      let e8 = ap le_number (take-drop-before b at vs fits 8 8 (omega arith)) in
      λ j. in_block (record { 0 = id (e0 j) (e1 j) }) (record { 0 = id (e0 j) (e2 j) }) (mode_of (e3 j)) (state_of (e6 j) (e8 j)) (e4 j) (e j)

-- a place
pub block-stored : (b vs : List ℕ) (i : ℕ) → block_length ≤ length b → i < max_held → length vs ≤ place_length
    → block_of (patch b (head_length + place_length * i) vs)
    ≡ in_block (endpoint_of b) (slot_of b) (mode_of (get_or b 3 0)) (state_of (get_or b 6 0) (le_field 8 8 b)) (held_count b)
    (set (places b) i (place_of In (vs ++ drop (head_length + place_length * i + length vs) b)))
block-stored b vs i long h short =
    block-behind b vs (head_length + place_length * i) (omega arith) (stored-fits In head_length b vs max_held i long h short) _ (places-stored In head_length b vs max_held i long h short)

-- blanks
pub block-blanked : (b : List ℕ) (m : ℕ) → block_length ≤ length b → m ≤ max_held
    → block_of (patch b head_length (replicate (place_length * m) 0))
    ≡ in_block (endpoint_of b) (slot_of b) (mode_of (get_or b 3 0)) (state_of (get_or b 6 0) (le_field 8 8 b)) (held_count b) (cleared m (places b))
block-blanked b m long few =
    block-behind b (replicate (place_length * m) 0) head_length (omega arith) (zeros-fit In head_length b max_held m long few) _
    (places-blanked In head_length b max_held m long few ∙ cleared-blanked m (places b) (omega (arith, length-places b)))

-- ---- The number held and the state

module _ (b : List ℕ) (x y s : ℕ) (long : head_length ≤ length b) where
  abbrev headed : List ℕ
  headed = set (set (set b 4 x) 5 y) 6 s

  pub length-headed : length headed ≡ length b
  length-headed = length-set (set (set b 4 x) 5 y) 6 s ∙ length-set (set b 4 x) 5 y ∙ length-set b 4 x

  get_or-headed : (k : ℕ) → k < 4 → get_or headed k 0 ≡ get_or b k 0
  get_or-headed k h =
      get_or-set_other (set (set b 4 x) 5 y) 6 k s 0 (λ e. omega arith) ∙ get_or-set_other (set b 4 x) 5 k y 0 (λ e. omega arith) ∙ get_or-set_other b 4 k x 0 (λ e. omega arith)

  pub drop-headed : (k : ℕ) → 6 < k → drop k headed ≡ drop k b
  drop-headed k h = drop-set-lt k (set (set b 4 x) 5 y) 6 s (omega arith) ∙ drop-set-lt k (set b 4 x) 5 y (omega arith) ∙ drop-set-lt k b 4 x (omega arith)

  pub block-headed : block_of (set (set (set b 4 x) 5 y) 6 s) ≡ in_block (endpoint_of b) (slot_of b) (mode_of (get_or b 3 0)) (state_of s (le_field 8 8 b)) (x + 256 * y) (places b)
  unfolding block_of
  block-headed =
      let n4 = length-set b 4 x in
      let n5 = length-set (set b 4 x) 5 y in
      let e0 = get_or-headed 0 (omega arith) in
      let e1 = get_or-headed 1 (omega arith) in
      let e2 = get_or-headed 2 (omega arith) in
      let e3 = get_or-headed 3 (omega arith) in
      let e4 : get_or headed 4 0 ≡ x =
      get_or-set_other (set (set b 4 x) 5 y) 6 4 s 0 (λ e. omega arith) ∙ get_or-set_other (set b 4 x) 5 4 y 0 (λ e. omega arith) ∙ get_or-set_same b 4 x 0 (omega arith) in
      let e5 : get_or headed 5 0 ≡ y = get_or-set_other (set (set b 4 x) 5 y) 6 5 s 0 (λ e. omega arith) ∙ get_or-set_same (set b 4 x) 5 y 0 (omega arith) in
      let e6 : get_or headed 6 0 ≡ s = get_or-set_same (set (set b 4 x) 5 y) 6 s 0 (omega arith) in
      let low : le_field 4 1 headed ≡ x = le_field-one 4 headed (omega (arith, length-headed)) ∙ e4 in
      let high : le_field 5 1 headed ≡ y = le_field-one 5 headed (omega (arith, length-headed)) ∙ e5 in
      let held : le_field 4 2 headed ≡ x + 256 * y = le_field-add 4 1 1 headed (omega (arith, length-headed)) ∙ rw (low, high) in
      let e8 = ap (λ (l : List ℕ). le_number (take 8 l)) (drop-headed 8 (omega arith)) in
      let ts = ap (λ (l : List ℕ). places_of In max_held l) (drop-headed head_length (omega arith)) in
      λ j. in_block (record { 0 = id (e0 j) (e1 j) }) (record { 0 = id (e0 j) (e2 j) }) (mode_of (e3 j)) (state_of (e6 j) (e8 j)) (held j) (ts j)

-- the state alone
pub block-stated : (b : List ℕ) (s : ℕ) → head_length ≤ length b
    → block_of (set b 6 s) ≡ in_block (endpoint_of b) (slot_of b) (mode_of (get_or b 3 0)) (state_of s (le_field 8 8 b)) (held_count b) (places b)
unfolding block_of
block-stated b s long =
    let same : (k : ℕ) → k < 6 → get_or (set b 6 s) k 0 ≡ get_or b k 0 = λ k h. get_or-set_other b 6 k s 0 (λ e. omega arith) in
    let n = length-set b 6 s in
    let e6 : get_or (set b 6 s) 6 0 ≡ s = get_or-set_same b 6 s 0 (omega arith) in
    let low : le_field 4 1 (set b 6 s) ≡ le_field 4 1 b = le_field-one 4 (set b 6 s) (omega arith) ∙ same 4 (omega arith) ∙ sym (le_field-one 4 b (omega arith)) in
    let high : le_field 5 1 (set b 6 s) ≡ le_field 5 1 b = le_field-one 5 (set b 6 s) (omega arith) ∙ same 5 (omega arith) ∙ sym (le_field-one 5 b (omega arith)) in
    let held : le_field 4 2 (set b 6 s) ≡ le_field 4 2 b = le_field-add 4 1 1 (set b 6 s) (omega arith) ∙ rw (low, high) (sym (le_field-add 4 1 1 b (omega arith))) in
    let e8 = ap (λ (l : List ℕ). le_number (take 8 l)) (drop-set-lt 8 b 6 s (omega arith)) in
    let ts = ap (λ (l : List ℕ). places_of In max_held l) (drop-set-lt head_length b 6 s (omega arith)) in
    let e0 = same 0 (omega arith) in
    let e1 = same 1 (omega arith) in
    let e2 = same 2 (omega arith) in
    let e3 = same 3 (omega arith) in
    λ j. in_block (record { 0 = id (e0 j) (e1 j) }) (record { 0 = id (e0 j) (e2 j) }) (mode_of (e3 j)) (state_of (e6 j) (e8 j)) (held j) (ts j)

-- ---- The address

pub block-addressed : (b : List ℕ) (a : ℕ) → head_length ≤ length b → a < 256 ^ 8
    → block_of (patch b 8 (le_bytes 8 a)) ≡ in_block (endpoint_of b) (slot_of b) (mode_of (get_or b 3 0)) (state_of (get_or b 6 0) a) (held_count b) (places b)
unfolding block_of
block-addressed b a long small =
    let vs : List ℕ = le_bytes 8 a in
    let e0 = get_or-patch-before b 8 vs long 0 (omega arith) in
    let e1 = get_or-patch-before b 8 vs long 1 (omega arith) in
    let e2 = get_or-patch-before b 8 vs long 2 (omega arith) in
    let e3 = get_or-patch-before b 8 vs long 3 (omega arith) in
    let e6 = get_or-patch-before b 8 vs long 6 (omega arith) in
    let e4 = ap le_number (take-drop-before b 8 vs long 2 4 (omega arith)) in
    let e8 : le_field 8 8 (patch b 8 vs) ≡ a = ap (λ (l : List ℕ). le_number (take 8 l)) (drop-patch b 8 vs (omega arith)) ∙ le_number-le_bytes 8 a small in
    let ts = ap (λ (l : List ℕ). places_of In max_held l) (drop-behind b 8 vs long head_length (omega arith)) in
    λ j. in_block (record { 0 = id (e0 j) (e1 j) }) (record { 0 = id (e0 j) (e2 j) }) (mode_of (e3 j)) (state_of (e6 j) (e8 j)) (e4 j) (ts j)

-- ---- The layout, the ids and the mode

pub block-named : (b : List ℕ) (e s m : ℕ) → head_length ≤ length b
    → block_of (patch b 0 (in_layout ∷ e ∷ s ∷ m ∷ [])) ≡ in_block (record { 0 = e }) (record { 0 = s }) (mode_of m) (state_of (get_or b 6 0) (le_field 8 8 b)) (held_count b) (places b)
unfolding block_of
block-named b e s m long =
    let vs : List ℕ = in_layout ∷ e ∷ s ∷ m ∷ [] in
    let fits : 0 + length vs ≤ length b = omega arith in
    let e0 : get_or (patch b 0 vs) 0 0 ≡ in_layout = get_or-patch-in b 0 vs fits 0 (omega arith) in
    let e1 : get_or (patch b 0 vs) 1 0 ≡ e = get_or-patch-in b 0 vs fits 1 (omega arith) in
    let e2 : get_or (patch b 0 vs) 2 0 ≡ s = get_or-patch-in b 0 vs fits 2 (omega arith) in
    let e3 : get_or (patch b 0 vs) 3 0 ≡ m = get_or-patch-in b 0 vs fits 3 (omega arith) in
    let rest : (k : ℕ) → 4 ≤ k → drop k (patch b 0 vs) ≡ drop k b = λ k h. drop-behind b 0 vs fits k h in
    let e6 = get_or-patch-behind b 0 vs fits 6 (omega arith) in
    let e4 = ap (λ (l : List ℕ). le_number (take 2 l)) (rest 4 (omega arith)) in
    let e8 = ap (λ (l : List ℕ). le_number (take 8 l)) (rest 8 (omega arith)) in
    let ts = ap (λ (l : List ℕ). places_of In max_held l) (rest head_length (omega arith)) in
    λ j. in_block (record { 0 = id (e0 j) (e1 j) }) (record { 0 = id (e0 j) (e2 j) }) (mode_of (e3 j)) (state_of (e6 j) (e8 j)) (e4 j) (ts j)
