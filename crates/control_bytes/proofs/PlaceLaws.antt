-- Laws of the places: where each is read, that each is sound whatever its bytes, and what the stores leave. Assumes nothing.
use Prim.Native.Nat.{ℕ, zero, suc, ◌+◌, ◌*◌, ◌-◌, ◌%◌, ◌^◌, ◌<◌, ◌≤◌, min}
use mathlib.Core.Path.{◌≡◌, refl, sym, ap, ◌∙◌}
use mathlib.Core.Bool.{Bool, true, false, ◌||◌, cond}
use mathlib.Core.List.{List, [], ◌∷◌, ◌++◌, append_assoc}
use mathlib.Core.Logic.{⊎_elim}
use native.Mathlib.Nat.{not-suc-le-zero, mul-suc}
use native.Mathlib.Omega.{arith}
use lib.Dec.{eqb}
use lib.ListN.{length, take, drop, get_or, set, replicate, length-append, length-replicate, replicate-append-replicate}
use lib.Seq.{take-append-le, take_all, drop_at, drop-drop, get_or-take, set_at}
use borrow.Author.Tests.{le-leb}
use Rattle.buffers.specs.Patch.{patch}
use Rattle.buffers.specs.LittleEndian.{le_bytes, le_number, le_field}
use Rattle.buffers.proofs.LittleEndianLaws.{le_number-le_bytes}
use Rattle.buffers.proofs.PatchLaws.{length-patch, drop-patch, get_or-patch-before}
use Rattle.trb.proofs.TestLaws.{le-or-lt}
use Rattle.trb.specs.Limits.{max_held, max_transfer_length}
use Rattle.trb.specs.Trbs.{transfer_length}
use Rattle.trb.specs.declared.TransferTrb.{TransferTrb}
use Rattle.held.specs.Places.{blank_trb, cleared}
use Rattle.held.proofs.PlaceLaws.{cleared-all}
use Rattle.held.specs.Sound.{supported, sound_trb}
use Rattle.held.specs.declared.EndpointKind.TheVariants.{Control}
use Rattle.walks.specs.All.{all}
use Rattle.held_bytes.specs.declared.TrbNumbers.{TrbNumbers}
use Rattle.held_bytes.specs.Numbers.{variant_of, trb_of}
use Rattle.held_bytes.specs.Places.{place_length, control_layout, numbers_at, place_bytes}
use Rattle.held_bytes.proofs.ByteLaws.{take-drop-take, take-drop-before, drop-behind}
use Rattle.control_block.specs.Numbers.{release_of, phase_of}
use Rattle.control_bytes.specs.Head.{direction_of, transfer_at}
use Rattle.control_bytes.specs.Layout.{head_length, block_length, held_type, place_of, places_of, held_places, places_in, block_of}
use Rattle.control_bytes.specs.Stores.{Placed}

pub length-places_of : (n : ℕ) (l : List ℕ) → length (places_of n l) ≡ n
unfolding places_of
length-places_of zero l = refl
length-places_of (suc n) l = ap suc (length-places_of n (drop place_length l))

pub length-places_in : (held : ℕ) (l : List ℕ) → length (places_in held l) ≡ max_held
unfolding places_in
length-places_in held l =
    let blanks : List TransferTrb = replicate (max_held - held_places held) blank_trb in
    omega (arith, length-append (places_of (held_places held) l) blanks, length-places_of (held_places held) l, length-replicate (max_held - held_places held) blank_trb)

next_place : (i : ℕ) → place_length + place_length * i ≡ place_length * suc i
next_place i = rw mul-suc (omega arith)

-- place number i, counted from the start of l
from_next : (i : ℕ) (l : List ℕ) → drop (place_length * i) (drop place_length l) ≡ drop (place_length * suc i) l
from_next i l = drop-drop (place_length * i) place_length l ∙ ap (λ (k : ℕ). drop k l) (next_place i)

pub take-places_of : (n m : ℕ) (l : List ℕ) → n ≤ m → take n (places_of m l) ≡ places_of n l
unfolding places_of
take-places_of zero m l h = refl
take-places_of (suc n) zero l h = absurd (not-suc-le-zero h)
take-places_of (suc n) (suc m) l h = ap (λ (ts : List TransferTrb). place_of l ∷ ts) (take-places_of n m (drop place_length l) (omega arith))

-- the first n of those held
pub take-places_in : (n held : ℕ) (l : List ℕ) → n ≤ held_places held → take n (places_in held l) ≡ places_of n l
unfolding places_in
take-places_in n held l h =
    let count : length (places_of (held_places held) l) ≡ held_places held = length-places_of (held_places held) l in
    take-append-le n (places_of (held_places held) l) (replicate (max_held - held_places held) blank_trb) (omega arith) ∙ take-places_of n (held_places held) l h

-- all that are held
pub held-places_in : (held : ℕ) (l : List ℕ) → take held (places_in held l) ≡ places_of (held_places held) l
held-places_in held l =
    ⊎_elim
    (λ (le : held ≤ max_held). let e : held_places held ≡ held = omega arith in
    take-places_in held held l (omega arith) ∙ ap (λ (n : ℕ). places_of n l) (sym e))
    (λ (lt : max_held < held). let all_held : held_places held ≡ max_held = omega arith in
    take_all held (places_in held l) (omega (arith, length-places_in held l))
    ∙ sym (take_all (held_places held) (places_in held l) (omega (arith, length-places_in held l)))
    ∙ take-places_in (held_places held) held l (omega arith))
    (le-or-lt held max_held)

-- ---- A place that is held is sound

module _ (kind flags value len : ℕ) (short : len ≤ max_transfer_length) where
  sound-by : (a b c d : Bool) → eqb kind 1 ≡ a → eqb kind 2 ≡ b → eqb kind 3 ≡ c → eqb kind 4 ≡ d → (addr : ℕ) (cycle : Bool)
      → sound_trb Control (record { variant = variant_of (cond (a || (b || (c || d))) kind 7) flags value len; addr = addr; cycle_bit = cycle }) ≡ true
  unfolding sound_trb variant_of
  sound-by true b c d ea eb ec ed addr cycle = rw ea (le-leb _ _ short)
  sound-by false true c d ea eb ec ed addr cycle = rw (ea, eb)
  sound-by false false true d ea eb ec ed addr cycle = rw (ea, eb, ec) (le-leb _ _ short)
  sound-by false false false true ea eb ec ed addr cycle = rw (ea, eb, ec, ed)
  sound-by false false false false ea eb ec ed addr cycle = refl

sound-place : (l : List ℕ) → sound_trb Control (place_of l) ≡ true
unfolding place_of
sound-place l =
    let n : TrbNumbers = numbers_at l in
    sound-by n.kind n.flags n.value n.transfer_length (omega arith) _ _ _ _ refl refl refl refl _ _

pub sound-places : (n : ℕ) (l : List ℕ) → all (sound_trb Control) (places_of n l) ≡ true
unfolding places_of all
sound-places zero l = refl
sound-places (suc n) l = rw (sound-place l) (sound-places n (drop place_length l))

-- ---- Places freed

pub places_in-none : (l : List ℕ) → places_in 0 l ≡ replicate max_held blank_trb
unfolding places_in places_of
places_in-none l = refl

cleared-few : (held : ℕ) (l : List ℕ) → held ≤ max_held → cleared held (places_in held l) ≡ replicate max_held blank_trb
unfolding cleared places_in
cleared-few held l few =
    let same : held_places held ≡ held = omega arith in
    let freed : min held (length (places_in held l)) ≡ held = omega (arith, length-places_in held l) in
    let behind : drop held (places_in held l) ≡ replicate (max_held - held) blank_trb =
    ap (λ (k : ℕ). drop held (places_of k l ++ replicate (max_held - k) blank_trb)) same ∙ drop_at (places_of held l) (replicate (max_held - held) blank_trb) held (length-places_of held l) in
    let whole : held + (max_held - held) ≡ max_held = omega arith in
    ap (λ (k : ℕ). replicate k blank_trb ++ drop held (places_in held l)) freed ∙ ap (λ (ts : List TransferTrb). replicate held blank_trb ++ ts) behind
    ∙ replicate-append-replicate held (max_held - held) blank_trb ∙ ap (λ (k : ℕ). replicate k blank_trb) whole

-- all that were held: only blanks are left
pub cleared-places_in : (held : ℕ) (l m : List ℕ) → cleared held (places_in held l) ≡ places_in 0 m
cleared-places_in held l m =
    ⊎_elim (λ (le : held ≤ max_held). cleared-few held l le)
    (λ (lt : max_held < held). cleared-all held (places_in held l) (omega (arith, length-places_in held l)) ∙ ap (λ (k : ℕ). replicate k blank_trb) (length-places_in held l))
    (le-or-lt held max_held)
    ∙ sym (places_in-none m)

-- ---- A place stored

-- a place is its first 24 bytes
place-take : (l : List ℕ) → place_of (take place_length l) ≡ place_of l
unfolding place_of
place-take l =
    rw (take-drop-take 8 0 place_length l (omega arith), take-drop-take 8 8 place_length l (omega arith), take-drop-take 4 16 place_length l (omega arith), get_or-take place_length l 20 0 (omega arith), get_or-take place_length l 21 0 (omega arith))

place_same : (l m : List ℕ) → take place_length l ≡ take place_length m → place_of l ≡ place_of m
place_same l m e = sym (place-take l) ∙ ap place_of e ∙ place-take m

places_same : (n : ℕ) (l m : List ℕ) → ((j : ℕ) → j < n → take place_length (drop (place_length * j) l) ≡ take place_length (drop (place_length * j) m)) → places_of n l ≡ places_of n m
unfolding places_of
places_same zero l m same = refl
places_same (suc n) l m same =
    let first = place_same l m (same 0 (omega arith)) in
    let rest = places_same n (drop place_length l) (drop place_length m) (λ j h. ap (take place_length) (from_next j l) ∙ same (suc j) (omega arith) ∙ ap (take place_length) (sym (from_next j m))) in
    λ i. first i ∷ rest i

places_of-more : (n : ℕ) (l : List ℕ) → places_of (suc n) l ≡ places_of n l ++ (place_of (drop (place_length * n) l) ∷ [])
unfolding places_of
places_of-more zero l = refl
places_of-more (suc n) l = ap (λ (ts : List TransferTrb). place_of l ∷ ts) (places_of-more n (drop place_length l) ∙ ap (λ (t : TransferTrb). places_of n (drop place_length l) ++ (t ∷ [])) (ap place_of (from_next n l)))

-- by which types a number is: Normal, Setup, Data, Status, Isoch, Event Data, NoOp
never : {A : Type 0} → false ≡ true → A
never e = let z : ◌≡◌ {A = ℕ} 0 1 = ap (λ (x : Bool). cond x 1 0) e in absurd (omega arith)

module _ (kind flags value len : ℕ) where
  whole : len ≤ max_transfer_length → variant_of kind flags value (len % (max_transfer_length + 1)) ≡ variant_of kind flags value len
  whole few = let same : len % (max_transfer_length + 1) ≡ len = omega arith in ap (λ (n : ℕ). variant_of kind flags value n) same

  said-by : (n u d t i e o : Bool) → eqb kind 1 ≡ n → eqb kind 2 ≡ u → eqb kind 3 ≡ d → eqb kind 4 ≡ t → eqb kind 5 ≡ i → eqb kind 7 ≡ e → eqb kind 8 ≡ o
      → supported Control (variant_of kind flags value len) ≡ true → transfer_length (variant_of kind flags value len) ≤ max_transfer_length
      → variant_of (cond (n || (u || (d || t))) kind 7) flags value (len % (max_transfer_length + 1)) ≡ variant_of kind flags value len
  unfolding variant_of
  said-by true u d t i e o en eu ed et ei ee eo s h = let few : len ≤ max_transfer_length = rw en at h in whole few
  said-by false true d t i e o en eu ed et ei ee eo s h = rw (en, eu)
  said-by false false true t i e o en eu ed et ei ee eo s h = let few : len ≤ max_transfer_length = rw (en, eu, ed) at h in whole few
  said-by false false false true i e o en eu ed et ei ee eo s h = rw (en, eu, ed, et)
  said-by false false false false true e o en eu ed et ei ee eo s h = never (rw (en, eu, ed, et, ei) at s)
  said-by false false false false false true o en eu ed et ei ee eo s h = rw (en, eu, ed, et, ei, ee)
  said-by false false false false false false true en eu ed et ei ee eo s h = never (rw (en, eu, ed, et, ei, ee, eo) at s)
  said-by false false false false false false false en eu ed et ei ee eo s h = never (rw (en, eu, ed, et, ei, ee, eo) at s)

-- the bytes of a TRB that this endpoint holds say it, whatever stands behind them
place-said : (n : TrbNumbers) (rest : List ℕ) → n.addr < 256 ^ 8 → n.value < 256 ^ 8 → n.transfer_length < 256 ^ 4
    → supported Control (trb_of n).variant ≡ true → transfer_length (trb_of n).variant ≤ max_transfer_length → place_of (place_bytes n ++ rest) ≡ trb_of n
unfolding place_of
place-said n rest ha hv hl s short =
    let la : le_number (le_bytes 8 n.addr) ≡ n.addr = le_number-le_bytes 8 n.addr ha in
    let lv : le_number (le_bytes 8 n.value) ≡ n.value = le_number-le_bytes 8 n.value hv in
    let ll : le_number (le_bytes 4 n.transfer_length) ≡ n.transfer_length = le_number-le_bytes 4 n.transfer_length hl in
    let v = said-by n.kind n.flags n.value n.transfer_length _ _ _ _ _ _ _ refl refl refl refl refl refl refl s short in
    (λ j. record { variant = variant_of (held_type n.kind) n.flags (lv j) (ll j % (max_transfer_length + 1)); addr = la j; cycle_bit = (trb_of n).cycle_bit })
    ∙ (λ j. record { variant = v j; addr = n.addr; cycle_bit = (trb_of n).cycle_bit })

-- bytes laid over place number n, behind those held
module _ (b vs : List ℕ) (n : ℕ) (long : block_length ≤ length b) (room : n < max_held) (short : length vs ≤ place_length) where
  abbrev at : ℕ
  at = head_length + place_length * n

  pub place-fits : at + length vs ≤ length b
  place-fits = omega arith

  places-before : places_of n (drop head_length (patch b at vs)) ≡ places_of n (drop head_length b)
  places-before =
      places_same n (drop head_length (patch b at vs)) (drop head_length b)
      (λ j h. ap (take place_length) (drop-drop (place_length * j) head_length (patch b at vs)) ∙ take-drop-before b at vs place-fits place_length (head_length + place_length * j) (omega arith)
      ∙ ap (take place_length) (sym (drop-drop (place_length * j) head_length b)))

  pub places_in-stored : places_in (n + 1) (drop head_length (patch b at vs)) ≡ set (places_in n (drop head_length b)) n (place_of (vs ++ drop (at + length vs) b))
  unfolding places_in
  places_in-stored =
      let t : TransferTrb = place_of (vs ++ drop (at + length vs) b) in
      let k : ℕ = max_held - suc n in
      let new : List ℕ = drop head_length (patch b at vs) in
      let old : List TransferTrb = places_of n (drop head_length b) in
      let blanks : List TransferTrb = replicate k blank_trb in
      let more : held_places (n + 1) ≡ suc n = omega arith in
      let less : held_places n ≡ n = omega arith in
      let left : max_held - n ≡ suc k = omega arith in
      let said : place_of (drop (place_length * n) new) ≡ t = ap place_of (drop-drop (place_length * n) head_length (patch b at vs) ∙ drop-patch b at vs (omega (arith, place-fits))) in
      let new-side : places_of (held_places (n + 1)) new ++ replicate (max_held - held_places (n + 1)) blank_trb ≡ old ++ (t ∷ blanks) =
      ap (λ (m : ℕ). places_of m new ++ replicate (max_held - m) blank_trb) more ∙ ap (λ (ts : List TransferTrb). ts ++ blanks) (places_of-more n new ∙ (λ i. places-before i ++ (said i ∷ [])))
      ∙ append_assoc old (t ∷ []) blanks in
      let old-side : set (places_of (held_places n) (drop head_length b) ++ replicate (max_held - held_places n) blank_trb) n t ≡ old ++ (t ∷ blanks) =
      ap (λ (m : ℕ). set (places_of m (drop head_length b) ++ replicate (max_held - m) blank_trb) n t) less ∙ ap (λ (m : ℕ). set (old ++ replicate m blank_trb) n t) left
      ∙ set_at old blank_trb blanks t n (length-places_of n (drop head_length b)) in
      new-side ∙ sym old-side

  kept_byte : (k : ℕ) → k < head_length → get_or (patch b at vs) k 0 ≡ get_or b k 0
  kept_byte k h = get_or-patch-before b at vs place-fits k (omega arith)

  kept_field : (k m : ℕ) → k + m ≤ head_length → le_field k m (patch b at vs) ≡ le_field k m b
  kept_field k m h = ap le_number (take-drop-before b at vs place-fits m k (omega arith))

  kept-transfer : transfer_at (patch b at vs) ≡ transfer_at b
  kept-transfer =
      let phase = kept_byte 4 (omega arith) in
      let direction = kept_byte 6 (omega arith) in
      let address = kept_field 16 8 (omega arith) in
      let kind = kept_byte 24 (omega arith) in
      let code = kept_byte 25 (omega arith) in
      let value = kept_field 26 2 (omega arith) in
      let index = kept_field 28 2 (omega arith) in
      let collected = kept_field 32 8 (omega arith) in
      let asked = kept_field 40 4 (omega arith) in
      λ j. record {
        phase = phase_of (phase j);
        direction = direction_of (direction j);
        request = record { address = address j; request_type = kind j; request = code j; value = value j; index = index j; length = asked j };
        collected = collected j;
      }

  pub placed : (t : TransferTrb) (b' : List ℕ) → b' ≡ patch b at vs → place_of (vs ++ drop (at + length vs) b) ≡ t → Placed b n t b'
  unfolding block_of
  placed t b' e said =
      let layout = ap (λ (l : List ℕ). get_or l 0 0) e ∙ kept_byte 0 (omega arith) in
      let endpoint = ap (λ (l : List ℕ). get_or l 1 0) e ∙ kept_byte 1 (omega arith) in
      let slot = ap (λ (l : List ℕ). get_or l 2 0) e ∙ kept_byte 2 (omega arith) in
      let rule = ap (λ (l : List ℕ). get_or l 3 0) e ∙ kept_byte 3 (omega arith) in
      record {
        places = ap (λ (l : List ℕ). places_in (n + 1) (drop head_length l)) e ∙ places_in-stored ∙ ap (λ (x : TransferTrb). set (places_in n (drop head_length b)) n x) said;
        endpoint = λ j. record { 0 = cond (eqb (layout j) control_layout) (endpoint j) 0 };
        slot = λ j. record { 0 = cond (eqb (layout j) control_layout) (slot j) 0 };
        rule = λ j. release_of (rule j);
        transfer = ap transfer_at e ∙ kept-transfer;
        behind = ap (drop block_length) e ∙ drop-behind b at vs place-fits block_length (omega arith);
        long = ap (λ (l : List ℕ). length l) e ∙ length-patch b at vs place-fits;
      }

-- of a TRB by its numbers
pub placed_by : (b : List ℕ) (n : ℕ) (t : TrbNumbers) (b' : List ℕ) → block_length ≤ length b → n < max_held → t.addr < 256 ^ 8 → t.value < 256 ^ 8 → t.transfer_length < 256 ^ 4
    → supported Control (trb_of t).variant ≡ true → transfer_length (trb_of t).variant ≤ max_transfer_length → b' ≡ patch b (head_length + place_length * n) (place_bytes t)
    → Placed b n (trb_of t) b'
placed_by b n t b' long room ha hv hl kept short e =
    placed b (place_bytes t) n long room (omega arith) (trb_of t) b' e (place-said t (drop (head_length + place_length * n + length (place_bytes t)) b) ha hv hl kept short)
