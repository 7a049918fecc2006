-- Laws of places behind a head of any length: where each is read, what a store and zeros make of them, and that the bytes of a TRB that is
-- held say it. Assumes nothing.
use Prim.Native.Nat.{ℕ, zero, suc, ◌+◌, ◌*◌, ◌-◌, ◌%◌, ◌^◌, ◌<◌, ◌≤◌}
use mathlib.Core.Bool.{Bool, true, false, cond, ◌||◌}
use mathlib.Core.Path.{◌≡◌, refl, sym, ap, ◌∙◌}
use mathlib.Core.List.{List, ◌∷◌, ◌++◌, append_assoc, map}
use mathlib.Core.Logic.{⊎_elim}
use native.Mathlib.Nat.{not-suc-le-zero, eq-or-lt_of_le, mul-suc}
use native.Mathlib.Omega.{arith}
use lib.Dec.{eqb}
use lib.ListN.{length, take, drop, get_or, set, length-set, length-drop, length-append, replicate, length-replicate, get_or-replicate, replicate-append-replicate, get_or-append}
use lib.Seq.{drop-drop, drop_at, get_or-drop, get_or-take, get_or-append-add, get_or-set_same, get_or-set_other, ext_get_or}
use Rattle.std.specs.Simd.{first_chunks}
use Rattle.trb.proofs.TestLaws.{le-or-lt}
use Rattle.trb.specs.Limits.{max_transfer_length}
use Rattle.trb.specs.Trbs.{transfer_length}
use Rattle.trb.specs.declared.TransferTrb.{TransferTrb}
use Rattle.trb.specs.declared.TransferTrbVariant.{TransferTrbVariant}
use Rattle.trb.specs.declared.TransferTrbVariant.TheVariants.{SetupStage, DataStage, StatusStage, Normal, EventData, NoOp, Isoch, Unrecognized}
use Rattle.buffers.specs.Patch.{patch}
use Rattle.buffers.specs.LittleEndian.{le_bytes, le_number}
use Rattle.buffers.proofs.LittleEndianLaws.{le_number-le_bytes}
use Rattle.buffers.proofs.PatchLaws.{drop-patch}
use Rattle.held.specs.Places.{blank_trb, past_end}
use Rattle.held.specs.Sound.{supported}
use Rattle.held.specs.declared.EndpointKind.{EndpointKind}
use Rattle.held.specs.declared.EndpointKind.TheVariants.{In, Control}
use Rattle.held.proofs.PlaceLaws.{blanked}
use Rattle.raw_trb.specs.Layouts.{normal_type, setup_stage_type, data_stage_type, status_stage_type, isoch_type, event_data_type, no_op_type}
use Rattle.held_bytes.specs.Numbers.{normal_of, setup_stage_of, data_stage_of, status_stage_of, event_data_of, no_op_of, variant_of, trb_of}
use Rattle.held_bytes.specs.Places.{place_length, held_type, place_of, places_of, place_bytes}
use Rattle.held_bytes.specs.declared.TrbNumbers.{TrbNumbers}
use Rattle.held_bytes.proofs.ByteLaws.{take-drop-take, take-drop-before, drop-behind}

-- ---- Where each place is read

module _ (k : EndpointKind) where
  pub length-places_of : (n : ℕ) (l : List ℕ) → length (places_of k n l) ≡ n
  unfolding places_of
  length-places_of zero l = refl
  length-places_of (suc n) l = ap suc (length-places_of n (drop place_length l))

  next_place : (i : ℕ) → place_length + place_length * i ≡ place_length * suc i
  next_place i = rw mul-suc (omega arith)

  get_or-places_of : (n : ℕ) (l : List ℕ) (i : ℕ) (d : TransferTrb) → i < n → get_or (places_of k n l) i d ≡ place_of k (drop (place_length * i) l)
  unfolding places_of
  get_or-places_of zero l i d h = absurd (not-suc-le-zero h)
  get_or-places_of (suc n) l zero d h = refl
  get_or-places_of (suc n) l (suc i) d h =
      get_or-places_of n (drop place_length l) i d (omega arith) ∙ ap (place_of k) (drop-drop (place_length * i) place_length l ∙ ap (λ (m : ℕ). drop m l) (next_place i))

  pub take-places_of : (n m : ℕ) (l : List ℕ) → n ≤ m → take n (places_of k m l) ≡ places_of k n l
  unfolding places_of
  take-places_of zero m l h = refl
  take-places_of (suc n) zero l h = absurd (not-suc-le-zero h)
  take-places_of (suc n) (suc m) l h = ap (λ (ts : List TransferTrb). place_of k l ∷ ts) (take-places_of n m (drop place_length l) (omega arith))

  -- place number i, behind a head
  pub place_at : (head : ℕ) (b : List ℕ) (n i : ℕ) (d : TransferTrb) → i < n → get_or (places_of k n (drop head b)) i d ≡ place_of k (drop (head + place_length * i) b)
  place_at head b n i d h = get_or-places_of n (drop head b) i d h ∙ ap (place_of k) (drop-drop (place_length * i) head b)

  -- a place is its first 24 bytes
  place-take : (l : List ℕ) → place_of k (take place_length l) ≡ place_of k l
  unfolding place_of
  place-take l =
      rw (take-drop-take 8 0 place_length l (omega arith), take-drop-take 8 8 place_length l (omega arith), take-drop-take 4 16 place_length l (omega arith), get_or-take place_length l 20 0 (omega arith), get_or-take place_length l 21 0 (omega arith))

  -- the places by their bytes
  pub chunked : (n m : ℕ) (l : List ℕ) → n ≤ m → map (place_of k) (take n (first_chunks place_length m l)) ≡ places_of k n l
  unfolding places_of
  chunked zero m l h = refl
  chunked (suc n) zero l h = absurd (omega (arith, h))
  chunked (suc n) (suc m) l h = λ i. place-take l i ∷ chunked n m (drop place_length l) (omega (arith, h)) i

  place_same : (l m : List ℕ) → take place_length l ≡ take place_length m → place_of k l ≡ place_of k m
  place_same l m e = sym (place-take l) ∙ ap (place_of k) e ∙ place-take m

-- ---- A place stored: bytes laid over place number i

module _ (k : EndpointKind) (head : ℕ) (b vs : List ℕ) (n i : ℕ) (long : head + place_length * n ≤ length b) (h : i < n) (short : length vs ≤ place_length) where
  pub stored-fits : head + place_length * i + length vs ≤ length b
  stored-fits = omega arith

  pub places-stored : places_of k n (drop head (patch b (head + place_length * i) vs)) ≡ set (places_of k n (drop head b)) i (place_of k (vs ++ drop (head + place_length * i + length vs) b))
  places-stored =
      let at : ℕ = head + place_length * i in
      let t : TransferTrb = place_of k (vs ++ drop (at + length vs) b) in
      let new : List ℕ = drop head (patch b at vs) in
      let old : List TransferTrb = places_of k n (drop head b) in
      let count : length (places_of k n new) ≡ n = length-places_of k n new in
      let same : length old ≡ n = length-places_of k n (drop head b) in
      ext_get_or past_end (places_of k n new) (set old i t) (count ∙ sym (length-set old i t ∙ same))
      (λ j hj. let few : j < n = omega arith in
      place_at k head (patch b at vs) n j past_end few
      ∙ ⊎_elim
      (λ (le : i ≤ j). ⊎_elim
      (λ (e : i ≡ j). ap (λ (m : ℕ). place_of k (drop (head + place_length * m) (patch b at vs))) (sym e) ∙ ap (place_of k) (drop-patch b at vs (omega (arith, stored-fits)))
      ∙ sym (get_or-set_same old i t past_end (omega arith)) ∙ ap (λ (m : ℕ). get_or (set old i t) m past_end) e)
      (λ (lt : i < j). ap (place_of k) (drop-behind b at vs stored-fits (head + place_length * j) (omega arith))
      ∙ sym (place_at k head b n j past_end few) ∙ sym (get_or-set_other old i j t past_end (λ e. omega arith)))
      (eq-or-lt_of_le le))
      (λ (lt : j < i). place_same k _ _ (take-drop-before b at vs stored-fits place_length (head + place_length * j) (omega arith))
      ∙ sym (place_at k head b n j past_end few) ∙ sym (get_or-set_other old i j t past_end (λ e. omega arith)))
      (le-or-lt i j))

-- ---- Zeros are blank places

zero-place : (k : EndpointKind) (rest : List ℕ) → place_of k (replicate place_length 0 ++ rest) ≡ blank_trb
unfolding place_of variant_of
zero-place In rest = refl
zero-place Control rest = refl

module _ (k : EndpointKind) (head : ℕ) (b : List ℕ) (n m : ℕ) (long : head + place_length * n ≤ length b) (few : m ≤ n) where
  abbrev zeros : ℕ → List ℕ
  zeros j = replicate (place_length * j) 0

  pub zeros-fit : head + length (zeros m) ≤ length b
  zeros-fit = let e : length (zeros m) ≡ place_length * m = length-replicate (place_length * m) 0 in omega arith

  -- place number j of the zeros
  drop-zeros : (j : ℕ) → j < m → drop (head + place_length * j) (patch b head (zeros m))
      ≡ replicate place_length 0 ++ (zeros (m - suc j) ++ drop (head + length (zeros m)) b)
  drop-zeros j h =
      let rest : List ℕ = drop (head + length (zeros m)) b in
      let left : ℕ = m - suc j in
      let e : place_length * j + (place_length + place_length * left) ≡ place_length * m = omega arith in
      let split : zeros m ≡ zeros j ++ (replicate place_length 0 ++ zeros left) =
      ap (λ (x : ℕ). replicate {A = ℕ} x 0) (sym e) ∙ sym (replicate-append-replicate (place_length * j) (place_length + place_length * left) 0)
      ∙ ap (λ (x : List ℕ). zeros j ++ x) (sym (replicate-append-replicate place_length (place_length * left) 0)) in
      sym (drop-drop (place_length * j) head (patch b head (zeros m)))
      ∙ ap (drop (place_length * j)) (drop-patch b head (zeros m) (omega (arith, zeros-fit)))
      ∙ ap (λ (x : List ℕ). drop (place_length * j) (x ++ rest)) split
      ∙ ap (drop (place_length * j)) (append_assoc (zeros j) (replicate place_length 0 ++ zeros left) rest)
      ∙ drop_at (zeros j) ((replicate place_length 0 ++ zeros left) ++ rest) (place_length * j) (length-replicate (place_length * j) 0)
      ∙ append_assoc (replicate place_length 0) (zeros left) rest

  pub places-blanked : places_of k n (drop head (patch b head (zeros m))) ≡ blanked m (places_of k n (drop head b))
  unfolding blanked
  places-blanked =
      let new : List ℕ = drop head (patch b head (zeros m)) in
      let old : List TransferTrb = places_of k n (drop head b) in
      let blanks : List TransferTrb = replicate m blank_trb in
      let c : length (places_of k n new) ≡ n = length-places_of k n new in
      let s : length old ≡ n = length-places_of k n (drop head b) in
      let r : length blanks ≡ m = length-replicate m blank_trb in
      let z : length (zeros m) ≡ place_length * m = length-replicate (place_length * m) 0 in
      ext_get_or past_end (places_of k n new) (blanks ++ drop m old) (omega (arith, length-append blanks (drop m old), length-drop m old))
      (λ j hj. let less : j < n = omega arith in
      place_at k head (patch b head (zeros m)) n j past_end less
      ∙ ⊎_elim
      (λ (le : m ≤ j).
      let e : m + (j - m) ≡ j = omega arith in
      ap (place_of k) (drop-behind b head (zeros m) zeros-fit (head + place_length * j) (omega arith)) ∙ sym (place_at k head b n j past_end less)
      ∙ ap (λ (x : ℕ). get_or old x past_end) (sym e) ∙ sym (get_or-drop m old (j - m) past_end)
      ∙ sym (get_or-append-add blanks (drop m old) (j - m) past_end) ∙ ap (λ (x : ℕ). get_or (blanks ++ drop m old) (x + (j - m)) past_end) r
      ∙ ap (λ (x : ℕ). get_or (blanks ++ drop m old) x past_end) e)
      (λ (lt : j < m). ap (place_of k) (drop-zeros j lt) ∙ zero-place k (zeros (m - suc j) ++ drop (head + length (zeros m)) b)
      ∙ sym (get_or-append blanks (drop m old) past_end j (omega arith) ∙ get_or-replicate m j blank_trb past_end lt))
      (le-or-lt m j))

-- ---- A place's bytes say the TRB that is held there

never : {A : Type 0} → false ≡ true → A
never e = let z : ◌≡◌ {A = ℕ} 0 1 = ap (λ (x : Bool). cond x 1 0) e in absurd (omega arith)

-- by which types a number is: Normal, Setup, Data, Status, Isoch, Event Data, NoOp
module _ (flags value len : ℕ) where
  abbrev variant_by : Bool → Bool → Bool → Bool → Bool → Bool → Bool → TransferTrbVariant
  variant_by n u d t i e o =
      cond n (Normal (normal_of flags value len))
      (cond u (SetupStage (setup_stage_of flags value))
      (cond d (DataStage (data_stage_of flags value len))
      (cond t (StatusStage (status_stage_of flags)) (cond i Isoch (cond e (EventData (event_data_of flags value)) (cond o (NoOp (no_op_of flags)) Unrecognized))))))

  kept_in : (n u d t i e o : Bool) → supported In (variant_by n u d t i e o) ≡ true → variant_of (cond n normal_type (cond e event_data_type no_op_type)) flags value len ≡ variant_by n u d t i e o
  unfolding variant_of
  kept_in true u d t i e o s = refl
  kept_in false true d t i e o s = never s
  kept_in false false true t i e o s = never s
  kept_in false false false true i e o s = never s
  kept_in false false false false true e o s = never s
  kept_in false false false false false true o s = refl
  kept_in false false false false false false true s = refl
  kept_in false false false false false false false s = never s

  kept-control : (kind : ℕ) (n u d t i e o : Bool) → supported Control (variant_by n u d t i e o) ≡ true
      → variant_of (cond (n || (u || (d || (t || e)))) kind no_op_type) flags value len ≡ variant_of kind flags value len
  kept-control kind true u d t i e o s = refl
  kept-control kind false true d t i e o s = refl
  kept-control kind false false true t i e o s = refl
  kept-control kind false false false true i e o s = refl
  kept-control kind false false false false true e o s = never s
  kept-control kind false false false false false true o s = refl
  kept-control kind false false false false false false true s = never s
  kept-control kind false false false false false false false s = never s

  -- a TRB that is held keeps its type
  type-kept : (k : EndpointKind) (kind : ℕ) → supported k (variant_of kind flags value len) ≡ true → variant_of (held_type k kind) flags value len ≡ variant_of kind flags value len
  unfolding variant_of
  type-kept In kind s =
      kept_in (eqb kind normal_type) (eqb kind setup_stage_type) (eqb kind data_stage_type) (eqb kind status_stage_type) (eqb kind isoch_type) (eqb kind event_data_type) (eqb kind no_op_type) s
  type-kept Control kind s =
      kept-control kind (eqb kind normal_type) (eqb kind setup_stage_type) (eqb kind data_stage_type) (eqb kind status_stage_type) (eqb kind isoch_type) (eqb kind event_data_type) (eqb kind no_op_type) s

-- so does its length
module _ (flags value len : ℕ) where
  small : len ≤ max_transfer_length → len % (max_transfer_length + 1) ≡ len
  small h = omega arith

  kept-length : (n u d t i e o : Bool) → transfer_length (variant_by flags value len n u d t i e o) ≤ max_transfer_length
      → variant_by flags value (len % (max_transfer_length + 1)) n u d t i e o ≡ variant_by flags value len n u d t i e o
  kept-length true u d t i e o h = ap (λ (x : ℕ). Normal (normal_of flags value x)) (small h)
  kept-length false true d t i e o h = refl
  kept-length false false true t i e o h = ap (λ (x : ℕ). DataStage (data_stage_of flags value x)) (small h)
  kept-length false false false true i e o h = refl
  kept-length false false false false true e o h = refl
  kept-length false false false false false true o h = refl
  kept-length false false false false false false true h = refl
  kept-length false false false false false false false h = refl

  length-kept : (kind : ℕ) → transfer_length (variant_of kind flags value len) ≤ max_transfer_length
      → variant_of kind flags value (len % (max_transfer_length + 1)) ≡ variant_of kind flags value len
  unfolding variant_of
  length-kept kind h =
      kept-length (eqb kind normal_type) (eqb kind setup_stage_type) (eqb kind data_stage_type) (eqb kind status_stage_type) (eqb kind isoch_type) (eqb kind event_data_type) (eqb kind no_op_type) h

-- whatever stands behind them
pub place-said : (k : EndpointKind) (n : TrbNumbers) (rest : List ℕ) → n.addr < 256 ^ 8 → n.value < 256 ^ 8 → n.transfer_length < 256 ^ 4
    → transfer_length (trb_of n).variant ≤ max_transfer_length → supported k (trb_of n).variant ≡ true → place_of k (place_bytes n ++ rest) ≡ trb_of n
unfolding place_of
place-said k n rest ha hv hl short s =
    let f = n.flags in
    let v = n.value in
    let l = n.transfer_length in
    let la : le_number (le_bytes 8 n.addr) ≡ n.addr = le_number-le_bytes 8 n.addr ha in
    let lv : le_number (le_bytes 8 v) ≡ v = le_number-le_bytes 8 v hv in
    let ll : le_number (le_bytes 4 l) ≡ l = le_number-le_bytes 4 l hl in
    let same = length-kept f v l n.kind short in
    let kept : variant_of (held_type k n.kind) f v (l % (max_transfer_length + 1)) ≡ variant_of n.kind f v l =
    type-kept f v (l % (max_transfer_length + 1)) k n.kind (ap (supported k) same ∙ s) ∙ same in
    (λ j. record { variant = variant_of (held_type k n.kind) f (lv j) (ll j % (max_transfer_length + 1)); addr = la j; cycle_bit = (trb_of n).cycle_bit })
    ∙ (λ j. record { variant = kept j; addr = n.addr; cycle_bit = (trb_of n).cycle_bit })
