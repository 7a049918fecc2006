-- Laws of what is held in the places: each is sound whatever its bytes, what a loop over them counts, and which facts of them the
-- questions need. Assumes nothing.
use Prim.Native.Nat.{ℕ, zero, suc, ◌+◌, ◌*◌, ◌%◌, ◌<◌, ◌≤◌}
use mathlib.Core.Path.{◌≡◌, refl, sym, ap, ◌∙◌}
use mathlib.Core.Bool.{Bool, true, false, cond, not, ◌||◌}
use mathlib.Core.List.{List, [], ◌∷◌, map}
use native.Mathlib.Nat.{zero-add}
use native.Mathlib.Numerals.{add-one}
use native.Mathlib.Omega.{arith}
use lib.Dec.{eqb}
use lib.ListN.{length, length-map, take, drop, get_or, drop_of_length-le}
use lib.Seq.{drop-cons}
use borrow.Author.Tests.{le-leb, ne_eqb}
use Rattle.std.specs.List.{list_any}
use Rattle.std.specs.Simd.{first_chunks}
use Rattle.trb.specs.Limits.{max_held, max_transfer_length}
use Rattle.held.specs.Places.{past_end}
use Rattle.held.specs.Sound.{sound_trb}
use Rattle.held.specs.declared.EndpointKind.TheVariants.{In}
use Rattle.walks.specs.All.{all}
use Rattle.in_td.specs.Normals.{normal_of, length_of, requested}
use Rattle.buffers.specs.LittleEndian.{le_field}
use Rattle.in_request.proofs.RequestedLaws.{requested-sound}
use Rattle.in_td.specs.Td.{is_normal, normal_count, normals}
use Rattle.in_block.specs.Facts.{in_sound}
use Rattle.raw_trb.specs.Layouts.{normal_type, event_data_type, no_op_type}
use Rattle.held_bytes.specs.Numbers.{variant_of}
use Rattle.held_bytes.specs.Places.{place_length, place_of, places_of}
use Rattle.held_bytes.proofs.PlaceLaws.{length-places_of, take-places_of, place_at, chunked}
use Rattle.in_bytes.specs.Layout.{head_length, places}

-- ---- What a place can say

module _ (flags value len : ℕ) where
  normal-read : (n e : Bool) → is_normal (variant_of (cond n normal_type (cond e event_data_type no_op_type)) flags value len) ≡ n
  unfolding variant_of
  normal-read true e = refl
  normal-read false true = refl
  normal-read false false = refl

  sound-by : (n e : Bool) → len ≤ max_transfer_length → in_sound (variant_of (cond n normal_type (cond e event_data_type no_op_type)) flags value len) ≡ true
  unfolding variant_of
  sound-by true e h = le-leb _ _ h
  sound-by false true h = refl
  sound-by false false h = refl

  length-by : (n e : Bool) → length_of (normal_of (variant_of (cond n normal_type (cond e event_data_type no_op_type)) flags value len)) ≡ cond n len 0
  unfolding variant_of
  length-by true e = refl
  length-by false true = refl
  length-by false false = refl

-- a Normal, by its type
pub normal-place : (l : List ℕ) → is_normal (place_of In l).variant ≡ eqb (get_or l 20 0) normal_type
unfolding place_of
normal-place l = normal-read _ _ _ (eqb (get_or l 20 0) normal_type) (eqb (get_or l 20 0) event_data_type)

-- its length
pub length-place : (l : List ℕ) → length_of (normal_of (place_of In l).variant) ≡ cond (is_normal (place_of In l).variant) (le_field 16 4 l % (max_transfer_length + 1)) 0
unfolding place_of
length-place l =
    length-by _ _ _ (eqb (get_or l 20 0) normal_type) (eqb (get_or l 20 0) event_data_type)
    ∙ ap (λ (x : Bool). cond x (le_field 16 4 l % (max_transfer_length + 1)) 0) (sym (normal-place l))

-- whatever its bytes, a place is of a kind that is held and its length within the limit
sound-place : (l : List ℕ) → sound_trb In (place_of In l) ≡ true
unfolding place_of sound_trb
sound-place l = sound-by _ _ _ (eqb (get_or l 20 0) normal_type) (eqb (get_or l 20 0) event_data_type) (omega arith)

pub sound-places : (n : ℕ) (l : List ℕ) → all (sound_trb In) (places_of In n l) ≡ true
unfolding places_of all
sound-places zero l = refl
sound-places (suc n) l = rw (sound-place l) (sound-places n (drop place_length l))

pub length-places : (b : List ℕ) → length (places b) ≡ max_held
length-places b = length-places_of In max_held (drop head_length b)

pub placed : (b : List ℕ) (i : ℕ) → i < max_held → get_or (places b) i past_end ≡ place_of In (drop (head_length + place_length * i) b)
placed b i h = place_at In head_length b max_held i past_end h

-- ---- The places by their bytes

pub held-chunks : (b : List ℕ) (n m : ℕ) → n ≤ max_held → n ≤ m → map (place_of In) (take n (first_chunks place_length m (drop head_length b))) ≡ take n (places b)
held-chunks b n m few h = chunked In n m (drop head_length b) h ∙ sym (take-places_of In n max_held (drop head_length b) few)

-- the next place, and those behind it
cells-next : (cells : List (List ℕ)) (i : ℕ) → i < length cells → map (place_of In) (drop i cells) ≡ place_of In (get_or cells i []) ∷ map (place_of In) (drop (i + 1) cells)
cells-next cells i h = rw add-one (ap (map (place_of In)) (drop-cons cells i [] h))

-- how many Normals the places hold
abbrev pub normals-in : List (List ℕ) → ℕ
normals-in cells = normals (map (place_of In) cells)

pub normals-next : (cells : List (List ℕ)) (i : ℕ) → i < length cells
    → normals-in (drop i cells) ≡ normal_count (place_of In (get_or cells i [])).variant + normals-in (drop (i + 1) cells)
normals-next cells i h = ap normals (cells-next cells i h)

pub normals-none : (cells : List (List ℕ)) (i : ℕ) → length cells ≤ i → normals-in (drop i cells) ≡ 0
normals-none cells i h = ap normals-in (drop_of_length-le cells {i = i} h)

-- what they request: no more than so many lengths
abbrev pub requested-in : List (List ℕ) → ℕ
requested-in cells = requested (map (place_of In) cells)

sound-cells : (cells : List (List ℕ)) → all (sound_trb In) (map (place_of In) cells) ≡ true
unfolding all
sound-cells [] = refl
sound-cells (l ∷ cells) = rw (sound-place l) (sound-cells cells)

pub requested-few : (cells : List (List ℕ)) → requested-in cells ≤ max_transfer_length * length cells
requested-few cells = omega (arith, length-map cells (place_of In), requested-sound (map (place_of In) cells) (sound-cells cells))

pub requested-next : (cells : List (List ℕ)) (i : ℕ) → i < length cells
    → requested-in (drop i cells) ≡ length_of (normal_of (place_of In (get_or cells i [])).variant) + requested-in (drop (i + 1) cells)
requested-next cells i h = ap requested (cells-next cells i h)

pub requested-none : (cells : List (List ℕ)) (i : ℕ) → length cells ≤ i → requested-in (drop i cells) ≡ 0
requested-none cells i h = ap requested-in (drop_of_length-le cells {i = i} h)

-- is the TRB of these bytes a Normal?
abbrev pub normal : List ℕ → Bool
normal l = is_normal (place_of In l).variant

-- a TRB more: is the sum not 0?
one-more : (x : Bool) (rest : ℕ) → (x || not (eqb rest 0)) ≡ not (eqb (cond x 1 0 + rest) 0)
one-more true rest = sym (ap not (ne_eqb (1 + rest) 0 (λ e. omega (arith, e))))
one-more false rest = ap (λ (x : ℕ). not (eqb x 0)) (sym (zero-add rest))

-- one of them is a Normal
pub some-normal : (cells : List (List ℕ)) → list_any normal cells ≡ not (eqb (normals-in cells) 0)
some-normal [] = refl
some-normal (l ∷ cells) = ap (λ (x : Bool). normal l || x) (some-normal cells) ∙ one-more (is_normal (place_of In l).variant) (normals-in cells)
