-- Laws of bytes as a row of cells: how many there are, where each is read, and what is read behind the last. Assumes nothing.
use Prim.Native.Nat.{ℕ, zero, suc, ◌+◌, ◌*◌, ◌/◌, ◌<◌, ◌≤◌}
use mathlib.Core.Path.{◌≡◌, refl, ap, ◌∙◌}
use mathlib.Core.List.{List, ◌∷◌, map}
use native.Mathlib.Nat.{not-suc-le-zero, mul-suc, add-zero}
use native.Mathlib.Numerals.{unary_clauses}
use native.Mathlib.Omega.{arith}
use lib.ListN.{length, take, drop, get_or, get_or-eq_default}
use lib.Seq.{drop-drop, get_or-drop, get_or-take}
use Rattle.std.specs.Simd.{first_chunks}
use Rattle.buffers.specs.LittleEndian.{le_field}
use Rattle.held_bytes.specs.Places.{place_length}
use Rattle.held_bytes.proofs.ByteLaws.{take-drop-take}
use Rattle.row_walk.specs.declared.TdResult.{TdResult}
use Rattle.answer_numbers.specs.Numbers.{status_of}
use Rattle.row_bytes.specs.Layout.{cells_of, given_trb, trbs_in, result_length, given_result, results_in}

-- ---- Cells of w bytes each

module _ {A : Type 0} (read : List ℕ → A) (w : ℕ) where
  length-cells : (n : ℕ) (l : List ℕ) → length (cells_of read w n l) ≡ n
  unfolding cells_of
  length-cells zero l = refl
  length-cells (suc n) l = ap suc (length-cells n (drop w l))

  get_or-cells : (n : ℕ) (l : List ℕ) (i : ℕ) (d : A) → i < n → get_or (cells_of read w n l) i d ≡ read (drop (w * i) l)
  unfolding cells_of
  get_or-cells zero l i d h = absurd (not-suc-le-zero h)
  get_or-cells (suc n) l zero d h = simp unary_clauses refl
  get_or-cells (suc n) l (suc i) d h =
      let next : w + w * i ≡ w * suc i = rw mul-suc (omega arith) in
      get_or-cells n (drop w l) i d (omega arith) ∙ ap read (drop-drop (w * i) w l ∙ ap (λ (m : ℕ). drop m l) next)

-- ---- TRBs

pub length-trbs_in : (row : List ℕ) → length (trbs_in row) ≡ length row / place_length
unfolding trbs_in
length-trbs_in row = length-cells given_trb place_length (length row / place_length) row

-- a TRB is its first 24 bytes
given-take : (l : List ℕ) → given_trb (take place_length l) ≡ given_trb l
unfolding given_trb
given-take l =
    rw (
      take-drop-take 8 0 place_length l (omega arith),
      take-drop-take 8 8 place_length l (omega arith),
      take-drop-take 4 16 place_length l (omega arith),
      get_or-take place_length l 20 0 (omega arith),
      get_or-take place_length l 21 0 (omega arith),
    )

given-chunks : (n : ℕ) (l : List ℕ) → map given_trb (first_chunks place_length n l) ≡ cells_of given_trb place_length n l
unfolding cells_of
given-chunks zero l = refl
given-chunks (suc n) l = λ i. given-take l i ∷ given-chunks n (drop place_length l) i

pub length-chunks : (n : ℕ) (l : List ℕ) → length (first_chunks place_length n l) ≡ n
length-chunks zero l = refl
length-chunks (suc n) l = ap suc (length-chunks n (drop place_length l))

pub trbs-chunked : (row : List ℕ) → map given_trb (first_chunks place_length (length row / place_length) row) ≡ trbs_in row
unfolding trbs_in
trbs-chunked row = given-chunks (length row / place_length) row

-- ---- Results

pub result-drop : (l : List ℕ) (at : ℕ) → given_result (drop at l) ≡ record { status = status_of (get_or l at 0); length = le_field (at + 4) 4 l }
unfolding given_result
result-drop l at = simp (drop-drop, get_or-drop, add-zero)

pub length-results_in : (results : List ℕ) → length (results_in results) ≡ length results / result_length
unfolding results_in
length-results_in results = length-cells given_result result_length (length results / result_length) results

pub result-in : (results : List ℕ) (i : ℕ) (d : TdResult) → i < length results / result_length → get_or (results_in results) i d ≡ given_result (drop (result_length * i) results)
unfolding results_in
result-in results i d h = get_or-cells given_result result_length (length results / result_length) results i d h

pub result-behind : (results : List ℕ) (i : ℕ) (d : TdResult) → length results / result_length ≤ i → get_or (results_in results) i d ≡ d
result-behind results i d h = get_or-eq_default (results_in results) d {n = i} (omega (arith, length-results_in results))
