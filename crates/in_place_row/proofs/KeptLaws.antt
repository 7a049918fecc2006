-- Behind question 15 and questions 4 of its TRBs a row lies in places as the TRBs of a block do: each place says its TRB. Assumes nothing.
use Prim.Native.Nat.{ℕ, zero, suc, ◌+◌, ◌/◌, ◌%◌, ◌<◌, ◌≤◌}
use mathlib.Core.Path.{◌≡◌, refl, sym, ap, ◌∙◌}
use mathlib.Core.Bool.{Bool, true, false, cond, true≢false}
use mathlib.Core.List.{List, [], ◌∷◌, map}
use native.Mathlib.Omega.{arith}
use lib.Dec.{eqb}
use lib.ListN.{length, length-map, take, drop, get_or}
use Rattle.std.proofs.lemmas.List.{get_or-map, drop-map, take-map}
use borrow.Author.Tests.{leb-true}
use Rattle.trb.specs.Limits.{max_transfer_length}
use Rattle.trb.specs.Questions.{first_no}
use Rattle.trb.specs.Trbs.{transfer_length}
use Rattle.trb.specs.declared.TransferTrb.{TransferTrb}
use Rattle.trb.specs.declared.TransferTrbVariant.{TransferTrbVariant}
use Rattle.trb.specs.declared.TransferTrbVariant.TheVariants.{SetupStage, DataStage, StatusStage, Normal, EventData, NoOp, Isoch, Unrecognized}
use Rattle.trb.proofs.TestLaws.{and_left, and_right}
use Rattle.buffers.specs.LittleEndian.{le_field}
use Rattle.held.specs.Places.{past_end}
use Rattle.held.specs.Sound.{supported}
use Rattle.held.specs.declared.EndpointKind.TheVariants.{In}
use Rattle.walks.specs.All.{all}
use Rattle.raw_trb.specs.Layouts.{normal_type, setup_stage_type, data_stage_type, status_stage_type, isoch_type, event_data_type, no_op_type}
use Rattle.guest_memory.specs.declared.Regions.{Regions}
use Rattle.held_bytes.specs.Numbers.{normal_of, setup_stage_of, data_stage_of, status_stage_of, event_data_of, no_op_of, variant_of, cycle_on}
use Rattle.held_bytes.specs.Places.{place_length, place_of, places_of}
use Rattle.row_questions.specs.Questions.{in_supported, each_trb}
use Rattle.row_questions.proofs.QuestionLaws.{passed-trb}
use Rattle.row_bytes.specs.Layout.{cells_of, given_trb, trbs_in}

-- ---- A place

-- by which types a number is: Normal, Setup, Data, Status, Isoch, Event Data, NoOp
abbrev variant_by : ℕ → ℕ → ℕ → Bool → Bool → Bool → Bool → Bool → Bool → Bool → TransferTrbVariant
variant_by flags value len n u d t i e o =
    cond n (Normal (normal_of flags value len))
    (cond u (SetupStage (setup_stage_of flags value))
    (cond d (DataStage (data_stage_of flags value len))
    (cond t (StatusStage (status_stage_of flags)) (cond i Isoch (cond e (EventData (event_data_of flags value)) (cond o (NoOp (no_op_of flags)) Unrecognized))))))

kept_by : (flags value len : ℕ) (n u d t i e o : Bool) → supported In (variant_by flags value len n u d t i e o) ≡ true
    → transfer_length (variant_by flags value len n u d t i e o) ≤ max_transfer_length
    → variant_by flags value len n u d t i e o ≡ variant_of (cond n normal_type (cond e event_data_type no_op_type)) flags value (len % (max_transfer_length + 1))
unfolding variant_of
kept_by flags value len true u d t i e o s h = ap (λ (x : ℕ). Normal (normal_of flags value x)) (omega arith)
kept_by flags value len false true d t i e o s h = absurd (true≢false (sym s))
kept_by flags value len false false true t i e o s h = absurd (true≢false (sym s))
kept_by flags value len false false false true i e o s h = absurd (true≢false (sym s))
kept_by flags value len false false false false true e o s h = absurd (true≢false (sym s))
kept_by flags value len false false false false false true o s h = refl
kept_by flags value len false false false false false false true s h = refl
kept_by flags value len false false false false false false false s h = absurd (true≢false (sym s))

kept-place : (l : List ℕ) → in_supported (given_trb l) ≡ true → transfer_length (given_trb l).variant ≤ max_transfer_length → given_trb l ≡ place_of In l
unfolding given_trb place_of variant_of
kept-place l s h =
    let kind : ℕ = get_or l 20 0 in
    ap (λ (v : TransferTrbVariant). record { variant = v; addr = le_field 0 8 l; cycle_bit = cycle_on (get_or l 21 0) })
    (kept_by (get_or l 21 0) (le_field 8 8 l) (le_field 16 4 l) (eqb kind normal_type) (eqb kind setup_stage_type) (eqb kind data_stage_type) (eqb kind status_stage_type) (eqb kind isoch_type) (eqb kind event_data_type) (eqb kind no_op_type) s h)

-- ---- A row

module _ (regions : Regions) where
  kept-cells : (n : ℕ) (l : List ℕ) (h : ℕ) → all in_supported (cells_of given_trb place_length n l) ≡ true → first_no (each_trb regions h (cells_of given_trb place_length n l)) ≡ 0
      → cells_of given_trb place_length n l ≡ places_of In n l
  unfolding cells_of places_of all
  kept-cells zero l h s e = refl
  kept-cells (suc n) l h s e =
      let y = passed-trb regions h (given_trb l) (cells_of given_trb place_length n (drop place_length l)) e in
      let first : given_trb l ≡ place_of In l = kept-place l (and_left (in_supported (given_trb l)) (all in_supported (cells_of given_trb place_length n (drop place_length l))) s) (leb-true _ _ y.short) in
      let rest = kept-cells n (drop place_length l) _ (and_right (in_supported (given_trb l)) (all in_supported (cells_of given_trb place_length n (drop place_length l))) s) y.rest in
      (λ j. first j ∷ rest j)

  pub row_kept : (row : List ℕ) → all in_supported (trbs_in row) ≡ true → first_no (each_trb regions 0 (trbs_in row)) ≡ 0 → trbs_in row ≡ places_of In (length row / place_length) row
  unfolding trbs_in
  row_kept row s e = kept-cells (length row / place_length) row 0 s e

-- ---- The places of a row

-- the TRBs that they say
abbrev pub trbs_of : List (List ℕ) → List TransferTrb
trbs_of cells = map given_trb cells

pub as_many : (cells : List (List ℕ)) → length (trbs_of cells) ≡ length cells
as_many cells = length-map cells given_trb

-- each where it is read
pub read_at : (cells : List (List ℕ)) (i : ℕ) → i < length cells → get_or (trbs_of cells) i past_end ≡ given_trb (get_or cells i [])
read_at cells i h = get_or-map given_trb cells i [] past_end h

-- a part of them, as a walk reads them
pub kept-part : (cells : List (List ℕ)) (first size : ℕ) → trbs_of cells ≡ map (place_of In) cells
    → map (place_of In) (take size (drop first cells)) ≡ take size (drop first (trbs_of cells))
kept-part cells first size e =
    sym (ap (λ (ts : List TransferTrb). take size (drop first ts)) e ∙ ap (take size) (drop-map (place_of In) first cells) ∙ take-map (place_of In) size (drop first cells))
