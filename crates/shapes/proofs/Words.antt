-- Every word of a length, in order, and those of them that lead to a request: the list of the shapes is just these. Assumes nothing.
use Prim.Native.Nat.{ℕ, zero, suc}
use mathlib.Core.Path.{◌≡◌, refl, ap, ap₂, ◌∙◌}
use mathlib.Core.Bool.{Bool, true, false, cond}
use mathlib.Core.List.{List, [], ◌∷◌, ◌++◌, map, append-nil}
use Rattle.trb.specs.declared.ControlTransferState.{ControlTransferState}
use Rattle.trb.specs.declared.ControlTransferState.TheVariants.{MaybeDataStageTrb, MoreData, ExpectStatusStageTrb, ExpectFinalEventDataTrb}
use Rattle.phase_table.specs.Leads.{is_empty, leads}
use Rattle.shapes.specs.Letters.{Letter, Word, letters, letter_entry}
use Rattle.shapes.specs.Shapes.{is_shape}
use Rattle.shapes.specs.Lists.{after, request_made, final_event_data, status_stage, more_data, data_stage, shapes}

-- ---- Every word

-- each of the letters in front of each word
abbrev pub after_each : List Letter → List Word → List Word
after_each [] ws = []
after_each (l ∷ ls) ws = after l ws ++ after_each ls ws

unfoldable pub words : ℕ → List Word
words zero = [] ∷ []
words (suc k) = after_each letters (words k)

-- ---- Those with a property

abbrev pub those : (Word → Bool) → List Word → List Word
those p [] = []
those p (w ∷ ws) = cond (p w) (w ∷ those p ws) (those p ws)

those-append : (p : Word → Bool) (us vs : List Word) → those p (us ++ vs) ≡ those p us ++ those p vs
those-append p [] vs = refl
those-append p (u ∷ us) vs = go (p u) (those-append p us vs)
  where
    go : (b : Bool) → those p (us ++ vs) ≡ those p us ++ those p vs → cond b (u ∷ those p (us ++ vs)) (those p (us ++ vs)) ≡ cond b (u ∷ those p us) (those p us) ++ those p vs
    go true h = ap (λ (ws : List Word). u ∷ ws) h
    go false h = h

those-after : (p : Word → Bool) (l : Letter) (ws : List Word) → those p (after l ws) ≡ after l (those (λ (w : Word). p (l ∷ w)) ws)
those-after p l [] = refl
those-after p l (w ∷ ws) = go (p (l ∷ w)) (those-after p l ws)
  where
    go : (b : Bool) → those p (after l ws) ≡ after l (those (λ (v : Word). p (l ∷ v)) ws) → cond b ((l ∷ w) ∷ those p (after l ws)) (those p (after l ws)) ≡ after l (cond b (w ∷ those (λ (v : Word). p (l ∷ v)) ws) (those (λ (v : Word). p (l ∷ v)) ws))
    go true h = ap (λ (vs : List Word). (l ∷ w) ∷ vs) h
    go false h = h

those-none : (ws : List Word) → those (λ (w : Word). false) ws ≡ []
those-none [] = refl
those-none (w ∷ ws) = those-none ws

-- letter by letter
abbrev those_after_each : (Word → Bool) → List Letter → List Word → List Word
those_after_each p [] ws = []
those_after_each p (l ∷ ls) ws = after l (those (λ (w : Word). p (l ∷ w)) ws) ++ those_after_each p ls ws

those-after_each : (p : Word → Bool) (ls : List Letter) (ws : List Word) → those p (after_each ls ws) ≡ those_after_each p ls ws
those-after_each p [] ws = refl
those-after_each p (l ∷ ls) ws = those-append p (after l ws) (after_each ls ws) ∙ ap₂ (λ (us vs : List Word). us ++ vs) (those-after p l ws) (those-after_each p ls ws)

-- ---- What the table takes, phase by phase

abbrev leads_from : ControlTransferState → Word → Bool
leads_from phase w = leads phase (map letter_entry w)

abbrev is_last : Word → Bool
is_last w = is_empty (map letter_entry w)

those-empty : (k : ℕ) → those is_last (words k) ≡ request_made k
unfolding words
those-empty zero = refl
those-empty (suc k) = those-after_each is_last letters (words k) ∙ simp those-none

those-final : (k : ℕ) → those (leads_from ExpectFinalEventDataTrb) (words k) ≡ final_event_data k
unfolding words
those-final zero = refl
those-final (suc k) = those-after_each (leads_from ExpectFinalEventDataTrb) letters (words k) ∙ simp (those-none, those-empty, append-nil)

those-status : (k : ℕ) → those (leads_from ExpectStatusStageTrb) (words k) ≡ status_stage k
unfolding words
those-status zero = refl
those-status (suc k) = those-after_each (leads_from ExpectStatusStageTrb) letters (words k) ∙ simp (those-none, those-empty, those-final, append-nil)

those-more : (k : ℕ) → those (leads_from MoreData) (words k) ≡ more_data k
unfolding words more_data
those-more zero = refl
those-more (suc k) = those-after_each (leads_from MoreData) letters (words k) ∙ simp (those-none, those-status, those-more k, append-nil)

those-data : (k : ℕ) → those (leads_from MaybeDataStageTrb) (words k) ≡ data_stage k
unfolding words data_stage
those-data zero = refl
those-data (suc k) = those-after_each (leads_from MaybeDataStageTrb) letters (words k) ∙ simp (those-none, those-empty, those-final, those-status, those-more, append-nil)

pub shapes-those : (k : ℕ) → those is_shape (words k) ≡ shapes k
unfolding words shapes
shapes-those zero = refl
shapes-those (suc k) = those-after_each is_shape letters (words k) ∙ simp (those-none, those-data, append-nil)
