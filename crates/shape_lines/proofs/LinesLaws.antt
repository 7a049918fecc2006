-- The lines of a list of words, list by list and letter by letter, and texts laid one behind the other. Assumes nothing.
use Prim.Native.Nat.{ℕ, zero, suc, ◌+◌, ◌-◌, ◌<◌, ◌≤◌}
use mathlib.Core.Path.{◌≡◌, refl, sym, ap, ap₂, subst, ◌∙◌}
use mathlib.Core.List.{List, [], ◌∷◌, ◌++◌, map, append_assoc, append-nil}
use mathlib.Core.Bool.{Bool, true, false}
use borrow.Author.Tests.{eqb-true, eqb-false}
use lib.Dec.{eqb}
use native.Mathlib.Numerals.{add-one}
use native.Mathlib.Omega.{arith}
use lib.ListN.{length, length-append}
use lib.Seq.{append_snoc}
use Rattle.text.specs.declared.Text.{Text}
use Rattle.text.specs.Wrote.{HasRoom, Wrote}
use Rattle.text.proofs.WroteLaws.{wrote-none, wrote-append, wrote-within}
use Rattle.log_text.specs.Lines.{line_feed}
use Rattle.shapes.specs.Letters.{Letter, Word, byte_of, D, E, N, T, d, e, n, s, t}
use Rattle.shapes.specs.Lists.{max_shape, after, request_made, final_event_data, status_stage, more_data, data_stage, shapes, shapes_up_to}
use Rattle.shape_lines.specs.Lines.{lines, Laid, shapes_text, max_text}
use Rattle.shape_lines.proofs.Room.{room}

-- ---- Lines

pub lines-append : (p : List ℕ) (us vs : List Word) → lines p (us ++ vs) ≡ lines p us ++ lines p vs
lines-append p [] vs = refl
lines-append p (u ∷ us) vs = rw (lines-append p us vs) (sym (append_assoc (p ++ (map byte_of u ++ (line_feed ∷ []))) (lines p us) (lines p vs)))

pub lines_after : (p : List ℕ) (l : Letter) (ws : List Word) → lines p (after l ws) ≡ lines (p ++ (byte_of l ∷ [])) ws
lines_after p l [] = refl
lines_after p l (w ∷ ws) = ap₂ (λ (us vs : List ℕ). us ++ vs) (sym (append_snoc p (byte_of l) (map byte_of w ++ (line_feed ∷ [])))) (lines_after p l ws)

-- ---- Laid texts

pub laid_none : (l : Text) → Laid [] l l
laid_none l = record { same = refl; size = refl; wrote = wrote-none }

-- no room: nothing is said
pub laid-no-room : (bytes : List ℕ) (l : Text) → length l.bytes.now < l.end + length bytes → Laid bytes l l
laid-no-room bytes l f = record { same = refl; size = refl; wrote = λ h. absurd (omega arith) }

module _ {a b : List ℕ} {l m k : Text} (f : Laid a l m) (g : Laid b m k) where
  first : HasRoom (length (a ++ b)) l → HasRoom (length a) l
  first h = omega (arith, length-append a b)

  second : HasRoom (length (a ++ b)) l → HasRoom (length b) m
  second h = omega (arith, length-append a b, (f.wrote (first h)).end, f.size)

  both : HasRoom (length (a ++ b)) l → Wrote (length (a ++ b)) l (a ++ b) k
  both h = wrote-within (omega (arith, length-append a b)) (wrote-append (f.wrote (first h)) (g.wrote (second h)))

  pub laid-append : Laid (a ++ b) l k
  laid-append = record { same = g.same ∙ f.same; size = g.size ∙ f.size; wrote = both }

pub laid-cast : {a b : List ℕ} {l m : Text} → a ≡ b → Laid b l m → Laid a l m
laid-cast {l = l} {m = m} h f = subst (λ (x : List ℕ). Laid x l m) (sym h) f

-- where there is room
pub laid-wrote : {a : List ℕ} {l m : Text} (most : ℕ) → length a ≤ most → HasRoom most l → Laid a l m → Wrote most l a m
laid-wrote most g h f = wrote-within g (f.wrote (omega arith))

-- ---- One letter more

-- the words us behind the letters p
module _ (p : List ℕ) where
  pub laid-chosen : (x : Letter) (us : List Word) {l m : Text} → Laid (lines (p ++ (byte_of x ∷ [])) us) l m → Laid (lines p (after x us)) l m
  laid-chosen x us f = laid-cast (lines_after p x us) f

  -- one letter, and behind that another
  pub laid-two : (x y : Letter) (us vs : List Word) {l m k : Text}
      → Laid (lines (p ++ (byte_of x ∷ [])) us) l m → Laid (lines (p ++ (byte_of y ∷ [])) vs) m k → Laid (lines p (after x us ++ after y vs)) l k
  laid-two x y us vs f g = laid-cast (lines-append p (after x us) (after y vs)) (laid-append (laid-chosen x us f) (laid-chosen y vs g))

-- ---- Phase by phase

less : (left : ℕ) → (left ≡ 0 → ⊥) → left ≡ suc (left - 1)
less left f = omega (arith, f)

module _ (p : List ℕ) {l m : Text} where
  pub laid-lists : {k : Text} (us vs : List Word) → Laid (lines p us) l k → Laid (lines p vs) k m → Laid (lines p (us ++ vs)) l m
  laid-lists us vs f g = laid-cast (lines-append p us vs) (laid-append f g)

  -- the letters left are one and the others
  pub laid-left : (list : ℕ → List Word) (left : ℕ) → (left ≡ 0 → ⊥) → Laid (lines p (list (suc (left - 1)))) l m → Laid (lines p (list left)) l m
  laid-left list left f g = laid-cast (ap (λ (i : ℕ). lines p (list i)) (less left f)) g

  -- no letter is left
  pub laid_end : (list : ℕ → List Word) (left : ℕ) → left ≡ 0 → Laid (lines p (list 0)) l m → Laid (lines p (list left)) l m
  laid_end list left f g = laid-cast (ap (λ (i : ℕ). lines p (list i)) f) g

-- ---- One line

pub lines-one : (p : List ℕ) → lines p ([] ∷ []) ≡ p ++ (line_feed ∷ [])
lines-one p = append-nil (p ++ (line_feed ∷ []))

pub length-line : (p : List ℕ) → length (lines p ([] ∷ [])) ≡ length p + 1
length-line p = ap length (lines-one p) ∙ length-append p (line_feed ∷ [])

-- ---- MoreData

-- nothing ends here
pub laid-no-data : (p : List ℕ) (x : Letter) (left : ℕ) (l : Text) → left ≡ 0 → Laid (lines p (after x (more_data left))) l l
unfolding more_data
laid-no-data p x left l f = laid_end p (λ (i : ℕ). after x (more_data i)) left f (laid_none l)

module _ (p : List ℕ) (left : ℕ) (f : left ≡ 0 → ⊥) {l m k o : Text} where
  -- a chained Event Data TRB, a chained Normal, or the last TRB of the data part
  pub laid_more : Laid (lines p (after E (more_data (left - 1)))) l m → Laid (lines p (after N (more_data (left - 1)))) m k
      → Laid (lines p (after e (status_stage (left - 1)) ++ after n (status_stage (left - 1)))) k o → Laid (lines p (more_data left)) l o
  unfolding more_data
  laid_more g h i = laid-left p more_data left f
      (laid-lists p (after E (more_data (left - 1))) (after N (more_data (left - 1)) ++ (after e (status_stage (left - 1)) ++ after n (status_stage (left - 1)))) g
      (laid-lists p (after N (more_data (left - 1))) (after e (status_stage (left - 1)) ++ after n (status_stage (left - 1))) h i))

-- the same behind one more letter
module _ (p : List ℕ) (x : Letter) (left : ℕ) (f : left ≡ 0 → ⊥) where
  abbrev behind : List Word → List ℕ
  behind us = lines (p ++ (byte_of x ∷ [])) us

  pub laid-chained : {l m k o : Text} → Laid (behind (after E (more_data (left - 1)))) l m → Laid (behind (after N (more_data (left - 1)))) m k
      → Laid (behind (after e (status_stage (left - 1)) ++ after n (status_stage (left - 1)))) k o → Laid (lines p (after x (more_data left))) l o
  laid-chained g h i = laid-chosen p x (more_data left) (laid_more (p ++ (byte_of x ∷ [])) left f g h i)

-- ---- The data stage, the shapes of a length, the shapes up to a length

module _ (p : List ℕ) (left : ℕ) (f : left ≡ 0 → ⊥) {l m k o : Text} where
  pub laid-data : Laid (lines (p ++ (byte_of D ∷ [])) (more_data (left - 1))) l m → Laid (lines (p ++ (byte_of T ∷ [])) (final_event_data (left - 1))) m k
      → Laid (lines p (after d (status_stage (left - 1)) ++ after t (request_made (left - 1)))) k o → Laid (lines p (data_stage left)) l o
  unfolding data_stage
  laid-data g h i = laid-left p data_stage left f
      (laid-lists p (after D (more_data (left - 1))) (after T (final_event_data (left - 1)) ++ (after d (status_stage (left - 1)) ++ after t (request_made (left - 1)))) (laid-chosen p D (more_data (left - 1)) g)
      (laid-lists p (after T (final_event_data (left - 1))) (after d (status_stage (left - 1)) ++ after t (request_made (left - 1))) (laid-chosen p T (final_event_data (left - 1)) h) i))

-- where no letter is left
module _ (p : List ℕ) (left : ℕ) (l : Text) (f : left ≡ 0) where
  pub laid-no-more : Laid (lines p (more_data left)) l l
  unfolding more_data
  laid-no-more = laid_end p more_data left f (laid_none l)

  pub laid-no-stage : Laid (lines p (data_stage left)) l l
  unfolding data_stage
  laid-no-stage = laid_end p data_stage left f (laid_none l)

  pub laid-no-shape : Laid (lines p (shapes left)) l l
  unfolding shapes
  laid-no-shape = laid_end p shapes left f (laid_none l)

pub laid-setup : (size : ℕ) → (size ≡ 0 → ⊥) → {l m : Text} → Laid (lines (byte_of s ∷ []) (data_stage (size - 1))) l m → Laid (lines [] (shapes size)) l m
unfolding shapes
laid-setup size f g = laid-left [] shapes size f (laid-cast (lines_after [] s (data_stage (size - 1))) g)

pub laid-start : (l : Text) → Laid (lines [] (shapes_up_to 0)) l l
unfolding shapes_up_to
laid-start l = laid_none l

pub laid_next : (size : ℕ) {l m k : Text} → Laid (lines [] (shapes_up_to size)) l m → Laid (lines [] (shapes (size + 1))) m k → Laid (lines [] (shapes_up_to (size + 1))) l k
unfolding shapes_up_to
laid_next size g h = rw add-one (laid-lists [] (shapes_up_to size) (shapes (suc size)) g (rw add-one at h))

-- a greater length takes no less room
pub length-up_to : (k m : ℕ) → k ≤ m → length (lines [] (shapes_up_to k)) ≤ length (lines [] (shapes_up_to m))
unfolding shapes_up_to
length-up_to k zero h = let f : k ≡ 0 = omega arith in rw f (omega arith)
length-up_to k (suc m) h = go (eqb k (suc m)) refl (length-up_to k m)
  where
    longer : length (lines [] (shapes_up_to m)) ≤ length (lines [] (shapes_up_to m ++ shapes (suc m)))
    longer = rw lines-append (rw length-append (omega arith))

    go : (b : Bool) → eqb k (suc m) ≡ b → (k ≤ m → length (lines [] (shapes_up_to k)) ≤ length (lines [] (shapes_up_to m))) → length (lines [] (shapes_up_to k)) ≤ length (lines [] (shapes_up_to m ++ shapes (suc m)))
    go true q g = let f : k ≡ suc m = eqb-true k (suc m) q in rw f (omega arith)
    go false q g = omega (arith, longer, g (omega (arith, eqb-false k (suc m) q)))

-- every text fits max_text bytes
pub length-shapes_text : (m : ℕ) → m ≤ max_shape → length (shapes_text m) ≤ max_text
length-shapes_text m h = omega (arith, length-up_to m max_shape h, room)
