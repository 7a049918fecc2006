-- Laws of lines and of bytes that move to the front. Assumes nothing.
use Prim.Native.Nat.{ℕ, ◌+◌, ◌≤◌, ◌<◌}
use mathlib.Core.Path.{◌≡◌, refl, sym, ap, ◌∙◌}
use mathlib.Core.Bool.{Bool, true, false, cond, not}
use mathlib.Core.List.{List, [], ◌∷◌, ◌++◌}
use native.Mathlib.Omega.{arith}
use lib.Dec.{eqb}
use Rattle.std.specs.List.{prefix_len, take_while}
use Rattle.std.proofs.lemmas.List.Folds.{length-prefix_len}
use lib.ListN.{length, length-take, take, drop, length-drop}
use lib.Seq.{length-take-le, drop_at, take-append-add, take-append-le}
use borrow.Rule.Slice.PartMut.{put_mid, post_of}
use Rattle.script_lines.specs.Lines.{line_feed, first_line}

-- the first line is what passes from the front on
module _ (p : ℕ → Bool) (c : ℕ) (cs : List ℕ) where
  prefix-more : (b : Bool) → prefix_len p cs ≡ length (first_line cs) → cond (not b) (1 + prefix_len p cs) 0 ≡ length (cond b [] (c ∷ first_line cs))
  prefix-more true h = refl
  prefix-more false h = omega arith

prefix-line : (l : List ℕ) → prefix_len (λ c. not (eqb c line_feed)) l ≡ length (first_line l)
unfolding first_line
prefix-line [] = refl
prefix-line (c ∷ cs) = prefix-more (λ c. not (eqb c line_feed)) c cs (eqb c line_feed) (prefix-line cs)

pub length-take_while : (l : List ℕ) → length (take_while (λ c. not (eqb c line_feed)) l) ≡ length (first_line l)
length-take_while l = length-prefix_len (λ c. not (eqb c line_feed)) l ∙ prefix-line l

pub length-first_line : (l : List ℕ) → length (first_line l) ≤ length l
length-first_line l = omega (arith, length-take_while l, length-take (prefix_len (λ c. not (eqb c line_feed)) l) l)

-- ---- Bytes that are read behind those that are held

-- of the part from index held on, into which n bytes were read
pub read_part : (held k n : ℕ) (l part : List ℕ) → held ≤ length l → n ≤ length part → drop held (take (held + n) (put_mid held k l part)) ≡ take n part
read_part held k n l part within fits =
    let front : length (take held l) ≡ held = length-take-le held l within in
    ap (λ (m : ℕ). drop held (take (m + n) (put_mid held k l part))) (sym front)
    ∙ (ap (drop held) (take-append-add (take held l) (part ++ post_of held k l) n ∙ ap (λ (x : List ℕ). take held l ++ x) (take-append-le n part (post_of held k l) fits))
    ∙ drop_at (take held l) (take n part) held front)

-- there is one at least
pub piece_read : (held n : ℕ) (l : List ℕ) → held < n → n ≤ length l → drop held (take n l) ≡ [] → ⊥
piece_read held n l more room none = omega (arith, ap length none, length-drop held (take n l), length-take-le n l room)
