-- Laws of `patch`. Assumes nothing.
use Prim.Native.Nat.{ℕ, ◌+◌, ◌-◌, ◌<◌, ◌≤◌}
use mathlib.Core.Path.{◌≡◌, sym, ap, ◌∙◌}
use mathlib.Core.List.{List, [], ◌∷◌, ◌++◌, append_assoc, append-nil}
use native.Mathlib.Nat.{add-zero}
use native.Mathlib.Numerals.{add-one}
use native.Mathlib.Omega.{arith}
use lib.ListN.{length, take, drop, get_or, set, length-append, length-drop, take-append-drop, drop_of_length-le, get_or-append}
use lib.Seq.{length-take-le, take-length, take_at, drop_at, drop-drop, get_or-append-add, get_or-take, get_or-drop, set_split, append_snoc}
use borrow.Rule.Slice.PartMut.{put_mid, mid_of, post_of}
use Rattle.buffers.specs.Patch.{patch}

pub length-patch : (l : List ℕ) (at : ℕ) (vs : List ℕ) → at + length vs ≤ length l → length (patch l at vs) ≡ length l
unfolding patch
length-patch l at vs h = simp (length-append, length-take-le at l (omega arith), length-drop) (omega arith)

-- no bytes
pub patch-none : (l : List ℕ) (at : ℕ) → patch l at [] ≡ l
unfolding patch
patch-none l at = rw (add-zero, append-nil, take-append-drop)

-- two patches side by side are one
pub patch-append : (l : List ℕ) (at : ℕ) (vs ws : List ℕ) → at + length vs ≤ length l
    → patch (patch l at vs) (at + length vs) ws ≡ patch l at (vs ++ ws)
unfolding patch
patch-append l at vs ws h =
    let head : length (take at l ++ vs) ≡ at + length vs = length-append (take at l) vs ∙ ap (λ (k : ℕ). k + length vs) (length-take-le at l (omega arith)) in
    let rest : List ℕ = drop (at + length vs) l in
    let len : at + length vs + length ws ≡ at + length (vs ++ ws) = omega (arith, length-append vs ws) in
    let tail : drop (at + length vs + length ws) (take at l ++ vs ++ rest) ≡ drop (at + length (vs ++ ws)) l =
    sym (drop-drop (length ws) (at + length vs) (take at l ++ vs ++ rest))
    ∙ ap (drop (length ws)) (drop_at (take at l ++ vs) rest (at + length vs) head)
    ∙ drop-drop (length ws) (at + length vs) l
    ∙ ap (λ (k : ℕ). drop k l) len in
    rw (take_at (take at l ++ vs) rest (at + length vs) head, tail, append_assoc (take at l) vs ws)

-- the same of a buffer that was patched already, from where its patch ends
pub patch-behind : (l m : List ℕ) (at i : ℕ) (vs ws : List ℕ) → m ≡ patch l at vs → i ≡ at + length vs → at + length vs ≤ length l
    → patch m i ws ≡ patch l at (vs ++ ws)
patch-behind l m at i vs ws p q h = rw (p, q) (patch-append l at vs ws h)

-- what stands from index at on: the bytes, and what was behind them
pub drop-patch : (l : List ℕ) (at : ℕ) (vs : List ℕ) → at ≤ length l → drop at (patch l at vs) ≡ vs ++ drop (at + length vs) l
unfolding patch
drop-patch l at vs h =
    let front : length (take at l) ≡ at = length-take-le at l h in
    ap (drop at) (append_assoc (take at l) vs (drop (at + length vs) l)) ∙ drop_at (take at l) (vs ++ drop (at + length vs) l) at front

-- one byte
pub set-patch : (l : List ℕ) (at v : ℕ) → at < length l → set l at v ≡ patch l at (v ∷ [])
unfolding patch
set-patch l at v h = rw (set_split l at v h, add-one, append_snoc)

-- byte by byte: of those laid over, of those before, and of those behind
module _ (l : List ℕ) (at : ℕ) (vs : List ℕ) (fits : at + length vs ≤ length l) where
  front : length (take at l) ≡ at
  front = length-take-le at l (omega arith)

  pub get_or-patch-in : (i : ℕ) → i < length vs → get_or (patch l at vs) (at + i) 0 ≡ get_or vs i 0
  unfolding patch
  get_or-patch-in i h =
      rw (append_assoc (take at l) vs (drop (at + length vs) l))
      (ap (λ (k : ℕ). get_or (take at l ++ (vs ++ drop (at + length vs) l)) (k + i) 0) (sym front)
      ∙ get_or-append-add (take at l) (vs ++ drop (at + length vs) l) i 0
      ∙ get_or-append vs (drop (at + length vs) l) 0 i h)

  pub get_or-patch-before : (k : ℕ) → k < at → get_or (patch l at vs) k 0 ≡ get_or l k 0
  unfolding patch
  get_or-patch-before k h =
      rw (append_assoc (take at l) vs (drop (at + length vs) l))
      (get_or-append (take at l) (vs ++ drop (at + length vs) l) 0 k (omega (arith, front)) ∙ get_or-take at l k 0 h)

  pub get_or-patch-behind : (k : ℕ) → at + length vs ≤ k → get_or (patch l at vs) k 0 ≡ get_or l k 0
  unfolding patch
  get_or-patch-behind k h =
      let head : length (take at l ++ vs) ≡ at + length vs = omega (arith, length-append (take at l) vs, front) in
      let past : k ≡ length (take at l ++ vs) + (k - (at + length vs)) = omega arith in
      let whole : at + length vs + (k - (at + length vs)) ≡ k = omega arith in
      ap (λ (j : ℕ). get_or (take at l ++ vs ++ drop (at + length vs) l) j 0) past
      ∙ get_or-append-add (take at l ++ vs) (drop (at + length vs) l) (k - (at + length vs)) 0
      ∙ get_or-drop (at + length vs) l (k - (at + length vs)) 0
      ∙ ap (λ (j : ℕ). get_or l j 0) whole

-- what `bytes::copy` leaves of the part of xs from a on
pub copy-patch : (xs src : List ℕ) (a : ℕ) → a + length src ≤ length xs
    → put_mid a (length xs - a) xs (take (length src) src ++ drop (length src) (mid_of a (length xs - a) xs)) ≡ patch xs a src
unfolding patch
copy-patch xs src a h =
    let mid : mid_of a (length xs - a) xs ≡ drop a xs = ap (λ (k : ℕ). take k (drop a xs)) (sym (length-drop a xs)) ∙ take-length (drop a xs) in
    let post : post_of a (length xs - a) xs ≡ [] = drop_of_length-le (drop a xs) {i = length xs - a} (omega (arith, length-drop a xs)) in
    rw (mid, post, take-length, append-nil, drop-drop) (sym (append_assoc (take a xs) src (drop (a + length src) xs)))
