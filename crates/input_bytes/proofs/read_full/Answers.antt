-- `input_bytes::read_full` meets its contract: what a read gives stands behind the bytes that are filled, and they are those that the reader gave so far.
use Rattle.std.proofs.Common.{◌≡◌, ℕ, ◌+◌, ◌≤◌, List, ◌++◌, length, take, sym, ap, ◌∙◌, subst, rules, length-take-le}
use Rattle.std.proofs.Math.Seq.{take-append-add}
use Rattle.std.proofs.lemmas.List.{take-append-le}
use Rattle.std.specs.Io.KnownBytes.{Consumes}
use Rattle.std.proofs.KnownBytes.{Consumes-trans}
use borrow.Rule.Slice.PartMut.{put_mid, post_of}
use Rattle.input_bytes.proofs.read_full.Goals as goal

-- so many bytes that were read into the part from index at on stand behind those before it
take_filled : (at k n : ℕ) (xs ys : List ℕ) → at ≤ length xs → n ≤ length ys → take (at + n) (put_mid at k xs ys) ≡ take at xs ++ take n ys
take_filled at k n xs ys within fits =
    ap (λ m. take (m + n) (put_mid at k xs ys)) (sym (length-take-le at xs within))
    ∙ take-append-add (take at xs) (ys ++ post_of at k xs) n
    ∙ ap (λ l. take at xs ++ l) (take-append-le n ys (post_of at k xs) fits)

pub loop-filled-preserved : goal.loop-filled-preserved
loop-filled-preserved g c =
    let now = take_filled c.loop-filled.filled _ c.in_ok-read.read c.loop-filled.buffer c.read.new.buf c.loop-filled.invariant.1 c.in_ok-read.ensures.bound.0 in
    (search rules, search rules, subst (Consumes _ _) (sym now) (Consumes-trans _ _ _ _ _ c.loop-filled.invariant.2 c.in_ok-read.ensures.bytes.0))
