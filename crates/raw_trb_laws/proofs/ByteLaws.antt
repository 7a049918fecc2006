-- 16 bytes and their four dwords. Assumes nothing.
use Prim.Native.Nat.{ℕ, ◌+◌, ◌<◌, ◌≤◌, ◌^◌}
use mathlib.Core.List.{List, ◌++◌}
use mathlib.Core.Path.{◌≡◌, sym, ap, ◌∙◌}
use native.Mathlib.Omega.{arith}
use lib.ListN.{length, take, drop, length-drop, take-append-drop}
use lib.Seq.{drop-drop, take-length, length-take-le}
use Rattle.buffers.specs.LittleEndian.{le_bytes, le_number, AllBytes}
use Rattle.buffers.proofs.LittleEndianLaws.{le_bytes-le_number, le_number-lt, AllBytes-take, AllBytes-drop}
use Rattle.raw_trb.specs.Fields.{dwords_of, bytes_of}
use Rattle.raw_trb.proofs.DwordLaws.{Small}

module _ (l : List ℕ) (n : length l ≡ 16) (h : AllBytes l) where
  -- the four bytes from index k on
  module _ (k : ℕ) (fits : k + 4 ≤ 16) where
    part_length : length (take 4 (drop k l)) ≡ 4
    part_length = length-take-le 4 (drop k l) (simp length-drop (omega arith))

    part_bytes : le_bytes 4 (le_number (take 4 (drop k l))) ≡ take 4 (drop k l)
    part_bytes =
        ap (λ (m : ℕ). le_bytes m (le_number (take 4 (drop k l)))) (sym part_length)
        ∙ le_bytes-le_number (take 4 (drop k l)) (AllBytes-take 4 (drop k l) (AllBytes-drop k l h))

    part_small : le_number (take 4 (drop k l)) < 2 ^ 32
    part_small = rw part_length at (le_number-lt (take 4 (drop k l)) (AllBytes-take 4 (drop k l) (AllBytes-drop k l h)))

  pub dwords-small : Small (dwords_of l)
  dwords-small = record { d0 = part_small 0 (omega arith); d1 = part_small 4 (omega arith); d2 = part_small 8 (omega arith); d3 = part_small 12 (omega arith) }

  next : (k : ℕ) → take 4 (drop k l) ++ drop (k + 4) l ≡ drop k l
  next k = rw (← (drop-drop 4 k l)) (take-append-drop 4 (drop k l))

  last : take 4 (drop 12 l) ≡ drop 12 l
  last =
      let len : 4 ≡ length (drop 12 l) = simp length-drop (omega arith) in
      ap (λ (m : ℕ). take m (drop 12 l)) len ∙ take-length (drop 12 l)

  pub bytes_of-dwords_of : bytes_of (dwords_of l) ≡ l
  bytes_of-dwords_of =
      (λ i. part_bytes 0 (omega arith) i ++ (part_bytes 4 (omega arith) i ++ (part_bytes 8 (omega arith) i ++ part_bytes 12 (omega arith) i)))
      ∙ ap (λ (r : List ℕ). take 4 l ++ (take 4 (drop 4 l) ++ (take 4 (drop 8 l) ++ r))) last
      ∙ ap (λ (r : List ℕ). take 4 l ++ (take 4 (drop 4 l) ++ r)) (next 8) ∙ ap (λ (r : List ℕ). take 4 l ++ r) (next 4) ∙ next 0
