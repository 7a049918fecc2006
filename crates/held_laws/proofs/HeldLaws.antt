-- How a loop over the places keeps to what is found of those held. Assumes nothing.
use Prim.Native.Nat.{ℕ, ◌+◌, ◌<◌, ◌≤◌, min}
use mathlib.Core.Path.{◌≡◌, ap, ◌∙◌}
use mathlib.Core.Bool.{true}
use mathlib.Core.List.{List}
use native.Mathlib.Nat.{zero-add}
use native.Mathlib.Numerals.{add-one}
use native.Mathlib.Omega.{arith}
use lib.ListN.{length, take, drop, get_or, drop_of_length-le}
use lib.Seq.{drop-cons, get_or-take, length-take-le}
use Rattle.trb.specs.Limits.{max_held}
use Rattle.trb.specs.declared.TransferTrb.{TransferTrb}
use Rattle.held.specs.Places.{past_end}
use Rattle.held.specs.Sound.{sound_trb}
use Rattle.held.specs.declared.EndpointKind.TheVariants.{In}
use Rattle.held.proofs.TestedLaws.{places-few, places-held}
use Rattle.walks.specs.All.{all}
use Rattle.held_laws.proofs.TestLaws.{Tested, tested-none, tested-turn, tested-end}
use Rattle.in_td.specs.Td.{normal_count, normals}
use Rattle.in_block.specs.Blocks.{held_of}
use Rattle.in_block.specs.Facts.{trb_test, held_test, facts_of}
use Rattle.in_block.specs.declared.BlockFacts.{BlockFacts}
use Rattle.in_block.specs.declared.HeldTest.{HeldTest}
use Rattle.in_block.specs.declared.InBlock.{InBlock}

-- ---- The loop

-- after i TRBs of ts, with so many Normals counted: with those of the rest they are the list's, as far as they are counted
pub record Counting (ts : List TransferTrb) (k i : ℕ) : Type 0 where
  pub few : k ≤ max_held
  pub sum : min (k + normals (drop i ts)) max_held ≡ min (normals ts) max_held

-- after i TRBs of ts, with r found so far
pub record Testing (ts : List TransferTrb) (r : HeldTest) (i : ℕ) : Type 0 where
  pub sound : Tested (sound_trb In) ts r.sound i
  pub counted : Counting ts r.normals i

pub testing-none : (ts : List TransferTrb) → Testing ts (record { sound = true; normals = 0 }) 0
testing-none ts = record { sound = tested-none (sound_trb In) ts; counted = record { few = omega arith; sum = rw zero-add } }

module _ (xs : List TransferTrb) (n : ℕ) (long : n ≤ length xs) where
  counting-turn : (k i : ℕ) → Counting (take n xs) k i → i < n → Counting (take n xs) (min (k + normal_count (get_or xs i past_end).variant) max_held) (i + 1)
  counting-turn k i c more =
      let len : length (take n xs) ≡ n = length-take-le n xs long in
      let next : normals (drop i (take n xs)) ≡ normal_count (get_or xs i past_end).variant + normals (drop (i + 1) (take n xs)) =
      rw (add-one, ← get_or-take n xs i past_end more) (ap normals (drop-cons (take n xs) i past_end (omega arith))) in
      record { few = omega arith; sum = omega (arith, c.sum, next) }

  counting-end : (k i : ℕ) → Counting (take n xs) k i → n ≤ i → k ≡ min (normals (take n xs)) max_held
  counting-end k i c h =
      let len : length (take n xs) ≡ n = length-take-le n xs long in
      let none_left : normals (drop i (take n xs)) ≡ 0 = ap normals (drop_of_length-le (take n xs) {i = i} (omega arith)) in
      omega (arith, c.sum, c.few, none_left)

  pub testing-turn : (s r : HeldTest) (i : ℕ) → Testing (take n xs) s i → i < n → r ≡ trb_test s (get_or xs i past_end) → Testing (take n xs) r (i + 1)
  unfolding sound_trb
  testing-turn s r i k more e = record {
    sound = tested-turn (sound_trb In) xs n long s.sound r.sound i past_end k.sound more (ap (λ (x : HeldTest). x.sound) e);
    counted = rw (ap (λ (x : HeldTest). x.normals) e) (counting-turn s.normals i k.counted more);
  }

  pub testing-end : (s : HeldTest) (i : ℕ) → Testing (take n xs) s i → n ≤ i → s ≡ held_test (take n xs)
  testing-end s i k h =
      let sound : s.sound ≡ all (sound_trb In) (take n xs) = tested-end (sound_trb In) xs n long s.sound i k.sound h in
      let counted : s.normals ≡ min (normals (take n xs)) max_held = counting-end s.normals i k.counted h in
      λ j. record { sound = sound j; normals = counted j }

-- over the places xs of a block that says n are held, of which p are tested
pub held-tested : (xs : List TransferTrb) (n p : ℕ) (all-places : length xs ≡ max_held) (tested : p ≡ min n max_held) (s : HeldTest) (i : ℕ) → Testing (take p xs) s i → p ≤ i
    → s ≡ held_test (take n xs)
held-tested xs n p all-places tested s i k h =
    testing-end xs p (places-few xs n p all-places tested) s i k h ∙ ap (λ (ts : List TransferTrb). held_test ts) (places-held xs n p all-places tested)

-- the facts of a block, once the loop has found this of the TRBs held
pub facts-known : (b : InBlock) (found : HeldTest) → found ≡ held_test (held_of b)
    → ◌≡◌ {A = BlockFacts} (record { endpoint_id = b.endpoint_id; slot_id = b.slot_id; state = b.state; held = b.held; found = found }) (facts_of b)
facts-known b found e =
    ap (λ (x : HeldTest). record { endpoint_id = b.endpoint_id; slot_id = b.slot_id; state = b.state; held = b.held; found = x }) e
