-- What a sound block's numbers are at most, and that no more places are freed than are held. Assumes nothing.
use Prim.Native.Nat.{ℕ, ◌≤◌}
use mathlib.Core.Path.{◌≡◌}
use mathlib.Core.Bool.{true, ◌&&◌}
use native.Mathlib.Omega.{arith}
use lib.Dec.{leb}
use borrow.Author.Tests.{leb-true}
use Rattle.trb.specs.Ids.{ids_in_range}
use Rattle.trb.specs.Limits.{max_held, max_collected}
use Rattle.trb.proofs.TestLaws.{and_left, and_right}
use Rattle.control_block.specs.declared.BlockFacts.{BlockFacts}
use Rattle.control_block.specs.declared.Ending.{Ending}
use Rattle.control_block.specs.declared.Ending.TheVariants.{KeepCollecting, ReportBadTrb, Fail, Realize}
use Rattle.control_block.specs.Endings.{places_freed}
use Rattle.control_block.specs.Facts.{sound_block}

module _ (f : BlockFacts) (sound : sound_block f ≡ true) where
  counts : (leb f.held max_held && (leb f.collected max_collected && f.sound)) ≡ true
  unfolding sound_block
  counts = and_right (ids_in_range f.endpoint_id f.slot_id) _ sound

  pub sound-held : f.held ≤ max_held
  sound-held = leb-true _ _ (and_left (leb f.held max_held) _ counts)

  pub sound-collected : f.collected ≤ max_collected
  sound-collected = leb-true _ _ (and_left (leb f.collected max_collected) _ (and_right (leb f.held max_held) _ counts))

pub freed-held : (e : Ending) (held : ℕ) → places_freed e held ≤ held
freed-held KeepCollecting held = omega arith
freed-held (ReportBadTrb a) held = omega arith
freed-held (Fail c r) held = omega arith
freed-held (Realize given) held = omega arith
