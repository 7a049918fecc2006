-- Laws of a sound IN block. Assumes nothing.
use Prim.Native.Nat.{◌<◌, ◌≤◌}
use mathlib.Core.Path.{◌≡◌}
use mathlib.Core.Bool.{true, not, ◌&&◌, ◌||◌}
use mathlib.Core.Logic.{⊎_elim}
use lib.Dec.{eqb, leb}
use native.Mathlib.Omega.{arith}
use borrow.Author.Tests.{leb-true, eqb-false, not-true}
use Rattle.trb.specs.Ids.{ids_in_range}
use Rattle.trb.specs.Limits.{max_held}
use Rattle.trb.proofs.TestLaws.{and_left, and_right, le-or-lt}
use Rattle.in_block.specs.declared.BlockFacts.{BlockFacts}
use Rattle.in_block.specs.Facts.{awaits_device, sound_block}

-- what question 2 tells of a block that it passes
module _ (f : BlockFacts) (sound : sound_block f ≡ true) where
  behind-ids : (leb f.held max_held && (f.found.sound && (not (awaits_device f.state) || not (eqb f.found.normals 0)))) ≡ true
  unfolding sound_block
  behind-ids = and_right (ids_in_range f.endpoint_id f.slot_id) _ sound

  pub sound-held : f.held ≤ max_held
  sound-held = leb-true _ _ (and_left (leb f.held max_held) _ behind-ids)

  pub sound-trbs : f.found.sound ≡ true
  sound-trbs = and_left f.found.sound _ (and_right (leb f.held max_held) _ behind-ids)

  -- a block that awaits the device holds a Normal
  pub sound-normals : awaits_device f.state ≡ true → 0 < f.found.normals
  sound-normals awaits =
      let waits : (not (awaits_device f.state) || not (eqb f.found.normals 0)) ≡ true = and_right f.found.sound _ (and_right (leb f.held max_held) _ behind-ids) in
      let some-counted : not (eqb f.found.normals 0) ≡ true = rw awaits at waits in
      let counted = eqb-false f.found.normals 0 (not-true (eqb f.found.normals 0) some-counted) in
      ⊎_elim (λ (h : f.found.normals ≤ 0). absurd (counted (omega arith))) (λ h. h) (le-or-lt f.found.normals 0)
