-- Laws of submission: the first TRB of a TD, that S fits a request's length, and what holds of a TRB that is held. Assumes nothing.
use Prim.Native.Nat.{ℕ, zero, suc, ◌+◌, ◌<◌, ◌≤◌, ◌^◌}
use mathlib.Core.Path.{◌≡◌, refl, ap}
use mathlib.Core.Bool.{Bool, true, false, cond}
use mathlib.Core.List.{List, [], ◌∷◌}
use native.Mathlib.Nat.{not-suc-le-zero}
use native.Mathlib.Numerals.{add-one}
use native.Mathlib.Omega.{arith}
use lib.Dec.{eqb}
use lib.ListN.{take, set, get_or, length-take}
use Rattle.trb.specs.Limits.{max_held, max_transfer_length}
use Rattle.trb.specs.Trbs.{transfer_length, chain_of}
use Rattle.trb.specs.declared.TransferTrb.{TransferTrb}
use Rattle.held.specs.Places.{past_end}
use Rattle.held.specs.Sound.{supported}
use Rattle.held.specs.declared.EndpointKind.TheVariants.{In}
use Rattle.in_td.specs.Normals.{normal_of, length_of, requested}
use Rattle.in_block.specs.Blocks.{held_of, stored}
use Rattle.in_block.specs.Facts.{trb_test, facts_of, sound_block}
use Rattle.in_block.specs.Outcomes.{outcome_of}
use Rattle.in_block.specs.declared.HeldTest.{HeldTest}
use Rattle.in_block.specs.declared.InBlock.{InBlock}
use Rattle.in_block.specs.declared.Outcome.{Outcome}
use Rattle.in_block.specs.declared.Outcome.TheVariants.{Drop, Collect, CompleteLocally, Request}
use Rattle.in_block.proofs.SoundLaws.{sound-trbs}
use Rattle.in_request.proofs.RequestedLaws.{normal-length, requested-sound}
use Rattle.in_endpoint.specs.Submission.{first_address, submitted_as}

pub first_address-take : (xs : List TransferTrb) (n : ℕ) → 0 < n → (get_or xs 0 past_end).addr ≡ first_address (take n xs)
first_address-take xs zero h = absurd (not-suc-le-zero h)
first_address-take [] (suc n) h = refl
first_address-take (x ∷ xs) (suc n) h = refl

requested-set : (xs : List TransferTrb) (n : ℕ) (t : TransferTrb) → requested (take (suc n) (set xs n t)) ≤ requested (take n xs) + length_of (normal_of t.variant)
requested-set [] n t = omega arith
requested-set (x ∷ xs) zero t = omega arith
requested-set (x ∷ xs) (suc n) t = omega (arith, requested-set xs n t)

-- with one TRB more, S fits the length of a request record
pub requested-stored : (b : InBlock) (t : TransferTrb) → sound_block (facts_of b) ≡ true → b.held < max_held → transfer_length t.variant ≤ max_transfer_length
    → requested (held_of (stored b t)) < 2 ^ 32
requested-stored b t sound room short =
    rw add-one
    (omega (
      arith,
      requested-set b.trbs b.held t,
      requested-sound (held_of b) (sound-trbs (facts_of b) sound),
      length-take b.held b.trbs,
      normal-length t.variant,
    ))

-- ---- A TRB that is held

abbrev pub holds : Outcome → Bool
holds Drop = false
holds Collect = true
holds CompleteLocally = true
holds Request = true

-- a TRB that is held is of a kind that an IN endpoint supports
supported-by : (kind chain normal : Bool) → holds (cond kind (cond chain Collect (cond normal CompleteLocally Request)) Drop) ≡ true → kind ≡ true
supported-by true chain normal e = refl
supported-by false chain normal e = e

pub supported-held : (found : HeldTest) (t : TransferTrb) (o : Outcome) → outcome_of found t ≡ o → holds o ≡ true → supported In t.variant ≡ true
unfolding outcome_of
supported-held found t o e h =
    supported-by (supported In t.variant) (chain_of t.variant) (eqb (trb_test found t).normals 0) (rw e h)

pub submitted_as-by : (b : InBlock) (t : TransferTrb) {x y : Outcome} → x ≡ y → submitted_as x b t ≡ submitted_as y b t
submitted_as-by b t e = ap (λ (x : Outcome). submitted_as x b t) e
