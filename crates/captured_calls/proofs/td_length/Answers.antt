-- `captured_calls::td_length` meets its contract: the TRBs in front of the first one with its chain bit off, and that one. Assumes nothing.
use Rattle.std.proofs.Common.{◌≡◌, true, false, refl, rules, tests}
use Rattle.std.proofs.lemmas.Iterator.{IsFirst-from_position, YieldsList-from_slice}
use Rattle.trb.specs.Trbs.{chain_of}
use Rattle.captured_calls.proofs.RowLaws.{length-first}
use Rattle.captured_calls.proofs.td_length.Goals as goal

pub returns-in-Some : goal.returns-in-Some
returns-in-Some c =
    length-first c.args.row.now _ _
    (IsFirst-from_position _ _ _ (λ t. chain_of t.variant ≡ false) (λ t. chain_of t.variant ≡ true) c.position.ensures.ran (YieldsList-from_slice c.args.row.now cc) (λ x q k. search (rules, tests)) (λ x q k. search (rules, tests)))
    (rw c.in-Some.is refl)

pub returns-in-None : goal.returns-in-None
returns-in-None c =
    length-first c.args.row.now _ _
    (IsFirst-from_position _ _ _ (λ t. chain_of t.variant ≡ false) (λ t. chain_of t.variant ≡ true) c.position.ensures.ran (YieldsList-from_slice c.args.row.now cc) (λ x q k. search (rules, tests)) (λ x q k. search (rules, tests)))
    (rw c.in-None.is refl)
