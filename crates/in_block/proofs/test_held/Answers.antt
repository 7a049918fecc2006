-- `in_block::test_held` meets its contract: what was found of the TRBs so far is the test of them. Assumes nothing.
use mathlib.Core.Path.{◌≡◌, sym, ap, ◌∙◌}
use borrow.Author.Rules.{rules}
use Rattle.std.proofs.lemmas.Fn.{fold_over}
use Rattle.std.proofs.iter.Yields.{fronts}
use Rattle.std.proofs.lemmas.Iterator.{YieldsList, YieldsList-from_slice}
use Rattle.in_block.specs.declared.HeldTest.{HeldTest}
use Rattle.in_block.specs.Facts.{trb_test, held_test}
use Rattle.in_block.proofs.TestLaws.{held_test-none, held_test-more}
use Rattle.in_block.proofs.test_held.Goals as goal

pub returns : goal.returns
returns c =
    let places : YieldsList fronts (λ y. y.now) c.iter.result c.args.trbs.now = YieldsList-from_slice c.args.trbs.now (cc) in
    fold_over fronts (λ t. t.now) _ (λ ts found. found ≡ held_test ts) _
    (λ ts a t b f' so_far called.
    let turn : (b ≡ trb_test a t.now) × (f' ≡ _) = search rules in
    (turn.0 ∙ ap (λ (x : HeldTest). trb_test x t.now) so_far ∙ sym (held_test-more ts t.now), turn.1))
    _ c.args.trbs.now _ _ places.runs held_test-none c.fold.ensures.ran
