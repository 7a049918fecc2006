-- `control_places::stage_address` meets its contract: what was found so far, with the rest, gives the address that all give. Assumes nothing.
use Prim.Native.Nat.{ℕ, min}
use mathlib.Core.Path.{◌≡◌, refl, sym, ap, ◌∙◌}
use mathlib.Core.List.{List, [], ◌∷◌, ◌++◌, map, append-nil}
use native.Mathlib.Omega.{arith}
use borrow.Author.Rules.{rules}
use Rattle.std.proofs.lemmas.Fn.{fold_over}
use Rattle.std.proofs.lemmas.Iterator.{YieldsList, YieldsList-from_slice}
use Rattle.std.proofs.iter.Yields.{fronts}
use Rattle.trb.specs.Limits.{max_held}
use Rattle.trb.specs.declared.TransferTrb.{TransferTrb}
use Rattle.held.proofs.TestedLaws.{places-held}
use Rattle.control_block.specs.declared.StageFound.{StageFound}
use Rattle.control_block.specs.declared.StageFound.TheVariants as found
use Rattle.control_block.specs.Stages.{stage_address, stage_with}
use Rattle.control_block.proofs.StageLaws.{address_from, address_from-turn, address_from-none}
use Rattle.control_bytes.specs.Layout.{place_of, block_of}
use Rattle.control_bytes.proofs.FactLaws.{length-trbs}
use Rattle.control_places.proofs.stage_address.Goals.{After-places_held-count}
use Rattle.control_places.proofs.stage_address.Goals as goal

-- as many as are held and as there are
tested : (p : After-places_held-count) → p.places_held-count.result ≡ min (block_of p.args.block.now).held max_held
tested p = p.places_held-count.ensures ∙ ap (λ (n : ℕ). min n max_held) p.held.ensures.0

-- after the places ps, with s found: whatever comes behind them
abbrev Found : (setup : ℕ) → List (List ℕ) → StageFound → Type 0
Found setup ps s = (rest : List TransferTrb) → address_from s rest ≡ stage_address (map place_of ps ++ rest) setup

one-more : (ps : List (List ℕ)) (p : List ℕ) (rest : List TransferTrb) → map place_of ps ++ (place_of p ∷ rest) ≡ map place_of (ps ++ (p ∷ [])) ++ rest
one-more [] p rest = refl
one-more (q ∷ ps) p rest = ap (λ (ts : List TransferTrb). place_of q ∷ ts) (one-more ps p rest)

found-more : (setup : ℕ) (ps : List (List ℕ)) (s r : StageFound) (p : List ℕ) → Found setup ps s → r ≡ stage_with s (place_of p) → Found setup (ps ++ (p ∷ [])) r
found-more setup ps s r p so_far e rest =
    ap (λ (x : StageFound). address_from x rest) e ∙ address_from-turn s (place_of p) rest ∙ so_far (place_of p ∷ rest)
    ∙ ap (λ (ts : List TransferTrb). stage_address ts setup) (one-more ps p rest)

pub held_places-requires : goal.held_places-requires
held_places-requires c =
    let t = tested (goal.at.held_places-requires c).After-places_held-count in
    (c.requires, (omega (arith, t), omega (arith, t)))

pub returns : goal.returns
returns c =
    let b = block_of c.args.block.now in
    let ps = c.held_places.result.now in
    let setup = c.args.setup_address in
    let places : YieldsList fronts (λ y. y.now) c.iter.result ps = YieldsList-from_slice ps (cc) in
    let all : Found setup ps c.fold-found.result =
    fold_over fronts (λ p. p.now) _ (Found setup) _
    (λ qs a p r f' so_far called.
    let turn : (r ≡ stage_with a (place_of p.now)) × (f' ≡ _) = search rules in
    (found-more setup qs a r p.now so_far turn.0, turn.1))
    _ ps (found.Neither setup) _ places.runs (λ rest. refl) c.fold-found.ensures.ran in
    c.found_address.ensures ∙ sym (address_from-none c.fold-found.result) ∙ all []
    ∙ ap (λ (ts : List TransferTrb). stage_address ts setup)
    (append-nil (map place_of ps) ∙ c.held_places.ensures.trbs ∙ places-held b.trbs b.held c.places_held-count.result (length-trbs c.args.block.now) (tested (goal.at.returns c).After-places_held-count))
