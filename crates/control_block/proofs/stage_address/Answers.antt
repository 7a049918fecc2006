-- `control_block::stage_address` meets its contract: what was found so far, with the rest, gives the address that all give. Assumes nothing.
use Prim.Native.Nat.{ℕ}
use mathlib.Core.Path.{◌≡◌, refl, sym, ap, ◌∙◌}
use mathlib.Core.List.{List, [], ◌∷◌, ◌++◌, append_assoc, append-nil}
use borrow.Author.Rules.{rules}
use Rattle.std.proofs.lemmas.Fn.{fold_over}
use Rattle.std.proofs.lemmas.Iterator.{YieldsList, YieldsList-from_slice}
use Rattle.std.proofs.iter.Yields.{fronts}
use Rattle.trb.specs.declared.TransferTrb.{TransferTrb}
use Rattle.control_block.specs.declared.StageFound.{StageFound}
use Rattle.control_block.specs.declared.StageFound.TheVariants as found
use Rattle.control_block.specs.Stages.{stage_address, stage_with}
use Rattle.control_block.proofs.StageLaws.{address_from, address_from-turn, address_from-none}
use Rattle.control_block.proofs.stage_address.Goals as goal

-- after the TRBs ts, with s found: whatever comes behind them
abbrev Found : (setup : ℕ) → List TransferTrb → StageFound → Type 0
Found setup ts s = (rest : List TransferTrb) → address_from s rest ≡ stage_address (ts ++ rest) setup

found-more : (setup : ℕ) (ts : List TransferTrb) (s r : StageFound) (t : TransferTrb) → Found setup ts s → r ≡ stage_with s t → Found setup (ts ++ (t ∷ [])) r
found-more setup ts s r t so_far e rest =
    ap (λ (x : StageFound). address_from x rest) e ∙ address_from-turn s t rest ∙ so_far (t ∷ rest)
    ∙ ap (λ (us : List TransferTrb). stage_address us setup) (sym (append_assoc ts (t ∷ []) rest))

pub returns : goal.returns
returns c =
    let ts = c.args.trbs.now in
    let setup = c.args.setup_address in
    let places : YieldsList fronts (λ y. y.now) c.iter.result ts = YieldsList-from_slice ts (cc) in
    let all : Found setup ts c.fold-found.result =
    fold_over fronts (λ t. t.now) _ (Found setup) _
    (λ us a t b f' so_far called.
    let turn : (b ≡ stage_with a t.now) × (f' ≡ _) = search rules in
    (found-more setup us a b t.now so_far turn.0, turn.1))
    _ ts (found.Neither setup) _ places.runs (λ rest. refl) c.fold-found.ensures.ran in
    c.found_address.ensures ∙ sym (address_from-none c.fold-found.result) ∙ all [] ∙ ap (λ (us : List TransferTrb). stage_address us setup) (append-nil ts)
