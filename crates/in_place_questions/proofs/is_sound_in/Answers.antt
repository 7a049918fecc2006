-- `in_place_questions::is_sound_in` meets its contract: where no device is awaited, ids and number held decide. Assumes nothing.
use mathlib.Core.Path.{sym, ◌∙◌}
use borrow.Author.Rules.{rules}
use Rattle.in_place_questions.proofs.FactLaws.{sound-in}
use Rattle.in_place_questions.proofs.is_sound_in.Goals.{then-block-number, else-block-number}
use Rattle.in_place_questions.proofs.is_sound_in.Goals as goal

pub returns-then-held-le-MAX_HELD : goal.returns-then-held-le-MAX_HELD
returns-then-held-le-MAX_HELD c =
    λ yes.
    elim c.if-block-number.branch [
      | then-block-number w ↦ sound-in c.args.block.now c.args.number (search rules) c.requires.1 (search rules) (rw (c.slot_id.ensures, c.endpoint_id.ensures) at (sym c.ids_in_range.ensures ∙ yes))
      | else-block-number w ↦ search rules
    ]
