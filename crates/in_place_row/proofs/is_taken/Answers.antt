-- `in_place_row::is_taken` meets its contract: behind each test one question says yes. Assumes nothing.
use mathlib.Core.Bool.{Bool, true, false, cond}
use mathlib.Core.Path.{◌≡◌, refl, sym, ◌∙◌}
use lib.Dec.{eqb}
use borrow.Author.Rules.{rules}
use Rattle.guest_memory.specs.Places.{range_inside}
use Rattle.in_place_row.proofs.is_taken.Goals.{then-place-eq-NORMAL, else-place-eq-NORMAL, then-bit, else-bit, then-not-bit, else-not-bit}
use Rattle.in_place_row.proofs.is_taken.Goals as goal

-- inside, whether or not it is asked
inside-anyway : (b : Bool) → cond b true true ≡ true
inside-anyway true = refl
inside-anyway false = refl

pub returns-then-length-le-MAX_TRANSFER_LENGTH : goal.returns-then-length-le-MAX_TRANSFER_LENGTH
unfolding range_inside
returns-then-length-le-MAX_TRANSFER_LENGTH c =
    λ yes.
    elim c.if-place-eq-NORMAL.branch [
      | then-place-eq-NORMAL u ↦ elim c.if-bit.branch [
        | then-bit v ↦ elim c.if-not-bit.branch [
          | then-not-bit w ↦ record {
            kind = u.if-place-eq-NORMAL.true;
            chain = search rules;
            from-memory = search rules;
            short = rw (← c.le32-length.ensures) (search rules);
            inside = rw (← c.le32-length.ensures, ← c.le64.ensures, sym c.check_range.ensures ∙ yes) (inside-anyway (eqb c.le32-length.result 0));
          }
          | else-not-bit w ↦ search rules
        ]
        | else-bit v ↦ search rules
      ]
      | else-place-eq-NORMAL u ↦ search rules
    ]
