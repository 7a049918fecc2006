-- A chained Normal that is taken: what the questions find with it. Assumes nothing.
use Rattle.std.specs.Prelude.{Ok}
use Prim.Native.Nat.{ℕ, ◌+◌, ◌<◌}
use mathlib.Core.Path.{◌≡◌, refl, ap, ◌∙◌}
use mathlib.Core.Bool.{Bool, true, false, ◌&&◌, ◌||◌}
use mathlib.Core.List.{List}
use native.Mathlib.Omega.{arith}
use lib.ListN.{get_or}
use borrow.Author.Tests.{le-leb}
use Rattle.trb.specs.Answers.{is_accepted}
use Rattle.trb.specs.Limits.{max_held, max_transfer_length}
use Rattle.trb.specs.Questions.{first_no}
use Rattle.trb.specs.declared.TransferTrbVariant.{TransferTrbVariant}
use Rattle.trb.specs.declared.TransferTrbVariant.TheVariants.{Normal}
use Rattle.buffers.specs.LittleEndian.{le_field}
use Rattle.guest_memory.specs.declared.Regions.{Regions}
use Rattle.in_questions.specs.Questions.{trb_questions}
use Rattle.held_bytes.specs.Numbers.{cycle_on, normal_of, variant_of}
use Rattle.row_walk.specs.declared.TdResult.{TdResult}
use Rattle.row_questions.specs.Tests.{answered, asked_also, tested_trb}
use Rattle.row_questions.specs.declared.RowTest.{RowTest}
use Rattle.row_questions.proofs.RowTestLaws.{also-yes}
use Rattle.row_bytes.specs.Layout.{given_trb}
use Rattle.in_place_row.specs.InPlaceRow.{Taken, with_normal}

and_yes : (b : Bool) → (b && true) ≡ b
and_yes true = refl
and_yes false = refl

or_yes : (b : Bool) → (b || true) ≡ true
or_yes true = refl
or_yes false = refl

module _ (regions : Regions) (a : RowTest) (l : List ℕ) (k : Taken l regions) where
  abbrev normal : TransferTrbVariant
  normal = Normal (normal_of (get_or l 21 0) (le_field 8 8 l) (le_field 16 4 l))

  is_normal : (given_trb l).variant ≡ normal
  unfolding given_trb variant_of
  is_normal = rw k.kind

  -- no question says no
  taken : a.held < max_held → is_accepted a.asked ≡ true → asked_also a.asked (trb_questions a.held normal regions) ≡ Ok tt
  unfolding first_no answered
  taken few accepted =
      also-yes a.asked (trb_questions a.held normal regions) accepted
      ∙ rw (le-leb (le_field 16 4 l) max_transfer_length k.short, k.from-memory, le-leb (a.held + 1) max_held (omega arith), k.inside)

  pub tested-normal : (r : TdResult) → a.held < max_held → is_accepted a.asked ≡ true → tested_trb regions a (given_trb l) r ≡ with_normal a
  unfolding given_trb
  tested-normal r few accepted =
      ap (λ (v : TransferTrbVariant). tested_trb regions a (record { variant = v; addr = le_field 0 8 l; cycle_bit = cycle_on (get_or l 21 0) }) r) is_normal
      ∙ rw k.chain
      (λ j. record {
        asked = taken few accepted j;
        held = a.held + 1;
        supported = and_yes a.supported j;
        tds = a.tds;
        has_normal = or_yes a.has_normal j;
        given_rightly = a.given_rightly;
        given = a.given;
      })
