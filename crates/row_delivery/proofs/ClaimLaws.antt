-- The test of specs/Claims.antt is true of every row that is delivered whole, where each TD keeps demand 3's conditions; so a torn one is not. Assumes nothing.
use Rattle.std.specs.Prelude.{Ok}
use Prim.Native.Nat.{ℕ, ◌+◌}
use mathlib.Core.Bool.{true, false, false≢true}
use mathlib.Core.Path.{◌≡◌, refl, sym, ◌∙◌}
use mathlib.Core.List.{List, [], ◌∷◌}
use lib.ListN.{length}
use Rattle.call_log.specs.declared.Record.{Record}
use Rattle.guest_memory.specs.Places.{Memory}
use Rattle.carry_out.specs.CarryOut.{memory_after, Carried}
use Rattle.account.specs.Guest.{Distinct, IspOnNormals, LastNormalWithIoc, count_before}
use Rattle.row_walk.specs.Rows.{RowTd}
use Rattle.delivery_laws.specs.Claims.{same_memory}
use Rattle.delivery_laws.proofs.ClaimLaws.{same_bytes-refl}
use Rattle.call_log.specs.First.{first_records}
use Rattle.row_delivery.specs.Frames.{frame_over, EachDelivered}
use Rattle.row_delivery.specs.Claims.{each_whole}

-- demand 3's conditions, of each TD
unfoldable pub EachFit : List RowTd → Type 0
EachFit [] = Unit {0}
EachFit (x ∷ xs) = (Distinct x.trbs × (IspOnNormals x.trbs × LastNormalWithIoc x.trbs)) × EachFit xs

module _ (bytes : List ℕ) (m : Memory) (log : List ℕ) where
  same-carried : (l : List ℕ) (m' : Memory) → Carried l bytes m (Ok tt) m' → same_memory (memory_after (Ok tt) l bytes m) m' ≡ true
  same-carried l m' c = rw (← c.after, same_bytes-refl m'.low, same_bytes-refl m'.high)

  pub whole-EachDelivered : (k start : ℕ) (left : Memory) (xs : List RowTd) (logs : List (List Record)) → EachFit xs → EachDelivered bytes m log k start left xs logs
      → each_whole bytes m log k start left xs logs ≡ true
  unfolding each_whole EachFit EachDelivered
  whole-EachDelivered k start left [] [] fit d = refl
  whole-EachDelivered k start left (x ∷ xs) [] fit d = refl
  whole-EachDelivered k start left [] (own ∷ logs) fit d = absurd d
  whole-EachDelivered k start left (x ∷ xs) (own ∷ logs) fit d =
      rw (
        same-carried (first_records (k + count_before own) log) (frame_over bytes start x left) (d.0.at_event fit.0.0 fit.0.1.0 fit.0.1.1),
        same-carried (first_records (k + length own) log) (frame_over bytes start x left) d.0.at_end,
      )
      (whole-EachDelivered (k + length own) (start + x.given.length) (frame_over bytes start x left) xs logs fit.1 d.1)

  pub torn-not-EachDelivered : (xs : List RowTd) (logs : List (List Record)) → EachFit xs → each_whole bytes m log 0 0 m xs logs ≡ false
      → EachDelivered bytes m log 0 0 m xs logs → ⊥
  torn-not-EachDelivered xs logs fit h d = false≢true (sym h ∙ whole-EachDelivered 0 0 m xs logs fit d)
