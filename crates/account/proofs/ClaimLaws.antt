-- The test of specs/Claims.antt is true of the logs that are an account, and of no others. Assumes nothing.
use Prim.Native.Nat.{ℕ, min}
use mathlib.Core.Path.{◌≡◌, refl, sym, ◌∙◌}
use mathlib.Core.Bool.{Bool, true, false, not, ◌&&◌, false≢true}
use mathlib.Core.List.{List, [], ◌∷◌}
use borrow.Author.Tests.{leb-true, le-leb, eqb-true, eq-eqb, not-true}
use lib.Dec.{eqb, leb}
use lib.ListN.{take}
use Rattle.trb.specs.declared.TransferTrb.{TransferTrb}
use Rattle.trb.proofs.TestLaws.{and_left, and_right}
use Rattle.call_log.specs.declared.Record.{Record}
use Rattle.in_td.specs.Normals.{requested}
use Rattle.account.specs.Guest.{places, is_write, is_event, any, relied, sum_for, residual_in, account, names_held, before, later, numbered, bytes, Account}
use Rattle.account.specs.Claims.{same, accounts}

same_refl : (xs : List (ℕ × ℕ)) → same xs xs ≡ true
unfolding same
same_refl [] = refl
same_refl (x ∷ xs) = rw (eq-eqb x.0 x.0 refl, eq-eqb x.1 x.1 refl) (same_refl xs)

same_true : (xs ys : List (ℕ × ℕ)) → same xs ys ≡ true → xs ≡ ys
unfolding same
same_true [] [] h = refl
same_true [] (y ∷ ys) h = absurd (false≢true h)
same_true (x ∷ xs) [] h = absurd (false≢true h)
same_true (x ∷ xs) (y ∷ ys) h =
    let rest : (eqb x.1 y.1 && same xs ys) ≡ true = and_right (eqb x.0 y.0) (eqb x.1 y.1 && same xs ys) h in
    let number : x.0 ≡ y.0 = eqb-true x.0 y.0 (and_left (eqb x.0 y.0) (eqb x.1 y.1 && same xs ys) h) in
    let address : x.1 ≡ y.1 = eqb-true x.1 y.1 (and_left (eqb x.1 y.1) (same xs ys) rest) in
    let more : xs ≡ ys = same_true xs ys (and_right (eqb x.1 y.1) (same xs ys) rest) in
    λ i. (number i, address i) ∷ more i

module _ (n : ℕ) (ts : List TransferTrb) (rs : List Record) where
  pub accounts-Account : Account n ts rs → accounts n ts rs ≡ true
  unfolding accounts
  accounts-Account c =
      rw (c.held, le-leb (residual_in (relied rs)) (sum_for ts (relied rs)) c.covered, eq-eqb (account ts rs) (min n (requested ts)) c.exact, c.has_event, c.placed, c.none_later)
      (rw (same_refl (numbered 0 (take (min n (requested ts)) (places ts)))))

  -- so the worthless logs are no accounts
  pub not-Account : accounts n ts rs ≡ false → Account n ts rs → ⊥
  not-Account h c = false≢true (sym h ∙ accounts-Account c)

  pub Account-accounts : accounts n ts rs ≡ true → Account n ts rs
  unfolding accounts
  Account-accounts h =
      let held : Bool = names_held ts (relied rs) in
      let covered : Bool = leb (residual_in (relied rs)) (sum_for ts (relied rs)) in
      let exact : Bool = eqb (account ts rs) (min n (requested ts)) in
      let placed : Bool = same (bytes (before rs)) (numbered 0 (take (min n (requested ts)) (places ts))) in
      let none_later : Bool = not (any is_write (later rs)) in
      let from-covered : (covered && (exact && (any is_event rs && (placed && none_later)))) ≡ true = and_right held _ h in
      let from-exact : (exact && (any is_event rs && (placed && none_later))) ≡ true = and_right covered _ from-covered in
      let from-event : (any is_event rs && (placed && none_later)) ≡ true = and_right exact _ from-exact in
      let from-placed : (placed && none_later) ≡ true = and_right (any is_event rs) _ from-event in
      record {
        held = and_left held _ h;
        covered = leb-true _ _ (and_left covered _ from-covered);
        exact = eqb-true _ _ (and_left exact _ from-exact);
        has_event = and_left (any is_event rs) _ from-event;
        placed = same_true _ _ (and_left placed _ from-placed);
        none_later = not-true _ (and_right placed _ from-placed);
      }
