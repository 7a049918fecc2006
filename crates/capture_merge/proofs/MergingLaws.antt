-- Laws of merging: which record is next. Assumes nothing.
use Prim.Native.Nat.{ℕ, ◌+◌, ◌<◌}
use mathlib.Core.Bool.{Bool, true, false, not, ◌||◌, false≢true}
use mathlib.Core.Logic.{◌⊎◌, inl, inr, ⊎_elim}
use mathlib.Core.Path.{◌≡◌, refl, sym, ap}
use mathlib.Core.List.{List, [], ◌∷◌}
use native.Mathlib.Omega.{arith}
use lib.Dec.{eqb}
use lib.ListN.{length, drop}
use borrow.Author.Tests.{eqb-false, ne_eqb}
use Rattle.capture_file.specs.Records.{CaptureRecord}
use Rattle.capture_file.specs.Reading.{captured_at, record_at, records_in}
use Rattle.capture_file.proofs.ReadingLaws.{records_in-none, records_in-next}
use Rattle.capture_file.proofs.LayoutLaws.{both}
use Rattle.capture_file.specs.Times.{earlier}
use Rattle.capture_merge.specs.Merging.{merged, second_next}

pub merged-none : (xs : List CaptureRecord) → merged xs [] ≡ xs
merged-none [] = refl
merged-none (x ∷ xs) = ap (λ (l : List CaptureRecord). x ∷ l) (merged-none xs)

-- with nothing in l, the second's is next; with nothing in m, the first's
none_or_some : (l : List ℕ) → (l ≡ []) ⊎ (0 < length l)
none_or_some [] = inl refl
none_or_some (x ∷ l) = inr (omega arith)

-- both parts of a disjunction that is false, and the second part of one whose first is
pub neither : (a b : Bool) → (a || b) ≡ false → (a ≡ false) × (b ≡ false)
neither true b h = absurd (false≢true (sym h))
neither false b h = (refl, h)

second-of : (a b t : Bool) → a ≡ false → (a || b) ≡ t → b ≡ t
second-of a b t p q = rw p at q

-- the next record, and then the others
module _ (extra : ℕ) (l m : List ℕ) where
  abbrev SecondNext : Type 0
  SecondNext =
      merged (records_in extra l) (records_in extra m) ≡ record_at extra m ∷ merged (records_in extra l) (records_in extra (drop (16 + captured_at m) m))

  abbrev FirstNext : Type 0
  FirstNext =
      merged (records_in extra l) (records_in extra m) ≡ record_at extra l ∷ merged (records_in extra (drop (16 + captured_at l) l)) (records_in extra m)

  second-alone : 0 < length m → l ≡ [] → SecondNext
  second-alone some e = rw (e, records_in-none extra, records_in-next extra m some)

  first_alone : 0 < length l → m ≡ [] → FirstNext
  first_alone some e = rw (e, records_in-none extra, merged-none, merged-none) (records_in-next extra l some)

  second-earlier : 0 < length l → 0 < length m → earlier (record_at extra m) (record_at extra l) ≡ true → SecondNext
  second-earlier hl hm e = rw (records_in-next extra l hl, records_in-next extra m hm, e)

  first-not-later : 0 < length l → 0 < length m → earlier (record_at extra m) (record_at extra l) ≡ false → FirstNext
  first-not-later hl hm e = rw (records_in-next extra l hl, records_in-next extra m hm, e)

  pub second-some : second_next l m ≡ true → 0 < length m
  unfolding second_next
  second-some h = ⊎_elim (λ e. absurd (false≢true (rw e at (both (not (eqb (length m) 0)) _ h).0))) (λ s. s) (none_or_some m)

  pub merged-second : second_next l m ≡ true → SecondNext
  unfolding second_next earlier record_at
  merged-second h =
      ⊎_elim
      (second-alone (second-some h))
      (λ s. second-earlier s (second-some h)
      (second-of (eqb (length l) 0) _ true (ne_eqb (length l) 0 (λ z. omega (arith, z, s))) (both (not (eqb (length m) 0)) _ h).1))
      (none_or_some l)

  asked-first : second_next l m ≡ false → 0 < length m
      → (eqb (length l) 0 ≡ false) × (earlier (record_at extra m) (record_at extra l) ≡ false)
  unfolding second_next earlier record_at
  asked-first h s = neither (eqb (length l) 0) _ (rw (ne_eqb (length m) 0 (λ z. omega (arith, z, s))) at h)

  pub first_some : second_next l m ≡ false → 0 < length l + length m → 0 < length l
  first_some h any =
      ⊎_elim
      (λ e. omega (arith, any, ap length e))
      (λ s. ⊎_elim (λ e. absurd (eqb-false (length l) 0 (asked-first h s).0 (ap length e))) (λ t. t) (none_or_some l))
      (none_or_some m)

  pub merged-first : second_next l m ≡ false → 0 < length l + length m → FirstNext
  merged-first h any =
      ⊎_elim (first_alone (first_some h any)) (λ s. first-not-later (first_some h any) s (asked-first h s).1) (none_or_some m)
