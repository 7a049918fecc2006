-- A table's fields: each bit stands in exactly one, so dwords are the sum of what their fields have. Assumes nothing.
use Prim.Native.Nat.{ℕ, ◌+◌, ◌*◌, ◌/◌, ◌%◌, ◌<◌, ◌^◌}
use mathlib.Core.Bool.{Bool, true, false, cond, ◌&&◌}
use mathlib.Core.List.{List, [], ◌∷◌, map}
use mathlib.Core.Path.{◌≡◌, refl, sym, ◌∙◌}
use native.Mathlib.Nat.{add_comm, zero-add, zero-mul}
use native.Mathlib.Omega.{arith}
use lib.Dec.{eqb}
use lib.Pow.{mod-pow-add}
use borrow.Author.Tests.{eqb-true}
use Rattle.trb.proofs.TestLaws.{and_left, and_right}
use Rattle.raw_trb.specs.declared.Dwords.{Dwords}
use Rattle.raw_trb.specs.Fields.{Field, Placed, ◌⇒◌, field_of, dword_at, dword_with, dwords_with}
use Rattle.raw_trb.specs.Layouts.{Row, set, unheld, reserved, fields_of, set_of, unheld_of, reserved_of, tiles_from, tiles, normal_table, setup_stage_table, data_stage_table, status_stage_table, event_data_table, no_op_table}
use Rattle.raw_trb.proofs.DwordLaws.{Small, AllZero, dwords-eq}

-- each of the 128 bits of a TRB stands in exactly one field of its table
pub every-bit-once : map tiles (normal_table ∷ setup_stage_table ∷ data_stage_table ∷ status_stage_table ∷ event_data_table ∷ no_op_table ∷ []) ≡ true ∷ true ∷ true ∷ true ∷ true ∷ true ∷ []
every-bit-once = refl

module _ (d : Dwords) where
  -- a field with the number that it has
  abbrev pub own : Field → Placed
  own f = f ⇒ field_of f d

  joined : (low high rest both all : ℕ) → both ≡ high + low → both + rest ≡ all → low + (high + rest) ≡ all
  joined low high rest both all p q = omega arith

  -- the bits of dword k below l, and its fields from there on, are the whole dword
  sum-from : (fs : List Field) (k l : ℕ) → tiles_from k l fs ≡ true → dword_at d k % 2 ^ l + dword_with k (map own fs) ≡ dword_at d k % 2 ^ 32
  sum-from [] k l h = rw (eqb-true l 32 h) (omega arith)
  sum-from (f ∷ fs) k l h = by-dword (eqb f.dword k) refl h (λ m t. sum-from fs k m t)
    where
      by-dword : (b : Bool) → eqb f.dword k ≡ b → cond b (eqb f.low l && tiles_from k (l + f.width) fs) (tiles_from k l fs) ≡ true
          → ((m : ℕ) → tiles_from k m fs ≡ true → dword_at d k % 2 ^ m + dword_with k (map own fs) ≡ dword_at d k % 2 ^ 32)
          → dword_at d k % 2 ^ l + (cond b (field_of f d * 2 ^ f.low) 0 + dword_with k (map own fs)) ≡ dword_at d k % 2 ^ 32
      by-dword true e t rest =
          rw (eqb-true f.dword k e, eqb-true f.low l (and_left (eqb f.low l) (tiles_from k (l + f.width) fs) t))
          (joined (dword_at d k % 2 ^ l) (dword_at d k / 2 ^ l % 2 ^ f.width * 2 ^ l) (dword_with k (map own fs)) (dword_at d k % 2 ^ (f.width + l)) (dword_at d k % 2 ^ 32)
          (mod-pow-add (dword_at d k) f.width l)
          (rw (add_comm f.width l) (rest (l + f.width) (and_right (eqb f.low l) (tiles_from k (l + f.width) fs) t))))
      by-dword false e t rest = rw zero-add (rest l t)

  -- a field that is zero adds nothing
  zero-part : (f : Field) (k : ℕ) → field_of f d ≡ 0 → cond (eqb f.dword k) (field_of f d * 2 ^ f.low) 0 ≡ 0
  zero-part f k z = rw z (by-test (eqb f.dword k))
    where
      by-test : (b : Bool) → cond b (0 * 2 ^ f.low) 0 ≡ 0
      by-test true = zero-mul (2 ^ f.low)
      by-test false = refl

  without-zeros : (rows : List Row) (k : ℕ) → AllZero (reserved_of rows) d → AllZero (unheld_of rows) d → dword_with k (map own (fields_of rows)) ≡ dword_with k (map own (set_of rows))
  without-zeros [] k r u = refl
  without-zeros (set f ∷ rows) k r u = rw (without-zeros rows k r u)
  without-zeros (unheld f ∷ rows) k r u = rw (zero-part f k u.0) (zero-add (dword_with k (map own (fields_of rows))) ∙ without-zeros rows k r u.1)
  without-zeros (reserved f ∷ rows) k r u = rw (zero-part f k r.0) (zero-add (dword_with k (map own (fields_of rows))) ∙ without-zeros rows k r.1 u)

  -- where the other fields are zero, the fields that are set make the dwords
  module _ (rows : List Row) (s : Small d) (t : tiles rows ≡ true) (r : AllZero (reserved_of rows) d) (u : AllZero (unheld_of rows) d) where
    dword : (k : ℕ) → tiles_from k 0 (fields_of rows) ≡ true → dword_at d k < 2 ^ 32 → dword_with k (map own (set_of rows)) ≡ dword_at d k
    dword k e h = sym (without-zeros rows k r u) ∙ omega (arith, sum-from (fields_of rows) k 0 e)

    pub dwords_with-own : dwords_with (map own (set_of rows)) ≡ d
    dwords_with-own =
        let fs : List Field = fields_of rows in
        let behind = and_right (tiles_from 0 0 fs) (tiles_from 1 0 fs && (tiles_from 2 0 fs && tiles_from 3 0 fs)) t in
        let last = and_right (tiles_from 1 0 fs) (tiles_from 2 0 fs && tiles_from 3 0 fs) behind in
        dwords-eq
        (dword 0 (and_left (tiles_from 0 0 fs) (tiles_from 1 0 fs && (tiles_from 2 0 fs && tiles_from 3 0 fs)) t) s.d0)
        (dword 1 (and_left (tiles_from 1 0 fs) (tiles_from 2 0 fs && tiles_from 3 0 fs) behind) s.d1)
        (dword 2 (and_left (tiles_from 2 0 fs) (tiles_from 3 0 fs) last) s.d2)
        (dword 3 (and_right (tiles_from 2 0 fs) (tiles_from 3 0 fs) last) s.d3)
