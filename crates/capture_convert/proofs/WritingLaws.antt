-- The loop that writes resized records: what is left to write, and the room for it. Assumes nothing.
use Prim.Native.Nat.{ℕ, ◌+◌, ◌<◌}
use mathlib.Core.Bool.{true}
use mathlib.Core.Path.{◌≡◌, refl, sym, ap, ◌∙◌}
use mathlib.Core.List.{List, [], ◌∷◌, ◌++◌}
use native.Mathlib.Omega.{arith}
use lib.ListN.{length, drop, length-append}
use Rattle.capture_file.specs.Records.{layout}
use Rattle.capture_file.specs.Reading.{captured_at, delivered_at, record_at, whole_record, whole_records}
use Rattle.capture_file.proofs.ReadingLaws.{whole_records-next}
use Rattle.capture_file.proofs.LayoutLaws.{both, whole-tests}
use Rattle.capture_convert.specs.Converting.{resized, resized_bytes, Resizable, ResizableRecord}
use Rattle.capture_convert.proofs.ConvertingLaws.{Sized, sized, length-resized, resized_bytes-next, resized_bytes-none}
use Rattle.text.specs.declared.Text.{Text}
use Rattle.text.specs.Wrote.{HasRoom, Wrote}
use Rattle.text.proofs.WroteLaws.{Remaining, remaining-less, remaining-none}

-- of the records in l, the first and the others can be resized
module _ {from to : ℕ} (l : List ℕ) (h : 0 < length l) (s : Resizable from to l) where
  parts : (whole_record from s.records.most l ≡ true) × (whole_records from s.records.most (drop (16 + captured_at l) l) ≡ true)
  parts = both _ _ (sym (whole_records-next from s.records.most l h) ∙ s.records.whole)

  pub first-resizable : ResizableRecord from to l
  first-resizable = record { most = s.records.most; whole = parts.0; limit = s.limit; small = s.small }

  pub others-resizable : Resizable from to (drop (16 + captured_at l) l)
  others-resizable = record { records = record { most = s.records.most; whole = parts.1 }; limit = s.limit; small = s.small }

  pub first-sized : Sized from to l
  first-sized = sized first-resizable

-- the records l are being written behind the bytes t₀, which are t now: the records in `rest` are left
pub record Writing (from to : ℕ) (l : List ℕ) (t₀ t : Text) (rest : List ℕ) : Type 0 where
  pub left : Resizable from to rest
  pub todo : Remaining t₀ (resized_bytes from to l) t (resized_bytes from to rest)

module _ {from to : ℕ} {l rest : List ℕ} {t₀ t : Text} (w : Writing from to l t₀ t rest) (h : 0 < length rest) where
  record-here : ResizableRecord from to rest
  record-here = first-resizable rest h w.left

  abbrev behind : List ℕ
  behind = resized_bytes from to (drop (16 + captured_at rest) rest)

  abbrev here : List ℕ
  here = layout (resized to (record_at from rest))

  split : resized_bytes from to rest ≡ here ++ behind
  split = resized_bytes-next from to rest h

  -- the record here fits
  pub room-here : HasRoom (64 + to + delivered_at rest) t
  room-here =
      let size : length here ≡ 64 + to + delivered_at rest = length-resized to rest (whole-tests from record-here.most rest record-here.whole) in
      omega (arith, w.todo.end, w.todo.size, w.todo.room, ap length split, length-append here behind, size)

  -- and with it written the others are to be
  pub writing_step : {i n : ℕ} {u : Text} → i ≡ 16 + captured_at rest → Wrote n t here u → Writing from to l t₀ u (drop i rest)
  writing_step passed wrote =
      rw passed
      (record { left = others-resizable rest h w.left; todo = remaining-less here behind (rw split at w.todo) wrote })

empty : (l : List ℕ) → length l ≡ 0 → l ≡ []
empty [] h = refl
empty (b ∷ bs) h = absurd (omega arith)

-- at the end nothing is left to write
pub writing-ends : {from to : ℕ} {l rest : List ℕ} {t₀ t : Text} → Writing from to l t₀ t rest → length rest ≡ 0
    → Wrote (length (resized_bytes from to l)) t₀ (resized_bytes from to l) t
writing-ends {from} {to} {l} {rest} w h =
    let none : resized_bytes from to rest ≡ [] = ap (resized_bytes from to) (empty rest h) ∙ resized_bytes-none from to in
    remaining-none (omega arith) (rw none at w.todo)
