-- The loop that copies record after record: what is left to copy, and the room for it. Assumes nothing.
use Prim.Native.Nat.{ℕ, ◌+◌, ◌≤◌, ◌<◌}
use mathlib.Core.Bool.{true, false}
use mathlib.Core.Path.{◌≡◌, refl, sym, ap, ◌∙◌}
use mathlib.Core.List.{List, [], ◌∷◌, ◌++◌}
use native.Mathlib.Omega.{arith}
use lib.ListN.{length, take, drop, length-append, length-drop, drop_of_length-le}
use lib.Seq.{length-take-le}
use Rattle.buffers.specs.LittleEndian.{AllBytes}
use Rattle.buffers.proofs.LittleEndianLaws.{AllBytes-drop}
use Rattle.capture_file.specs.Records.{CaptureRecord, layout, layout_all}
use Rattle.capture_file.specs.Reading.{captured_at, record_at, records_in, whole_record, whole_records, Records}
use Rattle.capture_file.proofs.ReadingLaws.{records_in-none, whole_records-next}
use Rattle.capture_file.proofs.LayoutLaws.{both, Whole, whole-tests, layout-record_at, layout_all-records_in}
use Rattle.text.specs.declared.Text.{Text}
use Rattle.text.specs.Wrote.{HasRoom, Wrote}
use Rattle.text.proofs.WroteLaws.{Remaining, remaining-all, remaining-less, remaining-none}
use Rattle.capture_merge.specs.Merging.{second_next, merged_bytes}
use Rattle.capture_merge.specs.Order.{Woven, none, left, right}
use Rattle.capture_merge.proofs.MergingLaws.{merged-second, merged-first, first_some, second-some}
use Rattle.capture_merge.proofs.Order.{merged-woven}

-- merging keeps every byte
length-woven : {xs ys zs : List CaptureRecord} → Woven xs ys zs → length (layout_all zs) ≡ length (layout_all xs) + length (layout_all ys)
unfolding layout_all
length-woven none = refl
length-woven (left {x} {xs} {ys} {zs} w) =
    omega (arith, length-woven w, length-append (layout x) (layout_all zs), length-append (layout x) (layout_all xs))
length-woven (right {y} {xs} {ys} {zs} w) =
    omega (arith, length-woven w, length-append (layout y) (layout_all zs), length-append (layout y) (layout_all ys))

pub length-merged : {extra : ℕ} (l m : List ℕ) → Records extra l → Records extra m → AllBytes l → AllBytes m
    → length (merged_bytes extra l m) ≡ length l + length m
unfolding merged_bytes
length-merged {extra} l m r s bytes_l bytes_m =
    let first = layout_all-records_in extra r.most l bytes_l r.whole in
    let second = layout_all-records_in extra s.most m bytes_m s.whole in
    length-woven (merged-woven (records_in extra l) (records_in extra m)) ∙ omega (arith, ap length first, ap length second)

-- the first record and the others
module _ {extra : ℕ} (l : List ℕ) (h : 0 < length l) (r : Records extra l) where
  parts : (whole_record extra r.most l ≡ true) × (whole_records extra r.most (drop (16 + captured_at l) l) ≡ true)
  parts = both _ _ (sym (whole_records-next extra r.most l h) ∙ r.whole)

  pub first-whole : Whole extra r.most l
  first-whole = whole-tests extra r.most l parts.0

  others-whole : Records extra (drop (16 + captured_at l) l)
  others-whole = record { most = r.most; whole = parts.1 }

  size : length (take (16 + captured_at l) l) ≡ 16 + captured_at l
  size = length-take-le (16 + captured_at l) l first-whole.complete

  -- where the record here comes next, its bytes do
  bytes_next : AllBytes l → (rs : List CaptureRecord) → layout_all (record_at extra l ∷ rs) ≡ take (16 + captured_at l) l ++ layout_all rs
  unfolding layout_all
  bytes_next bytes rs = ap (λ (m : List ℕ). m ++ layout_all rs) (layout-record_at extra r.most l first-whole bytes)

-- the records of a and b are being merged behind the bytes t₀, which are t now: those in l and in m are left
pub record Merging (extra : ℕ) (a b : List ℕ) (t₀ t : Text) (l m : List ℕ) : Type 0 where
  pub first : Records extra l
  pub second : Records extra m
  pub first_bytes : AllBytes l
  pub second_bytes : AllBytes m
  pub few : length l + length m ≤ length a + length b
  pub todo : Remaining t₀ (merged_bytes extra a b) t (merged_bytes extra l m)

pub merging-all : {extra : ℕ} {a b : List ℕ} {t : Text} → Records extra a → Records extra b → AllBytes a → AllBytes b
    → HasRoom (length a + length b) t → Merging extra a b t t a b
merging-all {a = a} {b = b} r s bytes_a bytes_b room = record {
  first = r;
  second = s;
  first_bytes = bytes_a;
  second_bytes = bytes_b;
  few = omega arith;
  todo = remaining-all _ _ (omega (arith, room, length-merged a b r s bytes_a bytes_b));
}

module _ {extra : ℕ} {a b l m : List ℕ} {t₀ t : Text} (w : Merging extra a b t₀ t l m) where
  -- the second's record comes next
  module _ (next : second_next l m ≡ true) where
    abbrev some_m : 0 < length m
    some_m = second-some extra l m next

    split_m : merged_bytes extra l m ≡ take (16 + captured_at m) m ++ merged_bytes extra l (drop (16 + captured_at m) m)
    unfolding merged_bytes
    split_m = ap layout_all (merged-second extra l m next) ∙ bytes_next m some_m w.second w.second_bytes _

    pub second-here : Whole extra w.second.most m
    second-here = first-whole m some_m w.second

    pub second-room : HasRoom (16 + captured_at m) t
    second-room =
        omega (arith, w.todo.end, w.todo.size, w.todo.room, ap length split_m, length-append (take (16 + captured_at m) m) (merged_bytes extra l (drop (16 + captured_at m) m)), size m some_m w.second)

    pub merging-second : {n : ℕ} {rest : List ℕ} {u : Text} → rest ≡ drop (16 + captured_at m) m → Wrote n t (take (16 + captured_at m) m) u → Merging extra a b t₀ u l rest
    merging-second behind wrote =
        rw behind
        (record {
          first = w.first;
          second = others-whole m some_m w.second;
          first_bytes = w.first_bytes;
          second_bytes = AllBytes-drop (16 + captured_at m) m w.second_bytes;
          few = omega (arith, w.few, length-drop (16 + captured_at m) m);
          todo = remaining-less _ _ (rw split_m at w.todo) wrote;
        })

  -- the first's does
  module _ (next : second_next l m ≡ false) (any : 0 < length l + length m) where
    abbrev some_l : 0 < length l
    some_l = first_some extra l m next any

    split_l : merged_bytes extra l m ≡ take (16 + captured_at l) l ++ merged_bytes extra (drop (16 + captured_at l) l) m
    unfolding merged_bytes
    split_l = ap layout_all (merged-first extra l m next any) ∙ bytes_next l some_l w.first w.first_bytes _

    pub first-here : Whole extra w.first.most l
    first-here = first-whole l some_l w.first

    pub first-room : HasRoom (16 + captured_at l) t
    first-room =
        omega (arith, w.todo.end, w.todo.size, w.todo.room, ap length split_l, length-append (take (16 + captured_at l) l) (merged_bytes extra (drop (16 + captured_at l) l) m), size l some_l w.first)

    pub merging-first : {n : ℕ} {rest : List ℕ} {u : Text} → rest ≡ drop (16 + captured_at l) l → Wrote n t (take (16 + captured_at l) l) u → Merging extra a b t₀ u rest m
    merging-first behind wrote =
        rw behind
        (record {
          first = others-whole l some_l w.first;
          second = w.second;
          first_bytes = AllBytes-drop (16 + captured_at l) l w.first_bytes;
          second_bytes = w.second_bytes;
          few = omega (arith, w.few, length-drop (16 + captured_at l) l);
          todo = remaining-less _ _ (rw split_l at w.todo) wrote;
        })

  nothing : l ≡ [] → m ≡ [] → merged_bytes extra l m ≡ []
  unfolding merged_bytes layout_all
  nothing e f = rw (e, f, records_in-none extra)

  -- at the end nothing is left
  pub merging-ends : {k : ℕ} → length l + length m ≤ 0 → length (merged_bytes extra a b) ≤ k → Wrote k t₀ (merged_bytes extra a b) t
  merging-ends h few =
      let none_l : l ≡ [] = drop_of_length-le l {i = 0} (omega (arith, h)) in
      let none_m : m ≡ [] = drop_of_length-le m {i = 0} (omega (arith, h)) in
      let none : merged_bytes extra l m ≡ [] = nothing none_l none_m in
      remaining-none few (rw none at w.todo)
