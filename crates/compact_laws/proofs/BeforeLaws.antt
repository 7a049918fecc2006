-- 02, R-9: or up to any event. An event or a request of a log stands in what is kept of it too; what is kept before it is what is kept of the log before it,
-- and carrying that out leaves the same. Assumes nothing.
use Rattle.std.specs.Prelude.{Ok}
use Prim.Native.Nat.{ℕ, zero, suc, ◌+◌, ◌-◌, ◌*◌, ◌/◌, ◌%◌, ◌≤◌}
use mathlib.Core.Bool.{true, false}
use mathlib.Core.Path.{◌≡◌, refl, sym, ap, ◌∙◌}
use mathlib.Core.List.{List, [], ◌∷◌, ◌++◌, map, append_assoc}
use native.Mathlib.Nat.{sub-zero}
use native.Mathlib.Omega.{arith}
use lib.Dec.{eqb}
use lib.ListN.{length, take, drop, take-append-drop}
use lib.Seq.{length-take-le, drop-drop, take_at, drop_at}
use borrow.Author.Tests.{eq-eqb}
use Rattle.trb.specs.Limits.{record_length}
use Rattle.trb.specs.Questions.{first_no}
use Rattle.trb.proofs.TestLaws.{and_left, and_right}
use Rattle.call_log.specs.Records.{decode, record_at, write_kind}
use Rattle.log_check.specs.WellFormed.{kind_known, kinds_known, well_formed}
use Rattle.guest_memory.specs.declared.Regions.{Regions}
use Rattle.guest_memory.specs.Places.{Memory, regions_of}
use Rattle.carry_out.specs.Writes.{records_of, writes_in_range}
use Rattle.carry_out.specs.CarryOut.{answer_of, memory_after}
use Rattle.carry_out.proofs.WriteLaws.{writes_in_range-cons}
use Rattle.kept_records.specs.Rows.{row_at, rows_in, rows_of, bytes_of}
use Rattle.kept_records.specs.Compact.{compacted, other_rows}
use Rattle.log_compact.specs.Compacting.{kept_bytes}
use Rattle.compact_laws.specs.Touching.{touch}
use Rattle.compact_laws.specs.Before.{log_before, Stays, SameBefore}
use Rattle.log_compact.proofs.RowLaws.{decode-row_at, length-row_at, rows_in-next, rows_in-append}
use Rattle.compact_laws.proofs.CompactLaws.{compacted-part, other_rows-compacted}
use Rattle.compact_laws.proofs.LogLaws.{length-bytes_of, records_of-rows_of, all_sized-rows_of, sized, rows_of-kept, accepted-apart, accepted-formed, accepted-in_range, carry_out-kept, memory_after-kept}

-- ---- A log, parted

rows_in-split : (i n : ℕ) (l : List ℕ) → i ≤ n → rows_in n l ≡ rows_in i l ++ rows_in (n - i) (drop (record_length * i) l)
rows_in-split zero n l h = rw sub-zero
rows_in-split (suc i) zero l h = absurd (omega arith)
rows_in-split (suc i) (suc n) l h =
    let less : n - i ≡ suc n - suc i = omega arith in
    let at : record_length + record_length * i ≡ record_length * suc i = omega arith in
    ap (λ (rs : List (List ℕ)). take record_length l ∷ rs)
    (rows_in-split i n (drop record_length l) (omega arith)
    ∙ ap (λ (b : List ℕ). rows_in i (drop record_length l) ++ rows_in (n - i) b) (drop-drop (record_length * i) record_length l ∙ ap (λ (k : ℕ). drop k l) at)
    ∙ ap (λ (m : ℕ). rows_in i (drop record_length l) ++ rows_in m (drop (record_length * suc i) l)) less)

bytes_of-append : (xs ys : List (List ℕ)) → bytes_of (xs ++ ys) ≡ bytes_of xs ++ bytes_of ys
bytes_of-append [] ys = refl
bytes_of-append (x ∷ xs) ys = ap (λ (l : List ℕ). x ++ l) (bytes_of-append xs ys) ∙ sym (append_assoc x (bytes_of xs) (bytes_of ys))

module _ (log : List ℕ) (k : ℕ) (room : record_length * (k + 1) ≤ length log) where
  abbrev rows_behind : List (List ℕ)
  rows_behind = rows_in (length log / record_length - (k + 1)) (drop (record_length * (k + 1)) log)

  rows_of-before : rows_of (log_before k log) ≡ rows_in k log
  rows_of-before =
      let size : length (log_before k log) ≡ record_length * k = length-take-le (record_length * k) log (omega arith) in
      let count : length (log_before k log) / record_length ≡ k = omega (arith, size) in
      ap (λ (n : ℕ). rows_in n (log_before k log)) count
      ∙ sym (rows_in-append k (log_before k log) (drop (record_length * k) log) (omega (arith, size)))
      ∙ ap (rows_in k) (take-append-drop (record_length * k) log)

  rows_of-parted : rows_of log ≡ rows_of (log_before k log) ++ (row_at log k ∷ rows_behind)
  rows_of-parted =
      rows_in-split k (length log / record_length) log (omega arith)
      ∙ ap (λ (rs : List (List ℕ)). rows_in k log ++ rs) (rows_in-next (length log / record_length) k log (omega arith))
      ∙ ap (λ (rs : List (List ℕ)). rs ++ (row_at log k ∷ rows_behind)) (sym rows_of-before)

-- ---- What is kept of it

-- 02, R-9: requests and events keep order and content
module _ (log : List ℕ) (k : ℕ) (room : record_length * (k + 1) ≤ length log) (other : (record_at log k).kind ≡ write_kind → ⊥) where
  abbrev number : ℕ
  number = length (compacted (rows_of (log_before k log)))

  abbrev behind : List ℕ
  behind = bytes_of (compacted (rows_behind log k room))

  parted : kept_bytes log ≡ kept_bytes (log_before k log) ++ (row_at log k ++ behind)
  parted =
      ap (λ (rs : List (List ℕ)). bytes_of (compacted rs)) (rows_of-parted log k room)
      ∙ ap bytes_of (compacted-part (row_at log k) (λ e. other (sym (λ i. (decode-row_at log k i).kind) ∙ e)) (rows_of (log_before k log)) (rows_behind log k room))
      ∙ bytes_of-append (compacted (rows_of (log_before k log))) (row_at log k ∷ compacted (rows_behind log k room))

  size : length (kept_bytes (log_before k log)) ≡ record_length * number
  size = length-bytes_of (compacted (rows_of (log_before k log))) (sized (log_before k log))

  front : log_before number (kept_bytes log) ≡ kept_bytes (log_before k log)
  front = ap (take (record_length * number)) parted ∙ take_at (kept_bytes (log_before k log)) (row_at log k ++ behind) (record_length * number) size

  pub stays : Stays log k
  unfolding row_at
  stays = record {
    place = number;
    row = ap (λ (l : List ℕ). take record_length (drop (record_length * number) l)) parted
        ∙ ap (take record_length) (drop_at (kept_bytes (log_before k log)) (row_at log k ++ behind) (record_length * number) size)
        ∙ take_at (row_at log k) behind record_length (length-row_at log k room);
    front = front;
    others = ap (λ (l : List ℕ). other_rows (rows_of l)) front ∙ ap other_rows (rows_of-kept (log_before k log))
        ∙ other_rows-compacted (rows_of (log_before k log)) (all_sized-rows_of (log_before k log));
  }

-- ---- Carried out

kinds-front : (xs ys : List (List ℕ)) → kinds_known (map decode (xs ++ ys)) ≡ true → kinds_known (map decode xs) ≡ true
kinds-front [] ys e = refl
kinds-front (x ∷ xs) ys e =
    rw (and_left (kind_known (decode x).kind) (kinds_known (map decode (xs ++ ys))) e)
    (kinds-front xs ys (and_right (kind_known (decode x).kind) (kinds_known (map decode (xs ++ ys))) e))

in_range-front : (n : ℕ) (regions : Regions) (xs ys : List (List ℕ)) → writes_in_range n regions (map decode (xs ++ ys)) ≡ true → writes_in_range n regions (map decode xs) ≡ true
in_range-front n regions [] ys e = refl
in_range-front n regions (x ∷ xs) ys e =
    let both = writes_in_range-cons n regions (decode x) (map decode (xs ++ ys)) e in
    rw both.0 (in_range-front n regions xs ys both.1)

module _ (log bytes : List ℕ) (m : Memory) (off : touch (regions_of m) ≡ false) (accepted : answer_of log (length bytes) (regions_of m) ≡ Ok tt)
    (k : ℕ) (room : record_length * (k + 1) ≤ length log) where
  records_of-parted : records_of log ≡ map decode (rows_of (log_before k log) ++ (row_at log k ∷ rows_behind log k room))
  records_of-parted = records_of-rows_of log ∙ ap (map decode) (rows_of-parted log k room)

  accepted-before : answer_of (log_before k log) (length bytes) (regions_of m) ≡ Ok tt
  unfolding first_no well_formed
  accepted-before =
      let size : length (log_before k log) ≡ record_length * k = length-take-le (record_length * k) log (omega arith) in
      let whole : length (log_before k log) % record_length ≡ 0 = omega (arith, size) in
      let formed = accepted-formed log (length bytes) (regions_of m) accepted in
      let known : kinds_known (records_of log) ≡ true = and_right (eqb (length log % record_length) 0) (kinds_known (records_of log)) formed in
      let range = accepted-in_range log (length bytes) (regions_of m) accepted in
      rw (
        accepted-apart log (length bytes) (regions_of m) accepted,
        eq-eqb (length (log_before k log) % record_length) 0 whole,
        records_of-rows_of (log_before k log),
        kinds-front (rows_of (log_before k log)) (row_at log k ∷ rows_behind log k room) (rw records_of-parted at known),
        in_range-front (length bytes) (regions_of m) (rows_of (log_before k log)) (row_at log k ∷ rows_behind log k room) (rw records_of-parted at range),
      )

  -- 02, R-9: carrying out the result up to any event leaves memory as the original does, whenever the original is accepted and
  -- the regions do not touch
  pub carried-before : ((record_at log k).kind ≡ write_kind → ⊥) → SameBefore log bytes m k
  carried-before other =
      let s = stays log k room other in
      record {
        stays = s;
        accepted = ap (λ (l : List ℕ). answer_of l (length bytes) (regions_of m)) s.front ∙ carry_out-kept (log_before k log) bytes m off accepted-before;
        same = ap (λ (l : List ℕ). memory_after (Ok tt) l bytes m) s.front ∙ memory_after-kept (log_before k log) bytes m off accepted-before;
      }
