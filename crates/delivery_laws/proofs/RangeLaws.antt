-- Question 11 of a TD's log, agree by the TRBs held: its writes lie in range exactly where each Normal's min(its length, bytes left) does. By induction over the
-- list, as the account goes: a full Normal leaves so many bytes less, behind a short one nothing is left to write. Assumes nothing.
use Prim.Native.Nat.{ℕ, zero, suc, ◌+◌, ◌-◌, ◌<◌, ◌≤◌, min}
use mathlib.Core.Path.{◌≡◌, refl, sym, ap, ◌∙◌}
use mathlib.Core.Bool.{Bool, true, false, ◌&&◌, and_assoc}
use mathlib.Core.List.{List, [], ◌∷◌, ◌++◌}
use mathlib.Core.Logic.{⊎_elim}
use mathlib.Core.Option.{Option, none, some}
use native.Mathlib.Nat.{min-eq_left, min-eq_right, le_of_lt, sub-zero}
use native.Mathlib.Omega.{arith}
use lib.ListN.{length}
use borrow.Author.Tests.{le-leb, lt-ltb, ne_eqb}
use Rattle.trb.specs.declared.EndpointId.{EndpointId}
use Rattle.trb.specs.declared.InTrbProcessingStatus.{InTrbProcessingStatus}
use Rattle.trb.specs.declared.NormalTrb.{NormalTrb}
use Rattle.trb.specs.declared.SlotId.{SlotId}
use Rattle.trb.specs.declared.TransferTrb.{TransferTrb}
use Rattle.trb.specs.declared.TransferTrbVariant.TheVariants.{Normal}
use Rattle.trb.proofs.TestLaws.{or-false-left, or-false-right, le-or-lt}
use Rattle.call_log.specs.Records.{guest_write, when}
use Rattle.call_log.specs.declared.Record.{Record}
use Rattle.guest_memory.specs.declared.Regions.{Regions}
use Rattle.guest_memory.specs.Places.{range_inside}
use Rattle.carry_out.specs.Writes.{moves_bytes, write_in_range, writes_in_range}
use Rattle.td_part.specs.Parts.{edtla_after}
use Rattle.in_td.specs.Td.{normals, fails_at_last, process_td, in_td}
use Rattle.in_td.specs.declared.InMode.{InMode}
use Rattle.in_td.specs.declared.InTd.{InTd}
use Rattle.in_td.specs.Normals.{normal_of, normal_length}
use Rattle.account.specs.Guest.{is_write, any}
use Rattle.account.proofs.StepLaws.{normal-or-other, normal_count-other, Fails, fails-last, any-when, left_from, full_event, full_records, failed_event, short_due, short_write, short_event}
use Rattle.account.proofs.TdLog.{log_from, log-none, OtherLog, other-log, full-log, failed-log, ShortLog, short-log}
use Rattle.delivery_laws.specs.Ranges.{write_inside, writes_inside}

-- ---- Writes in range

module _ (n : ℕ) (regions : Regions) where
  pub writes_in_range-append : (xs ys : List Record) → writes_in_range n regions (xs ++ ys) ≡ (writes_in_range n regions xs && writes_in_range n regions ys)
  writes_in_range-append [] ys = refl
  writes_in_range-append (x ∷ xs) ys =
      rw (writes_in_range-append xs ys) (sym (and_assoc (write_in_range n regions x) (writes_in_range n regions xs) (writes_in_range n regions ys)))

  -- a record that is no write
  in_range-other : (r : Record) → is_write r ≡ false → write_in_range n regions r ≡ true
  unfolding write_in_range moves_bytes
  in_range-other r e = rw e

  pub writes_in_range-none : (rs : List Record) → any is_write rs ≡ false → writes_in_range n regions rs ≡ true
  writes_in_range-none [] e = refl
  writes_in_range-none (r ∷ rs) e =
      rw (in_range-other r (or-false-left (is_write r) (any is_write rs) e)) (writes_in_range-none rs (or-false-right (is_write r) (any is_write rs) e))

  -- a write that lies in the device's data
  in_range-write : (pointer count start : ℕ) (e : EndpointId) (s : SlotId) → start + count ≤ n
      → write_in_range n regions (guest_write pointer count start e s) ≡ range_inside regions pointer count
  unfolding write_in_range moves_bytes range_inside
  in_range-write pointer zero start e s h = refl
  in_range-write pointer (suc count) start e s h =
      rw (lt-ltb 0 (suc count) (omega arith), le-leb (start + suc count) n h, ne_eqb (suc count) 0 (λ q. omega arith))

-- ---- The bytes left

module _ (regions : Regions) where
  inside-none : (o : Option NormalTrb) → write_inside regions 0 o ≡ true
  unfolding range_inside
  inside-none none = refl
  inside-none (some m) = let z : min m.transfer_length 0 ≡ 0 = omega arith in rw z

  -- with no bytes left nothing is written
  pub writes_inside-none : (ts : List TransferTrb) → writes_inside regions 0 ts ≡ true
  writes_inside-none [] = refl
  writes_inside-none (t ∷ ts) =
      let z : 0 - normal_length t ≡ 0 = omega arith in
      rw (inside-none (normal_of t.variant), z) (writes_inside-none ts)

  -- nor without a Normal
  writes_inside-other : (left : ℕ) (ts : List TransferTrb) → normals ts ≡ 0 → writes_inside regions left ts ≡ true
  writes_inside-other left [] h = refl
  writes_inside-other left (t ∷ ts) h =
      ⊎_elim
      (λ k. let one : normals (t ∷ ts) ≡ 1 + normals ts = rw k.1 in absurd (omega arith))
      (λ other. let rest : normals ts ≡ 0 = omega (arith, normal_count-other t.variant other) in rw other (writes_inside-other (left - 0) ts rest))
      (normal-or-other t.variant)

-- ---- The log of a TD, from the device's byte `start` on

module _ (td : InTd) (n : ℕ) (regions : Regions) (enough : td.info.data_length ≤ n) where
  abbrev WritesAgree : ℕ → List TransferTrb → Type 0
  WritesAgree start ts = (edtla count left : ℕ) → left ≡ normals ts → start ≤ td.info.data_length
      → writes_in_range n regions (log_from td start edtla count left ts) ≡ writes_inside regions (left_from td start) ts

  module _ (start : ℕ) (t : TransferTrb) (ts : List TransferTrb) where
    agree-other : normal_of t.variant ≡ none → WritesAgree start ts → WritesAgree start (t ∷ ts)
    agree-other other more edtla count left counted within =
        let o : OtherLog td start left ts (log_from td start edtla count left (t ∷ ts)) = other-log td start edtla count left t ts other in
        let behind : left ≡ normals ts = omega (arith, normal_count-other t.variant other) in
        rw (o.log, other, writes_in_range-append n regions o.own (log_from td start o.edtla o.count left ts), writes_in_range-none n regions o.own o.writeless, sub-zero)
        (more o.edtla o.count left behind within)

    module _ (m : NormalTrb) (kind : t.variant ≡ Normal m) where
      abbrev pointer : ℕ
      pointer = m.data_pointer

      abbrev size : ℕ
      size = m.transfer_length

      agree-full : size ≤ left_from td start → WritesAgree (start + size) ts → WritesAgree start (t ∷ ts)
      agree-full h more edtla count left counted within = by-failure (fails_at_last td.mode td.status left) refl
        where
          one : normals (t ∷ ts) ≡ 1 + normals ts
          one = rw kind

          write : (e : EndpointId) (s : SlotId) → write_in_range n regions (guest_write pointer size start e s) ≡ range_inside regions pointer size
          write e s = in_range-write n regions pointer size start e s (omega arith)

          by-failure : (b : Bool) → Fails td left b → writes_in_range n regions (log_from td start edtla count left (t ∷ ts)) ≡ writes_inside regions (left_from td start) (t ∷ ts)
          by-failure true fails =
              let last : left ≡ 1 = fails-last td.mode td.status left fails in
              let rest : normals ts ≡ 0 = omega (arith, one, last) in
              rw (failed-log td start edtla count left t ts m kind fails h, kind, write td.info.endpoint_id td.info.slot_id, in_range-other n regions (failed_event td t.addr) refl, min-eq_left h, writes_inside-other regions (left_from td start - size) ts rest)
          by-failure false goes =
              let own : List Record = when m.interrupt_on_completion (full_event td t.addr) in
              let further : ℕ = start + size in
              let behind : left - 1 ≡ normals ts = omega (arith, one) in
              let rest = log_from td further (edtla_after edtla size) (count + length (full_records td start m t.addr)) (left - 1) ts in
              let less : left_from td start - size ≡ left_from td further = omega arith in
              rw (
                full-log td start edtla count left t ts m kind goes h,
                kind,
                write td.info.endpoint_id td.info.slot_id,
                min-eq_left h,
                writes_in_range-append n regions own rest,
                writes_in_range-none n regions own (any-when is_write m.interrupt_on_completion (full_event td t.addr) refl),
                less,
              )
              (ap (λ (b : Bool). range_inside regions pointer size && b) (more (edtla_after edtla size) (count + length (full_records td start m t.addr)) (left - 1) behind (omega arith)))

      agree-short : left_from td start < size → WritesAgree start (t ∷ ts)
      agree-short h edtla count left counted within =
          let l : ShortLog td start m t.addr (log_from td start edtla count left (t ∷ ts)) = short-log td start edtla count left t ts m kind h in
          let event : List Record = when (short_due td.status m) (short_event td start m t.addr) in
          let quiet : writes_in_range n regions event ≡ true =
          writes_in_range-none n regions event (any-when is_write (short_due td.status m) (short_event td start m t.addr) refl) in
          let write : write_in_range n regions (short_write td start m) ≡ range_inside regions pointer (left_from td start) =
          in_range-write n regions pointer (left_from td start) start td.info.endpoint_id td.info.slot_id (omega arith) in
          let none_left : left_from td start - size ≡ 0 = omega arith in
          let asked : writes_inside regions (left_from td start) (t ∷ ts) ≡ (range_inside regions pointer (left_from td start) && true) =
          rw (kind, min-eq_right (le_of_lt h), none_left, writes_inside-none regions ts) in
          ap (writes_in_range n regions) l.log
          ∙ rw (write, writes_in_range-append n regions event l.behind, quiet, writes_in_range-none n regions l.behind l.writeless) (sym asked)

    agree-cons : ((from : ℕ) → WritesAgree from ts) → WritesAgree start (t ∷ ts)
    agree-cons more =
        ⊎_elim
        (λ k. ⊎_elim
        (λ h. agree-full k.0 k.1 h (more (start + k.0.transfer_length)))
        (λ h. agree-short k.0 k.1 h)
        (le-or-lt k.0.transfer_length (left_from td start)))
        (λ other. agree-other other (more start))
        (normal-or-other t.variant)

  agree : (start : ℕ) (ts : List TransferTrb) → WritesAgree start ts
  agree start [] edtla count left counted within = rw (log-none td start edtla count left)
  agree start (t ∷ ts) edtla count left counted within = agree-cons start t ts (λ from. agree from ts) edtla count left counted within

-- 01, Carry-out, question 11: of the log of a TD, in either mode, under any status, with k of the device's n bytes
pub writes_in_range-process_td : (e : EndpointId) (s : SlotId) (mode : InMode) (st : InTrbProcessingStatus) (k n : ℕ) (regions : Regions) (ts : List TransferTrb) → k ≤ n
    → writes_in_range n regions (process_td (in_td e s mode st k) ts).records ≡ writes_inside regions k ts
writes_in_range-process_td e s mode st k n regions ts h =
    agree (in_td e s mode st k) n regions h 0 ts 0 0 (normals ts) refl (omega arith) ∙ ap (λ (left : ℕ). writes_inside regions left ts) (sub-zero k)
