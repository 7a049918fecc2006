-- 01, IN endpoint: the writes of a TD stand for the device's first min(n, S) bytes, in order, each at its place, for every list, whatever its addresses and
-- flags; so write lengths add up to min(n, S). By induction over the list: a full Normal has its range and leaves so many bytes less, or has none behind it; a
-- short one has the bytes left, and nothing is written behind it. Assumes nothing.
use Prim.Native.Nat.{ℕ, ◌+◌, ◌-◌, ◌<◌, ◌≤◌, min}
use mathlib.Core.Path.{◌≡◌, refl, sym, ap, ◌∙◌}
use mathlib.Core.Bool.{Bool, true, false, cond}
use mathlib.Core.List.{List, [], ◌∷◌, ◌++◌, append-nil}
use mathlib.Core.Logic.{⊎_elim}
use mathlib.Core.Option.{none}
use native.Mathlib.Nat.{le_of_lt, sub-zero}
use native.Mathlib.Omega.{arith}
use lib.ListN.{take, length, length-append, length-take}
use lib.Seq.{take_all}
use Rattle.trb.specs.declared.EndpointId.{EndpointId}
use Rattle.trb.specs.declared.InTrbProcessingStatus.{InTrbProcessingStatus}
use Rattle.trb.specs.declared.NormalTrb.{NormalTrb}
use Rattle.trb.specs.declared.SlotId.{SlotId}
use Rattle.trb.specs.declared.TransferTrb.{TransferTrb}
use Rattle.trb.specs.declared.TransferTrbVariant.TheVariants.{Normal}
use Rattle.trb.proofs.TestLaws.{le-or-lt}
use Rattle.call_log.specs.Records.{when}
use Rattle.call_log.specs.declared.Record.{Record}
use Rattle.td_part.specs.Parts.{edtla_after}
use Rattle.in_td.specs.Td.{normals, fails_at_last, process_td, in_td}
use Rattle.in_td.specs.declared.InMode.{InMode}
use Rattle.in_td.specs.declared.InTd.{InTd}
use Rattle.in_td.specs.Normals.{normal_of, requested}
use Rattle.account.specs.Guest.{range, normal_range, places, is_write, any, numbered, stands_for, bytes, write_lengths}
use Rattle.account.proofs.GuestLaws.{length-range, take-append-range, length-normal_range, length-places, take-places-min, length-numbered, numbered-take, bytes-append, bytes-none, any_append}
use Rattle.account.proofs.StepLaws.{normal-or-other, normal_count-other, requested-none, Fails, fails-last, any-when, left_from, full_records, bytes-full, short_due, short_event}
use Rattle.account.proofs.TdLog.{log_from, log-none, OtherLog, other-log, full-log, failed-log, ShortLog, short-log}

-- without a Normal there are no places
places-none : (ts : List TransferTrb) → normals ts ≡ 0 → places ts ≡ []
places-none ts h = sym (take_all 0 (places ts) (omega (arith, length-places ts, requested-none ts h)))

module _ (td : InTd) where
  -- of a log from the device's byte `start` on
  abbrev Placed : ℕ → List TransferTrb → Type 0
  Placed start ts = (edtla count left : ℕ) → left ≡ normals ts → bytes (log_from td start edtla count left ts) ≡ numbered start (take (left_from td start) (places ts))

  module _ (start : ℕ) (t : TransferTrb) (ts : List TransferTrb) where
    placed-other : normal_of t.variant ≡ none → Placed start ts → Placed start (t ∷ ts)
    placed-other other more edtla count left counted =
        let o : OtherLog td start left ts (log_from td start edtla count left (t ∷ ts)) = other-log td start edtla count left t ts other in
        let behind : left ≡ normals ts = omega (arith, normal_count-other t.variant other) in
        rw (o.log, other, bytes-append o.own (log_from td start o.edtla o.count left ts), bytes-none o.own o.writeless)
        (more o.edtla o.count left behind)

    module _ (m : NormalTrb) (kind : t.variant ≡ Normal m) where
      abbrev own_range : List ℕ
      own_range = range m.data_pointer m.transfer_length

      placed-full : m.transfer_length ≤ left_from td start → Placed (start + m.transfer_length) ts → Placed start (t ∷ ts)
      placed-full h more edtla count left counted = by-failure (fails_at_last td.mode td.status left) refl
        where
          one : normals (t ∷ ts) ≡ 1 + normals ts
          one = rw kind

          by-failure : (b : Bool) → Fails td left b → bytes (log_from td start edtla count left (t ∷ ts)) ≡ numbered start (take (left_from td start) (places (t ∷ ts)))
          by-failure true fails =
              let last : left ≡ 1 = fails-last td.mode td.status left fails in
              rw (
                failed-log td start edtla count left t ts m kind fails h,
                kind,
                places-none ts (omega (arith, one, last)),
                append-nil (numbered start own_range),
                append-nil own_range,
                take_all (left_from td start) own_range (rw length-range h),
              )
          by-failure false goes =
              let own : List Record = full_records td start m t.addr in
              let further : ℕ = start + m.transfer_length in
              let rest : List Record = log_from td further (edtla_after edtla m.transfer_length) (count + length own) (left - 1) ts in
              let size : length (normal_range t) ≡ m.transfer_length = length-normal_range t ∙ rw kind in
              let own-bytes : bytes own ≡ numbered start (normal_range t) = rw kind (bytes-full td start m t.addr) in
              rw (full-log td start edtla count left t ts m kind goes h, bytes-append own rest, own-bytes)
              (ap (λ (bs : List (ℕ × ℕ)). numbered start (normal_range t) ++ bs) (more (edtla_after edtla m.transfer_length) (count + length own) (left - 1) (omega (arith, one)))
              ∙ sym (numbered-take start (left_from td start) further (left_from td further) (normal_range t) (places ts) (omega arith) (omega arith)))

      placed-short : left_from td start < m.transfer_length → Placed start (t ∷ ts)
      placed-short h edtla count left counted =
          let l : ShortLog td start m t.addr (log_from td start edtla count left (t ∷ ts)) = short-log td start edtla count left t ts m kind h in
          let event : List Record = when (short_due td.status m) (short_event td start m t.addr) in
          let writeless : any is_write (event ++ l.behind) ≡ false =
          any_append is_write event l.behind ∙ rw (any-when is_write (short_due td.status m) (short_event td start m t.addr) refl, l.writeless) in
          let first-bytes : take (left_from td start) (own_range ++ places ts) ≡ range m.data_pointer (left_from td start) =
          take-append-range m.data_pointer m.transfer_length (left_from td start) (places ts) (le_of_lt h) in
          let asked : numbered start (take (left_from td start) (places (t ∷ ts))) ≡ numbered start (range m.data_pointer (left_from td start)) = rw (kind, first-bytes) in
          ap bytes l.log ∙ rw (bytes-none (event ++ l.behind) writeless) (append-nil (numbered start (range m.data_pointer (left_from td start))) ∙ sym asked)

    placed-cons : ((from : ℕ) → Placed from ts) → Placed start (t ∷ ts)
    placed-cons more =
        ⊎_elim
        (λ k. ⊎_elim
        (λ h. placed-full k.0 k.1 h (more (start + k.0.transfer_length)))
        (λ h. placed-short k.0 k.1 h)
        (le-or-lt k.0.transfer_length (left_from td start)))
        (λ other. placed-other other (more start))
        (normal-or-other t.variant)

  placed : (start : ℕ) (ts : List TransferTrb) → Placed start ts
  placed start [] edtla count left counted = rw (log-none td start edtla count left, take_all {A = ℕ} (left_from td start) [] (omega arith))
  placed start (t ∷ ts) edtla count left counted = placed-cons start t ts (λ from. placed from ts) edtla count left counted

-- the lengths of writes are as many as their bytes
length-bytes : (rs : List Record) → length (bytes rs) ≡ write_lengths rs
length-bytes [] = refl
length-bytes (r ∷ rs) = length-append (cond (is_write r) (stands_for r) []) (bytes rs) ∙ rw (own (is_write r), length-bytes rs)
  where
    own : (b : Bool) → length (cond b (stands_for r) []) ≡ cond b r.length 0
    own true = length-numbered r.start (range r.address r.length) ∙ length-range r.address r.length
    own false = refl

module _ (e : EndpointId) (s : SlotId) (mode : InMode) (st : InTrbProcessingStatus) (n : ℕ) (ts : List TransferTrb) where
  -- the device's first min(n, S) bytes, each at its place
  pub bytes-process_td : bytes (process_td (in_td e s mode st n) ts).records ≡ numbered 0 (take (min n (requested ts)) (places ts))
  bytes-process_td =
      placed (in_td e s mode st n) 0 ts 0 0 (normals ts) refl
      ∙ ap (numbered 0) (ap (λ (k : ℕ). take k (places ts)) (sub-zero n) ∙ take-places-min n ts)

  -- 01, IN endpoint: write lengths of a TD add up to min(n, S)
  pub write_lengths-process_td : write_lengths (process_td (in_td e s mode st n) ts).records ≡ min n (requested ts)
  write_lengths-process_td =
      sym (length-bytes (process_td (in_td e s mode st n) ts).records)
      ∙ ap length bytes-process_td
      ∙ length-numbered 0 (take (min n (requested ts)) (places ts))
      ∙ omega (arith, length-take (min n (requested ts)) (places ts), length-places ts)
