-- 02, R-4: the log of a TD in strict mode is 02's sentence. Both modes take each TRB alike but for a full Normal that is the last, of a
-- transfer that failed: as ported nothing is written behind it, in strict mode nothing is logged. Assumes nothing.
use Prim.Native.Nat.{ℕ, ◌+◌, ◌-◌, ◌<◌, ◌≤◌, min}
use mathlib.Core.Path.{◌≡◌, refl, sym, ap, ◌∙◌, subst}
use mathlib.Core.Bool.{Bool, true, false, cond, or-true}
use mathlib.Core.List.{List, [], ◌∷◌, ◌++◌, append_assoc}
use mathlib.Core.Logic.{◌⊎◌, inl, inr, ⊎_elim}
use mathlib.Core.Option.{Option, none, some}
use native.Mathlib.Nat.{zero-add}
use native.Mathlib.Omega.{arith}
use borrow.Author.Tests.{le-leb, lt-leb, eq-eqb, ne_eqb}
use lib.Dec.{eqb, leb}
use lib.ListN.{length}
use Rattle.trb.specs.declared.EndpointId.{EndpointId}
use Rattle.trb.specs.declared.InTrbProcessingStatus.{InTrbProcessingStatus}
use Rattle.trb.specs.declared.InTrbProcessingStatus.TheVariants as status
use Rattle.trb.specs.declared.NormalTrb.{NormalTrb}
use Rattle.trb.specs.declared.SlotId.{SlotId}
use Rattle.trb.specs.declared.TransferTrb.{TransferTrb}
use Rattle.trb.specs.declared.TransferTrbVariant.{TransferTrbVariant}
use Rattle.trb.specs.declared.TransferTrbVariant.TheVariants.{SetupStage, DataStage, StatusStage, Normal, EventData, NoOp, Isoch, Unrecognized}
use Rattle.trb.proofs.TestLaws.{le-or-lt}
use Rattle.call_log.specs.Calls.{Out}
use Rattle.call_log.specs.Records.{transfer_event, when}
use Rattle.call_log.specs.declared.Record.{Record}
use Rattle.td_part.specs.Parts.{edtla_after}
use Rattle.td_part.specs.declared.TdProcessingState.{TdProcessingState}
use Rattle.td_part.specs.declared.TdProcessingState.TheVariants.{Default, ShortTransfer}
use Rattle.walks.specs.Walk.{join, walk}
use Rattle.in_td.specs.Td.{is_normal, normals, fails_at_last, normal_by_state, handle_normal, trb_by_kind, process_trb, process_td, in_td}
use Rattle.in_td.specs.declared.InMode.TheVariants.{AsPorted, Strict}
use Rattle.in_td.specs.declared.InTd.{InTd}
use Rattle.in_td.specs.declared.TdProcessed.{TdProcessed}
use Rattle.in_td.specs.Normals.{normal_of, requested}
use Rattle.account.specs.Guest.{is_write, any}
use Rattle.account.specs.Strict.{failure_code, failure_result, last_of, last_normal, through_last_write, log_and_result, failed_at, strictly}
use Rattle.account.proofs.GuestLaws.{any_append}
use Rattle.account.proofs.StepLaws.{normal-or-other, normal_count-other, requested-none, reached, any-when, Passed, passed-step, left_from, full_event, full_records, Fails, fails-last, full-step, missing, Shortened, short-step, Later, later-step}
use Rattle.account.proofs.TdLog.{walk_from, walk-next, log_from, OtherLog, other-log, full-log, full-walk, failed-log, failed-result}

-- ---- A log through its last write

pub through-append : (xs ys : List Record) → any is_write ys ≡ true → through_last_write (xs ++ ys) ≡ xs ++ through_last_write ys
through-append [] ys w = refl
through-append (x ∷ xs) ys w =
    let written : any is_write (xs ++ ys) ≡ true = any_append is_write xs ys ∙ rw w (or-true (any is_write xs)) in
    rw written (ap (λ (rs : List Record). x ∷ rs) (through-append xs ys w))

-- ---- The last Normal

last_of_none : (x : Option TransferTrb) → last_of none x ≡ x
last_of_none none = refl
last_of_none (some u) = refl

is_normal-other : (v : TransferTrbVariant) → normal_of v ≡ none → is_normal v ≡ false
is_normal-other (SetupStage t) h = refl
is_normal-other (DataStage t) h = refl
is_normal-other (StatusStage t) h = refl
is_normal-other (Normal m) h = let z : ◌≡◌ {A = ℕ} 0 1 = cc in absurd (omega arith)
is_normal-other (EventData t) h = refl
is_normal-other (NoOp t) h = refl
is_normal-other Isoch h = refl
is_normal-other Unrecognized h = refl

-- there is none where no Normal is counted, and one where some are
abbrev Counted : Option TransferTrb → ℕ → Type 0
Counted none k = k ≡ 0
Counted (some u) k = 0 < k

last_normal-counted : (ts : List TransferTrb) → Counted (last_normal ts) (normals ts)
last_normal-counted [] = refl
last_normal-counted (t ∷ ts) =
    ⊎_elim
    (λ k. let this : is_normal t.variant ≡ true = rw k.1 in rw this (behind (last_normal ts)))
    (λ other. rw (is_normal-other t.variant other, last_of_none, zero-add) (last_normal-counted ts))
    (normal-or-other t.variant)
  where
    behind : (o : Option TransferTrb) → Counted (last_of (some t) o) (1 + normals ts)
    behind none = omega arith
    behind (some u) = omega arith

pub last_normal-none : (ts : List TransferTrb) → normals ts ≡ 0 → last_normal ts ≡ none
last_normal-none ts none-counted = by_last (last_normal ts) (last_normal-counted ts)
  where
    by_last : (o : Option TransferTrb) → Counted o (normals ts) → o ≡ none
    by_last none k = refl
    by_last (some u) k = absurd (omega arith)

-- ---- Both modes

module _ (e : EndpointId) (s : SlotId) (st : InTrbProcessingStatus) (n : ℕ) where
  abbrev ported : InTd
  ported = in_td e s AsPorted st n

  abbrev strict : InTd
  strict = in_td e s Strict st n

  -- a TRB of another kind
  kind-same : (v : TransferTrbVariant) (p : TdProcessed) (a : ℕ) (cycle : Bool) → normal_of v ≡ none → trb_by_kind v strict p a cycle ≡ trb_by_kind v ported p a cycle
  kind-same (SetupStage t) p a cycle h = refl
  kind-same (DataStage t) p a cycle h = refl
  kind-same (StatusStage t) p a cycle h = refl
  kind-same (Normal m) p a cycle h = let z : ◌≡◌ {A = ℕ} 0 1 = cc in absurd (omega arith)
  kind-same (EventData t) p a cycle h = refl
  kind-same (NoOp t) p a cycle h = refl
  kind-same Isoch p a cycle h = refl
  kind-same Unrecognized p a cycle h = refl

  other-same : (p : TdProcessed) (t : TransferTrb) → normal_of t.variant ≡ none → process_trb strict p t ≡ process_trb ported p t
  unfolding process_trb
  other-same p t other = kind-same t.variant p t.addr t.cycle_bit other

  -- a Normal behind a short one
  later_same : (p : TdProcessed) (t : TransferTrb) (short : ℕ) → p.progress.state ≡ ShortTransfer short → process_trb strict p t ≡ process_trb ported p t
  unfolding process_trb handle_normal
  later_same p t short h = ⊎_elim (λ k. rw (k.1, h)) (λ other. other-same p t other) (normal-or-other t.variant)

  -- a Normal at which the transfer does not fail
  going-same : (p : TdProcessed) (t : TransferTrb) (m : NormalTrb) → t.variant ≡ Normal m → fails_at_last Strict st p.normals_left ≡ false → process_trb strict p t ≡ process_trb ported p t
  unfolding process_trb handle_normal
  going-same p t m kind goes = rw kind (by_state p.progress.state)
    where
      by_state : (x : TdProcessingState)
          → normal_by_state x strict p.normals_left p.progress m t.addr t.cycle_bit ≡ normal_by_state x ported p.normals_left p.progress m t.addr t.cycle_bit
      by_state (ShortTransfer short) = refl
      by_state Default = rw goes

  -- a short one
  short-same : (start edtla count left : ℕ) (t : TransferTrb) (m : NormalTrb) → t.variant ≡ Normal m → left_from ported start < m.transfer_length
      → process_trb strict (reached start edtla Default count left) t ≡ process_trb ported (reached start edtla Default count left) t
  unfolding process_trb handle_normal
  short-same start edtla count left t m kind lacks =
      let lacking : eqb (m.transfer_length - min m.transfer_length (n - start)) 0 ≡ false = ne_eqb (m.transfer_length - min m.transfer_length (n - start)) 0 (λ q. omega arith) in
      rw (kind, lacking)

  abbrev Same : TdProcessed → List TransferTrb → Type 0
  Same p ts = walk_from strict p ts ≡ walk_from ported p ts

  -- a TRB that both take alike, and those behind it
  same_next : (p : TdProcessed) (t : TransferTrb) (ts : List TransferTrb) → process_trb strict p t ≡ process_trb ported p t → Same (process_trb ported p t).state ts → Same p (t ∷ ts)
  unfolding walk
  same_next p t ts step rest = rw (step, rest)

  -- behind a short Normal
  same-later : (short : ℕ) (ts : List TransferTrb) (p : TdProcessed) → p.progress.state ≡ ShortTransfer short → Same p ts
  unfolding walk
  same-later short [] p h = refl
  same-later short (t ∷ ts) p h =
      let l : Later short (process_trb ported p t) = later-step ported short p h t in
      same_next p t ts (later_same p t short h) (same-later short ts (process_trb ported p t).state l.next)

  -- of a transfer that succeeded
  same-never : ((left : ℕ) → fails_at_last Strict st left ≡ false) → (ts : List TransferTrb) (p : TdProcessed) → Same p ts
  unfolding walk
  same-never never [] p = refl
  same-never never (t ∷ ts) p =
      same_next p t ts (⊎_elim (λ k. going-same p t k.0 k.1 (never p.normals_left)) (λ other. other-same p t other) (normal-or-other t.variant))
      (same-never never ts (process_trb ported p t).state)

  -- ---- Where fewer bytes came, and where there is no Normal

  abbrev Fewer : ℕ → List TransferTrb → Type 0
  Fewer start ts = (n - start < requested ts) ⊎ (normals ts ≡ 0)

  abbrev AsPortedFrom : ℕ → List TransferTrb → Type 0
  AsPortedFrom start ts = (edtla count left : ℕ) → left ≡ normals ts → Fewer start ts → Same (reached start edtla Default count left) ts

  module _ (start : ℕ) (t : TransferTrb) (ts : List TransferTrb) where
    ported-other : normal_of t.variant ≡ none → AsPortedFrom start ts → AsPortedFrom start (t ∷ ts)
    ported-other other more edtla count left counted fewer =
        let now : TdProcessed = reached start edtla Default count left in
        let w : Passed now (process_trb ported now t) = passed-step ported now t other in
        let uncounted : normals (t ∷ ts) ≡ normals ts = rw (normal_count-other t.variant other) (omega arith) in
        let none-asked : requested (t ∷ ts) ≡ requested ts = rw other (omega arith) in
        same_next now t ts (other-same now t other)
        (rw w.next (more w.edtla w.count left (omega arith) (⊎_elim (λ (h : n - start < requested (t ∷ ts)). inl (omega arith)) (λ (h : normals (t ∷ ts) ≡ 0). inr (omega arith)) fewer)))

    module _ (m : NormalTrb) (kind : t.variant ≡ Normal m) where
      one_more : normals (t ∷ ts) ≡ 1 + normals ts
      one_more = rw kind

      asked-more : requested (t ∷ ts) ≡ m.transfer_length + requested ts
      asked-more = rw kind

      lacking : Fewer start (t ∷ ts) → n - start < m.transfer_length + requested ts
      lacking fewer = ⊎_elim (λ (h : n - start < requested (t ∷ ts)). omega (arith, asked-more)) (λ (h : normals (t ∷ ts) ≡ 0). absurd (omega (arith, one_more))) fewer

      ported-full : m.transfer_length ≤ n - start → AsPortedFrom (start + m.transfer_length) ts → AsPortedFrom start (t ∷ ts)
      ported-full h more edtla count left counted fewer = by-failure (fails_at_last Strict st left) refl
        where
          now : TdProcessed
          now = reached start edtla Default count left

          by-failure : (b : Bool) → Fails strict left b → Same (reached start edtla Default count left) (t ∷ ts)
          by-failure true fails =
              let last : left ≡ 1 = fails-last Strict st left fails in
              absurd (omega (arith, lacking fewer, requested-none ts (omega (arith, one_more, last))))
          by-failure false goes =
              same_next (reached start edtla Default count left) t ts (going-same (reached start edtla Default count left) t m kind goes)
              (rw (full-step ported start edtla count left t m kind refl h)
              (more (edtla_after edtla m.transfer_length) (count + length (full_records ported start m t.addr)) (left - 1) (omega (arith, one_more)) (inl (omega (arith, lacking fewer)))))

      ported-short : n - start < m.transfer_length → AsPortedFrom start (t ∷ ts)
      ported-short lacks edtla count left counted fewer =
          let now : TdProcessed = reached start edtla Default count left in
          let x : Shortened ported start m t.addr (process_trb ported now t) = short-step ported start edtla count left t m kind lacks in
          same_next now t ts (short-same start edtla count left t m kind lacks) (same-later (missing ported start m) ts (process_trb ported now t).state x.next)

  as-ported : (ts : List TransferTrb) (start : ℕ) → AsPortedFrom start ts
  unfolding walk
  as-ported [] start edtla count left counted fewer = refl
  as-ported (t ∷ ts) start edtla count left counted fewer =
      ⊎_elim
      (λ k. ⊎_elim
      (λ h. ported-full start t ts k.0 k.1 h (as-ported ts (start + k.0.transfer_length)) edtla count left counted fewer)
      (λ h. ported-short start t ts k.0 k.1 h edtla count left counted fewer)
      (le-or-lt k.0.transfer_length (n - start)))
      (λ other. ported-other start t ts other (as-ported ts start) edtla count left counted fewer)
      (normal-or-other t.variant)

  -- ---- Where the transfer fails at its last Normal

  -- without a Normal nothing is written
  none_written : (ts : List TransferTrb) (start edtla count left : ℕ) → normals ts ≡ 0 → any is_write (log_from ported start edtla count left ts) ≡ false
  unfolding walk
  none_written [] start edtla count left none-counted = refl
  none_written (t ∷ ts) start edtla count left none-counted =
      ⊎_elim
      (λ k. let one : normals (t ∷ ts) ≡ 1 + normals ts = rw k.1 in absurd (omega arith))
      (λ other. let o : OtherLog ported start left ts (log_from ported start edtla count left (t ∷ ts)) = other-log ported start edtla count left t ts other in
      rw o.log (any_append is_write o.own (log_from ported start o.edtla o.count left ts)
      ∙ rw o.writeless (none_written ts start o.edtla o.count left (omega arith))))
      (normal-or-other t.variant)

  module _ (failed : (left : ℕ) → fails_at_last Strict st left ≡ eqb left 1) where
    abbrev event : TransferTrb → Record
    event u = transfer_event u.addr 0 (failure_code st) false e s

    -- at the Normal u, of a walk that made these as ported and in strict mode
    record FailsAt (u : TransferTrb) (old new : Out TdProcessed) : Type 0 where
      written : any is_write old.records ≡ true
      records : new.records ≡ through_last_write old.records ++ event u ∷ []
      result : new.state.result ≡ failure_result st u.addr u.cycle_bit

    -- behind records that both logged
    fails-next : (u : TransferTrb) (own : Out TdProcessed) (old new : Out TdProcessed) → FailsAt u old new → FailsAt u (join own old) (join own new)
    fails-next u own old new f = record {
      written = any_append is_write own.records old.records ∙ rw f.written (or-true (any is_write own.records));
      records = rw (f.records, through-append own.records old.records f.written) (sym (append_assoc own.records (through_last_write old.records) (event u ∷ [])));
      result = f.result;
    }

    abbrev FailsFrom : ℕ → List TransferTrb → Type 0
    FailsFrom start ts = (edtla count left : ℕ) → left ≡ normals ts → requested ts ≤ n - start → (u : TransferTrb) → last_normal ts ≡ some u
        → FailsAt u (walk_from ported (reached start edtla Default count left) ts) (walk_from strict (reached start edtla Default count left) ts)

    module _ (start : ℕ) (t : TransferTrb) (ts : List TransferTrb) where
      fails-other : normal_of t.variant ≡ none → FailsFrom start ts → FailsFrom start (t ∷ ts)
      fails-other other more edtla count left counted enough u last =
          let now : TdProcessed = reached start edtla Default count left in
          let w : Passed now (process_trb ported now t) = passed-step ported now t other in
          let uncounted : normals (t ∷ ts) ≡ normals ts = rw (normal_count-other t.variant other) (omega arith) in
          let none-asked : requested (t ∷ ts) ≡ requested ts = rw other (omega arith) in
          let last-behind : last_normal ts ≡ some u = sym (rw (is_normal-other t.variant other) (last_of_none (last_normal ts))) ∙ last in
          rw (walk-next ported start edtla count left t ts, walk-next strict start edtla count left t ts, other-same now t other, w.next)
          (fails-next u (process_trb ported now t) (walk_from ported (reached start w.edtla Default w.count left) ts) (walk_from strict (reached start w.edtla Default w.count left) ts)
          (more w.edtla w.count left (omega arith) (omega arith) u last-behind))

      module _ (m : NormalTrb) (kind : t.variant ≡ Normal m) where
        -- another Normal is behind it
        fails-full : m.transfer_length ≤ n - start → FailsFrom (start + m.transfer_length) ts → (edtla count left : ℕ) → left ≡ 1 + normals ts → 0 < normals ts
            → m.transfer_length + requested ts ≤ n - start → (u : TransferTrb) → last_normal ts ≡ some u
            → FailsAt u (walk_from ported (reached start edtla Default count left) (t ∷ ts)) (walk_from strict (reached start edtla Default count left) (t ∷ ts))
        fails-full h more edtla count left counted behind enough u last =
            let now : TdProcessed = reached start edtla Default count left in
            let goes : fails_at_last Strict st left ≡ false = failed left ∙ ne_eqb left 1 (λ q. omega arith) in
            let own : List Record = full_records ported start m t.addr in
            let then : TdProcessed = reached (start + m.transfer_length) (edtla_after edtla m.transfer_length) Default (count + length own) (left - 1) in
            rw (full-walk ported start edtla count left t ts m kind refl h, full-walk strict start edtla count left t ts m kind goes h, going-same now t m kind goes)
            (fails-next u (process_trb ported now t) (walk_from ported then ts) (walk_from strict then ts)
            (more (edtla_after edtla m.transfer_length) (count + length own) (left - 1) (omega arith) (omega arith) u last))

        -- it is the last
        fails-last-one : m.transfer_length ≤ n - start → (edtla count left : ℕ) → left ≡ 1 → normals ts ≡ 0
            → FailsAt t (walk_from ported (reached start edtla Default count left) (t ∷ ts)) (walk_from strict (reached start edtla Default count left) (t ∷ ts))
        fails-last-one h edtla count left counted none-behind =
            let fails : Fails strict left true = failed left ∙ eq-eqb left 1 counted in
            let behind : List Record = log_from ported (start + m.transfer_length) (edtla_after edtla m.transfer_length) (count + length (full_records ported start m t.addr)) (left - 1) ts in
            let unwritten : any is_write (when m.interrupt_on_completion (full_event ported t.addr) ++ behind) ≡ false =
            any_append is_write (when m.interrupt_on_completion (full_event ported t.addr)) behind
            ∙ rw (any-when is_write m.interrupt_on_completion (full_event ported t.addr) refl)
            (none_written ts (start + m.transfer_length) (edtla_after edtla m.transfer_length) (count + length (full_records ported start m t.addr)) (left - 1) none-behind) in
            record {
              written = rw (full-log ported start edtla count left t ts m kind refl h);
              records = failed-log strict start edtla count left t ts m kind fails h
                  ∙ rw (full-log ported start edtla count left t ts m kind refl h, unwritten);
              result = failed-result strict start edtla count left t ts m kind fails h;
            }

        fails-normal : ((from : ℕ) → FailsFrom from ts) → FailsFrom start (t ∷ ts)
        fails-normal more edtla count left counted enough u last = by_last (last_normal ts) refl (last_normal-counted ts)
          where
            one : normals (t ∷ ts) ≡ 1 + normals ts
            one = rw kind

            asked : requested (t ∷ ts) ≡ m.transfer_length + requested ts
            asked = rw kind

            this : is_normal t.variant ≡ true
            this = rw kind

            by_last : (o : Option TransferTrb) → last_normal ts ≡ o → Counted o (normals ts)
                → FailsAt u (walk_from ported (reached start edtla Default count left) (t ∷ ts)) (walk_from strict (reached start edtla Default count left) (t ∷ ts))
            by_last none q k =
                let same : some t ≡ some u = sym (rw (this, q)) ∙ last in
                let last-is : t ≡ u = cc in
                subst (λ (x : TransferTrb). FailsAt x (walk_from ported (reached start edtla Default count left) (t ∷ ts)) (walk_from strict (reached start edtla Default count left) (t ∷ ts))) last-is
                (fails-last-one (omega (arith, asked)) edtla count left (omega (arith, one)) k)
            by_last (some v) q k =
                let same : some v ≡ some u = sym (rw (this, q)) ∙ last in
                fails-full (omega (arith, asked)) (more (start + m.transfer_length)) edtla count left (omega (arith, one)) k (omega (arith, asked)) u (q ∙ same)

    fails-from : (ts : List TransferTrb) (start : ℕ) → FailsFrom start ts
    fails-from [] start edtla count left counted enough u last = let z : ◌≡◌ {A = ℕ} 0 1 = cc in absurd (omega arith)
    fails-from (t ∷ ts) start edtla count left counted enough u last =
        ⊎_elim
        (λ k. fails-normal start t ts k.0 k.1 (fails-from ts) edtla count left counted enough u last)
        (λ other. fails-other start t ts other (fails-from ts start) edtla count left counted enough u last)
        (normal-or-other t.variant)

  -- ---- 02's sentence

  told_same : (ts : List TransferTrb) → Same (reached 0 0 Default 0 (normals ts)) ts → log_and_result (process_td strict ts) ≡ log_and_result (process_td ported ts)
  told_same ts same = ap log_and_result same

  strict-failed : (ts : List TransferTrb) → ((left : ℕ) → fails_at_last Strict st left ≡ eqb left 1) → requested ts ≤ n
      → log_and_result (process_td strict ts) ≡ failed_at (last_normal ts) e s st (log_and_result (process_td ported ts))
  strict-failed ts failed enough = by_last (last_normal ts) refl (last_normal-counted ts)
    where
      by_last : (o : Option TransferTrb) → last_normal ts ≡ o → Counted o (normals ts) → log_and_result (process_td strict ts) ≡ failed_at o e s st (log_and_result (process_td ported ts))
      by_last none q k = told_same ts (as-ported ts 0 0 0 (normals ts) refl (inr k))
      by_last (some u) q k =
          let f : FailsAt failed u (process_td ported ts) (process_td strict ts) = fails-from failed ts 0 0 0 (normals ts) refl (omega arith) u q in
          let logs : (process_td strict ts).records ≡ through_last_write (process_td ported ts).records ++ event failed u ∷ [] = f.records in
          let ends : (process_td strict ts).state.result ≡ failure_result st u.addr u.cycle_bit = f.result in
          λ i. record { records = logs i; result = ends i }

  strict-fewer : (ts : List TransferTrb) → n < requested ts → log_and_result (process_td strict ts) ≡ log_and_result (process_td ported ts)
  strict-fewer ts fewer = told_same ts (as-ported ts 0 0 0 (normals ts) refl (inl (omega arith)))

  strict-failure : (ts : List TransferTrb) → ((left : ℕ) → fails_at_last Strict st left ≡ eqb left 1)
      → log_and_result (process_td strict ts) ≡ cond (leb (requested ts) n) (failed_at (last_normal ts) e s st (log_and_result (process_td ported ts))) (log_and_result (process_td ported ts))
  strict-failure ts failed =
      ⊎_elim
      (λ (h : requested ts ≤ n). rw (le-leb (requested ts) n h) (strict-failed ts failed h))
      (λ (h : n < requested ts). rw (lt-leb (requested ts) n h) (strict-fewer ts h))
      (le-or-lt (requested ts) n)

-- 02, R-4: what a TD in strict mode logs, and its result
pub told-strictly : (e : EndpointId) (s : SlotId) (st : InTrbProcessingStatus) (n : ℕ) (ts : List TransferTrb) → log_and_result (process_td (in_td e s Strict st n) ts) ≡ strictly e s st n ts
told-strictly e s status.Success n ts = told_same e s status.Success n ts (same-never e s status.Success n (λ left. refl) ts (reached 0 0 Default 0 (normals ts)))
told-strictly e s status.Stall n ts = strict-failure e s status.Stall n ts (λ left. refl)
told-strictly e s status.TransactionError n ts = strict-failure e s status.TransactionError n ts (λ left. refl)
told-strictly e s status.Disconnect n ts = strict-failure e s status.Disconnect n ts (λ left. refl)
