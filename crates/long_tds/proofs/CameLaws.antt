-- The steps to `AllCame.all-came`: as long as the bytes left cover the Normals left, each of these is full, whatever the status, and no TRB of another kind has
-- another code than Success before a short Normal. By induction over the TRBs. Assumes nothing.
use Prim.Native.Nat.{ℕ, ◌+◌, ◌≤◌}
use mathlib.Core.Path.{◌≡◌, refl, ◌∙◌}
use mathlib.Core.Bool.{Bool, false}
use mathlib.Core.List.{List, [], ◌∷◌, ◌++◌}
use mathlib.Core.Logic.{⊎_elim}
use mathlib.Core.Option.{none}
use native.Mathlib.Omega.{arith}
use Rattle.trb.specs.declared.NormalTrb.{NormalTrb}
use Rattle.trb.specs.declared.TransferTrb.{TransferTrb}
use Rattle.trb.specs.declared.TransferTrbVariant.{TransferTrbVariant}
use Rattle.trb.specs.declared.TransferTrbVariant.TheVariants.{SetupStage, DataStage, StatusStage, Normal, EventData, NoOp, Isoch, Unrecognized}
use Rattle.call_log.specs.Calls.{Out}
use Rattle.call_log.specs.declared.Record.{Record}
use Rattle.td_part.specs.declared.TdProcessingState.TheVariants.{Default}
use Rattle.walks.specs.Walk.{walk}
use Rattle.in_td.specs.declared.InMode.TheVariants.{AsPorted}
use Rattle.in_td.specs.declared.InTd.{InTd}
use Rattle.in_td.specs.declared.TdProcessed.{TdProcessed}
use Rattle.in_td.specs.Td.{trb_by_kind, process_trb}
use Rattle.in_td.specs.Normals.{normal_of, requested}
use Rattle.account.specs.Guest.{any}
use Rattle.account.proofs.GuestLaws.{any_append}
use Rattle.account.proofs.StepLaws.{normal-or-other, reached, Passed, passed-step, any-when, full_event, full_records, full-step}
use Rattle.account.proofs.TdLog.{walk_from}
use Rattle.long_tds.specs.AllCame.{not_success, Succeeds}

-- with these records before its own
succeeds-behind : (own : List Record) (o : Out TdProcessed) → any not_success own ≡ false → Succeeds o → Succeeds (record { state = o.state; records = own ++ o.records })
succeeds-behind own o h rest = record { result = rest.result; codes = any_append not_success own o.records ∙ rw (h, rest.codes) }

-- a TRB of another kind than Normal, before a short one
other-codes : (td : InTd) (start edtla count left : ℕ) (v : TransferTrbVariant) (a : ℕ) (cycle : Bool) → normal_of v ≡ none
    → any not_success (trb_by_kind v td (reached start edtla Default count left) a cycle).records ≡ false
other-codes td start edtla count left (Normal m) a cycle h = let z : ◌≡◌ {A = ℕ} 0 1 = cc in absurd (omega arith)
other-codes td start edtla count left (EventData t) a cycle h = any-when not_success t.interrupt_on_completion _ refl
other-codes td start edtla count left (NoOp t) a cycle h = any-when not_success t.interrupt_on_completion _ refl
other-codes td start edtla count left (SetupStage t) a cycle h = refl
other-codes td start edtla count left (DataStage t) a cycle h = refl
other-codes td start edtla count left (StatusStage t) a cycle h = refl
other-codes td start edtla count left Isoch a cycle h = refl
other-codes td start edtla count left Unrecognized a cycle h = refl

other_step : (td : InTd) (start edtla count left : ℕ) (t : TransferTrb) → normal_of t.variant ≡ none
    → any not_success (process_trb td (reached start edtla Default count left) t).records ≡ false
unfolding process_trb
other_step td start edtla count left t h = other-codes td start edtla count left t.variant t.addr t.cycle_bit h

module _ (td : InTd) (ported : td.mode ≡ AsPorted) where
  pub from : (start edtla count left : ℕ) (ts : List TransferTrb) → start + requested ts ≤ td.info.data_length → Succeeds (walk_from td (reached start edtla Default count left) ts)
  unfolding walk
  from start edtla count left [] h = record { result = refl; codes = refl }
  from start edtla count left (t ∷ ts) h =
      ⊎_elim
      (λ (k : (m : NormalTrb) × (t.variant ≡ Normal m)).
      let m : NormalTrb = k.0 in
      let asked : requested (t ∷ ts) ≡ m.transfer_length + requested ts = rw k.1 in
      let full = full-step td start edtla count left t m k.1 (rw ported) (omega arith) in
      rw full
      (succeeds-behind (full_records td start m t.addr) _ (any-when not_success m.interrupt_on_completion (full_event td t.addr) refl)
      (from (start + m.transfer_length) _ _ _ ts (omega arith))))
      (λ (other : normal_of t.variant ≡ none).
      let asked : requested (t ∷ ts) ≡ requested ts = rw other (omega arith) in
      let passed : Passed _ _ = passed-step td (reached start edtla Default count left) t other in
      succeeds-behind (process_trb td (reached start edtla Default count left) t).records _ (other_step td start edtla count left t other)
      (rw passed.next (from start passed.edtla passed.count left ts (omega arith))))
      (normal-or-other t.variant)
