-- Laws of a full Normal that reports nothing and is not the last of its TD: its write, and no more. Assumes nothing.
use Prim.Native.Nat.{ℕ, ◌+◌, ◌-◌, ◌%◌, ◌≤◌}
use mathlib.Core.Path.{◌≡◌, refl, sym, ap, ◌∙◌, subst}
use mathlib.Core.Bool.{Bool, true, false, true≢false}
use mathlib.Core.List.{List, [], ◌∷◌, map}
use native.Mathlib.Omega.{arith}
use lib.ListN.{length, length-map, length-drop, take, drop, get_or}
use lib.Seq.{take_all}
use borrow.Author.Tests.{ne_eqb}
use Rattle.std.proofs.lemmas.List.{drop-map}
use Rattle.trb.specs.Limits.{max_transfer_length}
use Rattle.trb.specs.declared.CompletionCode.TheVariants.{Success}
use Rattle.trb.specs.declared.InTrbProcessingStatus.{InTrbProcessingStatus}
use Rattle.trb.specs.declared.InTrbProcessingStatus.TheVariants as status
use Rattle.trb.specs.declared.NormalTrb.{NormalTrb}
use Rattle.trb.specs.declared.TransferTrb.{TransferTrb}
use Rattle.trb.specs.declared.TransferTrbVariant.TheVariants.{Normal}
use Rattle.trb.specs.declared.TrbProcessingResult.{TrbProcessingResult}
use Rattle.trb.specs.declared.TrbProcessingResult.TheVariants as result
use Rattle.buffers.specs.LittleEndian.{le_field}
use Rattle.call_log.specs.Calls.{Out, Put, Meets}
use Rattle.call_log.specs.Records.{guest_write}
use Rattle.call_log.specs.declared.Record.{Record}
use Rattle.call_log.proofs.CallLaws.{meets}
use Rattle.held.specs.declared.EndpointKind.TheVariants.{In}
use Rattle.td_part.specs.Parts.{of_normal, edtla_after, left, moved_of, residual_of, code_for, due_for, put_moved, put_dma, realize_dma}
use Rattle.td_part.specs.declared.TdInfo.{TdInfo}
use Rattle.td_part.specs.declared.TdProcessingState.{TdProcessingState}
use Rattle.td_part.specs.declared.TdProcessingState.TheVariants.{Default}
use Rattle.td_part.specs.declared.TdProgress.{TdProgress}
use Rattle.in_td.specs.Td.{going_on, goes_on, fails_at_last, is_done, process_trb, ended, is_error}
use Rattle.in_td.specs.declared.InMode.{InMode}
use Rattle.in_td.specs.declared.InMode.TheVariants.{AsPorted, Strict}
use Rattle.in_td.specs.declared.InTd.{InTd}
use Rattle.in_td.specs.declared.TdProcessed.{TdProcessed}
use Rattle.in_td.proofs.TdLaws.{normal-done, trb-by, td_walker}
use Rattle.walks.specs.Walk.{walk}
use Rattle.walks.proofs.WalkLaws.{Walked}
use Rattle.held_bytes.specs.Numbers.{normal_of, variant_of}
use Rattle.held_bytes.specs.Places.{place_of}
use Rattle.place_walk.specs.Full.{SilentNormal, Reached}

-- the TRBs of places
abbrev pub trbs : List (List ℕ) → List TransferTrb
trbs cells = map (place_of In) cells

pub few : (cells : List (List ℕ)) → length cells ≤ length (trbs cells)
few cells = omega (arith, length-map cells (place_of In))

pub whole : (cells : List (List ℕ)) → take (length cells) (trbs cells) ≡ trbs cells
whole cells = take_all (length cells) (trbs cells) (omega (arith, length-map cells (place_of In)))

-- a TD that was not ended by an error goes on
going-from : (p : TdProcessed) → ended p ≡ false → p ≡ going_on p.normals_left p.progress
going-from p e = by_result p.result e
  where
    by_result : (r : TrbProcessingResult) → is_error r ≡ false
        → ◌≡◌ {A = TdProcessed} (record { progress = p.progress; normals_left = p.normals_left; result = r }) (going_on p.normals_left p.progress)
    by_result result.Ok e = refl
    by_result result.Stall e = absurd (true≢false e)
    by_result (result.StallAt a c) e = absurd (true≢false e)
    by_result result.TrbError e = absurd (true≢false e)
    by_result result.TransactionError e = absurd (true≢false e)
    by_result (result.TransactionErrorAt a c) e = absurd (true≢false e)
    by_result result.Disconnect e = absurd (true≢false e)

-- no transfer fails before its last Normal
fails-later : (m : InMode) (st : InTrbProcessingStatus) (n : ℕ) → (n ≡ 1 → ⊥) → fails_at_last m st n ≡ false
fails-later AsPorted st n h = refl
fails-later Strict status.Success n h = refl
fails-later Strict status.Stall n h = ne_eqb n 1 h
fails-later Strict status.TransactionError n h = ne_eqb n 1 h
fails-later Strict status.Disconnect n h = ne_eqb n 1 h

-- the write of so many bytes
abbrev written : TdInfo → TdProgress → ℕ → ℕ → Out TdProgress
written info w pointer len = record {
  state = record { start = w.start + len; edtla = edtla_after w.edtla len; state = w.state; records = w.records + 1 };
  records = guest_write pointer len w.start info.endpoint_id info.slot_id ∷ [];
}

module _ (info : TdInfo) (w : TdProgress) (n : NormalTrb) (a : ℕ) (full : n.transfer_length ≤ left info w) where
  moved : moved_of info w n.transfer_length ≡ n.transfer_length
  moved = omega (arith, full)

  residual : residual_of info w n.transfer_length ≡ 0
  residual = omega (arith, full)

  realized : n.interrupt_on_completion ≡ false → realize_dma info w (of_normal n a) ≡ written info w n.data_pointer n.transfer_length
  unfolding realize_dma put_dma
  realized silent =
      (λ j. put_moved (moved j) (residual j) info w (of_normal n a) (due_for (of_normal n a) (residual j)) (code_for (residual j)))
      ∙ ap (λ (due : Bool). put_moved n.transfer_length 0 info w (of_normal n a) due Success) silent

module _ (td : InTd) (p : TdProcessed) (l : List ℕ) (default : p.progress.state ≡ Default) (more : p.normals_left ≡ 1 → ⊥) (k : SilentNormal l (left td.info p.progress)) where
  abbrev len : ℕ
  len = le_field 16 4 l % (max_transfer_length + 1)

  abbrev normal : NormalTrb
  normal = normal_of (get_or l 21 0) (le_field 8 8 l) len

  is_normal : (place_of In l).variant ≡ Normal normal
  unfolding place_of variant_of
  is_normal = rw k.kind

  done : is_done td p.normals_left (residual_of td.info p.progress len) ≡ true
  done =
      rw (residual td.info p.progress normal 0 k.full, fails-later td.mode td.status p.normals_left more)

  -- its turn
  full-turn : {log log' : List ℕ} → Put log p.progress.records (guest_write (le_field 8 8 l) len p.progress.start td.info.endpoint_id td.info.slot_id ∷ []) log'
      → Meets (process_trb td p (place_of In l)) p.progress.records log
      (going_on (p.normals_left - 1) (record { start = p.progress.start + len; edtla = edtla_after p.progress.edtla len; state = p.progress.state; records = p.progress.records + 1 })) log'
  full-turn put =
      let t : TransferTrb = place_of In l in
      meets (trb-by td p t is_normal ∙ normal-done td p normal t.addr t.cycle_bit default done
      ∙ ap (goes_on (p.normals_left - 1)) (realized td.info p.progress normal t.addr k.full k.silent))
      (record { state = refl; log = put.log; fits = put.fits })

-- the state behind full Normals
abbrev pub state-at : ℕ → ℕ → ℕ → TdProcessingState → ℕ → TdProcessed
state-at left start edtla state records = going_on left (record { start = start; edtla = edtla; state = state; records = records })

-- its turn, by what was read and written
pub full-met : (td : InTd) {info : TdInfo} (same : td.info ≡ info) (left start edtla records : ℕ) (state : TdProcessingState) (l : List ℕ) {log log' : List ℕ}
    → state ≡ Default → (left ≡ 1 → ⊥) → SilentNormal l (info.data_length - start)
    → (w : Record) → w ≡ guest_write (le_field 8 8 l) (le_field 16 4 l % (max_transfer_length + 1)) start info.endpoint_id info.slot_id → Put log records (w ∷ []) log'
    → {r : TdProcessed} → r ≡ state-at (left - 1) (start + le_field 16 4 l % (max_transfer_length + 1)) (edtla_after edtla (le_field 16 4 l % (max_transfer_length + 1))) state (records + 1)
    → Meets (process_trb td (state-at left start edtla state records) (place_of In l)) records log r log'
full-met td same left start edtla records state l {log} {log'} default more k w ew put er =
    let silent = subst (λ (i : TdInfo). SilentNormal l (i.data_length - start)) (sym same) k in
    let write : w ≡ guest_write (le_field 8 8 l) (le_field 16 4 l % (max_transfer_length + 1)) start td.info.endpoint_id td.info.slot_id = ew ∙ rw same in
    let m = full-turn td (state-at left start edtla state records) l default more silent (subst (λ (x : Record). Put log records (x ∷ []) log') write put) in
    record { state = er ∙ m.state; log = m.log; fits = m.fits }

-- ---- A walk that was reached, and one that is kept to

module _ {td : InTd} {s₀ s : TdProcessed} {ts : List TransferTrb} {l₀ l : List ℕ} {i : ℕ} where
  pub reached : Walked (td_walker td) s₀ ts l₀ l s i → ended s ≡ false → Reached td s₀ ts l₀ l s i
  reached w on = record { good = w.good; room = w.room; long = w.long; state = w.state; log = w.log; fits = w.fits; on = on }

  pub walked_from : Reached td s₀ ts l₀ l s i → Walked (td_walker td) s₀ ts l₀ l s i
  walked_from r = record { good = r.good; room = r.room; long = r.long; state = r.state; log = r.log; fits = r.fits }

pub reached-from : {td : InTd} {s₀ s : TdProcessed} {ts : List TransferTrb} {l₀ l : List ℕ} {i : ℕ} → ended s₀ ≡ false
    → Walked (td_walker td) (going_on s₀.normals_left s₀.progress) ts l₀ l s i → ended s ≡ false → Reached td s₀ ts l₀ l s i
reached-from {td} {s₀} {s} {ts} {l₀} {l} {i} going w on = subst (λ (p : TdProcessed). Reached td p ts l₀ l s i) (sym (going-from s₀ going)) (reached w on)

-- the places behind the first i
abbrev pub behind : ℕ → List (List ℕ) → List (List ℕ)
behind i cells = take (length cells - i) (drop i cells)

behind-all : (i : ℕ) (cells : List (List ℕ)) → behind i cells ≡ drop i cells
behind-all i cells = take_all (length cells - i) (drop i cells) (omega (arith, length-drop i cells))

pub length-behind : (i : ℕ) (cells : List (List ℕ)) → length (behind i cells) ≡ length cells - i
length-behind i cells = ap (λ (xs : List (List ℕ)). length xs) (behind-all i cells) ∙ length-drop i cells

-- the walk over them goes on with it
pub went-on : {td : InTd} {s₀ s : TdProcessed} {l₀ l l' : List ℕ} {i : ℕ} {p : TdProcessed} (cells : List (List ℕ)) → Reached td s₀ (trbs cells) l₀ l s i
    → Meets (walk (process_trb td) ended s (take (length (behind i cells)) (trbs (behind i cells)))) s.progress.records l p l' → Meets (walk (process_trb td) ended s₀ (trbs cells)) s₀.progress.records l₀ p l'
went-on {td} {s₀} {s} {l₀} {l} {l'} {i} {p} cells r m =
    let rest : take (length (behind i cells)) (trbs (behind i cells)) ≡ drop i (trbs cells) = whole (behind i cells) ∙ ap trbs (behind-all i cells) ∙ sym (drop-map (place_of In) i cells) in
    let m' = subst (λ (ts : List TransferTrb). Meets (walk (process_trb td) ended s ts) s.progress.records l p l') rest m in
    record { state = m'.state ∙ r.state; log = m'.log ∙ r.log; fits = r.fits m'.fits }
