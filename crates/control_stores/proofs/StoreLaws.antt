-- The block that the bytes become, by what is stored. Assumes nothing.
use Rattle.std.specs.Prelude.{Ok}
use Prim.Native.Nat.{ℕ, ◌+◌, ◌*◌, ◌-◌, ◌≤◌}
use mathlib.Core.Path.{◌≡◌, refl, sym, ap, ◌∙◌, subst}
use mathlib.Core.Bool.{Bool, true, false, cond}
use mathlib.Core.List.{List}
use native.Mathlib.Omega.{arith}
use lib.ListN.{drop, set}
use lib.Seq.{drop-drop}
use Rattle.trb.specs.Limits.{max_held}
use Rattle.trb.specs.declared.ControlSubmissionState.{ControlSubmissionState}
use Rattle.trb.specs.declared.ControlSubmissionState.TheVariants.{NoTrbSubmitted}
use Rattle.trb.specs.declared.ControlTransferState.{ControlTransferState}
use Rattle.trb.specs.declared.TransferTrb.{TransferTrb}
use Rattle.held.specs.Places.{cleared}
use Rattle.held.proofs.PlaceLaws.{blanked-none, cleared-blanked}
use Rattle.held_bytes.specs.Places.{place_length}
use Rattle.phase_table.specs.declared.Outcome.{Outcome}
use Rattle.phase_table.specs.Outcomes.{holds, restarts, state_after}
use Rattle.control_block.specs.declared.ControlBlock.{ControlBlock}
use Rattle.control_block.specs.declared.ControlTransfer.{ControlTransfer}
use Rattle.control_block.specs.declared.Ending.{Ending}
use Rattle.control_block.specs.declared.Ending.TheVariants.{KeepCollecting, ReportBadTrb, Fail, Realize}
use Rattle.control_block.specs.Blocks as blocks
use Rattle.control_block.specs.Blocks.{at_phase, changed}
use Rattle.control_block.specs.Endings.{result_of, places_freed, phase_behind}
use Rattle.control_transfer.specs.Transfers.{transfer_after}
use Rattle.control_bytes.specs.Layout.{head_length, block_length, places_in, held_at, block_of}
use Rattle.control_bytes.specs.Stores.{turned, counting, Headed, Placed}
use Rattle.control_bytes.proofs.PartLaws.{headed-then}
use Rattle.control_bytes.proofs.PlaceLaws.{cleared-places_in}
use Rattle.control_endpoint.specs.Completion as completes
use Rattle.control_endpoint.specs.Completion.{block_behind}
use Rattle.control_endpoint.specs.Submission as submits
use Rattle.control_endpoint.specs.Submission.{dropped_before, held_after, places_dropped, block_after}
use Rattle.control_endpoint.specs.Returned.{Completed}
use Rattle.control_endpoint.specs.Returned.{Submitted}
use Rattle.control_endpoint.proofs.CompletionLaws.{completed-by}
use Rattle.control_endpoint.proofs.SubmissionLaws.{leaves-stored, leaves_kept, submitted-by}
use Rattle.control_stores.specs.Becomes.{Held, Becomes}

-- ---- Places freed: none, or all that are held

module _ (b : List ℕ) where
  none-freed : cleared 0 (block_of b).trbs ≡ places_in ((block_of b).held - 0) (drop head_length b)
  unfolding block_of
  none-freed =
      let same : held_at b ≡ held_at b - 0 = omega arith in
      sym (cleared-blanked 0 (places_in (held_at b) (drop head_length b)) (omega arith)) ∙ blanked-none (places_in (held_at b) (drop head_length b)) ∙ ap (λ (n : ℕ). places_in n (drop head_length b)) same

  all-freed : cleared (block_of b).held (block_of b).trbs ≡ places_in ((block_of b).held - (block_of b).held) (drop head_length b)
  unfolding block_of
  all-freed =
      let none : 0 ≡ held_at b - held_at b = omega arith in
      cleared-places_in (held_at b) (drop head_length b) (drop head_length b) ∙ ap (λ (n : ℕ). places_in n (drop head_length b)) none

  dropped-places : (restart : Bool) → cleared (places_dropped restart (block_of b).held) (block_of b).trbs ≡ places_in ((block_of b).held - places_dropped restart (block_of b).held) (drop head_length b)
  dropped-places true = all-freed
  dropped-places false = none-freed

  freed-places : (x : Ending) → cleared (places_freed x (block_of b).held) (block_of b).trbs ≡ places_in ((block_of b).held - places_freed x (block_of b).held) (drop head_length b)
  freed-places KeepCollecting = none-freed
  freed-places (ReportBadTrb a) = all-freed
  freed-places (Fail c r) = all-freed
  freed-places (Realize given) = all-freed

-- the bytes behind the block, of those behind its head
behind-block : (b b' : List ℕ) → drop head_length b' ≡ drop head_length b → drop block_length b' ≡ drop block_length b
behind-block b b' e =
    sym (drop-drop (place_length * max_held) head_length b') ∙ ap (drop (place_length * max_held)) e ∙ drop-drop (place_length * max_held) head_length b

-- ---- Two parts of the head

-- where the transfer is, then what is counted
pub progress-stored : (b b' b'' : List ℕ) (phase : ControlTransferState) (state : ControlSubmissionState) (input : Bool) (collected asked held : ℕ)
    → Headed b (turned phase input (block_of b).transfer) state (block_of b).held b' → Headed b' (counting collected asked (block_of b').transfer) (block_of b').state held b''
    → Headed b (counting collected asked (turned phase input (block_of b).transfer)) state held b''
progress-stored b b' b'' phase state input collected asked held first second =
    let at : (block_of b').transfer ≡ turned phase input (block_of b).transfer = ap (λ (c : ControlBlock). c.transfer) first.block in
    let now : (block_of b').state ≡ state = ap (λ (x : ControlBlock). x.state) first.block in
    headed-then b b' b'' _ _ _ _ _ _ first
    (subst (λ (w : ControlTransfer). Headed b' (counting collected asked w) state held b'') at
    (subst (λ (s : ControlSubmissionState). Headed b' (counting collected asked (block_of b').transfer) s held b'') now second))

pub headed-as : (b : List ℕ) (w w' : ControlTransfer) (s s' : ControlSubmissionState) (held : ℕ) (b' : List ℕ) → w ≡ w' → s ≡ s' → Headed b w s held b' → Headed b w' s' held b'
headed-as b w w' s s' held b' at now h = subst (λ (v : ControlTransfer). Headed b v s' held b') at (subst (λ (x : ControlSubmissionState). Headed b w x held b') now h)

-- ---- Completion

module _ (b b' : List ℕ) (x : Ending) (w : ControlTransfer) (n freed : ℕ) where
  pub ended : w ≡ at_phase (phase_behind (block_of b).state (block_of b).transfer.phase) (block_of b).transfer → freed ≡ places_freed x (block_of b).held → n ≡ (block_of b).held - freed
      → Headed b w NoTrbSubmitted n b' → Becomes b (block_behind x (block_of b)) b'
  unfolding completes.accepted
  ended at frees count h =
      let c : ControlBlock = block_of b in
      let left : n ≡ c.held - places_freed x c.held = count ∙ ap (λ (k : ℕ). c.held - k) frees in
      let places : places_in n (drop head_length b) ≡ cleared (places_freed x c.held) c.trbs = ap (λ (k : ℕ). places_in k (drop head_length b)) left ∙ sym (freed-places b x) in
      record {
        block = h.block ∙ (λ j. blocks.block_of c.endpoint_id c.slot_id c.release (at j) NoTrbSubmitted (left j) (places j))
            ∙ ap (λ (r : Completed). r.block) (completed-by c x (result_of x) _ (phase_behind c.state c.transfer.phase) (places_freed x c.held) (cleared (places_freed x c.held) c.trbs) refl refl refl refl refl);
        behind = behind-block b b' h.behind;
        long = h.long;
      }

-- ---- Submission

-- a TRB stored, or not
pub held-stored : (b : List ℕ) (o : Outcome) (t : TransferTrb) (n : ℕ) (b' : List ℕ) → holds o ≡ true → Placed b n t b' → Held b o t n (n + 1) b'
held-stored b o t n b' hold p = record {
  held = rw hold;
  places = rw hold p.places;
  endpoint = p.endpoint;
  slot = p.slot;
  rule = p.rule;
  transfer = p.transfer;
  behind = p.behind;
  long = p.long;
}

pub held_kept : (b : List ℕ) (o : Outcome) (t : TransferTrb) (n : ℕ) → holds o ≡ false → Held b o t n n b
held_kept b o t n hold = record { held = rw hold; places = rw hold; endpoint = refl; slot = refl; rule = refl; transfer = refl; behind = refl; long = refl }

-- at most one more
pub next-few : (v : Bool) (n r : ℕ) → r ≡ cond v (n + 1) n → r ≤ n + 1
next-few true n r e = omega arith
next-few false n r e = omega arith

module _ (b b' : List ℕ) (o : Outcome) (t : TransferTrb) (n r : ℕ) (count : n ≡ (block_of b).held - places_dropped (restarts o) (block_of b).held) (h : Held b o t n r b') where
  abbrev old : ControlBlock
  old = block_of b

  left_by : (v : Bool) → holds o ≡ v → r ≡ cond v (n + 1) n → places_in r (drop head_length b') ≡ cond v (set (places_in n (drop head_length b)) n t) (places_in n (drop head_length b))
      → changed old old.transfer old.state r (places_in r (drop head_length b')) ≡ held_after o (dropped_before o old) t
  left_by true hold more put =
      leaves-stored old t o r (places_in n (drop head_length b)) (places_in r (drop head_length b')) hold (ap (λ (k : ℕ). places_in k (drop head_length b)) count ∙ sym (dropped-places b (restarts o)))
      (more ∙ ap (λ (k : ℕ). k + 1) count) (put ∙ ap (λ (k : ℕ). set (places_in n (drop head_length b)) k t) count)
  left_by false hold same kept =
      leaves_kept old t o r (places_in n (drop head_length b)) (places_in r (drop head_length b')) hold (ap (λ (k : ℕ). places_in k (drop head_length b)) count ∙ sym (dropped-places b (restarts o)))
      (same ∙ count) kept

  pub taken : (w : ControlTransfer) (state : ControlSubmissionState) (b'' : List ℕ) → w ≡ transfer_after o t.variant t.addr old.transfer → state ≡ state_after o t.addr
      → Headed b' w state r b'' → Becomes b (block_after o old t) b''
  unfolding submits.accepted
  taken w state b'' at now p =
      let endpoint = h.endpoint in
      let slot = h.slot in
      let rule = h.rule in
      record {
        block = p.block ∙ (λ j. blocks.block_of (endpoint j) (slot j) (rule j) w state r (places_in r (drop head_length b')))
            ∙ ap (λ (x : Submitted). x.block) (submitted-by old t o (Ok tt) _ w state r (places_in r (drop head_length b')) refl refl at now (left_by (holds o) refl h.held h.places));
        behind = behind-block b' b'' p.behind ∙ h.behind;
        long = p.long ∙ h.long;
      }
