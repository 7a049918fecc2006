-- The TRBs that are freed: what the walk over them logs, with the records behind it, and the block without them. Assumes nothing.
use Prim.Native.Nat.{ℕ, ◌+◌, ◌*◌, ◌-◌, ◌≤◌}
use mathlib.Core.Path.{◌≡◌, refl, sym, ap, ◌∙◌}
use mathlib.Core.List.{List, ◌++◌}
use native.Mathlib.Nat.{zero-add}
use native.Mathlib.Omega.{arith}
use lib.ListN.{length, length-append}
use Rattle.trb.specs.Limits.{record_length}
use Rattle.trb.specs.declared.TransferTrb.{TransferTrb}
use Rattle.call_log.specs.declared.Record.{Record}
use Rattle.call_log.specs.Calls.{Put, Meets, counted}
use Rattle.held.specs.Places.{cleared}
use Rattle.held.proofs.PlaceLaws.{blanked-none, cleared-blanked}
use Rattle.td_part.specs.declared.TdInfo.{TdInfo}
use Rattle.td_part.specs.declared.TdProgress.{TdProgress}
use Rattle.td_part.specs.Parts.{at_start}
use Rattle.walks.specs.Walk.{walk}
use Rattle.walks.proofs.WalkLaws.{walk-counts}
use Rattle.control_block.specs.declared.ControlBlock.{ControlBlock}
use Rattle.control_block.specs.declared.Ending.{Ending}
use Rattle.control_block.specs.Blocks.{changed, emptied}
use Rattle.control_chain.specs.Chain.{never}
use Rattle.control_chain.specs.Endings.{next_trb}
use Rattle.control_chain.proofs.EndingLaws.{put-behind, ending_walker}

-- ---- The records

module _ (x : Ending) (td : TdInfo) (ts : List TransferTrb) (l₀ l : List ℕ) (w : TdProgress) (m : Meets (walk (next_trb x td) never at_start ts) 0 l₀ w l) where
  abbrev rs : List Record
  rs = (walk (next_trb x td) never at_start ts).records

  -- the progress counts them
  pub ended-counts : w.records ≡ length rs
  ended-counts =
      ap (λ (v : TdProgress). v.records) m.state
      ∙ (walk-counts (ending_walker x td) at_start ts (record { within = omega arith }) ∙ zero-add _)

  -- and the records ss behind them
  pub ended-then : (ss : List Record) (k : ℕ) (l' : List ℕ) → record_length * w.records ≤ length l₀ → Meets (counted w.records ss) w.records l k l'
      → Put l₀ 0 (rs ++ ss) l' × (k ≡ length (rs ++ ss))
  ended-then ss k l' room n =
      let p : Put l₀ 0 rs l = record { log = m.log; fits = m.fits } in
      let q : Put l w.records ss l' = record { log = n.log; fits = n.fits } in
      let behind : w.records ≡ 0 + length rs = ended-counts ∙ sym (zero-add (length rs)) in
      (put-behind l₀ l l' 0 rs ss (rw (← behind) room) p (rw behind at q), n.state ∙ omega (arith, length-append rs ss, ended-counts))

-- ---- The block

cleared-none : (ts : List TransferTrb) → cleared 0 ts ≡ ts
cleared-none ts = sym (cleared-blanked 0 ts (omega arith)) ∙ blanked-none ts

module _ (b : ControlBlock) where
  -- no place is freed
  pub freed-none : b ≡ changed b b.transfer b.state (b.held - 0) (cleared 0 b.trbs)
  freed-none =
      let same : b.held - 0 ≡ b.held = omega arith in
      rw (same, cleared-none b.trbs)

  -- all that are held
  pub freed-all : emptied b ≡ changed b b.transfer b.state (b.held - b.held) (cleared b.held b.trbs)
  freed-all =
      let none : b.held - b.held ≡ 0 = omega arith in
      rw none
