-- Laws of a walk in which every TRB has its turn: once an error has ended it, a turn changes nothing. Assumes nothing.
use Prim.Native.Nat.{ℕ, ◌+◌, ◌*◌, ◌<◌, ◌≤◌}
use mathlib.Core.Path.{◌≡◌, refl, sym, ap, ◌∙◌, subst}
use mathlib.Core.Bool.{Bool, true, false}
use mathlib.Core.List.{List}
use native.Mathlib.Omega.{arith}
use lib.ListN.{length, take, drop, get_or}
use Rattle.trb.specs.Limits.{record_length}
use Rattle.trb.specs.declared.TransferTrb.{TransferTrb}
use Rattle.call_log.specs.Calls.{Out, silent, Meets}
use Rattle.call_log.specs.Logs.{logged, AllFit}
use Rattle.call_log.proofs.LogLaws.{logged_none}
use Rattle.call_log.proofs.CallLaws.{meets}
use Rattle.held.specs.Places.{past_end}
use Rattle.walks.specs.Walk.{walk}
use Rattle.walks.proofs.WalkLaws.{Walked, walk_of, walk-stopped, walked_none, walked-turn, walked_end}
use Rattle.td_part.specs.Parts.{Within}
use Rattle.in_td.specs.Td.{normals, process_trb, process_td, ended, next_trb, unprocessed}
use Rattle.in_td.specs.declared.InTd.{InTd}
use Rattle.in_td.specs.declared.TdProcessed.{TdProcessed}
use Rattle.in_td.proofs.TdLaws.{td_walker}

pub next_trb-ended : (td : InTd) (p : TdProcessed) (t : TransferTrb) → ended p ≡ true → next_trb td p t ≡ silent p
unfolding next_trb
next_trb-ended td p t e = rw e

pub next_trb-going : (td : InTd) (p : TdProcessed) (t : TransferTrb) → ended p ≡ false → next_trb td p t ≡ process_trb td p t
unfolding next_trb
next_trb-going td p t e = rw e

-- the state before the first of the TRBs ts
abbrev start : List TransferTrb → TdProcessed
start ts = unprocessed (normals ts)

-- after i TRBs of the first n of ts, of a walk over the log l₀, with the state p and the log l
abbrev pub WalkedTd : InTd → ℕ → List TransferTrb → List ℕ → List ℕ → TdProcessed → ℕ → Type 0
WalkedTd td n ts l₀ l p i = Walked (td_walker td) (start (take n ts)) (take n ts) l₀ l p i

module _ (td : InTd) (n : ℕ) (ts : List TransferTrb) (l₀ : List ℕ) where
  pub walked_td-none : WalkedTd td n ts l₀ l₀ (start (take n ts)) 0
  walked_td-none = walked_none (td_walker td) (start (take n ts)) (take n ts) l₀ (record { within = omega arith })

  module _ (l : List ℕ) (p : TdProcessed) (i : ℕ) (w : WalkedTd td n ts l₀ l p i) where
    -- where an error has ended the walk, the next TRB changes nothing
    ended-turn : (l' : List ℕ) (r : TdProcessed) → ended p ≡ true → Meets (silent p) p.progress.records l r l' → WalkedTd td n ts l₀ l' r (i + 1)
    ended-turn l' r e m =
        let same : walk (process_trb td) ended p (drop (i + 1) (take n ts)) ≡ walk (process_trb td) ended p (drop i (take n ts)) =
        walk-stopped (td_walker td) p (drop (i + 1) (take n ts)) e ∙ sym (walk-stopped (td_walker td) p (drop i (take n ts)) e) in
        rw (m.state, m.log, logged_none l p.progress.records)
        (record {
          good = w.good;
          room = omega (arith, w.room);
          long = w.long;
          state = ap (λ (o : Out TdProcessed). o.state) same ∙ w.state;
          log = ap (λ (o : Out TdProcessed). logged l p.progress.records o.records) same ∙ w.log;
          fits = subst (λ (o : Out TdProcessed). AllFit o.records → AllFit (walk_of (td_walker td) (start (take n ts)) (take n ts)).records) (sym same) w.fits;
        })

    module _ (few : n ≤ length ts) (more : i < n) (room : record_length * (2 * n) ≤ length l₀) where
      turn_by : (l' : List ℕ) (r : TdProcessed) (b : Bool) → ended p ≡ b → Meets (next_trb td p (get_or ts i past_end)) p.progress.records l r l' → WalkedTd td n ts l₀ l' r (i + 1)
      turn_by l' r true e m = ended-turn l' r e (meets (sym (next_trb-ended td p (get_or ts i past_end) e)) m)
      turn_by l' r false e m =
          walked-turn (td_walker td) ts n few (start (take n ts)) l₀ l l' p r i past_end w e more (omega (arith, room)) (meets (sym (next_trb-going td p (get_or ts i past_end) e)) m)

      pub walked_td-turn : (l' : List ℕ) (r : TdProcessed) → Meets (next_trb td p (get_or ts i past_end)) p.progress.records l r l' → WalkedTd td n ts l₀ l' r (i + 1)
      walked_td-turn l' r m = turn_by l' r (ended p) refl m

      -- what the next TRB's turn asks
      pub walked_td-room : (record_length * (p.progress.records + 2) ≤ length l) × Within td.info p.progress
      walked_td-room = (omega (arith, w.room, w.long, room), w.good)

    pub walked_td-end : n ≤ length ts → n ≤ i → Meets (process_td td (take n ts)) 0 l₀ p l
    walked_td-end few over = walked_end (td_walker td) ts n few (start (take n ts)) l₀ l p i w over
