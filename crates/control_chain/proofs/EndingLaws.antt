-- Laws of what a completion logs: it is a walk over the TRBs that are freed, and one event more at most; 1,024 records at most.
-- Assumes nothing.
use Rattle.std.specs.Prelude.{is_some, unwrap_or}
use Prim.Native.Nat.{ℕ, ◌+◌, ◌*◌, ◌≤◌}
use mathlib.Core.Path.{◌≡◌, refl, ap}
use mathlib.Core.List.{List, [], ◌∷◌, ◌++◌, append-nil}
use native.Mathlib.Omega.{arith}
use lib.Dec.{lit≤}
use lib.ListN.{length, length-append, take}
use Rattle.trb.specs.Limits.{max_held, max_records, record_length}
use Rattle.trb.specs.declared.CompletionCode.TheVariants.{TrbError}
use Rattle.trb.specs.declared.EndpointId.{EndpointId}
use Rattle.trb.specs.declared.SlotId.{SlotId}
use Rattle.trb.specs.declared.TransferTrb.{TransferTrb}
use Rattle.call_log.specs.declared.Record.{Record}
use Rattle.call_log.specs.Calls.{silent, Put}
use Rattle.call_log.proofs.LogLaws.{logged-append, AllFit-append}
use Rattle.td_part.specs.declared.TdInfo.{TdInfo}
use Rattle.td_part.specs.declared.TdProgress.{TdProgress}
use Rattle.td_part.specs.Parts.{Within, at_start}
use Rattle.td_part.proofs.PartLaws.{Kept, kept-silent}
use Rattle.walks.specs.Walk.{walk}
use Rattle.walks.proofs.WalkLaws.{Walker, walk_of, length-walk}
use Rattle.control_block.specs.declared.Ending.{Ending}
use Rattle.control_block.specs.declared.Ending.TheVariants.{KeepCollecting, ReportBadTrb, Fail, Realize}
use Rattle.control_block.specs.Endings.{places_freed}
use Rattle.control_chain.specs.Chain.{never}
use Rattle.control_chain.specs.Dropped.{successes}
use Rattle.control_chain.specs.Endings.{event_of, transfer_td, ending_records, info_of, next_trb, last_records}
use Rattle.control_chain.proofs.ChainLaws.{chain_walker, kept-trb}
use Rattle.control_chain.proofs.DroppedLaws.{length-successes, walk-dropped, kept-dropped}

pub kept_next : (x : Ending) (td : TdInfo) (w : TdProgress) (t : TransferTrb) → Within td w → Kept td w (next_trb x td w t)
kept_next KeepCollecting td w t g = kept-silent td w g
kept_next (ReportBadTrb bad) td w t g = kept-dropped td w t g
kept_next (Fail c r) td w t g = kept-silent td w g
kept_next (Realize given) td w t g = kept-trb (record { info = td; input = is_some given }) w t g

-- the walk over the TRBs that a completion frees
abbrev pub ending_walker : Ending → TdInfo → Walker TdProgress TransferTrb
ending_walker x td = record {
  step = next_trb x td;
  stopped = never;
  count = λ (w : TdProgress). w.records;
  most = 2;
  Good = Within td;
  fine = λ w t g. kept_next x td w t g;
}

-- a walk on which nothing is done
walk-silent : (w : TdProgress) (ts : List TransferTrb) → (walk (λ (w : TdProgress) (t : TransferTrb). silent w) never w ts).records ≡ []
unfolding walk
walk-silent w [] = refl
walk-silent w (t ∷ ts) = walk-silent w ts

-- of a block that holds the first n of the places ts
module _ (a : ℕ) (e : EndpointId) (s : SlotId) (ts : List TransferTrb) (n : ℕ) where
  pub walk-ending : (x : Ending) → (walk_of (ending_walker x (info_of x e s)) at_start (take (places_freed x n) ts)).records ++ last_records x a e s ≡ ending_records x a e s (take n ts)
  unfolding walk ending_records
  walk-ending KeepCollecting = refl
  walk-ending (ReportBadTrb bad) =
      ap (λ (rs : List Record). rs ++ (event_of bad TrbError e s ∷ [])) (walk-dropped (info_of (ReportBadTrb bad) e s) at_start (take n ts))
  walk-ending (Fail c r) = ap (λ (rs : List Record). rs ++ (event_of a c e s ∷ [])) (walk-silent at_start (take n ts))
  walk-ending (Realize given) = append-nil _

-- 01, The log: a call writes at most 1,024 records
module _ (a : ℕ) (e : EndpointId) (s : SlotId) (ts : List TransferTrb) (few : length ts ≤ max_held) where
  pub length-ending : (x : Ending) → length (ending_records x a e s ts) ≤ max_records
  unfolding ending_records
  length-ending KeepCollecting = lit≤ tt
  length-ending (ReportBadTrb bad) =
      omega (arith, few, length-successes e s ts, length-append (successes e s ts) (event_of bad TrbError e s ∷ []))
  length-ending (Fail c r) = lit≤ tt
  length-ending (Realize given) =
      omega (arith, few, length-walk (chain_walker (transfer_td e s (is_some given) (unwrap_or given 0))) at_start ts (record { within = omega arith }))

-- records behind records
pub put-behind : (l l' l'' : List ℕ) (k : ℕ) (rs ss : List Record) → record_length * (k + length rs) ≤ length l
    → Put l k rs l' → Put l' (k + length rs) ss l'' → Put l k (rs ++ ss) l''
put-behind l l' l'' k rs ss room p q = record {
  log = rw (q.log, p.log) (logged-append l k rs ss room);
  fits = AllFit-append rs ss p.fits q.fits;
}
