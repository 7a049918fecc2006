-- Laws of the events of a dropped chain: they are a walk, and one record for each TRB at most. Assumes nothing.
use Prim.Native.Nat.{◌≤◌}
use mathlib.Core.Path.{◌≡◌, refl, ap}
use mathlib.Core.Bool.{false}
use mathlib.Core.List.{List, [], ◌∷◌, ◌++◌}
use native.Mathlib.Omega.{arith}
use lib.Dec.{lit≤}
use lib.ListN.{length, length-append}
use Rattle.trb.specs.declared.CompletionCode.TheVariants.{Success}
use Rattle.trb.specs.declared.EndpointId.{EndpointId}
use Rattle.trb.specs.declared.SlotId.{SlotId}
use Rattle.trb.specs.declared.TransferTrb.{TransferTrb}
use Rattle.call_log.specs.declared.Record.{Record}
use Rattle.call_log.specs.Records.{transfer_event}
use Rattle.call_log.proofs.RecordLaws.{length-when}
use Rattle.td_part.specs.declared.TdInfo.{TdInfo}
use Rattle.td_part.specs.declared.TdProgress.{TdProgress}
use Rattle.td_part.specs.Parts.{Within}
use Rattle.td_part.proofs.PartLaws.{Kept, kept-report}
use Rattle.walks.specs.Walk.{walk}
use Rattle.walks.proofs.WalkLaws.{Walker}
use Rattle.control_chain.specs.Chain.{never}
use Rattle.control_chain.specs.Dropped.{interrupt_of, success_of, successes, report_dropped}

module _ (e : EndpointId) (s : SlotId) where
  length-success_of : (t : TransferTrb) → length (success_of e s t) ≤ 1
  length-success_of t = length-when (interrupt_of t.variant) (transfer_event t.addr 0 Success false e s)

  -- one record for each TRB at most
  pub length-successes : (ts : List TransferTrb) → length (successes e s ts) ≤ length ts
  unfolding successes
  length-successes [] = lit≤ tt
  length-successes (t ∷ ts) = omega (arith, length-append (success_of e s t) (successes e s ts), length-success_of t, length-successes ts)

pub walk-dropped : (td : TdInfo) (w : TdProgress) (ts : List TransferTrb)
    → (walk (report_dropped td) never w ts).records ≡ successes td.endpoint_id td.slot_id ts
unfolding walk successes
walk-dropped td w [] = refl
walk-dropped td w (t ∷ ts) =
    ap (λ (rs : List Record). success_of td.endpoint_id td.slot_id t ++ rs) (walk-dropped td (report_dropped td w t).state ts)

pub kept-dropped : (td : TdInfo) (w : TdProgress) (t : TransferTrb) → Within td w → Kept td w (report_dropped td w t)
kept-dropped td w t g = kept-report td w g 0 (interrupt_of t.variant) t.addr 0 Success

-- the walk over a chain that is dropped
abbrev pub dropped_walker : TdInfo → Walker TdProgress TransferTrb
dropped_walker td = record {
  step = report_dropped td;
  stopped = never;
  count = λ (w : TdProgress). w.records;
  most = 2;
  Good = Within td;
  fine = λ w t g. kept-dropped td w t g;
}
