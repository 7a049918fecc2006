-- What holds of one TRB, over a walk of any number of them. Assumes nothing.
use Prim.Native.Nat.{ℕ, suc}
use mathlib.Core.Path.{◌≡◌, refl}
use mathlib.Core.Bool.{Bool, true, false}
use mathlib.Core.List.{List, [], ◌∷◌, ◌++◌}
use native.Mathlib.Nat.{mul-suc}
use native.Mathlib.Omega.{arith}
use lib.ListN.{length}
use Rattle.trb.specs.Limits.{max_transfer_length}
use Rattle.trb.specs.declared.TransferTrb.{TransferTrb}
use Rattle.trb.proofs.TestLaws.{and_left, and_right}
use Rattle.call_log.specs.Calls.{Out}
use Rattle.call_log.specs.declared.Record.{Record}
use Rattle.td_part.specs.declared.TdProgress.{TdProgress}
use Rattle.walks.specs.All.{all}
use Rattle.walks.specs.Walk.{walk}
use Rattle.long_tds.specs.ByCount.{fitting, residual_fits, kept_fits, Bounded}

all_append : (rs qs : List Record) → all residual_fits rs ≡ true → all residual_fits qs ≡ true → all residual_fits (rs ++ qs) ≡ true
unfolding all
all_append [] qs h g = g
all_append (r ∷ rs) qs h g = rw (and_left (residual_fits r) (all residual_fits rs) h) (all_append rs qs (and_right (residual_fits r) (all residual_fits rs) h) g)

module _ {S : Type 0} (step : S → TransferTrb → Out S) (stopped : S → Bool) (progress : S → TdProgress)
    (turn : (s : S) (t : TransferTrb) → fitting t ≡ true → kept_fits (progress s).state ≡ true → Bounded 1 (progress s) (progress (step s t).state) (step s t).records) where
  abbrev WalkBounded : S → List TransferTrb → Type 0
  WalkBounded s ts = Bounded (length ts) (progress s) (progress (walk step stopped s ts).state) (walk step stopped s ts).records

  none-bounded : (m : ℕ) (s : S) → kept_fits (progress s).state ≡ true → Bounded m (progress s) (progress s) []
  unfolding all
  none-bounded m s k = record { edtla = omega arith; kept = k; residuals = refl }

  cons-bounded : (s : S) (t : TransferTrb) (ts : List TransferTrb) (v : Bool) → stopped s ≡ v → kept_fits (progress s).state ≡ true
      → Bounded 1 (progress s) (progress (step s t).state) (step s t).records → WalkBounded (step s t).state ts → WalkBounded s (t ∷ ts)
  unfolding walk
  cons-bounded s t ts true e k g more = rw e (none-bounded (suc (length ts)) s k)
  cons-bounded s t ts false e k g more = rw e (record {
    edtla = omega (arith, g.edtla, more.edtla, mul-suc max_transfer_length (length ts));
    kept = more.kept;
    residuals = all_append (step s t).records (walk step stopped (step s t).state ts).records g.residuals more.residuals;
  })

  pub walk-bounded : (s : S) (ts : List TransferTrb) → all fitting ts ≡ true → kept_fits (progress s).state ≡ true → WalkBounded s ts
  unfolding walk all
  walk-bounded s [] h k = none-bounded 0 s k
  walk-bounded s (t ∷ ts) h k =
      let g = turn s t (and_left (fitting t) (all fitting ts) h) k in
      cons-bounded s t ts (stopped s) refl k g (walk-bounded (step s t).state ts (and_right (fitting t) (all fitting ts) h) g.kept)
