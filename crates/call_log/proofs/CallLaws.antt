-- Laws of calls: a contract carried over an equation, and one call behind another. Assumes nothing.
use Prim.Native.Nat.{ℕ}
use mathlib.Core.Path.{◌≡◌, sym, subst}
use mathlib.Core.List.{List}
use Rattle.call_log.specs.Calls.{Out, silent, Meets}
use Rattle.call_log.proofs.LogLaws.{logged_none}

-- what is met stays met over an equation of what was to be
pub meets : {S : Type 0} {o p : Out S} {k : ℕ} {l l' : List ℕ} {r : S} → p ≡ o → Meets o k l r l' → Meets p k l r l'
meets {S} {k = k} {l = l} {l' = l'} {r = r} e h = subst (λ (o : Out S). Meets o k l r l') (sym e) h

-- a call that logs nothing leaves the log as it was
pub meets-silent : {S : Type 0} {r s : S} (k : ℕ) (l : List ℕ) → r ≡ s → Meets (silent s) k l r l
meets-silent k l e = record { state = e; log = sym (logged_none l k); fits = tt }
