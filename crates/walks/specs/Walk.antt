-- A walk over a list: each element changes a state and logs records, and a state may stop the walk. Assumes nothing.
use Rattle.std.specs.Prelude.{Bool, cond, List, [], ◌∷◌, ◌++◌}
use Rattle.call_log.specs.Calls.{Out, silent}

-- a call, and behind it another
abbrev pub join : {S : Type 0} → Out S → Out S → Out S
join o p = record { state = p.state; records = o.records ++ p.records }

-- from the state s over the list, as long as no state stops it
unfoldable pub walk : {S T : Type 0} → (S → T → Out S) → (S → Bool) → S → List T → Out S
walk step stopped s [] = silent s
walk step stopped s (t ∷ ts) = cond (stopped s) (silent s) (join (step s t) (walk step stopped (step s t).state ts))
