-- Laws of the kinds in a log, read one after the other. Assumes nothing.
use Prim.Native.Nat.{ℕ}
use mathlib.Core.Bool.{◌&&◌}
use mathlib.Core.Path.{◌≡◌, refl, ap}
use mathlib.Core.List.{List, [], ◌∷◌, map}
use lib.ListN.{get_or}
use Rattle.std.specs.List.{list_all}
use Rattle.call_log.specs.Records.{decode}
use Rattle.log_check.specs.WellFormed.{kind_known, kinds_known}

-- the kind of a record is its first byte
pub kinds_known-cells : (cells : List (List ℕ)) → list_all (λ l. kind_known (get_or l 0 0)) cells ≡ kinds_known (map decode cells)
kinds_known-cells [] = refl
kinds_known-cells (l ∷ cells) = ap (λ b. kind_known (get_or l 0 0) && b) (kinds_known-cells cells)
