-- A region that is filled. Assumes nothing.
use Prim.Native.Nat.{ℕ, min}
use mathlib.Core.Path.{◌≡◌, sym, ◌∙◌}
use mathlib.Core.List.{List, ◌++◌}
use lib.ListN.{length, take, drop}
use Rattle.guest_memory.specs.declared.Region.{Region}
use Rattle.script_bytes.specs.Bytes.{guest_bytes}
use Rattle.lent_calls.proofs.LentLaws.{drop-least, length-least}
use Rattle.session_lines.specs.Lines.{region_filled}

-- the first k bytes of m were filled, k being as many as the region has of them
pub region-filled : {k : ℕ} {w : List ℕ} (g : Region) (m : List ℕ) → k ≡ min g.len (length m) → w ≡ guest_bytes g.start_addr (length (take k m)) → w ++ drop k m ≡ region_filled g m
region-filled g m e f = rw (f, drop-least g.len m e, sym (length-least g.len m e) ∙ e)
