-- The lines of a call script that print nothing. Assumes nothing.
use Rattle.std.specs.Prelude.{ℕ, ◌+◌, min, ◌≡◌, Bool, ◌&&◌, cond, List, leb, length, set, Option}
use Rattle.trb.specs.Limits.{max_row}
use Rattle.trb.specs.declared.TransferTrb.{TransferTrb}
use Rattle.row_walk.specs.declared.TdResult.{TdResult}
use Rattle.guest_memory.specs.declared.Region.{Region}
use Rattle.guest_memory.specs.declared.Regions.{Regions}
use Rattle.script_bytes.specs.Bytes.{guest_bytes}
use Rattle.lent_calls.specs.Lent.{behind_lent}
use Rattle.session.specs.Sessions.{Quiet, bad_quiet, good_quiet, quiet_ran, is_in_endpoint, with_window, with_row}
use Rattle.held.specs.declared.EndpointKind.{EndpointKind}
use Rattle.call_answer.specs.declared.Ran.{Ran}
use Rattle.in_calls.specs.declared.Row.{Row}
use Rattle.session.specs.declared.Session.{Session}

-- ---- `w`: guest memory is filled anew

-- the region, with as many bytes of the buffer as there are
abbrev pub region_in : Region → List ℕ → Region
region_in g bytes = record { start_addr = g.start_addr; len = min g.len (length bytes) }

-- the bytes of the region are filled, those behind it stay
abbrev pub region_filled : Region → List ℕ → List ℕ
region_filled g bytes = behind_lent g.len bytes (guest_bytes g.start_addr (min g.len (length bytes)))

-- the bytes b became b', and the region has r of them
pub record FillsRegion (g r : Region) (b b' : List ℕ) : Type 0 where
  pub region : r ≡ region_in g b
  pub bytes : b' ≡ region_filled g b

abbrev pub window_moved : Session → Regions → List ℕ → List ℕ → Session
window_moved s window low high = with_window s (record { low = region_in window.low low; high = region_in window.high high })

-- the session with other regions was returned, and both were filled: a became a', and b became b'
pub record MovesWindow (s : Session) (window : Regions) (r : Ran Session) (a a' b b' : List ℕ) : Type 0 where
  pub ran : r ≡ quiet_ran (good_quiet (window_moved s window a b))
  pub low : a' ≡ region_filled window.low a
  pub high : b' ≡ region_filled window.high b

-- ---- `q` and `e`: the row that is being written down

-- a row, of which there is so much, may have one more than its places; on an IN endpoint alone
abbrev pub may_append : Option EndpointKind → ℕ → Bool
may_append e n = leb n max_row && is_in_endpoint e

-- a row's places, n of which are taken, and x behind those: what stands behind all places is counted, not kept
abbrev pub placed : {A : Type 0} → List A → ℕ → A → List A
placed places n x = cond (leb max_row n) places (set places n x)

abbrev pub with_trb : Row → TransferTrb → Row
with_trb w t = record w { trbs = placed w.trbs w.count t; count = w.count + 1 }

abbrev pub with_result : Row → TdResult → Row
with_result w given = record w { results = placed w.results w.tds given; tds = w.tds + 1 }

unfoldable pub append_trb : Session → TransferTrb → Quiet
append_trb s t = cond (may_append s.endpoint s.row.count) (good_quiet (with_row s (with_trb s.row t))) (bad_quiet s)

unfoldable pub append_result : Session → TdResult → Quiet
append_result s given = cond (may_append s.endpoint s.row.tds) (good_quiet (with_row s (with_result s.row given))) (bad_quiet s)
