-- Laws of a row's captures: the TDs one by one, and what looks for a TD's end, for a Normal of it and for its request. Assumes nothing.
use Prim.Native.Nat.{ℕ, zero, suc, ◌+◌, ◌<◌, ◌≤◌, min}
use mathlib.Core.Bool.{Bool, true, false}
use mathlib.Core.Path.{◌≡◌, refl, ap, ◌∙◌}
use mathlib.Core.List.{List, [], ◌∷◌, ◌++◌, map}
use native.Mathlib.Nat.{zero-add}
use native.Mathlib.Numerals.{add-one}
use native.Mathlib.Omega.{arith}
use lib.Dec.{eqb}
use lib.ListN.{length, take, drop, get_or, drop_of_length-le}
use lib.Seq.{drop-cons}
use Rattle.std.proofs.Common.{Option, None, Some, ne_eqb}
use Rattle.std.specs.Bool.{MatchBool}
use Rattle.std.specs.Option.{MatchOption}
use Rattle.std.specs.List.{AllWithin, HoldsAt}
use Rattle.trb.specs.Trbs.{chain_of}
use Rattle.trb.specs.declared.TransferTrb.{TransferTrb}
use Rattle.call_log.specs.Records.{request_kind, decode}
use Rattle.call_log.specs.declared.Record.{Record}
use Rattle.in_td.specs.Td.{is_normal, normals}
use Rattle.row_walk.specs.declared.TdResult.{TdResult}
use Rattle.row_walk.specs.Rows.{with_results, has_normal, past_results}
use Rattle.row_walk.specs.Tds.{tds_of, first_td}
use Rattle.row_walk.proofs.TdsLaws.{tds_of-cons, take-first_td}
use Rattle.capture_record.specs.declared.InPipe.{InPipe}
use Rattle.capture_record.specs.Calls.{CaptureCall}
use Rattle.capture_calls.specs.Captures.{Captured}
use Rattle.captured_calls.specs.Rows.{requests_in, request_at, td_captures, requests_behind, row_captures}
use Rattle.captured_calls.proofs.LeastLaws.{take-least, drop-least}

-- ---- A TD's end, and its Normals

-- what the iterator's `position` says of the TRBs: none has its chain bit off, or this is the first one
length-chained : (ts : List TransferTrb) → AllWithin (λ t. chain_of t.variant ≡ true) ts 0 (length ts) → length ts ≡ length (first_td ts)
unfolding first_td
length-chained [] h = refl
length-chained (t ∷ ts) h =
    let on : chain_of t.variant ≡ true = h 0 t (omega arith) (omega arith) in
    rw on (ap suc (length-chained ts (λ k d low high. h (suc k) d (omega arith) (omega arith))))

length-ended : (ts : List TransferTrb) (i : ℕ) → i < length ts → HoldsAt (λ t. chain_of t.variant ≡ false) ts i → AllWithin (λ t. chain_of t.variant ≡ true) ts 0 i
    → i + 1 ≡ length (first_td ts)
unfolding first_td
length-ended [] i h off on = absurd (omega arith)
length-ended (t ∷ ts) zero h off on = rw (off t) refl
length-ended (t ∷ ts) (suc i) h off on =
    let here : chain_of t.variant ≡ true = on 0 t (omega arith) (omega arith) in
    let rest = length-ended ts i (omega arith) off (λ k d low high. on (suc k) d (omega arith) (omega arith)) in
    rw here (omega (arith, rest))

pub length-first : (ts : List TransferTrb) (r : Option ℕ) (n : ℕ)
    → MatchOption r (AllWithin (λ t. chain_of t.variant ≡ true) ts 0 (length ts)) (λ i. (i < length ts) × HoldsAt (λ t. chain_of t.variant ≡ false) ts i × AllWithin (λ t. chain_of t.variant ≡ true) ts 0 i)
    → MatchOption r (n ≡ length ts) (λ i. n ≡ i + 1) → n ≡ length (first_td ts)
length-first ts None n h e = e ∙ length-chained ts h
length-first ts (Some i) n h e = e ∙ length-ended ts i h.0 h.1 h.2

-- what `any` says of them
no-normals : (ts : List TransferTrb) → AllWithin (λ t. is_normal t.variant ≡ false) ts 0 (length ts) → normals ts ≡ 0
no-normals [] h = refl
no-normals (t ∷ ts) h =
    let off : is_normal t.variant ≡ false = h 0 t (omega arith) (omega arith) in
    rw (off, zero-add) (no-normals ts (λ k d low high. h (suc k) d (omega arith) (omega arith)))

some-normals : (ts : List TransferTrb) (k : ℕ) → k < length ts → HoldsAt (λ t. is_normal t.variant ≡ true) ts k → 0 < normals ts
some-normals [] k h on = absurd (omega arith)
some-normals (t ∷ ts) zero h on = rw (on t) (omega arith)
some-normals (t ∷ ts) (suc k) h on = omega (arith, some-normals ts k (omega arith) on)

pub has_normal-decided : (r : Bool) (ts : List TransferTrb)
    → MatchBool r ((k : ℕ) × (k < length ts) × HoldsAt (λ t. is_normal t.variant ≡ true) ts k) (AllWithin (λ t. is_normal t.variant ≡ false) ts 0 (length ts))
    → r ≡ has_normal ts
has_normal-decided true ts h = let some = some-normals ts h.0 h.1 h.2 in rw (ne_eqb (normals ts) 0 (λ e. omega (arith, e, some))) refl
has_normal-decided false ts h = rw (no-normals ts h) refl

-- ---- The first request

abbrev pub Request : Bool → List ℕ → Type 0
Request b cells = eqb (decode cells).kind request_kind ≡ b

-- what `position` says of the records: none is a request, or this is the first one
no-requests : (cells : List (List ℕ)) → AllWithin (Request false) cells 0 (length cells) → requests_in (map decode cells) ≡ []
unfolding requests_in
no-requests [] h = refl
no-requests (x ∷ cells) h =
    let here : Request false x = h 0 x (omega arith) (omega arith) in
    rw here (no-requests cells (λ k d low high. h (suc k) d (omega arith) (omega arith)))

some-request : (cells : List (List ℕ)) (i : ℕ) → i < length cells → HoldsAt (Request true) cells i → AllWithin (Request false) cells 0 i
    → requests_in (map decode cells) ≡ request_at (Some i) cells
unfolding requests_in
some-request [] i h is others = absurd (omega arith)
some-request (x ∷ cells) zero h is others = rw (is x) refl
some-request (x ∷ cells) (suc i) h is others =
    let here : Request false x = others 0 x (omega arith) (omega arith) in
    let behind : suc i + 1 ≡ suc (i + 1) = omega arith in
    rw (here, behind) (some-request cells i (omega arith) is (λ k d low high. others (suc k) d (omega arith) (omega arith)))

module _ (cells : List (List ℕ)) where
  abbrev pub First : Option ℕ → Type 0
  First r = MatchOption r (AllWithin (Request false) cells 0 (length cells)) (λ i. (i < length cells) × HoldsAt (Request true) cells i × AllWithin (Request false) cells 0 i)

  pub request-found : (r : Option ℕ) → First r → requests_in (map decode cells) ≡ request_at r cells
  request-found None h = no-requests cells h
  request-found (Some i) h = some-request cells i h.0 h.1 h.2

-- ---- The TDs of a row

module _ (c : Captured) (p : InPipe) where
  -- the first TD, and those behind it
  pub row_next : (ts : List TransferTrb) (g : TdResult) (gs : List TdResult) (qs : List Record) (bytes : List ℕ)
      → row_captures c p (with_results (tds_of ts) (g ∷ gs)) qs bytes
      ≡ td_captures c p (has_normal (first_td ts)) qs g.status (take g.length bytes)
      ++ row_captures c p (with_results (tds_of (drop (length (first_td ts)) ts)) gs) (requests_behind (has_normal (first_td ts)) qs) (drop g.length bytes)
  unfolding row_captures with_results tds_of first_td
  row_next [] g gs qs bytes = refl
  row_next (t ∷ ts) g gs qs bytes = rw (tds_of-cons t ts)

with_results-none : (tds : List (List TransferTrb)) → with_results tds [] ≡ []
unfolding with_results
with_results-none [] = refl
with_results-none (td ∷ tds) = refl

module _ (c : Captured) (p : InPipe) (results : List TdResult) where
  -- the TDs of the TRBs that are left, with the results from `td`, and the records and the bytes that are left
  abbrev pub row_left : List TransferTrb → ℕ → List (List ℕ) → List ℕ → List CaptureCall
  row_left ts td cells bytes = row_captures c p (with_results (tds_of ts) (drop td results)) (requests_in (map decode cells)) bytes

  pub row-end : (ts : List TransferTrb) (td : ℕ) (cells : List (List ℕ)) (bytes : List ℕ) → length results ≤ td → row_left ts td cells bytes ≡ []
  unfolding row_captures
  row-end ts td cells bytes h = rw (drop_of_length-le results {i = td} h, with_results-none)

  module _ (ts : List TransferTrb) (td : ℕ) (cells : List (List ℕ)) (bytes : List ℕ) (more : td < length results) where
    abbrev given : TdResult
    given = get_or results td past_results

    pub row-turn : (normal : Bool) (size own : ℕ) (cells' : List (List ℕ)) → size ≡ length (first_td ts) → normal ≡ has_normal (take size ts)
        → requests_in (map decode cells') ≡ requests_behind normal (requests_in (map decode cells)) → own ≡ min given.length (length bytes)
        → row_left ts td cells bytes
        ≡ td_captures c p normal (requests_in (map decode cells)) given.status (take own bytes) ++ row_left (drop size ts) (td + 1) cells' (drop own bytes)
    row-turn normal size own cells' ends is left cut =
        let here : take size ts ≡ first_td ts = ap (λ (k : ℕ). take k ts) ends ∙ take-first_td ts in
        let results-here : drop td results ≡ given ∷ drop (td + 1) results = rw (add-one, drop-cons results td past_results) in
        rw (results-here, take-least bytes given.length own cut, drop-least bytes given.length own cut, left, is, here, ends)
        (row_next c p ts given (drop (td + 1) results) (requests_in (map decode cells)) bytes)
