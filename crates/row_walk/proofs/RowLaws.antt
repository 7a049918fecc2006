-- Laws of a row: a TD's request and its walk from where it stands in the row are its step, and after i TDs what the walk over the
-- rest makes of the present state and log is what the whole row makes of the first. Assumes nothing.
use Prim.Native.Nat.{ℕ, zero, suc, ◌+◌, ◌-◌, ◌*◌, ◌<◌, ◌≤◌}
use mathlib.Core.Path.{◌≡◌, refl, sym, ap, ◌∙◌}
use mathlib.Core.Logic.{⊎_elim}
use mathlib.Core.Bool.{Bool, true, false, not}
use lib.Dec.{eqb}
use mathlib.Core.List.{List, [], ◌∷◌, ◌++◌, map}
use native.Mathlib.Nat.{add_assoc, zero-add, not-suc-le-zero}
use native.Mathlib.Numerals.{add-one}
use native.Mathlib.Omega.{arith}
use lib.ListN.{length, take, drop, get_or, length-append, length-map, length-drop, drop_of_length-le}
use lib.Seq.{drop-cons, drop-drop, get_or-drop}
use Rattle.trb.proofs.TestLaws.{le-or-lt}
use Rattle.trb.specs.Limits.{record_length}
use Rattle.trb.specs.declared.EndpointId.{EndpointId}
use Rattle.trb.specs.declared.SlotId.{SlotId}
use Rattle.trb.specs.declared.TransferTrb.{TransferTrb}
use Rattle.call_log.specs.Calls.{Out, Meets, counted}
use Rattle.call_log.specs.Records.{when, in_request}
use Rattle.call_log.specs.Logs.{logged}
use Rattle.call_log.specs.declared.Record.{Record}
use Rattle.call_log.proofs.CallLaws.{meets}
use Rattle.call_log.proofs.LogLaws.{logged-append, length-logged, AllFit-append}
use Rattle.call_log.proofs.RecordLaws.{length-when}
use Rattle.walks.specs.Walk.{walk}
use Rattle.walks.proofs.GoingLaws.{map-append, Going, going-none, going-turn, going_end, going-stop}
use Rattle.walks.proofs.WalkLaws.{Walked, walk-counts, length-walk, walked_none, walked-turn, walked_end, walked_stop}
use Rattle.held.specs.Places.{past_end}
use Rattle.td_part.specs.Parts.{Within}
use Rattle.in_td.specs.Td.{normals, process_trb, ended, is_error, unprocessed, in_td}
use Rattle.in_td.specs.declared.InMode.{InMode}
use Rattle.in_td.specs.declared.InTd.{InTd}
use Rattle.in_td.specs.declared.TdProcessed.{TdProcessed}
use Rattle.in_td.proofs.TdLaws.{td_walker}
use Rattle.in_endpoint.specs.Submission.{first_address, request_of}
use Rattle.row_walk.specs.declared.RowProgress.{RowProgress}
use Rattle.row_walk.specs.declared.TdAsk.{TdAsk}
use Rattle.row_walk.specs.declared.TdResult.{TdResult}
use Rattle.row_walk.specs.Rows.{RowTd, with_results, has_normal, moved_by, completed, own_log, unstarted, td_done, td_in_row, failed, process_row, from, td_from, data_length, Walkable, past_results}
use Rattle.row_walk.specs.Tds.{tds_of, first_td}
use Rattle.row_walk.proofs.MovedLaws.{td_moved, process_td-moved}
use Rattle.row_walk.proofs.TdsLaws.{tds_of-cut, take-first_td, first_td-next, Found}

-- ---- One TD

module _ (e : EndpointId) (s : SlotId) (mode : InMode) (w : RowProgress) (x : RowTd) where
  -- what the walk over the TD, alone, comes to
  abbrev alone : Out TdProcessed
  alone = completed e s mode x

  abbrev request : List Record
  request = when (has_normal x.trbs) (request_of x.trbs e s)

  alone-counts : alone.state.progress.records ≡ length alone.records
  alone-counts = walk-counts (td_walker (in_td e s mode x.given.status x.given.length)) (unprocessed (normals x.trbs)) x.trbs (record { within = omega arith }) ∙ zero-add (length alone.records)

  alone-few : length alone.records ≤ 2 * length x.trbs
  alone-few = length-walk (td_walker (in_td e s mode x.given.status x.given.length)) (unprocessed (normals x.trbs)) x.trbs (record { within = omega arith })

  -- a TD logs at most a request and two records for each TRB
  pub td-few : length (td_in_row e s mode w x).records ≤ 1 + 2 * length x.trbs
  unfolding td_in_row own_log
  td-few = simp (length-map, length-append) (omega (arith, alone-few, length-when (has_normal x.trbs) (request_of x.trbs e s)))

  pub td-counts : (td_in_row e s mode w x).state.records ≡ w.records + length (td_in_row e s mode w x).records
  unfolding td_in_row
  td-counts = simp length-map

  request-moved : (b : Bool) (n : ℕ) (ts : List TransferTrb) → map (moved_by n) (when b (request_of ts e s)) ≡ when b (request_of ts e s)
  request-moved true n ts = refl
  request-moved false n ts = refl

  pub own-moved : (td_in_row e s mode w x).records ≡ request ++ map (moved_by w.start) alone.records
  unfolding td_in_row own_log
  own-moved = map-append (moved_by w.start) request alone.records ∙ ap (λ (rs : List Record). rs ++ map (moved_by w.start) alone.records) (request-moved (has_normal x.trbs) w.start x.trbs)

  module _ (l l₁ l₂ : List ℕ) (records : ℕ) (p : TdProcessed) (space : record_length * (w.records + 1) ≤ length l)
      (m : Meets (counted w.records request) w.records l records l₁)
      (k : Meets (walk (process_trb (td_from e s mode w.start x.given)) ended (from w.start records (normals x.trbs)) x.trbs) records l₁ p l₂) where
    moved : Meets (td_moved w.start records alone) records l₁ p l₂
    moved = meets (sym (process_td-moved w.start records e s x.given.length mode x.given.status x.trbs)) k

    -- the request, and the walk begun where the TD stands in the row's data and log
    pub td-meets : Meets (td_in_row e s mode w x) w.records l (td_done w x.given p.result p.progress.records) l₂
    unfolding own_log td_in_row
    td-meets =
        let few : length request ≤ 1 = length-when (has_normal x.trbs) (request_of x.trbs e s) in
        let own : List Record = map (moved_by w.start) alone.records in
        let count : records + alone.state.progress.records ≡ w.records + length (request ++ alone.records) =
        rw (m.state, alone-counts, length-append request alone.records) (add_assoc w.records (length request) (length alone.records)) in
        record {
          state = ap (λ (q : TdProcessed). td_done w x.given q.result q.progress.records) moved.state
              ∙ ap (td_done w x.given alone.state.result) count;
          log = moved.log ∙ rw (m.state, m.log) (logged-append l w.records request own (omega (arith, space, few))) ∙ ap (logged l w.records) (sym own-moved);
          fits = rw own-moved (AllFit-append request own m.fits moved.fits);
        }

-- ---- The TRBs of a TD, in the row

-- after j of the n TRBs from `first` on, of a TD whose data starts at `start`, with the state p and the log l
abbrev pub WalkedFrom : InTd → List TransferTrb → ℕ → TdProcessed → ℕ → List ℕ → List ℕ → TdProcessed → ℕ → Type 0
WalkedFrom td ts first p₀ n l₀ l p j = Walked (td_walker td) p₀ (take n (drop first ts)) l₀ l p j

module _ (td : InTd) (ts : List TransferTrb) (first : ℕ) (p₀ : TdProcessed) (n : ℕ) (l₀ : List ℕ) where
  pub walked_from-none : Within td.info p₀.progress → WalkedFrom td ts first p₀ n l₀ l₀ p₀ 0
  walked_from-none good = walked_none (td_walker td) p₀ (take n (drop first ts)) l₀ good

  module _ (l : List ℕ) (p : TdProcessed) (j : ℕ) (w : WalkedFrom td ts first p₀ n l₀ l p j) where
    module _ (few : first + n ≤ length ts) where
      there : n ≤ length (drop first ts)
      there = omega (arith, length-drop first ts)

      module _ (more : j < n) (room : record_length * (p₀.progress.records + 2 * n) ≤ length l₀) where
        -- what the next TRB asks
        pub walked_from-room : (record_length * (p.progress.records + 2) ≤ length l) × Within td.info p.progress
        walked_from-room = (omega (arith, w.room, w.long, room), w.good)

        pub walked_from-turn : (l' : List ℕ) (q : TdProcessed) → ended p ≡ false
            → Meets (process_trb td p (get_or ts (first + j) past_end)) p.progress.records l q l' → WalkedFrom td ts first p₀ n l₀ l' q (j + 1)
        walked_from-turn l' q on m =
            walked-turn (td_walker td) (drop first ts) n there p₀ l₀ l l' p q j past_end w on more room (rw (get_or-drop first ts j past_end) m)

      pub walked_from-end : n ≤ j → Meets (walk (process_trb td) ended p₀ (take n (drop first ts))) p₀.progress.records l₀ p l
      walked_from-end over = walked_end (td_walker td) (drop first ts) n there p₀ l₀ l p j w over

      pub walked_from-stop : ended p ≡ true → Meets (walk (process_trb td) ended p₀ (take n (drop first ts))) p₀.progress.records l₀ p l
      walked_from-stop h = walked_stop (td_walker td) (drop first ts) n there p₀ l₀ l p j w h

-- ---- A TD and a state by other names

pub le_trans_lt : {a b c : ℕ} → a ≤ b → b < c → a < c
le_trans_lt h k = omega arith

-- what is known of a TD and a state, of those that they are
module _ (td this : InTd) (p from-here : TdProcessed) (td-is : td ≡ this) (p-is : p ≡ from-here) where
  pub within-as : Within this.info from-here.progress → Within td.info p.progress
  within-as h = rw (td-is, p-is) h

  pub room_as : (size long : ℕ) → record_length * (from-here.progress.records + size) ≤ long → record_length * (p.progress.records + size) ≤ long
  room_as size long h = rw p-is h

  pub walked_as : (ts : List TransferTrb) (l l' : List ℕ) (q : TdProcessed) → Meets (walk (process_trb td) ended p ts) p.progress.records l q l'
      → Meets (walk (process_trb this) ended from-here ts) from-here.progress.records l q l'
  walked_as ts l l' q m = rw (td-is, p-is) at m

-- ---- The TDs of a row

length-with_results : (tds : List (List TransferTrb)) (rs : List TdResult) → length tds ≡ length rs → length (with_results tds rs) ≡ length rs
unfolding with_results
length-with_results [] [] h = refl
length-with_results [] (r ∷ rs) h = h
length-with_results (td ∷ tds) [] h = refl
length-with_results (td ∷ tds) (r ∷ rs) h = ap suc (length-with_results tds rs (omega arith))

get_or-with_results : (tds : List (List TransferTrb)) (rs : List TdResult) (i : ℕ) (d : RowTd) (td : List TransferTrb) (r : TdResult) → i < length tds → i < length rs
    → get_or (with_results tds rs) i d ≡ record { trbs = get_or tds i td; given = get_or rs i r }
unfolding with_results
get_or-with_results [] rs i d td r h k = absurd (not-suc-le-zero h)
get_or-with_results (u ∷ us) [] i d td r h k = absurd (not-suc-le-zero k)
get_or-with_results (u ∷ us) (x ∷ xs) zero d td r h k = refl
get_or-with_results (u ∷ us) (x ∷ xs) (suc i) d td r h k = get_or-with_results us xs i d td r (omega arith) (omega arith)

none_left : (ts : List TransferTrb) (first : ℕ) → length ts ≤ first → length (tds_of (drop first ts)) ≡ 0
unfolding tds_of
none_left ts first h = rw drop_of_length-le

-- after i TDs, with the TRBs before `first`
pub record RowWalked (e : EndpointId) (s : SlotId) (mode : InMode) (ts : List TransferTrb) (rs : List TdResult) (l₀ l : List ℕ) (w : RowProgress) (first i : ℕ) : Type 0 where
  pub going : Going (td_in_row e s mode) failed (λ (w : RowProgress). w.records) unstarted (with_results (tds_of ts) rs) l₀ l w i
  pub rest : drop i (tds_of ts) ≡ tds_of (drop first ts)
  pub well : failed w ≡ false
  pub room : w.records ≤ 3 * first
  pub start : w.start + data_length (drop i rs) ≡ data_length rs
  pub count : w.finished ≡ i

module _ (e : EndpointId) (s : SlotId) (mode : InMode) (ts : List TransferTrb) (rs : List TdResult) (l₀ : List ℕ) where
  pub row-none : RowWalked e s mode ts rs l₀ l₀ unstarted 0 0
  row-none = record {
    going = going-none (td_in_row e s mode) failed (λ (w : RowProgress). w.records) unstarted (with_results (tds_of ts) rs) l₀;
    rest = refl;
    well = refl;
    room = omega arith;
    start = omega arith;
    count = refl;
  }

  module _ (v : Walkable ts rs (length l₀)) (l : List ℕ) (w : RowProgress) (first i : ℕ) (k : RowWalked e s mode ts rs l₀ l w first i) where
    pub row-end : length rs ≤ i → Meets (process_row e s mode ts rs) 0 l₀ w l
    row-end h =
        going_end (td_in_row e s mode) failed (λ (w : RowProgress). w.records) unstarted (with_results (tds_of ts) rs) l₀ l w i k.going
        (rw (length-with_results (tds_of ts) rs v.each) h)

    module _ (more : i < length rs) where
      pub row_more : first < length ts
      row_more = ⊎_elim (λ over. let none : length (tds_of (drop first ts)) ≡ 0 = none_left ts first over in
          omega (arith, none, ap length k.rest, length-drop i (tds_of ts), v.each)) (λ h. h) (le-or-lt (length ts) first)

      -- the next TD's data fits
      pub row-data : w.start + (get_or rs i past_results).length ≤ data_length rs
      unfolding data_length
      row-data = omega (arith, k.start, ap data_length (drop-cons rs i past_results more))

      pub row-space : record_length * (w.records + 1) ≤ length l
      row-space = omega (arith, k.room, k.going.long, v.room, row_more)

      module _ (asked : TdAsk) (end : ℕ) (f : Found ts first asked end) where
        abbrev this : RowTd
        this = record { trbs = first_td (drop first ts); given = get_or rs i past_results }

        cut : (get_or (tds_of ts) i [] ≡ first_td (drop first ts)) × (drop (i + 1) (tds_of ts) ≡ tds_of (drop end ts))
        cut =
            let td : List TransferTrb = first_td (drop first ts) in
            let behind : drop (length td) (drop first ts) ≡ drop end ts = rw f.size (drop-drop (length td) first ts) in
            let both : get_or (tds_of ts) i [] ∷ drop (i + 1) (tds_of ts) ≡ td ∷ tds_of (drop end ts) =
            rw (add-one, ← drop-cons (tds_of ts) i [] (omega (arith, v.each)), ← behind) (k.rest ∙ tds_of-cut (drop first ts) (omega (arith, row_more, length-drop first ts))) in
            (cc, cc)

        at-this : get_or (with_results (tds_of ts) rs) i this ≡ this
        at-this = get_or-with_results (tds_of ts) rs i this [] past_results (omega (arith, v.each)) more ∙ rw cut.0

        abbrev given : TdResult
        given = get_or rs i past_results

        requests : when (not (eqb asked.normals 0)) (in_request (get_or ts first past_end).addr asked.length e s) ≡ when (has_normal this.trbs) (request_of this.trbs e s)
        requests =
            let address : first_address (first_td (drop first ts)) ≡ (get_or ts first past_end).addr = ap first_address (first_td-next ts first past_end row_more) in
            rw (f.count, f.sum, address)

        module _ (l₁ : List ℕ) (records : ℕ)
            (m : Meets (counted w.records (when (not (eqb asked.normals 0)) (in_request (get_or ts first past_end).addr asked.length e s))) w.records l records l₁) where
          -- the log has room for the TD's TRBs
          pub row_room : record_length * (records + 2 * (end - first)) ≤ length l₁
          row_room =
              let few = length-when (not (eqb asked.normals 0)) (in_request (get_or ts first past_end).addr asked.length e s) in
              let long : length l₁ ≡ length l = ap length m.log ∙ length-logged l w.records (when (not (eqb asked.normals 0)) (in_request (get_or ts first past_end).addr asked.length e s)) (omega (arith, row-space, few)) in
              omega (arith, long, few, m.state, f.some, f.inside, k.room, k.going.long, v.room)

          module _ (l₂ : List ℕ) (p : TdProcessed)
              (q : Meets (walk (process_trb (td_from e s mode w.start given)) ended (from w.start records asked.normals) (take (end - first) (drop first ts))) records l₁ p l₂) where
            abbrev next : RowProgress
            next = td_done w given p.result p.progress.records

            met : Meets (td_in_row e s mode w this) w.records l next l₂
            met =
                let size : end - first ≡ length (first_td (drop first ts)) = omega (arith, f.size) in
                td-meets e s mode w this l l₁ l₂ records p row-space (rw requests at m) (rw (size, take-first_td, f.count) at q)

            few-records : length (td_in_row e s mode w this).records ≤ 1 + 2 * (end - first)
            few-records = omega (arith, td-few e s mode w this, f.size)

            gone : Going (td_in_row e s mode) failed (λ (w : RowProgress). w.records) unstarted (with_results (tds_of ts) rs) l₀ l₂ next (i + 1)
            gone =
                going-turn (td_in_row e s mode) failed (λ (w : RowProgress). w.records) unstarted (with_results (tds_of ts) rs) l₀ l w i k.going l₂ next this k.well
                (rw (length-with_results (tds_of ts) rs v.each) more)
                (rw at-this (td-counts e s mode w this))
                (rw at-this (omega (arith, few-records, f.some, f.inside, k.room, k.going.long, v.room)))
                (rw at-this met)

            -- a TD that failed ends the row
            pub row-stop : is_error p.result ≡ true → Meets (process_row e s mode ts rs) 0 l₀ next l₂
            row-stop h = going-stop (td_in_row e s mode) failed (λ (w : RowProgress). w.records) unstarted (with_results (tds_of ts) rs) l₀ l₂ next (i + 1) gone h

            pub row-turn : is_error p.result ≡ false → RowWalked e s mode ts rs l₀ l₂ next end (i + 1)
            unfolding data_length
            row-turn h = record {
              going = gone;
              rest = cut.1;
              well = h;
              room = omega (arith, ap (λ (w : RowProgress). w.records) met.state, td-counts e s mode w this, few-records, f.some, k.room);
              start = rw add-one (omega (arith, k.start, ap data_length (drop-cons rs i past_results more)));
              count = rw h (omega (arith, k.count));
            }
