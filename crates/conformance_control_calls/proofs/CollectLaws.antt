-- What a control OUT transfer collects are the bytes that go out: the Setup Stage TRB has none, and every TRB behind it is taken in a transfer that goes out, from memory
-- or from its pointer. By induction over the TRBs. Assumes nothing.
use Prim.Native.Nat.{ℕ, zero, suc, ◌+◌, ◌/◌, ◌%◌, min}
use mathlib.Core.Bool.{Bool, true, false, cond, false≢true}
use mathlib.Core.Path.{◌≡◌, refl, sym, ap, ◌∙◌}
use mathlib.Core.List.{List, [], ◌∷◌, ◌++◌, append-nil, append_assoc}
use native.Mathlib.Nat.{min-eq_right}
use borrow.Author.Tests.{leb-true}
use lib.ListN.{length}
use Rattle.trb.specs.Limits.{max_held}
use Rattle.trb.specs.Questions.{first_no}
use Rattle.trb.specs.declared.SetupStageTrb.{SetupStageTrb}
use Rattle.trb.specs.declared.TransferTrb.{TransferTrb}
use Rattle.trb.specs.declared.TransferTrbVariant.{TransferTrbVariant}
use Rattle.trb.specs.declared.TransferTrbVariant.TheVariants.{SetupStage, DataStage, StatusStage, Normal, EventData, NoOp, Isoch, Unrecognized}
use Rattle.trb.proofs.TestLaws.{and_left, and_right, or-false-left, or-false-right}
use Rattle.buffers.specs.LittleEndian.{le_bytes}
use Rattle.walks.specs.All.{all}
use Rattle.guest_memory.specs.declared.Place.{Place}
use Rattle.guest_memory.specs.declared.Place.TheVariants.{Outside, InLow, InHigh}
use Rattle.guest_memory.specs.declared.Regions.{Regions}
use Rattle.guest_memory.specs.Places.{place_of, Memory, regions_of, bytes_in, bytes_at}
use Rattle.phase_table.specs.Leads.{trbs_lead}
use Rattle.phase_table.specs.Outcomes.{holds, requests}
use Rattle.phase_table.specs.Table.{trb_outcome}
use Rattle.phase_table.specs.declared.Outcome.{Outcome}
use Rattle.control_block.specs.Blocks.{held_of}
use Rattle.control_block.specs.declared.ControlBlock.{ControlBlock}
use Rattle.control_block.specs.declared.ControlTransfer.{ControlTransfer}
use Rattle.control_transfer.specs.Data.{no_data, data_of, size_of, bytes_of}
use Rattle.control_transfer.specs.Transfers.{transfer_after, lengthened, grown, taken_by, collects, bytes_taken}
use Rattle.control_endpoint.specs.Submission.{questions_of, bytes_collected}
use Rattle.standard.specs.Control.{Source, buffer, immediate, immediate_bytes, outgoing}
use Rattle.conformance.specs.Requests.{is_setup, any_setup}
use Rattle.conformance.specs.TranslateControl.{at}
use Rattle.conformance_control_calls.specs.Transfers.{Lent, collecting, EachAccepted, collected_by, source_in, source_of, sources_of, allowed}
use Rattle.conformance_control_calls.proofs.RequestLaws.{last-requests, setup-silent, Kept, taken, first-yes, rest-yes, places-next, transfer-next, leads-next}

-- ---- The bytes of one TRB

-- immediate data, from the lowest byte of the field on
le_bytes-immediate : (n x : ℕ) → le_bytes n x ≡ immediate_bytes x n
le_bytes-immediate zero x = refl
le_bytes-immediate (suc n) x = ap (λ (bs : List ℕ). x % 256 ∷ bs) (le_bytes-immediate n (x / 256))

none-there : (m : Memory) (p : Place) → bytes_in p 0 m ≡ []
none-there m Outside = refl
none-there m (InLow at) = refl
none-there m (InHigh at) = refl

bytes-none : (m : Memory) → bytes_of m no_data ≡ []
unfolding bytes_of bytes_at
bytes-none m = none-there m (place_of (regions_of m) 0 0)

source-bytes : (m : Memory) (b : Bool) (pointer length : ℕ) → allowed (source_in b pointer length) ≡ true
    → bytes_of m (record { data_pointer = pointer; transfer_length = length; immediate_data = b }) ≡ outgoing (bytes_at m) (source_in b pointer length ∷ [])
unfolding bytes_of
source-bytes m true pointer length short =
    let few : min 8 length ≡ length = min-eq_right (leb-true length 8 short) in
    rw few (le_bytes-immediate length pointer ∙ sym (append-nil (immediate_bytes pointer length)))
source-bytes m false pointer length short = sym (append-nil (bytes_at m pointer length))

own-bytes : (m : Memory) (v : TransferTrbVariant) → all allowed (source_of v) ≡ true → bytes_of m (data_of v) ≡ outgoing (bytes_at m) (source_of v)
unfolding all
own-bytes m (SetupStage t) short = bytes-none m
own-bytes m (DataStage t) short =
    source-bytes m t.immediate_data t.data_pointer t.transfer_length
    (and_left (allowed (source_in t.immediate_data t.data_pointer t.transfer_length)) true short)
own-bytes m (StatusStage t) short = bytes-none m
own-bytes m (Normal t) short =
    source-bytes m t.immediate_data t.data_pointer t.transfer_length
    (and_left (allowed (source_in t.immediate_data t.data_pointer t.transfer_length)) true short)
own-bytes m (EventData t) short = bytes-none m
own-bytes m (NoOp t) short = bytes-none m
own-bytes m Isoch short = bytes-none m
own-bytes m Unrecognized short = bytes-none m

outgoing-append : (memory : ℕ → ℕ → List ℕ) (xs ys : List Source) → outgoing memory (xs ++ ys) ≡ outgoing memory xs ++ outgoing memory ys
outgoing-append memory [] ys = refl
outgoing-append memory (buffer a l ∷ xs) ys = rw (outgoing-append memory xs ys) (sym (append_assoc (memory a l) (outgoing memory xs) (outgoing memory ys)))
outgoing-append memory (immediate f l ∷ xs) ys =
    rw (outgoing-append memory xs ys) (sym (append_assoc (immediate_bytes f l) (outgoing memory xs) (outgoing memory ys)))

all_append : (xs ys : List Source) → all allowed (xs ++ ys) ≡ true → (all allowed xs ≡ true) × (all allowed ys ≡ true)
unfolding all
all_append [] ys h = (refl, h)
all_append (x ∷ xs) ys h =
    let rest = all_append xs ys (and_right (allowed x) (all allowed (xs ++ ys)) h) in
    (rw (and_left (allowed x) (all allowed (xs ++ ys)) h) rest.0, rest.1)

-- ---- The direction of a transfer stays

grown-direction : (w : ControlTransfer) (n : ℕ) → (grown w n).direction ≡ w.direction
grown-direction w n = by-direction w.direction
  where
    by-direction : (b : Bool)
        → (cond {A = ControlTransfer} b (record { phase = w.phase; direction = w.direction; request = lengthened w.request n; collected = w.collected })
        (record { phase = w.phase; direction = w.direction; request = w.request; collected = w.collected + n })).direction ≡ w.direction
    by-direction true = refl
    by-direction false = refl

taken-direction : (v : TransferTrbVariant) (a : ℕ) (w : ControlTransfer) → is_setup v ≡ false → (taken_by v a w).direction ≡ w.direction
taken-direction (SetupStage t) a w h = absurd (false≢true (sym h))
taken-direction (DataStage t) a w h = grown-direction w (size_of (data_of (DataStage t)))
taken-direction (StatusStage t) a w h = refl
taken-direction (Normal t) a w h = grown-direction w (size_of (data_of (Normal t)))
taken-direction (EventData t) a w h = refl
taken-direction (NoOp t) a w h = refl
taken-direction Isoch a w h = refl
taken-direction Unrecognized a w h = refl

after-direction : (o : Outcome) (v : TransferTrbVariant) (a : ℕ) (w : ControlTransfer) → is_setup v ≡ false → (transfer_after o v a w).direction ≡ w.direction
unfolding transfer_after
after-direction o v a w h = by-held (holds o)
  where
    by-held : (b : Bool) → (cond b (taken_by v a w) w).direction ≡ w.direction
    by-held true = taken-direction v a w h
    by-held false = refl

-- ---- The submissions

module _ (lent : Lent) (m : Memory) (same : lent.regions ≡ regions_of m) where
  -- one that is accepted, of a TRB that is held
  module _ (b : ControlBlock) (t : TransferTrb) (none : first_no (questions_of lent.log lent.collect b t lent.regions) ≡ 0) where
    asked : first_no (questions_of lent.log lent.collect b t (regions_of m)) ≡ 0
    asked = ap (λ (r : Regions). first_no (questions_of lent.log lent.collect b t r)) (sym same) ∙ none

    collected-as : bytes_collected lent.log lent.collect b t m ≡ bytes_taken (trb_outcome b.transfer.phase t.variant) b.transfer.direction t.variant m
    unfolding bytes_collected
    collected-as = rw asked

    -- in a transfer that goes out
    out-bytes : holds (trb_outcome b.transfer.phase t.variant) ≡ true → b.transfer.direction ≡ false → all allowed (source_of t.variant) ≡ true
        → bytes_collected lent.log lent.collect b t m ≡ outgoing (bytes_at m) (source_of t.variant)
    unfolding collects
    out-bytes held out short = collected-as ∙ rw (held, out) (own-bytes m t.variant short)

    -- a Setup Stage TRB has none, whatever the transfer before it was
    setup-bytes : data_of t.variant ≡ no_data → bytes_collected lent.log lent.collect b t m ≡ []
    setup-bytes e = collected-as ∙ by-collects (collects (trb_outcome b.transfer.phase t.variant) b.transfer.direction)
      where
        by-collects : (c : Bool) → cond c (bytes_of m (data_of t.variant)) [] ≡ []
        by-collects true = ap (bytes_of m) e ∙ bytes-none m
        by-collects false = refl

  last-bytes : (b : ControlBlock) (t : TransferTrb) → b.transfer.direction ≡ false → trbs_lead b.transfer.phase (t ∷ []) ≡ true → EachAccepted lent b (t ∷ []) → all allowed (sources_of (t ∷ [])) ≡ true
      → collected_by lent m b (t ∷ []) ≡ outgoing (bytes_at m) (sources_of (t ∷ []))
  unfolding EachAccepted sources_of collected_by trb_outcome
  last-bytes b t out h none short =
      let held : holds (trb_outcome b.transfer.phase t.variant) ≡ true = ap holds (last-requests (trb_outcome b.transfer.phase t.variant) h) in
      out-bytes b t none held out (all_append (source_of t.variant) [] short).0 ∙ ap (outgoing (bytes_at m)) (sym (append-nil (source_of t.variant)))

  -- the TRBs behind the Setup Stage TRB
  collected-behind : (b : ControlBlock) (ts : List TransferTrb) → length b.trbs ≡ max_held → b.transfer.direction ≡ false → any_setup ts ≡ false → trbs_lead b.transfer.phase ts ≡ true
      → EachAccepted lent b ts → all allowed (sources_of ts) ≡ true → collected_by lent m b ts ≡ outgoing (bytes_at m) (sources_of ts)
  unfolding sources_of collected_by
  collected-behind b [] places out alone h accepts short = absurd (false≢true h)
  collected-behind b (t ∷ []) places out alone h accepts short = last-bytes b t out h accepts short
  collected-behind b (t ∷ u ∷ ts) places out alone h accepts short =
      let k : Kept (trb_outcome b.transfer.phase t.variant) = taken lent b (held_of b) refl places t u ts h accepts in
      let parts = all_append (source_of t.variant) (sources_of (u ∷ ts)) short in
      let on : (collecting lent b t).state.block.transfer.direction ≡ false =
      ap (λ (w : ControlTransfer). w.direction) (transfer-next lent b (held_of b) refl places t u ts h accepts)
      ∙ after-direction (trb_outcome b.transfer.phase t.variant) t.variant t.addr b.transfer (or-false-left (is_setup t.variant) (any_setup (u ∷ ts)) alone) ∙ out in
      rw (
        out-bytes b t (first-yes lent b (held_of b) refl places t u ts h accepts) k.held out parts.0,
        collected-behind (collecting lent b t).state.block (u ∷ ts) (places-next lent b (held_of b) refl places t u ts h accepts) on
            (or-false-right (is_setup t.variant) (any_setup (u ∷ ts)) alone) (leads-next lent b (held_of b) refl places t u ts h accepts)
            (rest-yes lent b (held_of b) refl places t u ts h accepts) parts.1,
      )
      (sym (outgoing-append (bytes_at m) (source_of t.variant) (sources_of (u ∷ ts))))

  -- all of them: the Setup Stage TRB begins a transfer that goes out
  pub collected-all : (b : ControlBlock) (t u : TransferTrb) (ts : List TransferTrb) → length b.trbs ≡ max_held → data_of t.variant ≡ no_data → source_of t.variant ≡ []
      → (h : trbs_lead b.transfer.phase (t ∷ u ∷ ts) ≡ true) (accepts : EachAccepted lent b (t ∷ u ∷ ts))
      → (transfer_after (trb_outcome b.transfer.phase t.variant) t.variant t.addr b.transfer).direction ≡ false → any_setup (u ∷ ts) ≡ false → all allowed (sources_of (t ∷ u ∷ ts)) ≡ true
      → collected_by lent m b (t ∷ u ∷ ts) ≡ outgoing (bytes_at m) (sources_of (t ∷ u ∷ ts))
  unfolding sources_of collected_by
  collected-all b t u ts places nothing no_source h accepts out alone short =
      let on : (collecting lent b t).state.block.transfer.direction ≡ false =
      ap (λ (w : ControlTransfer). w.direction) (transfer-next lent b (held_of b) refl places t u ts h accepts) ∙ out in
      rw (setup-bytes b t (first-yes lent b (held_of b) refl places t u ts h accepts) nothing, no_source)
      (collected-behind (collecting lent b t).state.block (u ∷ ts) (places-next lent b (held_of b) refl places t u ts h accepts) on alone
      (leads-next lent b (held_of b) refl places t u ts h accepts) (rest-yes lent b (held_of b) refl places t u ts h accepts)
      (all_append (source_of t.variant) (sources_of (u ∷ ts)) short).1)

  -- of a transfer from its Setup Stage TRB on
  pub collected-transfer : (b : ControlBlock) (s : SetupStageTrb) (a : ℕ) (cycle : Bool) (ts : List TransferTrb) → let us = at (SetupStage s) a cycle ∷ ts in
      length b.trbs ≡ max_held → trbs_lead b.transfer.phase us ≡ true → EachAccepted lent b us
      → (transfer_after (trb_outcome b.transfer.phase (SetupStage s)) (SetupStage s) a b.transfer).direction ≡ false → any_setup ts ≡ false → all allowed (sources_of us) ≡ true
      → collected_by lent m b us ≡ outgoing (bytes_at m) (sources_of us)
  unfolding trb_outcome
  collected-transfer b s a cycle [] places h accepts out alone short =
      absurd (false≢true (sym (setup-silent b.transfer.phase) ∙ ap requests (last-requests (trb_outcome b.transfer.phase (SetupStage s)) h)))
  collected-transfer b s a cycle (u ∷ ts) places h accepts out alone short = collected-all b (at (SetupStage s) a cycle) u ts places refl refl h accepts out alone short
