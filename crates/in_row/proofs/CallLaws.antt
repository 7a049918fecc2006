-- A TD by single calls. A block that holds the TRBs us, the rest of its places as they were, takes each chained TRB and keeps it, completion
-- included; the last TRB ends the TD, whose request and completion are its own log, and the places used are blank again. Assumes nothing.
use Rattle.std.specs.Prelude.{None, Ok, Option, Some}
use Prim.Native.Nat.{ℕ, zero, suc, ◌+◌, ◌<◌, ◌≤◌, min}
use mathlib.Core.Path.{◌≡◌, refl, sym, ap, ◌∙◌, subst}
use mathlib.Core.Bool.{Bool, true, false, not, cond, ◌&&◌, ◌||◌, true≢false}
use mathlib.Core.List.{List, [], ◌∷◌, ◌++◌, append_assoc}
use native.Mathlib.Nat.{not-suc-le-zero}
use native.Mathlib.Omega.{arith}
use borrow.Author.Tests.{le-leb, eqb-true}
use lib.Dec.{leb, eqb}
use lib.ListN.{length, take, drop, get_or, set, replicate, length-append, length-drop, length-replicate, take-append-drop}
use lib.Seq.{drop-cons, take-append_seam, drop-append_seam, set-append_seam}
use Rattle.trb.specs.Ids.{ids_in_range}
use Rattle.trb.specs.Limits.{max_held, max_transfer_length, max_data, min_log}
use Rattle.trb.specs.Questions.{first_no}
use Rattle.trb.specs.Trbs.{transfer_length, chain_of}
use Rattle.trb.specs.declared.EndpointId.{EndpointId}
use Rattle.trb.specs.declared.InTrbProcessingStatus.{InTrbProcessingStatus}
use Rattle.trb.specs.declared.InTrbProcessingStatus.TheVariants.{Disconnect, Stall, TransactionError, Success}
use Rattle.trb.specs.declared.SlotId.{SlotId}
use Rattle.trb.specs.declared.TdBasedNormalSubmissionState.{TdBasedNormalSubmissionState}
use Rattle.trb.specs.declared.TdBasedNormalSubmissionState.TheVariants.{SubmissionDue, CollectingTd, AwaitingRealTransfer, AwaitingLocalCompletion}
use Rattle.trb.specs.declared.TransferTrb.{TransferTrb}
use Rattle.trb.specs.declared.TrbProcessingResult.TheVariants as result
use Rattle.trb.proofs.TestLaws.{and_left, and_right}
use Rattle.call_log.specs.Calls.{Out, silent}
use Rattle.held.specs.Places.{blank_trb, cleared}
use Rattle.held.specs.Sound.{supported, sound_trb, held_sound}
use Rattle.held.specs.declared.EndpointKind.TheVariants.{In}
use Rattle.guest_memory.specs.declared.Regions.{Regions}
use Rattle.guest_memory.specs.Regions.{share_an_address}
use Rattle.walks.specs.All.{all}
use Rattle.in_td.specs.Td.{normals, normal_count, in_td, process_td}
use Rattle.in_td.specs.declared.InMode.{InMode}
use Rattle.in_block.specs.Blocks.{in_block, held_of, with_state, stored}
use Rattle.in_block.specs.Facts.{held_test, facts_of, awaits_device, sound_block}
use Rattle.in_block.specs.Outcomes.{outcome_of}
use Rattle.in_block.specs.declared.BlockFacts.{BlockFacts}
use Rattle.in_block.specs.declared.InBlock.{InBlock}
use Rattle.in_block.specs.declared.Outcome.{Outcome}
use Rattle.in_block.specs.declared.Outcome.TheVariants.{Collect, CompleteLocally, Request}
use Rattle.in_block.proofs.TestLaws.{normals-length}
use Rattle.in_questions.specs.Questions.{trb_questions, submission_questions, completion_questions}
use Rattle.in_endpoint.specs.Completion.{processed, transferred, completion}
use Rattle.in_endpoint.specs.Submission.{request_of, accepted, submitted_as, submission}
use Rattle.in_endpoint.specs.Returned.{Completed}
use Rattle.row_walk.specs.Rows.{RowTd, completed, own_log}
use Rattle.row_walk.specs.declared.TdResult.{TdResult}
use Rattle.row_questions.specs.Questions.{given_rightly, is_success}
use Rattle.in_row.specs.SingleCalls.{Called, completed_behind, two_calls, onward, td_calls, result_for}

-- ---- TRBs that a block takes

-- behind h others of its TD
pub record AcceptedTrb (regions : Regions) (h : ℕ) (t : TransferTrb) : Type 0 where
  pub kind : supported In t.variant ≡ true
  pub own : first_no (trb_questions h t.variant regions) ≡ 0
  pub short : leb (transfer_length t.variant) max_transfer_length ≡ true
  pub place : h < max_held

-- the TRBs of a TD: chained, but for the last
abbrev pub AcceptedTd : Regions → ℕ → List TransferTrb → Type 0
AcceptedTd regions h [] = ⊥
AcceptedTd regions h (t ∷ []) = AcceptedTrb regions h t × (chain_of t.variant ≡ false)
AcceptedTd regions h (t ∷ u ∷ ts) = AcceptedTrb regions h t × ((chain_of t.variant ≡ true) × AcceptedTd regions (h + 1) (u ∷ ts))

pub accepted-few : (regions : Regions) (h : ℕ) (ts : List TransferTrb) → AcceptedTd regions h ts → h + length ts ≤ max_held
accepted-few regions h [] k = absurd k
accepted-few regions h (t ∷ []) k = omega (arith, k.0.place)
accepted-few regions h (t ∷ u ∷ ts) k = omega (arith, accepted-few regions (h + 1) (u ∷ ts) k.1.1)

-- ---- Lists with one TRB more

length-snoc : (us : List TransferTrb) (t : TransferTrb) → length (us ++ t ∷ []) ≡ length us + 1
length-snoc us t = length-append us (t ∷ [])

normals-snoc : (us : List TransferTrb) (t : TransferTrb) → normals (us ++ t ∷ []) ≡ normals us + normal_count t.variant
normals-snoc [] t = omega arith
normals-snoc (u ∷ us) t = omega (arith, normals-snoc us t)

sound-snoc : (us : List TransferTrb) (t : TransferTrb) → held_sound In us ≡ true → sound_trb In t ≡ true → held_sound In (us ++ t ∷ []) ≡ true
unfolding all
sound-snoc [] t e k = rw k
sound-snoc (u ∷ us) t e k =
    rw (and_left (sound_trb In u) (all (sound_trb In) us) e) (sound-snoc us t (and_right (sound_trb In u) (all (sound_trb In) us) e) k)

-- ---- The places

take-replicate : (n k : ℕ) → k ≤ n → take k (replicate n blank_trb) ≡ replicate k blank_trb
take-replicate n zero h = refl
take-replicate zero (suc k) h = absurd (not-suc-le-zero h)
take-replicate (suc n) (suc k) h = ap (λ (l : List TransferTrb). blank_trb ∷ l) (take-replicate n k (omega arith))

-- the places xs, of which the first were used for us and freed again
abbrev pub freed : List TransferTrb → List TransferTrb → List TransferTrb
freed xs us = cleared (length us) (us ++ drop (length us) xs)

module _ (xs us : List TransferTrb) (few : length us ≤ length xs) where
  freed-as : freed xs us ≡ replicate (length us) blank_trb ++ drop (length us) xs
  unfolding cleared
  freed-as =
      let least : min (length us) (length (us ++ drop (length us) xs)) ≡ length us = omega (arith, length-append us (drop (length us) xs)) in
      rw (least, drop-append_seam us (drop (length us) xs))

  pub length-freed : length (freed xs us) ≡ length xs
  length-freed =
      let long = length-append (replicate (length us) blank_trb) (drop (length us) xs) in
      ap length freed-as ∙ omega (arith, long, length-replicate (length us) blank_trb, length-drop (length us) xs)

  -- blank places are blank again
  pub freed-blank : xs ≡ replicate (length xs) blank_trb → freed xs us ≡ xs
  freed-blank e =
      freed-as
      ∙ ap (λ (l : List TransferTrb). l ++ drop (length us) xs) (sym (take-replicate (length xs) (length us) few) ∙ ap (take (length us)) (sym e))
      ∙ take-append-drop (length us) xs

-- ---- A block that holds these TRBs

module _ (e : EndpointId) (s : SlotId) (mode : InMode) (ids : ids_in_range e s ≡ true) (xs : List TransferTrb) (places : length xs ≡ max_held) where
  abbrev pub holding : TdBasedNormalSubmissionState → List TransferTrb → InBlock
  holding x us = in_block e s mode x (length us) (us ++ drop (length us) xs)

  held-as : (x : TdBasedNormalSubmissionState) (us : List TransferTrb) → held_of (holding x us) ≡ us
  held-as x us = take-append_seam us (drop (length us) xs)

  abbrev known_of : TdBasedNormalSubmissionState → List TransferTrb → BlockFacts
  known_of x us = record { endpoint_id = e; slot_id = s; state = x; held = length us; found = held_test us }

  facts-as : (x : TdBasedNormalSubmissionState) (us : List TransferTrb) → facts_of (holding x us) ≡ known_of x us
  facts-as x us = ap (λ (ts : List TransferTrb). record { endpoint_id = e; slot_id = s; state = x; held = length us; found = held_test ts }) (held-as x us)

  stored-as : (x : TdBasedNormalSubmissionState) (us : List TransferTrb) (t : TransferTrb) → length us < max_held → stored (holding x us) t ≡ holding x (us ++ t ∷ [])
  stored-as x us t room =
      let one : length (us ++ t ∷ []) ≡ suc (length us) = omega (arith, length-snoc us t) in
      let rest : List TransferTrb = drop (suc (length us)) xs in
      let laid : set (us ++ drop (length us) xs) (length us) t ≡ (us ++ t ∷ []) ++ drop (length (us ++ t ∷ [])) xs =
      rw (drop-cons xs (length us) t (omega (arith, places)), set-append_seam us (get_or xs (length us) t) rest t, one) (sym (append_assoc us (t ∷ []) rest)) in
      ap (λ (ts : List TransferTrb). in_block e s mode x (length us + 1) ts) laid
      ∙ ap (λ (n : ℕ). in_block e s mode x n ((us ++ t ∷ []) ++ drop (length (us ++ t ∷ [])) xs)) (sym (length-snoc us t))

  sound-as : (x : TdBasedNormalSubmissionState) (us : List TransferTrb) → length us ≤ max_held → held_sound In us ≡ true
      → (not (awaits_device x) || not (eqb (min (normals us) max_held) 0)) ≡ true → sound_block (known_of x us) ≡ true
  unfolding sound_block
  sound-as x us few sound waits = rw (ids, le-leb (length us) max_held few, sound, waits)

  counted-as : (us : List TransferTrb) → length us ≤ max_held → min (normals us) max_held ≡ normals us
  counted-as us few = omega (arith, normals-length us)

  -- ---- The calls

  module _ (l : ℕ) (long : leb min_log l ≡ true) (regions : Regions) (apart : share_an_address regions ≡ false) where
    module _ (us : List TransferTrb) (sound : held_sound In us ≡ true) (t : TransferTrb) (k : AcceptedTrb regions (length us) t) where
      abbrev more : List TransferTrb
      more = us ++ t ∷ []

      more-few : length more ≤ max_held
      more-few = omega (arith, length-snoc us t, k.place)

      own-sound : sound_trb In t ≡ true
      unfolding sound_trb
      own-sound = rw (k.kind, k.short)

      pub more-sound : held_sound In more ≡ true
      more-sound = sound-snoc us t sound own-sound

      submission-asked : first_no (submission_questions l (known_of SubmissionDue us) t regions) ≡ 0
      unfolding submission_questions first_no
      submission-asked = rw (long, apart, sound-as SubmissionDue us (omega (arith, k.place)) sound refl) k.own

      -- what becomes of the TRB
      submitted-as : (o : Outcome) → outcome_of (held_test us) t ≡ o → submission l (holding SubmissionDue us) t regions ≡ submitted_as o (holding SubmissionDue us) t
      unfolding submission
      submitted-as o h =
          let b : InBlock = holding SubmissionDue us in
          let asked : first_no (submission_questions l (facts_of b) t regions) ≡ 0 = ap (λ (f : BlockFacts). first_no (submission_questions l f t regions)) (facts-as SubmissionDue us) ∙ submission-asked in
          let taken : outcome_of (held_test (held_of b)) t ≡ o = ap (λ (ts : List TransferTrb). outcome_of (held_test ts) t) (held-as SubmissionDue us) ∙ h in
          rw (asked, taken)

      collect : chain_of t.variant ≡ true → outcome_of (held_test us) t ≡ Collect
      unfolding outcome_of
      collect on = rw (k.kind, on)

      -- the Normals of the TD that it ends
      all-normals : min (min (normals us) max_held + normal_count t.variant) max_held ≡ normals more
      all-normals = omega (arith, normals-length more, normals-snoc us t, more-few)

      ending : (b : Bool) → chain_of t.variant ≡ false → eqb (normals more) 0 ≡ b → outcome_of (held_test us) t ≡ cond b CompleteLocally Request
      unfolding outcome_of
      ending b off h = rw (k.kind, off, all-normals, h)

      -- a completion that passes its questions
      completion-asked : (x : TdBasedNormalSubmissionState) (r : Option InTrbProcessingStatus) (n : ℕ) → first_no (completion_questions l (known_of x more) r n) ≡ 0
          → first_no (completion_questions l (facts_of (holding x more)) r n) ≡ 0
      completion-asked x r n h = ap (λ (f : BlockFacts). first_no (completion_questions l f r n)) (facts-as x more) ∙ h

      -- ---- A chained TRB is kept

      collected : chain_of t.variant ≡ true → submission l (holding SubmissionDue us) t regions ≡ silent (accepted 0 (holding CollectingTd more))
      collected on = submitted-as Collect (collect on) ∙ ap (λ (b : InBlock). silent (accepted 0 (with_state b CollectingTd))) (stored-as SubmissionDue us t k.place)

      kept-asked : first_no (completion_questions l (known_of CollectingTd more) None 0) ≡ 0
      unfolding completion_questions first_no
      kept-asked = rw (long, sound-as CollectingTd more more-few more-sound refl)

      kept : completion l (holding CollectingTd more) None 0 ≡ silent (record { answer = Ok result.Ok; records = 0; block = holding SubmissionDue more })
      unfolding completion
      kept = rw (completion-asked CollectingTd None 0 kept-asked)

      pub calls-chained : chain_of t.variant ≡ true → two_calls l regions (holding SubmissionDue us) t None 0 ≡ silent (record { answer = Ok result.Ok; block = holding SubmissionDue more })
      unfolding two_calls
      calls-chained on =
          ap (completed_behind l None 0) (collected on)
          ∙ ap (λ (o : Out Completed). record { state = record { answer = o.state.answer; block = o.state.block }; records = o.records }) kept

      -- ---- The last one ends the TD

      abbrev done : InTrbProcessingStatus → ℕ → Out Called
      done st n = record {
        state = record { answer = Ok (process_td (in_td e s mode st n) more).state.result; block = in_block e s mode SubmissionDue 0 (freed xs more) };
        records = own_log e s mode (record { trbs = more; given = record { status = st; length = n } });
      }

      walked_as : (x : TdBasedNormalSubmissionState) (st : InTrbProcessingStatus) (n : ℕ) → transferred (holding x more) st n ≡ processed (process_td (in_td e s mode st n) more) (holding x more)
      unfolding transferred
      walked_as x st n = ap (λ (ts : List TransferTrb). processed (process_td (in_td e s mode st n) ts) (holding x more)) (held-as x more)

      module _ (off : chain_of t.variant ≡ false) (normal : eqb (normals more) 0 ≡ false) where
        requested : submission l (holding SubmissionDue us) t regions ≡ record { state = accepted 1 (holding AwaitingRealTransfer more); records = request_of more e s ∷ [] }
        requested =
            submitted-as Request (ending false off normal)
            ∙ ap (λ (b : InBlock). record { state = accepted 1 (with_state b AwaitingRealTransfer); records = request_of (held_of b) e s ∷ [] }) (stored-as SubmissionDue us t k.place)
            ∙ ap (λ (ts : List TransferTrb). record { state = accepted 1 (holding AwaitingRealTransfer more); records = request_of ts e s ∷ [] }) (held-as SubmissionDue more)

        module _ (st : InTrbProcessingStatus) (n : ℕ) (small : leb n max_data ≡ true) where
          real-asked : first_no (completion_questions l (known_of AwaitingRealTransfer more) (Some st) n) ≡ 0
          unfolding completion_questions first_no
          real-asked = rw (long, sound-as AwaitingRealTransfer more more-few more-sound (rw (counted-as more more-few, normal)), small)

          real : completion l (holding AwaitingRealTransfer more) (Some st) n ≡ processed (process_td (in_td e s mode st n) more) (holding AwaitingRealTransfer more)
          unfolding completion
          real = rw (completion-asked AwaitingRealTransfer (Some st) n real-asked) (walked_as AwaitingRealTransfer st n)

          pub calls-real : two_calls l regions (holding SubmissionDue us) t (Some st) n ≡ done st n
          unfolding two_calls own_log
          calls-real =
              ap (completed_behind l (Some st) n) requested
              ∙ ap (λ (o : Out Completed). record { state = record { answer = o.state.answer; block = o.state.block }; records = request_of more e s ∷ o.records }) real
              ∙ rw normal

      module _ (off : chain_of t.variant ≡ false) (none : eqb (normals more) 0 ≡ true) where
        ended-locally : submission l (holding SubmissionDue us) t regions ≡ silent (accepted 0 (holding AwaitingLocalCompletion more))
        ended-locally = submitted-as CompleteLocally (ending true off none) ∙ ap (λ (b : InBlock). silent (accepted 0 (with_state b AwaitingLocalCompletion))) (stored-as SubmissionDue us t k.place)

        local-asked : first_no (completion_questions l (known_of AwaitingLocalCompletion more) None 0) ≡ 0
        unfolding completion_questions first_no
        local-asked = rw (long, sound-as AwaitingLocalCompletion more more-few more-sound refl)

        local : completion l (holding AwaitingLocalCompletion more) None 0 ≡ processed (process_td (in_td e s mode Success 0) more) (holding AwaitingLocalCompletion more)
        unfolding completion
        local = rw (completion-asked AwaitingLocalCompletion None 0 local-asked) (walked_as AwaitingLocalCompletion Success 0)

        pub calls-local : two_calls l regions (holding SubmissionDue us) t None 0 ≡ done Success 0
        unfolding two_calls own_log
        calls-local =
            ap (completed_behind l None 0) ended-locally
            ∙ ap (λ (o : Out Completed). record { state = record { answer = o.state.answer; block = o.state.block }; records = o.records }) local
            ∙ rw none

    -- ---- A whole TD

    -- its own log, its result, and a block that holds nothing again
    abbrev pub td_out : RowTd → Out Called
    td_out x = record {
      state = record { answer = Ok (completed e s mode x).state.result; block = in_block e s mode SubmissionDue 0 (freed xs x.trbs) };
      records = own_log e s mode x;
    }

    success-is : (st : InTrbProcessingStatus) → is_success st ≡ true → st ≡ Success
    success-is Disconnect h = absurd (true≢false (sym h))
    success-is Stall h = absurd (true≢false (sym h))
    success-is TransactionError h = absurd (true≢false (sym h))
    success-is Success h = refl

    module _ (us : List TransferTrb) (sound : held_sound In us ≡ true) (t : TransferTrb) (k : AcceptedTrb regions (length us) t) (off : chain_of t.variant ≡ false) (given : TdResult) where
      abbrev whole : RowTd
      whole = record { trbs = us ++ t ∷ []; given = given }

      calls_by : (b : Bool) → eqb (normals (us ++ t ∷ [])) 0 ≡ b → given_rightly whole ≡ true → leb given.length max_data ≡ true
          → two_calls l regions (holding SubmissionDue us) t (cond (not b) (Some given.status) None) given.length ≡ td_out whole
      calls_by false normal right small = calls-real us sound t k off normal given.status given.length small
      calls_by true none right small =
          let nothing : (is_success given.status && eqb given.length 0) ≡ true = rw none at right in
          let st : given.status ≡ Success = success-is given.status (and_left (is_success given.status) (eqb given.length 0) nothing) in
          let zeroed : given.length ≡ 0 = eqb-true given.length 0 (and_right (is_success given.status) (eqb given.length 0) nothing) in
          ap (two_calls l regions (holding SubmissionDue us) t None) zeroed
          ∙ calls-local us sound t k off none
          ∙ ap (λ (x : InTrbProcessingStatus). td_out (record { trbs = us ++ t ∷ []; given = record { status = x; length = 0 } })) (sym st)
          ∙ ap (λ (n : ℕ). td_out (record { trbs = us ++ t ∷ []; given = record { status = given.status; length = n } })) (sym zeroed)

      calls_last : given_rightly whole ≡ true → leb given.length max_data ≡ true → two_calls l regions (holding SubmissionDue us) t (result_for whole) given.length ≡ td_out whole
      calls_last right small = calls_by (eqb (normals (us ++ t ∷ [])) 0) refl right small

    -- 02, R-7: the log of a TD is what the single calls would have logged, and so is its result
    pub calls-td : (us ts : List TransferTrb) (x : RowTd) → held_sound In us ≡ true → AcceptedTd regions (length us) ts → x.trbs ≡ us ++ ts → given_rightly x ≡ true
        → leb x.given.length max_data ≡ true → td_calls l regions (holding SubmissionDue us) ts (result_for x) x.given.length ≡ td_out x
    unfolding td_calls
    calls-td us [] x sound k same right small = absurd k
    calls-td us (t ∷ []) x sound k same right small =
        let last : RowTd = record { trbs = us ++ t ∷ []; given = x.given } in
        let right-last : given_rightly last ≡ true = ap (λ (ts : List TransferTrb). given_rightly (record { trbs = ts; given = x.given })) (sym same) ∙ right in
        ap (λ (ts : List TransferTrb). two_calls l regions (holding SubmissionDue us) t (result_for (record { trbs = ts; given = x.given })) x.given.length) same
        ∙ calls_last us sound t k.0 k.1 x.given right-last small
        ∙ ap (λ (ts : List TransferTrb). td_out (record { trbs = ts; given = x.given })) (sym same)
    calls-td us (t ∷ u ∷ ts) x sound k same right small =
        let next : AcceptedTd regions (length (us ++ t ∷ [])) (u ∷ ts) = subst (λ (h : ℕ). AcceptedTd regions h (u ∷ ts)) (sym (length-snoc us t)) k.1.1 in
        ap (λ (o : Out Called). onward o (td_calls l regions o.state.block (u ∷ ts) (result_for x) x.given.length)) (calls-chained us sound t k.0 k.1.0)
        ∙ calls-td (us ++ t ∷ []) (u ∷ ts) x (more-sound us sound t k.0) next (same ∙ sym (append_assoc us (t ∷ []) (u ∷ ts))) right small
