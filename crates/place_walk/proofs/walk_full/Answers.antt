-- `place_walk::walk_full` meets its contract. The loop keeps to the TD's walk, of any TD with this data: a full Normal's turn is its write. Assumes nothing.
use Prim.Native.Nat.{◌+◌, ◌-◌, ◌*◌, ◌≤◌}
use mathlib.Core.Path.{◌≡◌, refl, sym, ap, ◌∙◌, subst}
use mathlib.Core.List.{List, []}
use native.Mathlib.Omega.{arith}
use lib.ListN.{length, take, get_or}
use Rattle.std.proofs.lemmas.List.{get_or-map}
use Rattle.trb.specs.Limits.{record_length}
use Rattle.trb.specs.declared.TransferTrb.{TransferTrb}
use Rattle.buffers.specs.LittleEndian.{le_field}
use Rattle.call_log.specs.Records.{guest_write}
use Rattle.call_log.proofs.CallLaws.{meets}
use Rattle.held.specs.Places.{past_end}
use Rattle.held.specs.declared.EndpointKind.TheVariants.{In}
use Rattle.walks.proofs.WalkLaws.{Walked, walked_none, walked-turn}
use Rattle.td_part.specs.Parts.{edtla_after}
use Rattle.in_td.specs.Td.{going_on, process_trb}
use Rattle.in_td.proofs.TdLaws.{td_walker}
use Rattle.held_bytes.specs.Places.{place_of}
use Rattle.place_walk.specs.Full.{SilentNormal, Reached}
use Rattle.place_walk.specs.declared.FullWalked.{FullWalked}
use Rattle.place_walk.proofs.FullLaws.{trbs, few, whole, state-at, full-met, reached, reached-from}
use borrow.Author.Rules.{rules}
use Rattle.place_walk.proofs.walk_full.Goals.{After-length_at-length, At-loop-j}
use Rattle.place_walk.proofs.walk_full.Goals as goal

pub returns-then-not-is_default : goal.returns-then-not-is_default
returns-then-not-is_default c = (omega arith, reached (walked_none (td_walker c.args.td) c.args.from (trbs c.args.places.now) c.args.log.now c.requires.1.0) c.requires.1.1)

pub loop-j-init : goal.loop-j-init
loop-j-init c =
    let p = c.args.from in
    let ts = take (length c.args.places.now) (trbs c.args.places.now) in
    ((λ td e. walked_none (td_walker td) (going_on p.normals_left p.progress) ts c.args.log.now (rw e c.requires.1.0)), c.is_default.ensures c.if-not-is_default.false)

-- in the loop, and where it is left
module _ (c : At-loop-j) where
  walked : Walked (td_walker c.args.td) (going_on c.args.from.normals_left c.args.from.progress) (take (length c.args.places.now) (trbs c.args.places.now)) c.args.log.now c.loop-j.log (going_on c.loop-j.normals_left c.loop-j.progress) c.loop-j.j
  walked = c.loop-j.invariant.0 c.args.td refl

  left_here : c.loop-j.j ≤ length c.args.places.now → {r : FullWalked} → r ≡ record { processed = (going_on c.loop-j.normals_left c.loop-j.progress); count = c.loop-j.j }
      → (r.count ≤ length c.args.places.now) × Reached c.args.td c.args.from (trbs c.args.places.now) c.args.log.now c.loop-j.log r.processed r.count
  left_here below e =
      subst (λ (x : FullWalked). (x.count ≤ length c.args.places.now) × Reached c.args.td c.args.from (trbs c.args.places.now) c.args.log.now c.loop-j.log x.processed x.count) (sym e) (
        below,
        subst (λ (ts : List TransferTrb). Reached c.args.td c.args.from ts c.args.log.now c.loop-j.log (going_on c.loop-j.normals_left c.loop-j.progress) c.loop-j.j) (whole c.args.places.now)
            (reached-from c.requires.1.1 walked refl),
      )

pub shape_of-log-then-normals_left-eq1 : goal.shape_of-log-then-normals_left-eq1
shape_of-log-then-normals_left-eq1 c = (walked (goal.at.shape_of-log-then-normals_left-eq1 c).At-loop-j).long

pub returns-then-normals_left-eq1 : goal.returns-then-normals_left-eq1
returns-then-normals_left-eq1 c = left_here (goal.at.returns-then-normals_left-eq1 c).At-loop-j (omega (arith, c.loop-j-test.true)) c.full_walked.ensures

pub overflow_sub-info : goal.overflow_sub-info
overflow_sub-info c = (walked (goal.at.overflow_sub-info c).At-loop-j).good.within

pub shape_of-log-then-not-is_silent_normal : goal.shape_of-log-then-not-is_silent_normal
shape_of-log-then-not-is_silent_normal c = (walked (goal.at.shape_of-log-then-not-is_silent_normal c).At-loop-j).long

pub returns-then-not-is_silent_normal : goal.returns-then-not-is_silent_normal
returns-then-not-is_silent_normal c = left_here (goal.at.returns-then-not-is_silent_normal c).At-loop-j (omega (arith, c.loop-j-test.true)) c.full_walked-then-not-is_silent_normal.ensures

pub put_record-requires : goal.put_record-requires
put_record-requires c = omega (arith, (walked (goal.at.put_record-requires c).At-loop-j).room, (walked (goal.at.put_record-requires c).At-loop-j).long, c.requires.0, c.loop-j-test.true)

-- behind its length
module _ (c : After-length_at-length) where
  silent : SilentNormal (get_or c.args.places.now c.loop-j.j []) (c.args.td.info.data_length - c.loop-j.progress.start)
  silent = c.is_silent_normal.ensures c.if-not-is_silent_normal.false

pub overflow_add-progress : goal.overflow_add-progress
overflow_add-progress c = omega (arith, (silent (goal.at.overflow_add-progress c).After-length_at-length).full, c.length_at-length.ensures, (walked (goal.at.overflow_add-progress c).At-loop-j).good.within)

pub overflow_add-progress-in-loop-j : goal.overflow_add-progress-in-loop-j
overflow_add-progress-in-loop-j c =
    let room : record_length * (c.loop-j.progress.records + 1) ≤ length c.args.log.now = omega (arith, (walked (goal.at.overflow_add-progress-in-loop-j c).At-loop-j).room, c.requires.0, c.loop-j-test.true) in
    search rules

pub loop-j-preserved : goal.loop-j-preserved
loop-j-preserved c =
    let b = c.args.places.now in
    let l = get_or b c.loop-j.j [] in
    let p = c.loop-j in
    let len = c.length_at-length.ensures in
    let pointer : c.le64-pointer.result ≡ le_field 8 8 l = c.le64-pointer.ensures in
    let w = p.progress in (
      (λ td same.
          walked-turn (td_walker td) (trbs b) (length b) (few b) (going_on c.args.from.normals_left c.args.from.progress) c.args.log.now p.log c.put_record.new.log (going_on c.loop-j.normals_left c.loop-j.progress) _ p.j past_end (p.invariant.0 td same) refl c.loop-j-test.true c.requires.0
          (meets (ap (λ (t : TransferTrb). process_trb td (going_on c.loop-j.normals_left c.loop-j.progress) t) (get_or-map (place_of In) b p.j [] past_end c.loop-j-test.true))
          (full-met td same p.normals_left w.start w.edtla w.records w.state l p.invariant.1 c.if-normals_left-eq1.false (silent (goal.at.loop-j-preserved c).After-length_at-length)
          c.guest_write-write.result
          (c.guest_write-write.ensures ∙ (λ k. guest_write (pointer k) (len k) w.start c.args.td.info.endpoint_id c.args.td.info.slot_id))
          c.put_record.ensures
          (λ k. state-at (c.one_less-normals_left.ensures k) (w.start + len k) ((c.edtla_after.ensures ∙ ap (edtla_after w.edtla) len) k) w.state (w.records + 1))))),
      p.invariant.1,
    )

pub shape_of-log : goal.shape_of-log
shape_of-log c = (walked (goal.at.shape_of-log c).At-loop-j).long

pub returns : goal.returns
returns c =
    let all : c.loop-j.j ≡ length c.args.places.now = omega (arith, c.loop-j-test.false) in
    left_here (goal.at.returns c).At-loop-j (omega (arith, all)) (rw all c.full_walked-2.ensures)
