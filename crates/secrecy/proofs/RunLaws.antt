-- 02, R-8, of whole runs, by induction over the calls: two runs from equal blocks, with the same calls, whose guest memory and device data differ in any bytes, give equal
-- replies at every step, and leave equal blocks. Guest memory after carry-out differs and is fed on; its windows stay. Assumes nothing.
use Prim.Native.Nat.{ℕ}
use mathlib.Core.Path.{◌≡◌, refl, ap, sym, subst}
use mathlib.Core.List.{List}
use lib.ListN.{length}
use Rattle.guest_memory.specs.Places.{Memory, regions_of}
use Rattle.in_block.specs.declared.InBlock.{InBlock}
use Rattle.in_endpoint.specs.Creation.{cancelled}
use Rattle.in_endpoint.specs.Submission.{Submits as InSubmits}
use Rattle.in_endpoint.specs.Completion.{Completes as InCompletes}
use Rattle.in_row.specs.Completion.{CompletesTds}
use Rattle.delivery.specs.Completing.{Delivers}
use Rattle.row_delivery.specs.Completing.{DeliversTds}
use Rattle.control_block.specs.declared.ControlBlock.{ControlBlock}
use Rattle.control_endpoint.specs.Submission.{Submits as ControlSubmits}
use Rattle.control_endpoint.specs.Completion.{Completes as ControlCompletes}
use Rattle.secrecy.specs.Alike.{SameWindows, SameGiven}
use Rattle.secrecy.specs.Runs.{Call, Reply, World, world_of, SameWorld, SameStep}
use Rattle.secrecy.specs.Runs.{in_created, in_submitted, in_completed, in_cancelled, row_completed, tds_completed, delivered, tds_delivered, control_created, control_submitted, control_completed, control_cancelled, carried_out, compacted, printed}
use Rattle.secrecy.specs.Runs.{Gives, creates-in, submits-in, completes-in, cancels-in, completes-row, completes-tds, delivers, delivers-tds, creates-control, submits-control, completes-control, cancels-control, carries-out, compacts, prints, guest-writes}
use Rattle.secrecy.specs.Runs.{SameCall, creating-in, submitting-in, completing-in, cancelling-in, completing-row, completing-tds, delivering, delivering-tds, creating-control, submitting-control, completing-control, cancelling-control, carrying-out, compacting, printing, guest-writing}
use Rattle.secrecy.specs.Runs.{Run, done, next, SameCalls, none, more, SameRun}
use Rattle.secrecy.proofs.EntryLaws.{same-in-creation, same-in-submission, same-in-completion, same_row, same-tds, same-control-creation, same-control-submission, same-control-completion, same-carry-out, same-windows-after, same-delivery, same-windows-delivered, same-windows-tds, same-compacted, same-printed}

-- a reply is made of what is the same
reply-of : {R : Type 0} (reply : R → List ℕ → Reply) {r r' : R} {l l' : List ℕ} → SameGiven r r' l l' → reply r l ≡ reply r' l'
reply-of reply g = rw (g.returned, g.log) refl

worlds : {i i' : InBlock} {c c' : ControlBlock} {m m' : Memory} → i ≡ i' → c ≡ c' → SameWindows m m' → SameWorld (world_of i c m) (world_of i' c' m')
worlds i c m = record { in_block = i; control_block = c; windows = m }

-- one call
pub same_step : {c c' : Call} {u u' v v' : World} {g g' : Reply} → SameCall c c' → SameWorld u u' → Gives c u g v → Gives c' u' g' v' → SameStep g g' v v'
same_step creating-in h (creates-in p) (creates-in q) =
    let e = same-in-creation p q in
    record { reply = ap in_created e; world = worlds (ap (λ r. r.block) e) h.control_block h.windows }
same_step (submitting-in {l = l} {t = t}) h (submits-in {m = m} p) (submits-in {l' = l₂} {m = m'} {r = r₂} q) =
    let g = same-in-submission m m' h.windows p (subst (λ b. InSubmits b t (regions_of m') l r₂ l₂) (sym h.in_block) q) in
    record { reply = reply-of in_submitted g; world = worlds (ap (λ r. r.block) g.returned) h.control_block h.windows }
same_step (completing-in {l = l} {bytes = bytes} {bytes' = bytes'} {s = s} n) h (completes-in p) (completes-in {l' = l₂} {r = r₂} q) =
    let g = same-in-completion bytes bytes' n p (subst (λ b. InCompletes b s (length bytes') l r₂ l₂) (sym h.in_block) q) in
    record { reply = reply-of in_completed g; world = worlds (ap (λ r. r.block) g.returned) h.control_block h.windows }
same_step cancelling-in h cancels-in cancels-in =
    let e = ap cancelled h.in_block in
    record { reply = ap in_cancelled e; world = worlds e h.control_block h.windows }
same_step (completing-row {bytes = bytes} {bytes' = bytes'} n) h (completes-row p) (completes-row q) = record { reply = reply-of row_completed (same_row bytes bytes' n p q); world = h }
same_step (completing-tds {l = l} {bytes = bytes} {bytes' = bytes'} {k = k} {ts = ts} {j = j} {ds = ds} n) h (completes-tds {m = m} p) (completes-tds {l' = l₂} {m = m'} {r = r₂} q) =
    let g = same-tds bytes bytes' m m' n h.windows p (subst (λ b. CompletesTds b k ts j ds (length bytes') (regions_of m') l r₂ l₂) (sym h.in_block) q) in
    record { reply = reply-of tds_completed g; world = worlds (ap (λ r. r.block) g.returned) h.control_block h.windows }
same_step (delivering {l = l} {bytes' = bytes'} {s = s} n) h (delivers p) (delivers {l' = l₂} {m = m'} {m' = m₂} {r = r₂} q) =
    let alike = subst (λ b. Delivers b s bytes' l m' r₂ l₂ m₂) (sym h.in_block) q in
    let g = same-delivery n h.windows p alike in
    record { reply = reply-of delivered g; world = worlds (ap (λ r. r.block) g.returned) h.control_block (same-windows-delivered h.windows p alike) }
same_step (delivering-tds {l = l} {bytes = bytes} {bytes' = bytes'} {k = k} {ts = ts} {j = j} {ds = ds} n) h (delivers-tds {m = m} p) (delivers-tds {l' = l₂} {m = m'} {m' = m₂} {r = r₂} q) =
    let alike = subst (λ b. DeliversTds b k ts j ds bytes' l m' r₂ l₂ m₂) (sym h.in_block) q in
    let g = same-tds bytes bytes' m m' n h.windows p.completes alike.completes in
    record { reply = reply-of tds_delivered g; world = worlds (ap (λ r. r.block) g.returned) h.control_block (same-windows-tds h.windows p alike) }
same_step creating-control h (creates-control p) (creates-control q) =
    let e = same-control-creation p q in
    record { reply = ap control_created e; world = worlds h.in_block (ap (λ r. r.block) e) h.windows }
same_step (submitting-control {l = l} {k' = k'} {t = t} n) h (submits-control p) (submits-control {l' = l₂} {k' = k₂} {m = m'} {r = r₂} q) =
    let g = same-control-submission h.windows n p (subst (λ b. ControlSubmits b t m' l k' r₂ l₂ k₂) (sym h.control_block) q) in
    record { reply = reply-of control_submitted g; world = worlds h.in_block (ap (λ r. r.block) g.returned) h.windows }
same_step (completing-control {l = l} {bytes = bytes} {bytes' = bytes'} {s = s} n) h (completes-control p) (completes-control {l' = l₂} {r = r₂} q) =
    let g = same-control-completion bytes bytes' n p (subst (λ b. ControlCompletes b s (length bytes') l r₂ l₂) (sym h.control_block) q) in
    record { reply = reply-of control_completed g; world = worlds h.in_block (ap (λ r. r.block) g.returned) h.windows }
same_step cancelling-control h cancels-control cancels-control = record { reply = ap control_cancelled h.control_block; world = h }
same_step (carrying-out n) h (carries-out p) (carries-out q) =
    record { reply = ap carried_out (same-carry-out n h.windows p q); world = worlds h.in_block h.control_block (same-windows-after h.windows p q) }
same_step compacting h (compacts p) (compacts q) = record { reply = reply-of compacted (same-compacted p q); world = h }
same_step printing h (prints p) (prints q) = record { reply = reply-of printed (same-printed p q); world = h }
same_step (guest-writing w) h guest-writes guest-writes = record { reply = refl; world = worlds h.in_block h.control_block w }

-- any calls in any order
pub same-run : {cs cs' : List Call} {u u' v v' : World} {gs gs' : List Reply} → SameCalls cs cs' → SameWorld u u' → Run cs u gs v → Run cs' u' gs' v' → SameRun gs gs' v v'
same-run none h done done = record { replies = refl; world = h }
same-run (more c cs) h (next p ps) (next q qs) =
    let one = same_step c h p q in
    let rest = same-run cs one.world ps qs in
    record { replies = rw (one.reply, rest.replies) refl; world = rest.world }
