-- The test of specs/Claims.antt is true of every log that delivers its frame whole; so the torn ones do not. Assumes nothing.
use Rattle.std.specs.Prelude.{Ok}
use Prim.Native.Nat.{ℕ}
use mathlib.Core.Path.{◌≡◌, refl, sym, ◌∙◌}
use mathlib.Core.Bool.{true, false, false≢true}
use mathlib.Core.List.{List, [], ◌∷◌}
use borrow.Author.Tests.{eq-eqb}
use Rattle.trb.specs.declared.TransferTrb.{TransferTrb}
use Rattle.guest_memory.specs.Places.{Memory}
use Rattle.carry_out.specs.CarryOut.{memory_after}
use Rattle.delivery_laws.specs.Delivered.{up_to_event, Delivered}
use Rattle.delivery_laws.specs.Claims.{same_bytes, frame_of, is_whole}

pub same_bytes-refl : (xs : List ℕ) → same_bytes xs xs ≡ true
unfolding same_bytes
same_bytes-refl [] = refl
same_bytes-refl (x ∷ xs) = rw (eq-eqb x x refl) (same_bytes-refl xs)

module _ (bytes : List ℕ) (m : Memory) (ts : List TransferTrb) (log : List ℕ) (m' : Memory) where
  pub whole-Delivered : Delivered bytes m ts log m' → is_whole bytes m ts log ≡ true
  unfolding is_whole
  whole-Delivered d =
      let at_event : memory_after (Ok tt) (up_to_event log) bytes m ≡ frame_of bytes m ts = sym d.at_event.after ∙ d.frame in
      let at_end : memory_after (Ok tt) log bytes m ≡ frame_of bytes m ts = sym d.at_end.after ∙ d.frame in
      rw (at_event, at_end, same_bytes-refl (frame_of bytes m ts).low, same_bytes-refl (frame_of bytes m ts).high)

  pub torn-not-Delivered : is_whole bytes m ts log ≡ false → Delivered bytes m ts log m' → ⊥
  torn-not-Delivered h d = false≢true (sym h ∙ whole-Delivered d)
