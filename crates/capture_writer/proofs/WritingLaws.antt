-- A call of the writer by its answer to the questions, and the bytes of its record. Assumes nothing.
use Prim.Native.Nat.{ℕ, ◌%◌, ◌≤◌, ◌<◌}
use mathlib.Core.Bool.{Bool, true, false}
use mathlib.Core.Path.{◌≡◌, refl, sym}
use mathlib.Core.List.{List, append-nil}
use native.Mathlib.Omega.{arith}
use lib.Dec.{eqb, leb}
use lib.ListN.{length}
use borrow.Author.Tests.{leb-true, le-leb, lt-leb}
use Rattle.trb.specs.Questions.{first_no}
use Rattle.buffers.specs.Patch.{patch}
use Rattle.capture_file.specs.Records.{layout}
use Rattle.capture_record.specs.Events.{snap_length, max_microseconds, header_of}
use Rattle.capture_record.specs.Calls.{CaptureCall, delivered_by, captured_by, record_of, CallFits, Writable}
use Rattle.capture_record.proofs.CallLaws.{captured-record_of, length-writer_head}
use Rattle.capture_writer.specs.Writing.{refused_with, head_questions, record_questions, record_bytes, WritesIf}

module _ (qs : List (Bool × ℕ)) (bytes output : List ℕ) where
  -- a no ends the call with its number
  pub writes-not : (n : ℕ) → eqb n 0 ≡ false → first_no qs ≡ n → WritesIf qs bytes output (refused_with n) output
  writes-not n positive first = record { number = sym first; answer = rw (first, positive); after = rw (first, positive) }

  -- every other call is accepted
  pub writes : (n : ℕ) → n ≡ length bytes → first_no qs ≡ 0
      → WritesIf qs bytes output (record { number = 0; length = n }) (patch output 0 bytes)
  writes n long none = record { number = sym none; answer = rw (none, long); after = rw none }

-- the file header
module _ (room : ℕ) where
  pub short-head : room < 24 → first_no (head_questions room) ≡ 14
  unfolding first_no
  short-head small = rw (length-writer_head, lt-leb 24 room small)

  pub whole-head : 24 ≤ room → first_no (head_questions room) ≡ 0
  unfolding first_no
  whole-head fits = rw (length-writer_head, le-leb 24 room fits)

pub layout-record_of : (c : CaptureCall) → layout (record_of c)
    ≡ record_bytes c.seconds c.microseconds (header_of c.device c.seconds c.microseconds c.event (length c.payload % 4294967296)) (delivered_by c)
unfolding layout record_bytes
layout-record_of c = rw (captured-record_of c, append-nil)

-- the questions, one behind the other
module _ (c : CaptureCall) (room : ℕ) where
  pub late-no : max_microseconds < c.microseconds → first_no (record_questions c room) ≡ 24
  unfolding first_no
  late-no late = rw (lt-leb c.microseconds max_microseconds late)

  module _ (early : c.microseconds ≤ max_microseconds) where
    pub long-no : snap_length < captured_by c → first_no (record_questions c room) ≡ 24
    unfolding first_no
    long-no long = rw (le-leb c.microseconds max_microseconds early, lt-leb (captured_by c) snap_length long)

    module _ (short : captured_by c ≤ snap_length) where
      pub room-no : room < length (layout (record_of c)) → first_no (record_questions c room) ≡ 14
      unfolding first_no
      room-no small =
          rw (le-leb c.microseconds max_microseconds early, le-leb (captured_by c) snap_length short, lt-leb (length (layout (record_of c))) room small)

      pub all_yes : length (layout (record_of c)) ≤ room → first_no (record_questions c room) ≡ 0
      unfolding first_no
      all_yes fits =
          rw (le-leb c.microseconds max_microseconds early, le-leb (captured_by c) snap_length short, le-leb (length (layout (record_of c))) room fits)

  -- a call whose arguments fit their types, and that was accepted, is one that the writer can make
  pub accepted-writable : CallFits c → first_no (record_questions c room) ≡ 0 → Writable c
  unfolding first_no
  accepted-writable fits none = by (leb c.microseconds max_microseconds) (leb (captured_by c) snap_length) refl refl
    where
      by : (a b : Bool) → leb c.microseconds max_microseconds ≡ a → leb (captured_by c) snap_length ≡ b → Writable c
      by true true e f = record { fits = fits; microseconds = leb-true _ _ e; captured = leb-true _ _ f }
      by true false e f = absurd (omega (arith, rw (e, f) at none))
      by false b e f = absurd (omega (arith, rw e at none))
