-- Where no call of the writer is refused and there is room, what is laid behind the file header is the capture that the reader accepts. Assumes nothing.
use Prim.Native.Nat.{ℕ, ◌-◌, ◌≤◌}
use mathlib.Core.Path.{◌≡◌, refl, ap}
use mathlib.Core.List.{List, [], ◌∷◌, ◌++◌, map}
use native.Mathlib.Omega.{arith}
use lib.ListN.{length, length-append}
use Rattle.capture_file.specs.Records.{layout, layout_all}
use Rattle.capture_record.specs.Calls.{CaptureCall, record_of, writer_head, capture, Writable, AllWritable}
use Rattle.capture_writer.proofs.WritingLaws.{all_yes}
use Rattle.captured_calls.specs.Written.{written_one, written_all}

written-whole : (room : ℕ) (c : CaptureCall) → Writable c → length (layout (record_of c)) ≤ room → written_one room c ≡ layout (record_of c)
unfolding written_one
written-whole room c w h = rw (all_yes c room w.microseconds w.captured h)

pub all-written : (room : ℕ) (cs : List CaptureCall) → AllWritable cs → length (layout_all (map record_of cs)) ≤ room
    → written_all room cs ≡ layout_all (map record_of cs)
unfolding written_all layout_all
all-written room [] w h = refl
all-written room (c ∷ cs) w h =
    let size = length-append (layout (record_of c)) (layout_all (map record_of cs)) in
    let one : written_one room c ≡ layout (record_of c) = written-whole room c w.0 (omega arith) in
    let rest = all-written (room - length (layout (record_of c))) cs w.1 (omega arith) in
    rw one (ap (λ (l : List ℕ). layout (record_of c) ++ l) rest)

pub capture-written : (room : ℕ) (cs : List CaptureCall) → AllWritable cs → length (layout_all (map record_of cs)) ≤ room
    → writer_head ++ written_all room cs ≡ capture cs
unfolding capture
capture-written room cs w h = ap (λ (l : List ℕ). writer_head ++ l) (all-written room cs w h)
