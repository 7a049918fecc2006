-- Laws of what calls of the writer leave: it lies in the room, and calls behind one another leave what all of them leave. Assumes nothing.
use Prim.Native.Nat.{ℕ, ◌+◌, ◌-◌, ◌≤◌}
use mathlib.Core.Bool.{Bool, true, false, cond, ◌&&◌}
use mathlib.Core.Path.{◌≡◌, refl, sym, ap, ◌∙◌}
use mathlib.Core.List.{List, [], ◌∷◌, ◌++◌, append_assoc, append-nil}
use native.Mathlib.Omega.{arith}
use lib.Dec.{leb, eqb}
use lib.ListN.{length, take, drop, length-append, length-drop, drop_of_length-le}
use lib.Seq.{take-length, drop-drop}
use borrow.Author.Tests.{leb-true}
use Rattle.std.proofs.Common.{Result, Ok, Err}
use Rattle.std.specs.Result.{result_unwrap_or}
use Rattle.capture_writer.specs.declared.NotWritten.{NotWritten}
use borrow.Rule.Slice.PartMut.{put_mid, mid_of, post_of}
use Rattle.trb.specs.Questions.{first_no}
use Rattle.buffers.specs.Patch.{patch}
use Rattle.buffers.proofs.PatchLaws.{patch-none, patch-behind, length-patch}
use Rattle.capture_file.specs.Records.{layout}
use Rattle.capture_record.specs.Calls.{CaptureCall, record_of, captured_by}
use Rattle.capture_record.specs.Events.{snap_length, max_microseconds}
use Rattle.capture_writer.specs.Writing.{Written, in_numbers, refused_with, record_questions, answer_of, WritesIf, Writes}
use Rattle.captured_calls.specs.declared.capture.Capture.{Capture}
use Rattle.captured_calls.specs.declared.Setting.{Setting}
use Rattle.captured_calls.specs.Written.{written_one, written_all, Laid, Lays}

-- ---- It lies in the room

pub length-written_one : (room : ℕ) (c : CaptureCall) → length (written_one room c) ≤ room
unfolding written_one first_no
length-written_one room c =
    by (leb c.microseconds max_microseconds && leb (captured_by c) snap_length) (leb (length (layout (record_of c))) room) refl refl
  where
    by : (a b : Bool) → (leb c.microseconds max_microseconds && leb (captured_by c) snap_length) ≡ a → leb (length (layout (record_of c))) room ≡ b
        → length (written_one room c) ≤ room
    by true true e f = rw (e, f) (leb-true _ _ f)
    by true false e f = rw (e, f) (omega arith)
    by false b e f = rw e (omega arith)

pub length-written_all : (room : ℕ) (cs : List CaptureCall) → length (written_all room cs) ≤ room
unfolding written_all
length-written_all room [] = omega arith
length-written_all room (c ∷ cs) =
    let one = length-written_one room c in
    let rest = length-written_all (room - length (written_one room c)) cs in
    simp length-append (omega arith)

-- ---- One call of the writer

-- a refused one wrote nothing
pub length-in_numbers : (r : Result ℕ NotWritten) → (in_numbers r).length ≡ result_unwrap_or r 0
length-in_numbers (Ok n) = refl
length-in_numbers (Err e) = refl

module _ (bytes output : List ℕ) (n : ℕ) where
  length-by : (b : Bool) → ◌≡◌ {A = ℕ} (cond b (record { number = 0; length = length bytes }) (refused_with n)).length (length (cond b bytes []))
  length-by true = refl
  length-by false = refl

  after-by : (b : Bool) → cond b (patch output 0 bytes) output ≡ patch output 0 (cond b bytes [])
  after-by true = refl
  after-by false = sym (patch-none output 0)

module _ (output : List ℕ) (c : CaptureCall) (w : Written) (output' : List ℕ) (h : Writes c output w output') where
  abbrev questions : List (Bool × ℕ)
  questions = record_questions c (length output)

  written-length : w.length ≡ length (written_one (length output) c)
  unfolding written_one
  written-length = ap (λ (w : Written). w.length) h.answer ∙ length-by (layout (record_of c)) output (first_no questions) (eqb (first_no questions) 0)

  written_after : output' ≡ patch output 0 (written_one (length output) c)
  unfolding written_one
  written_after = h.after ∙ after-by (layout (record_of c)) output (first_no questions) (eqb (first_no questions) 0)

-- ---- One behind the other

pub written_all-append : (room : ℕ) (cs ds : List CaptureCall)
    → written_all room (cs ++ ds) ≡ written_all room cs ++ written_all (room - length (written_all room cs)) ds
unfolding written_all
written_all-append room [] ds = ap (λ (n : ℕ). written_all n ds) (omega arith)
written_all-append room (c ∷ cs) ds =
    let one : List ℕ = written_one room c in
    let rest : List ℕ = written_all (room - length one) cs in
    let left : room - length one - length rest ≡ room - length (one ++ rest) = omega (arith, length-append one rest) in
    ap (λ (l : List ℕ). one ++ l) (written_all-append (room - length one) cs ds)
    ∙ ap (λ (n : ℕ). one ++ (rest ++ written_all n ds)) left
    ∙ sym (append_assoc one rest (written_all (room - length (one ++ rest)) ds))

pub laid-none : {c : Capture} → Laid [] c c
unfolding written_all
laid-none {c = c} = record { end = omega arith; bytes = sym (patch-none c.bytes.now c.end); size = refl; fits = c.inside; same = refl; setting = refl }

-- these calls, and then those
pub laid-append : {c m d : Capture} {cs ds : List CaptureCall} → Laid cs c m → Laid ds m d → Laid (cs ++ ds) c d
laid-append {c = c} {m = m} {cs = cs} {ds = ds} p q =
    let room : ℕ = length c.bytes.now - c.end in
    let first : List ℕ = written_all room cs in
    let left : length m.bytes.now - m.end ≡ room - length first = omega (arith, p.end, p.size) in
    let both : written_all room (cs ++ ds) ≡ first ++ written_all (length m.bytes.now - m.end) ds =
    written_all-append room cs ds ∙ ap (λ (n : ℕ). first ++ written_all n ds) (sym left) in
    record {
      end = q.end ∙ omega (arith, p.end, ap length both, length-append first (written_all (length m.bytes.now - m.end) ds));
      bytes =
          q.bytes
          ∙ patch-behind c.bytes.now m.bytes.now c.end m.end first (written_all (length m.bytes.now - m.end) ds) p.bytes p.end (omega (arith, p.end, p.size, m.inside))
          ∙ ap (patch c.bytes.now c.end) (sym both);
      size = q.size ∙ p.size;
      fits = q.fits;
      same = q.same ∙ p.same;
      setting = q.setting ∙ p.setting;
    }

-- who makes a capture of its buffer finds in the buffer, behind calls of the writer, what the capture has
pub laid-first : {c c' : Capture} {cs : List CaptureCall} {output : List ℕ} → c.end ≡ 0 → Laid cs c c'
    → (c.bytes.ghost_name ≡ c'.bytes.ghost_name → output ≡ c'.bytes.now) → Lays cs c.bytes.now c'.end output
laid-first {c} {c'} {cs} {output} none p last =
    let made : List ℕ = written_all (length c.bytes.now - c.end) cs in
    let room : made ≡ written_all (length c.bytes.now) cs = ap (λ (n : ℕ). written_all n cs) (omega arith) in
    record {
      end = omega (arith, p.end, ap length room);
      after = last (sym p.same) ∙ p.bytes ∙ rw (room, none) refl;
      inside = omega (arith, c'.inside, p.size);
    }

-- ---- One call, over the part of the buffer behind the records

module _ (c : Capture) where
  abbrev output : List ℕ
  output = c.bytes.now

  abbrev at : ℕ
  at = c.end

  abbrev part : List ℕ
  part = mid_of at (length output - at) output

  part-is : part ≡ drop at output
  part-is = ap (λ (k : ℕ). take k (drop at output)) (sym (length-drop at output)) ∙ take-length (drop at output)

  length_part : length part ≡ length output - at
  length_part = ap length part-is ∙ length-drop at output

  -- bytes laid over its start
  part-patched : (vs : List ℕ) → put_mid at (length output - at) output (patch part 0 vs) ≡ patch output at vs
  unfolding patch
  part-patched vs =
      let post : post_of at (length output - at) output ≡ [] = drop_of_length-le (drop at output) {i = length output - at} (omega (arith, length-drop at output)) in
      let index : at + (0 + length vs) ≡ at + length vs = omega arith in
      let behind : drop (0 + length vs) (drop at output) ≡ drop (at + length vs) output =
      drop-drop (0 + length vs) at output ∙ ap (λ (n : ℕ). drop n output) index in
      rw (part-is, post, behind, append-nil (vs ++ drop (at + length vs) output)) (sym (append_assoc (take at output) vs (drop (at + length vs) output)))

  -- the answer's length is that of bytes for which there is room
  pub part-inside : {q : Bool} {bytes part' : List ℕ} {w : Written}
      → WritesIf ((q, 24) ∷ (leb (length bytes) (length part), 14) ∷ []) bytes part w part' → at + w.length ≤ length output
  unfolding first_no
  part-inside {q} {bytes} {part'} {w} h = by q (leb (length bytes) (length part)) refl refl
    where
      answered : w.length ≡ (answer_of ((q, 24) ∷ (leb (length bytes) (length part), 14) ∷ []) bytes).length
      answered = ap (λ (w : Written). w.length) h.answer

      by : (a b : Bool) → q ≡ a → leb (length bytes) (length part) ≡ b → at + w.length ≤ length output
      by true true e f = omega (arith, rw (e, f) at answered, leb-true (length bytes) (length part) f, length_part)
      by true false e f = omega (arith, rw (e, f) at answered)
      by false b e f = omega (arith, rw e at answered)

  pub laid-one : {d : Capture} {cs : List CaptureCall} (call : CaptureCall) (w : Written) (part' : List ℕ) → cs ≡ call ∷ [] → Writes call part w part'
      → d.bytes.now ≡ put_mid at (length output - at) output part' → d.end ≡ at + w.length → d.bytes.ghost_name ≡ c.bytes.ghost_name → d.setting ≡ c.setting → Laid cs c d
  unfolding written_all
  laid-one {d} call w part' is writes after end same setting =
      let room : ℕ = length output - at in
      let one : List ℕ = written_one room call in
      let all : one ++ [] ≡ one = append-nil one in
      let most : length one ≤ room = length-written_one room call in
      let length-one : w.length ≡ length one = written-length part call w part' writes ∙ ap (λ (n : ℕ). length (written_one n call)) length_part in
      let left : part' ≡ patch part 0 one = written_after part call w part' writes ∙ ap (λ (n : ℕ). patch part 0 (written_one n call)) length_part in
      let laid : d.bytes.now ≡ patch output at one = after ∙ ap (put_mid at room output) left ∙ part-patched one in
      let size : length d.bytes.now ≡ length output = ap length laid ∙ length-patch output at one (omega arith) in
      rw is (record { end = omega (arith, ap length all); bytes = laid ∙ ap (patch output at) (sym all); size = size; fits = omega arith; same = same; setting = setting })

-- ---- A loop that makes calls of the writer

-- what calls say hangs on the setting
pub in-setting : {c d : Capture} {s : Setting} (calls : Setting → List CaptureCall) → c.setting ≡ s → Laid (calls c.setting) c d → Laid (calls s) c d
in-setting calls e laid = rw (← e) laid

-- of a loop that makes the calls `whole` on the capture c₀, and has come to the capture c: the calls `rest` are left
pub record Remaining (c₀ : Capture) (whole : List CaptureCall) (c : Capture) (rest : List CaptureCall) : Type 0 where
  pub made : List CaptureCall
  pub laid : Laid made c₀ c
  pub all : whole ≡ made ++ rest

pub remaining-all : {c : Capture} (cs : List CaptureCall) → Remaining c cs c cs
remaining-all cs = record { made = []; laid = laid-none; all = refl }

module _ {c₀ c : Capture} {whole : List CaptureCall} where
  -- the calls of a turn, as the setting has them
  pub remaining-less : {d : Capture} {was rest : List CaptureCall} (turn : Setting → List CaptureCall) → was ≡ turn c₀.setting ++ rest → Remaining c₀ whole c was
      → Laid (turn c.setting) c d → Remaining c₀ whole d rest
  remaining-less {rest = rest} turn e p q = record {
    made = p.made ++ turn c₀.setting;
    laid = laid-append p.laid (in-setting turn p.laid.setting q);
    all = p.all ∙ rw e (sym (append_assoc p.made (turn c₀.setting) rest));
  }

  pub remaining-none : {rest : List CaptureCall} → rest ≡ [] → Remaining c₀ whole c rest → Laid whole c₀ c
  remaining-none e p = rw (p.all, e, append-nil p.made) p.laid
